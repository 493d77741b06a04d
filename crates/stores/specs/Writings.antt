-- Lists of writes and cuts, and what is read after them. Assumes nothing.
use Rattle.std.specs.Prelude.{◌≡◌, ℕ, zero, suc, ◌+◌, ◌<◌, ◌≤◌, Bool, true, false, if◌then◌else◌, not, ◌&&◌, ◌⊎◌, List, length, Some, None, Option, Ok, Err, Result, ◌==◌, slice_index_or}
use Rattle.quorum.specs.declared.fault.Fault.{Fault}
use Rattle.stores.specs.declared.page.Page.{Page}
use Rattle.stores.specs.declared.writing.Writing.{Writing}
use Rattle.stores.specs.Kept.{fresh, page_at, Written, Cut}
use Rattle.stores.specs.Rules.{may_be_kept}

-- the writing number i of a list
abbrev pub writing_at : List Writing → ℕ → Writing
writing_at ws i = slice_index_or ws i (record { replica = 0; page = fresh; cut = None })

-- it names a replica, and its page keeps the rules for that replica
abbrev pub acceptable : Writing → Bool
acceptable w = may_be_kept w.replica w.page

-- a writing is a write or, with a number of byte-writes, a cut
abbrev pub Performed : List Page → ℕ → List Page → ℕ → ℕ → Page → Option ℕ → Result Unit Fault → Type 0
Performed xs n ys m r q None a = Written xs n ys m r q a
Performed xs n ys m r q (Some k) a = Cut xs n ys m r q a

-- what a cut may leave of a page, by what the store says; of a write nothing is left open
abbrev pub CutLeaves : (ℕ → Page → Page → Page → Type 0) → Option ℕ → Page → Page → Page → Type 0
CutLeaves leaves None old new q = Unit {0}
CutLeaves leaves (Some n) old new q = leaves n old new q

-- the writing carried out, from one store to the next, with one page and at most one place. The store before it settles what
-- a cut may leave
pub record CarriedOut {S : Type 0} (pages : S → List Page) (places : S → ℕ) (leaves : S → ℕ → Page → Page → Page → Type 0)
    (before : S) (w : Writing) (after : S) : Type 0 where
  pub done : Performed (pages before) (places before) (pages after) (places after) w.replica w.page w.cut (Ok tt)
  pub left : CutLeaves (leaves before) w.cut (page_at (pages before) w.replica) w.page (page_at (pages after) w.replica)

-- an acceptable writing refused for want of a place: the pages and the places are as they were
pub record TurnedAway {S : Type 0} (pages : S → List Page) (places : S → ℕ) (before : S) (w : Writing) (after : S) : Type 0 where
  pub acceptable : acceptable w ≡ true
  pub fault : Fault
  pub refused : Performed (pages before) (places before) (pages after) (places after) w.replica w.page w.cut (Err fault)

-- a chain of stores, from the first to the last, with a step for each of the first n writings
unfoldable pub Chain : {S : Type 0} → (S → Writing → S → Type 0) → S → List Writing → ℕ → S → Type 0
Chain Step first ws zero last = last ≡ first
Chain {S} Step first ws (suc n) last = (before : S) × Chain Step first ws n before × Step before (writing_at ws n) last

-- the first n writings carried out, one after another; the store that is left is the last of that chain, or what a refusal of
-- the next writing left of it
pub record Carried {S : Type 0} (pages : S → List Page) (places : S → ℕ) (leaves : S → ℕ → Page → Page → Page → Type 0)
    (first : S) (ws : List Writing) (n : ℕ) (after : S) : Type 0 where
  pub last : S
  pub chain : Chain (CarriedOut pages places leaves) first ws n last
  pub ends : (after ≡ last) ⊎ ((n < length ws) × TurnedAway pages places last (writing_at ws n) after)

-- what may be read after a writing: elsewhere, what could be read before; there, the page of the writing and, where it was
-- cut off, also what could be read before
abbrev pub ReadAfter : Bool → Option ℕ → Page → (Page → Type 0) → Page → Type 0
ReadAfter false cut new Before q = Before q
ReadAfter true None new Before q = q ≡ new
ReadAfter true (Some n) new Before q = (q ≡ new) ⊎ Before q

-- q may be read at replica r once the first n writings are carried out, where p was read before them
unfoldable pub MayRead : ℕ → Page → List Writing → ℕ → Page → Type 0
MayRead r p ws zero q = q ≡ p
MayRead r p ws (suc n) q =
    ReadAfter ((writing_at ws n).replica == r) (writing_at ws n).cut (writing_at ws n).page (MayRead r p ws n) q

-- the places after n writings: at most as many as before, and at most n fewer
pub record SpentBy (n : ℕ) (before : ℕ) (after : ℕ) : Type 0 where
  pub most : after ≤ before
  pub least : before ≤ after + n

-- held pages take every write, and a cut after one byte-write or more
abbrev pub taken : Option ℕ → Bool
taken None = true
taken (Some n) = not (n == 0)

-- the page that is read at replica r of held pages once the first n writings are carried out, where p was read before them
unfoldable pub held_read : ℕ → Page → List Writing → ℕ → Page
held_read r p ws zero = p
held_read r p ws (suc n) = if (writing_at ws n).replica == r && taken (writing_at ws n).cut then (writing_at ws n).page else held_read r p ws n

-- the first n are acceptable, and the next, if there is one, met a reason to stop
pub record Stopped (ws : List Writing) (n : ℕ) (Full : Type 0) : Type 0 where
  pub within : n ≤ length ws
  pub done : (k : ℕ) → k < n → acceptable (writing_at ws k) ≡ true
  pub next : n < length ws → (acceptable (writing_at ws n) ≡ false) ⊎ Full
