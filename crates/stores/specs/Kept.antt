-- What a store means, sixteen pages and a count of places, and what its calls leave. Assumes nothing.
use Rattle.std.specs.Prelude.{◌≡◌, ℕ, ◌+◌, ◌<◌, ◌≤◌, true, ◌⊎◌, List, None, Ok, Err, Result, ◌==◌, if◌then◌else◌, slice_index_or, slice_set}
use Rattle.quorum.specs.Faults.{refused_at}
use Rattle.quorum.specs.declared.fault.Fault.{Fault}
use Rattle.quorum.specs.declared.fault.Layer.TheVariants.{Store}
use Rattle.quorum.specs.declared.fault.Reason.TheVariants.{NoPlace}
use Rattle.stores.specs.declared.page.Mode.TheVariants.{Waiting}
use Rattle.stores.specs.declared.page.Page.{Page}
use Rattle.stores.specs.Rules.{keeps_rules}

-- the page of a replica that has done nothing yet
abbrev pub fresh : Page
fresh = record { mode = Waiting; top = record { 0 = 0 }; mark = None; component = None; recorded = None }

-- the page of replica r
abbrev pub page_at : List Page → ℕ → Page
page_at pages r = slice_index_or pages r fresh

-- each of the sixteen pages keeps the rules for its replica
abbrev pub Sound : List Page → Type 0
Sound pages = (r : ℕ) → r < 16 → keeps_rules r (page_at pages r) ≡ true

-- the places after a write or a cut: as many as before, or one fewer
abbrev pub Spent : ℕ → ℕ → Type 0
Spent before after = (after ≤ before) × (before ≤ after + 1)

-- the store's one refusal
abbrev pub no_place : ℕ → Fault
no_place r = refused_at Store NoPlace r

-- refused, for want of a place: nothing changed
pub record Refused (xs : List Page) (n : ℕ) (ys : List Page) (m : ℕ) (r : ℕ) (e : Fault) : Type 0 where
  pub pages : ys ≡ xs
  pub places : m ≡ n
  pub none : n ≡ 0
  pub fault : e ≡ no_place r

-- a write of the page q at replica r, from the pages xs and n places to the pages ys and m places
abbrev pub Written : List Page → ℕ → List Page → ℕ → ℕ → Page → Result Unit Fault → Type 0
Written xs n ys m r q (Ok _) = (ys ≡ slice_set xs r q) × Spent n m × (0 < n)
Written xs n ys m r q (Err e) = Refused xs n ys m r e

-- the same broken off: the page is the old one or the new one
abbrev pub Cut : List Page → ℕ → List Page → ℕ → ℕ → Page → Result Unit Fault → Type 0
Cut xs n ys m r q (Ok _) = ((ys ≡ xs) ⊎ (ys ≡ slice_set xs r q)) × Spent n m × (0 < n)
Cut xs n ys m r q (Err e) = Refused xs n ys m r e

-- a cut of held pages leaves the old page where it comes before the first byte-write, and else the new one
abbrev pub held_page : ℕ → Page → Page → Page → Type 0
held_page n old new p = p ≡ (if n == 0 then old else new)
