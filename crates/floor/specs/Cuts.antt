-- What a cut leaves of its page, by what the store says of its cuts: `leaves s n old new p` says that on the store s a write
-- of the page new over the page old, broken off after n byte-writes, may leave p. What held pages say of theirs fixes p by n.
-- Assumes nothing.
use Rattle.std.specs.Prelude.{◌≡◌, ℕ, Bool, List, [], ◌∷◌, Ok, Result, OnOk}
use Rattle.quorum.specs.declared.fault.Failure.{Failure}
use Rattle.manager.specs.Effects.{Effect}
use Rattle.manager.specs.declared.answer.Answer.{Answer}
use Rattle.runs.specs.Runs.{Taken}
use Rattle.runs.specs.World.{World, replica_of, ruled}
use Rattle.runs.specs.declared.work.Call.{Call}
use Rattle.runs.specs.declared.work.Call.TheVariants.{Whole, Cut, Stop}
use Rattle.runs.specs.declared.work.Work.{Work}
use Rattle.stores.specs.Kept.{page_at}
use Rattle.stores.specs.declared.page.Page.{Page}
use Rattle.floor.specs.declared.accepted.Accepted.{Accepted}

-- of one store
module _ (leaves : ℕ → Page → Page → Page → Type 0) where
  -- an accepted call's write, broken off after n byte-writes
  abbrev pub TornAt : ℕ → World → Accepted → World → Type 0
  TornAt n u a v = leaves n (page_at u.pages a.kept.replica) a.kept.page (page_at v.pages a.kept.replica)

  module _ (f : ℕ → ℕ → Bool) where
    -- the work k, cut off after n byte-writes, led from w to v
    abbrev pub LeftAt : ℕ → World → Work → World → Type 0
    LeftAt n w k v =
        (e : Effect) × (ruled f w k ≡ Ok e) × leaves n (page_at w.pages (replica_of k)) e.page (page_at v.pages (replica_of k))

    -- a call with this answer led from w to v: where it is a cut and was accepted, what that left
    abbrev pub CutLeaves : World → Call → Result Answer Failure → World → Type 0
    CutLeaves w (Whole k) a v = Unit {0}
    CutLeaves w (Cut k n) a v = OnOk a (LeftAt n w k v)
    CutLeaves w (Stop r) a v = Unit {0}

-- of stores one after another
module _ {S : Type 0} (pages : S → List Page) (places : S → ℕ) (leaves : S → ℕ → Page → Page → Page → Type 0)
    (f : ℕ → ℕ → Bool) where
  -- Calls led from the store s in the world w to the store t, by a store after each call: one with the pages and the places of
  -- the world that the call led to. What each cut left is what the store right before it says.
  abbrev pub CutsLeave : S → World → List Taken → S → Type 0
  CutsLeave s w [] t = t ≡ s
  CutsLeave s w (x ∷ takens) t =
      (m : S) × (pages m ≡ x.world.pages) × (places m ≡ x.world.places)
      × CutLeaves (leaves s) f w x.call x.answer x.world × CutsLeave m x.world takens t
