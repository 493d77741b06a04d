-- Whether a row stands to be recorded: no accepted call leaves one that does. Assumes nothing.
use Rattle.std.specs.Prelude.{◌≡◌, ℕ, Bool, Ok, Result}
use Rattle.quorum.specs.declared.fault.Fault.{Fault}
use Rattle.rows.specs.declared.row.Row.{Row}
use Rattle.stores.specs.declared.page.Page.{Page}
use Rattle.manager.specs.Effects.{Effect}
use Rattle.manager.specs.Requests.{Request, effect_of}
use Rattle.manager.specs.Verdicts.{verdict_of}
use Rattle.manager.specs.declared.need.Need.{Need}
use Rattle.manager.specs.declared.verdict.Verdict.TheVariants.{Records}

-- the head of this page and row, judged as it stands, would be recorded
abbrev pub StandsToBeRecorded : (ℕ → ℕ → Bool) → Need → ℕ → Page → Row → Type 0
StandsToBeRecorded f need r p w = verdict_of f need r p w ≡ Records

-- what a call comes to: where it was accepted, it leaves no row that stands to be recorded
abbrev pub LeavesNoneStanding : (ℕ → ℕ → Bool) → Need → ℕ → Result Effect Fault → Type 0
LeavesNoneStanding f need r a = (e : Effect) → a ≡ Ok e → StandsToBeRecorded f need r e.page e.row → ⊥

-- no request that a manager accepts leaves a row that stands to be recorded, whatever page and row it found
abbrev pub NoneLeftStanding : Type 0
NoneLeftStanding =
    (f : ℕ → ℕ → Bool) (need : Need) (r : ℕ) (p : Page) (w : Row) (q : Request) →
    LeavesNoneStanding f need r (effect_of f need r p w q)
