-- One call of a floor: from a world to the next, with its answer. Assumes nothing.
use Rattle.std.specs.Prelude.{◌≡◌, ℕ, Bool, false, None, Ok, Err, Result, slice_set}
use Rattle.quorum.specs.declared.fault.Failure.{Failure}
use Rattle.quorum.specs.declared.fault.Failure.TheVariants.{Refused, NoMemory}
use Rattle.quorum.specs.declared.fault.Fault.{Fault}
use Rattle.manager.specs.Calls.{stopped_at}
use Rattle.manager.specs.Effects.{Effect}
use Rattle.manager.specs.declared.answer.Answer.{Answer}
use Rattle.rows.specs.declared.message.Posts.TheVariants.{Nothing}
use Rattle.runs.specs.World.{World, unless, up_test, page_of, row_of, ruled, Did, Broken, Same, replica_of}
use Rattle.runs.specs.declared.work.Call.{Call}
use Rattle.runs.specs.declared.work.Call.TheVariants.{Whole, Cut, Stop}
use Rattle.runs.specs.declared.work.Work.{Work}
use Rattle.rows.specs.Rows.{empty_row}

-- nothing is posted, and no round ended
abbrev pub quiet : Answer
quiet = record { posts = Nothing; ended = None }

-- a cut is refused as the call itself would be; accepted, it answers nothing
abbrev pub CutOff : (ℕ → ℕ → Bool) → World → Work → Result Answer Failure → World → Type 0
CutOff f w k (Ok a) v = (e : Effect) × (ruled f w k ≡ Ok e) × (a ≡ quiet) × Broken w v (replica_of k) e.page
CutOff f w k (Err (Refused fault)) v = (ruled f w k ≡ Err fault) × Same w v
CutOff f w k (Err NoMemory) v = ⊥

-- what a stop does, or why it is refused
abbrev pub stopped : (ℕ → ℕ → Bool) → World → ℕ → Result Effect Fault
stopped f w r = unless (up_test w.rows r) (stopped_at r (page_of f w r) (row_of f w r))

-- a stop changes one row and nothing else
pub record Halted (before after : World) (r : ℕ) : Type 0 where
  pub pages_are : after.pages ≡ before.pages
  pub rows_are : after.rows ≡ slice_set before.rows r (empty_row false)
  pub post_is : after.post ≡ before.post
  pub places_are : after.places ≡ before.places
  pub need_is : after.need ≡ before.need

abbrev pub Stopped : (ℕ → ℕ → Bool) → World → ℕ → Result Answer Failure → World → Type 0
Stopped f w r (Ok a) v = (e : Effect) × (stopped f w r ≡ Ok e) × (a ≡ quiet) × Halted w v r
Stopped f w r (Err (Refused fault)) v = (stopped f w r ≡ Err fault) × Same w v
Stopped f w r (Err NoMemory) v = ⊥

-- a call, by the rule of the relation f, from the world w to the world v
abbrev pub Step : (ℕ → ℕ → Bool) → World → Call → Result Answer Failure → World → Type 0
Step f w (Whole k) a v = Did f w k a v
Step f w (Cut k n) a v = CutOff f w k a v
Step f w (Stop r) a v = Stopped f w r a v
