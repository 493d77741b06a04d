-- What is answered and left by a turn, of the stage and of what it holds. Assumes nothing.
use Rattle.std.proofs.Common.{◌≡◌, Bool, true, false, if◌then◌else◌, Ok, Err, Result, refl}
use Rattle.quorum.specs.declared.fault.Reason.{Reason}
use Rattle.quorum.specs.declared.fault.Reason.TheVariants.{NotHeard, HeardAlready}
use Rattle.rows.specs.declared.row.Stage.{Stage}
use Rattle.manager.specs.declared.hearing.Hearing.{Hearing}
use Rattle.manager.specs.Hearing.{Turn, heard_if, turned, hearing_of, left_of}

-- what is heard is answered alike, wherever it is written
pub heard_answers : {A : Type 0} (hears already : Bool) (a : A) (k : Hearing) →
    hearing_of (heard_if hears already a k) ≡ (if hears then (if already then Err HeardAlready else Ok k) else Err NotHeard)
heard_answers false already a k = refl
heard_answers true true a k = refl
heard_answers true false a k = refl

pub turned_answers : {A : Type 0} (stage : A → Stage) (x : Result (Turn A) Reason) → hearing_of (turned stage x) ≡ hearing_of x
turned_answers stage (Ok t) = refl
turned_answers stage (Err e) = refl

pub turned_leaves : {A : Type 0} (stage : A → Stage) (a : A) (x : Result (Turn A) Reason) → left_of (stage a) (turned stage x) ≡ stage (left_of a x)
turned_leaves stage a (Ok t) = refl
turned_leaves stage a (Err e) = refl
