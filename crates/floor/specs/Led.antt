-- A world that a run from an accepted founding led to, and a call made there. Assumes nothing.
use Rattle.std.specs.Prelude.{◌≡◌, ℕ, Bool, List, Result, [], ◌∷◌, ◌++◌}
use Rattle.quorum.specs.declared.fault.Failure.{Failure}
use Rattle.manager.specs.declared.answer.Answer.{Answer}
use Rattle.runs.specs.Findings.{Findings}
use Rattle.runs.specs.Orderly.{OrderlyRun}
use Rattle.runs.specs.Runs.{Taken, Run, end_of, Founded}
use Rattle.runs.specs.World.{World}
use Rattle.runs.specs.declared.work.Call.{Call}
use Rattle.stores.specs.declared.view.View.{View}

-- a run from an accepted founding that ends in w
pub record LedTo (f : ℕ → ℕ → Bool) (w : World) : Type 0 where
  pub first : View
  pub start : World
  pub history : List Taken
  pub founded : Founded first start
  pub run : Run f start history
  pub ends : end_of start history ≡ w

-- a call that was made, its answer, and the world after it
abbrev pub call_made : Call → Result Answer Failure → World → Taken
call_made call answer v = record { call = call; answer = answer; world = v }

-- A run from an accepted founding that ends in w. With this call, which leads on to v, it is still a run; it has the three
-- findings, and its worlds are in order.
pub record CallWithFindings (f : ℕ → ℕ → Bool) (w : World) (call : Call) (answer : Result Answer Failure) (v : World) : Type 0
  where
    pub led : LedTo f w
    pub run : Run f led.start (led.history ++ call_made call answer v ∷ [])
    pub findings : Findings f led.first led.start (led.history ++ call_made call answer v ∷ [])
    pub orderly : OrderlyRun f led.start (led.history ++ call_made call answer v ∷ [])
