-- A run that goes on is a run. Assumes nothing.
use Rattle.std.proofs.Common.{◌≡◌, ℕ, Bool, List, [], ◌∷◌, ◌++◌, sym, refl, subst}
use Rattle.runs.specs.Runs.{Taken, Run, end_of}
use Rattle.runs.specs.Steps.{Step}
use Rattle.runs.specs.World.{World}

-- a run, and a run from where it ended
pub run_on : (f : ℕ → ℕ → Bool) (w : World) (before after : List Taken) → Run f w before → Run f (end_of w before) after → Run f w (before ++ after)
run_on f w [] after a b = b
run_on f w (t ∷ before) after (s, a) b = (s, run_on f t.world before after a b)

-- where that ends
pub end_on : (w : World) (before after : List Taken) → end_of w (before ++ after) ≡ end_of (end_of w before) after
end_on w [] after = refl
end_on w (t ∷ before) after = end_on t.world before after

-- a run, and one step from where it ended, that world known by any name
pub run_step : (f : ℕ → ℕ → Bool) (w : World) (before : List Taken) (now : World) (t : Taken) → Run f w before → end_of w before ≡ now →
    Step f now t.call t.answer t.world → Run f w (before ++ t ∷ [])
run_step f w before now t a e s = run_on f w before (t ∷ []) a (subst (λ (x : World). Step f x t.call t.answer t.world) (sym e) s, tt)

pub end_step : (w : World) (before : List Taken) (t : Taken) → end_of w (before ++ t ∷ []) ≡ t.world
end_step w before t = end_on w before (t ∷ [])
