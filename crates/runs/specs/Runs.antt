-- Runs of a floor: from a founding, call by call. Assumes nothing.
use Rattle.std.specs.Prelude.{◌≡◌, ℕ, zero, suc, ◌<◌, ◌≤◌, Bool, true, List, [], ◌∷◌, length, Result}
use Rattle.quorum.specs.Members.{has}
use Rattle.quorum.specs.declared.fault.Failure.{Failure}
use Rattle.manager.specs.declared.answer.Answer.{Answer}
use Rattle.manager.specs.declared.need.Need.{Need}
use Rattle.stores.specs.declared.view.View.{View}
use Rattle.runs.specs.Founding.{Founding}
use Rattle.runs.specs.Steps.{Step}
use Rattle.runs.specs.World.{World}
use Rattle.runs.specs.declared.work.Call.{Call}

-- a call that was made, its answer, and the world after it
pub record Taken : Type 0 where
  pub call : Call
  pub answer : Result Answer Failure
  pub world : World

-- each call is a step from the world that the one before it left
abbrev pub Run : (ℕ → ℕ → Bool) → World → List Taken → Type 0
Run f w [] = Unit {0}
Run f w (t ∷ takens) = Step f w t.call t.answer t.world × Run f t.world takens

-- the world after call i; calls are numbered from 1, and 0 is the founding
abbrev pub world_at : World → List Taken → ℕ → World
world_at w takens zero = w
world_at w [] (suc i) = w
world_at w (t ∷ takens) (suc i) = world_at t.world takens i

-- the world after the last call
abbrev pub end_of : World → List Taken → World
end_of w [] = w
end_of w (t ∷ takens) = end_of t.world takens

-- What is so of call i and the world before it. The founding is not a call of the run, and nothing is so of a call after the last.
abbrev pub OfCall : (World → Taken → Type 0) → World → List Taken → ℕ → Type 0
OfCall P w takens zero = ⊥
OfCall P w [] (suc i) = ⊥
OfCall P w (t ∷ takens) (suc zero) = P w t
OfCall P w (t ∷ takens) (suc (suc i)) = OfCall P t.world takens (suc i)

-- A floor right after an accepted founding with this first view: somebody is in its set, its number is at most the highest, and there
-- are sixteen pages and sixteen rows.
pub record Founded (first : View) (w : World) : Type 0 where
  pub somebody : (q : ℕ) × (q < 16) × (has first.set.0 q ≡ true)
  pub numbered : first.number.0 ≤ 1000000000
  pub wanted : Need
  pub left : Founding first wanted w.pages w.rows w.need w.post
  pub all_pages : length w.pages ≡ 16
  pub all_rows : length w.rows ≡ 16
