-- Want of memory: the post's capacity lacks room for what a call posts. Assumes nothing.
use Rattle.std.specs.Prelude.{◌≡◌, ◌≢◌, ℕ, ◌+◌, ◌<◌, Bool, List, [], ◌∷◌, length, All, Ok, Err}
use Rattle.quorum.specs.declared.fault.Failure.TheVariants.{NoMemory}
use Rattle.manager.specs.Effects.{Effect}
use Rattle.runs.specs.Runs.{Taken}
use Rattle.runs.specs.World.{World, ruled, listed}
use Rattle.runs.specs.declared.work.Call.{Call}
use Rattle.runs.specs.declared.work.Call.TheVariants.{Whole, Cut, Stop}
use Rattle.runs.specs.declared.work.Work.{Work}

-- no call of these found no memory
abbrev pub AllFindMemory : List Taken → Type 0
AllFindMemory takens = All (λ t. t.answer ≢ Err NoMemory) takens

module _ (f : ℕ → ℕ → Bool) where
  -- the work k is accepted, and the capacity lacks room for what it posts
  abbrev pub LacksRoomFor : World → Work → ℕ → Type 0
  LacksRoomFor w k capacity =
      (e : Effect) × (ruled f w k ≡ Ok e) × (capacity < length w.post + length (listed e.answer.posts))

  -- the same of a call; a cut and a stop post nothing, so that they lack no room
  abbrev pub LacksRoom : World → Call → ℕ → Type 0
  LacksRoom w (Whole k) capacity = LacksRoomFor w k capacity
  LacksRoom w (Cut k n) capacity = ⊥
  LacksRoom w (Stop r) capacity = ⊥

  -- of calls one after another, each that found no memory lacked room by this capacity
  abbrev pub EachLacksRoom : ℕ → World → List Taken → Type 0
  EachLacksRoom capacity w [] = Unit {0}
  EachLacksRoom capacity w (t ∷ takens) =
      (t.answer ≡ Err NoMemory → LacksRoom w t.call capacity) × EachLacksRoom capacity t.world takens
