-- What an accepted call says of the tests before it. Assumes nothing.
use Rattle.std.proofs.Common.{◌≡◌, Some, None, Ok, Option, Result, refl}
use Rattle.quorum.specs.declared.fault.Fault.{Fault}
use Rattle.quorum.proofs.Refused.{err_ok}
use Rattle.manager.specs.Effects.{Effect}
use Rattle.runs.specs.World.{unless}

pub let_through : (o : Option Fault) (a : Result Effect Fault) (e : Effect) → unless o a ≡ Ok e → (o ≡ None) × (a ≡ Ok e)
let_through None a e i = (refl, i)
let_through (Some fault) a e i = absurd (err_ok i)
