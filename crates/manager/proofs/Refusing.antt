-- Refusals one after another. Assumes nothing.
use Rattle.std.specs.Option.{option_or}
use Rattle.std.proofs.Common.{◌≡◌, Some, None, Ok, Err, Option}
use Rattle.quorum.specs.declared.fault.Fault.{Fault}
use Rattle.quorum.specs.Faults.{allowed, given}

-- the first refuses
pub first_refuses : {A B : Type 0} (a b : Option Fault) (x : A) (y : B) (e : Fault) → Err e ≡ given a x → Err e ≡ given (option_or a b) y
first_refuses None b x y e h = absurd cc
first_refuses (Some f) b x y e h = cc

-- the first allows, and the second refuses
pub second_refuses : {A B : Type 0} (a b : Option Fault) (x u : A) (y : B) (e : Fault) → Ok u ≡ given a x → Err e ≡ allowed b → Err e ≡ given (option_or a b) y
second_refuses None None x u y e h k = absurd cc
second_refuses None (Some f) x u y e h k = cc
second_refuses (Some f) b x u y e h k = absurd cc
