-- Each refusal's number, and refusals as answers. Assumes nothing.
use Rattle.std.specs.Prelude.{ℕ, Bool, if◌then◌else◌, Some, None, Option, Ok, Err, Result}
use Rattle.quorum.specs.declared.fault.Fault.{Fault}
use Rattle.quorum.specs.declared.fault.Layer.{Layer}
use Rattle.quorum.specs.declared.fault.Reason.{Reason}
use Rattle.quorum.specs.declared.fault.Reason.TheVariants.{NoSuchReplica, WrongPower, ViewWithoutReplica, HeadOpen, StampNotAbove, NumbersExhausted, NoSuchMessage, NoHead, OtherHead, WrongParty, NotHeard, HeardAlready, PostFull, NoPlace, BadFounding, NotFresh, ZeroWeight, AgainstRules}

abbrev pub reason_number : Reason → ℕ
reason_number NoSuchReplica = 1
reason_number WrongPower = 2
reason_number ViewWithoutReplica = 3
reason_number HeadOpen = 4
reason_number StampNotAbove = 5
reason_number NumbersExhausted = 6
reason_number NoSuchMessage = 7
reason_number NoHead = 8
reason_number OtherHead = 9
reason_number WrongParty = 10
reason_number NotHeard = 11
reason_number HeardAlready = 12
reason_number PostFull = 13
reason_number NoPlace = 14
reason_number BadFounding = 15
reason_number NotFresh = 16
reason_number ZeroWeight = 17
reason_number AgainstRules = 18

-- a layer's refusal of a call at replica r
abbrev pub refused_at : Layer → Reason → ℕ → Fault
refused_at layer reason r = record { reason = reason; replica = Some r; layer = layer }

-- a layer's refusal that names no replica
abbrev pub refused_by : Layer → Reason → Fault
refused_by layer reason = record { reason = reason; replica = None; layer = layer }

-- refused, if the condition holds
abbrev pub refused_if : Bool → Fault → Option Fault
refused_if b fault = if b then Some fault else None

-- refused, or this
abbrev pub given : {A : Type 0} → Option Fault → A → Result A Fault
given None a = Ok a
given (Some fault) a = Err fault

-- refused, or let through
abbrev pub allowed : Option Fault → Result Unit Fault
allowed o = given o tt
