use Rattle.std.proofs.Common.{refl}
use Rattle.quorum.proofs.fault.FailureFromAllocError.from.Goals as goal

pub returns : goal.returns
returns c = refl
