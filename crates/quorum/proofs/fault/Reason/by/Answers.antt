use Rattle.std.proofs.Common.{refl}
use Rattle.quorum.proofs.fault.Reason.by.Goals as goal

pub returns : goal.returns
returns c = refl
