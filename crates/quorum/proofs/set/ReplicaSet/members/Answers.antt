use Rattle.std.proofs.Common.{refl}
use Rattle.quorum.proofs.set.ReplicaSet.members.Goals as goal

pub returns : goal.returns
returns c = refl
