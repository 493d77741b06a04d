use Rattle.std.proofs.Common.{refl}
use Rattle.quorum.specs.Sets.{both}
use Rattle.quorum.proofs.Sets.{has_both}
use Rattle.quorum.proofs.set.ReplicaSet.intersection.Goals as goal

pub returns : goal.returns
unfolding both
returns c = record { bits = refl; members = λ k. has_both c.args.self.0 c.args.other.0 k }
