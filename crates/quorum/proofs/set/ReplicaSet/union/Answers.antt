use Rattle.std.proofs.Common.{refl}
use Rattle.quorum.specs.Sets.{either}
use Rattle.quorum.proofs.Sets.{has_either}
use Rattle.quorum.proofs.set.ReplicaSet.union.Goals as goal

pub returns : goal.returns
unfolding either
returns c = record { bits = refl; members = λ k. has_either c.args.self.0 c.args.other.0 k }
