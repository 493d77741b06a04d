use Rattle.std.proofs.Common.{refl, rules}
use Rattle.quorum.specs.Sets.{less}
use Rattle.quorum.proofs.Sets.{has_less}
use Rattle.quorum.proofs.set.ReplicaSet.difference.Goals as goal

pub returns : goal.returns
unfolding less
returns c = record { bits = refl; members = λ k. has_less c.args.self.0 c.args.other.0 k (search rules) (search rules) }
