use Rattle.std.proofs.Common.{arith}
use Rattle.quorum.proofs.Sets.{has_without, size_without}
use Rattle.quorum.proofs.set.ReplicaSet.without.Goals as goal

pub returns-clause-members : goal.returns-clause-members
returns-clause-members c = λ k. grind (arith, has_without)

pub returns-clause-smaller : goal.returns-clause-smaller
returns-clause-smaller c = λ m. grind (arith, size_without)
