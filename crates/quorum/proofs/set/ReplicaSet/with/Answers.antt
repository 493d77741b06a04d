use Rattle.std.proofs.Common.{rules}
use Rattle.quorum.proofs.set.ReplicaSet.with.Goals as goal

pub returns-clause-bits : goal.returns-clause-bits
returns-clause-bits c = search rules

pub returns-clause-members : goal.returns-clause-members
returns-clause-members c = search rules
