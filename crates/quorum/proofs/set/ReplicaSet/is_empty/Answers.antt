use Rattle.std.proofs.Common.{rules}
use Rattle.quorum.proofs.Sets.{no_members}
use Rattle.quorum.proofs.set.ReplicaSet.is_empty.Goals as goal

pub returns : goal.returns
returns c = search (rules, no_members)
