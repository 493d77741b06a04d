use Rattle.std.proofs.Common.{rules}
use Rattle.operands.proofs.sets.with_replica.Goals as goal

pub returns-in_err-replica : goal.returns-in_err-replica
returns-in_err-replica c = search rules
