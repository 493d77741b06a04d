use Rattle.std.proofs.Common.{rules}
use Rattle.quorum.proofs.fault.refuse_if.Goals as goal

pub returns-then-condition : goal.returns-then-condition
returns-then-condition c = search rules

pub returns-else-condition : goal.returns-else-condition
returns-else-condition c = search rules
