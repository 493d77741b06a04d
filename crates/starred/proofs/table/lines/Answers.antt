use Rattle.std.proofs.Common.{rules}
use Rattle.starred.proofs.table.lines.Goals as goal

pub returns : goal.returns
returns c = search rules
