use Rattle.std.proofs.Common.{rules}
use Rattle.starred.proofs.table.Example.is_shown.Goals as goal

pub returns-in-Ends : goal.returns-in-Ends
returns-in-Ends c = search rules
