use Rattle.std.proofs.Common.{rules}
use Rattle.rows.proofs.row.Recorders.with.Goals as goal

pub returns-in-Member : goal.returns-in-Member
returns-in-Member c = search rules
