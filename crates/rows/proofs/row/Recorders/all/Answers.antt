use Rattle.std.proofs.Common.{rules}
use Rattle.rows.proofs.row.Recorders.all.Goals as goal

pub returns : goal.returns
returns c = search rules
