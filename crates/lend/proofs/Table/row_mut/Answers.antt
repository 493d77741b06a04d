use Rattle.std.proofs.Common.{rules}
use Rattle.lend.proofs.Table.row_mut.Goals as goal

pub returns : goal.returns
returns g c = search rules
