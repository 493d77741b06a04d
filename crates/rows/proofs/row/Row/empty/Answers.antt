use Rattle.std.proofs.Common.{refl}
use Rattle.rows.proofs.row.Row.empty.Goals as goal

pub returns : goal.returns
returns c = refl
