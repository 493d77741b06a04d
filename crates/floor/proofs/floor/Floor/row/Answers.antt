use Rattle.std.proofs.Common.{rules}
use Rattle.floor.proofs.floor.Floor.row.Goals as goal

pub returns : goal.returns
returns g c = search rules
