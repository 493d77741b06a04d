use Rattle.std.proofs.Common.{rules}
use Rattle.floor.proofs.floor.Floor.page.Goals as goal

pub returns : goal.returns
returns g c = search rules
