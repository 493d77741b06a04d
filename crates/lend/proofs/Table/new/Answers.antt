use Rattle.std.proofs.Common.{refl}
use Rattle.lend.proofs.Table.new.Goals as goal

pub returns : goal.returns
returns g c = refl
