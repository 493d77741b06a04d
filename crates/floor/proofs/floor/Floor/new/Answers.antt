use Rattle.std.proofs.Common.{refl}
use Rattle.floor.proofs.floor.Floor.new.Goals as goal

pub returns-clause-need : goal.returns-clause-need
returns-clause-need g c = refl
