use Rattle.std.proofs.Common.{rules}
use Rattle.floor.proofs.floor.Floor.break_off.Goals as goal

pub returns-in-Ok-clause-broken : goal.returns-in-Ok-clause-broken
returns-in-Ok-clause-broken g c = search rules
