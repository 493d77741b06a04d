use Rattle.std.proofs.Common.{rules}
use Rattle.starred.proofs.round.Round.recorded_by.Goals as goal

pub returns : goal.returns
returns c = search rules
