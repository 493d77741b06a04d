use Rattle.std.proofs.Common.{rules}
use Rattle.starred.proofs.round.Round.end.Goals as goal

pub returns : goal.returns
returns c = search rules
