use Rattle.std.proofs.Common.{rules}
use Rattle.manager.proofs.calls.turn_mode.Goals as goal

pub returns : goal.returns
returns c = search rules
