use Rattle.std.proofs.Common.{rules}
use Rattle.manager.proofs.calls.mark_lost.Goals as goal

pub returns : goal.returns
returns c = search rules
