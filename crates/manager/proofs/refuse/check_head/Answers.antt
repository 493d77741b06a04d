use Rattle.std.proofs.Common.{rules}
use Rattle.manager.proofs.refuse.check_head.Goals as goal

pub returns : goal.returns
returns c = search rules
