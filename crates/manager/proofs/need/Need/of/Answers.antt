use Rattle.std.proofs.Common.{rules}
use Rattle.manager.proofs.need.Need.of.Goals as goal

pub returns-in-MoreThanHalf : goal.returns-in-MoreThanHalf
returns-in-MoreThanHalf c = search rules
