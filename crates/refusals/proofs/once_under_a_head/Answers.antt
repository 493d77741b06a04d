use Rattle.refusals.proofs.Once.{once_under_head}
use Rattle.refusals.proofs.once_under_a_head.Goals as goal

pub returns : goal.returns
returns c = once_under_head
