use Rattle.std.proofs.Common.{refl}
use Rattle.manager.proofs.answer.Answer.quiet.Goals as goal

pub returns : goal.returns
returns c = refl
