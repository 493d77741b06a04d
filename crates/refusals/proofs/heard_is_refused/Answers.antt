use Rattle.refusals.proofs.Once.{heard_refused}
use Rattle.refusals.proofs.heard_is_refused.Goals as goal

pub returns : goal.returns
returns c = heard_refused
