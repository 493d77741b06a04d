use Rattle.refusals.proofs.Once.{heard_stays}
use Rattle.refusals.proofs.heard_stays_heard.Goals as goal

pub returns : goal.returns
returns c = heard_stays
