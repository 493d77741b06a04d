use Rattle.refusals.proofs.Once.{reports_answered}
use Rattle.refusals.proofs.reports_are_answered.Goals as goal

pub returns : goal.returns
returns c = reports_answered
