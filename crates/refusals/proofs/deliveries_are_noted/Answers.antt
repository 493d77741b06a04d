use Rattle.refusals.proofs.Once.{deliveries_noted}
use Rattle.refusals.proofs.deliveries_are_noted.Goals as goal

pub returns : goal.returns
returns c = deliveries_noted
