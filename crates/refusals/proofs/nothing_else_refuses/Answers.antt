use Rattle.refusals.proofs.Ordered.{accepted_otherwise}
use Rattle.refusals.proofs.nothing_else_refuses.Goals as goal

pub returns : goal.returns
returns c = accepted_otherwise
