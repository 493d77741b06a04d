use Rattle.refusals.proofs.Ordered.{refusals_in_order}
use Rattle.refusals.proofs.refusals_come_in_order.Goals as goal

pub returns : goal.returns
returns c = refusals_in_order
