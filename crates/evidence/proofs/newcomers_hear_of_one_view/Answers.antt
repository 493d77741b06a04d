use Rattle.evidence.proofs.References.{one_reference}
use Rattle.evidence.proofs.newcomers_hear_of_one_view.Goals as goal

pub returns : goal.returns
returns c = one_reference
