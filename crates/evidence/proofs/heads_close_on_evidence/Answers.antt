use Rattle.evidence.proofs.Heads.{closings_rest}
use Rattle.evidence.proofs.heads_close_on_evidence.Goals as goal

pub returns : goal.returns
returns c = closings_rest
