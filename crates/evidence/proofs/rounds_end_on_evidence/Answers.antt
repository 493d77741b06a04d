use Rattle.evidence.proofs.Heads.{endings_rest}
use Rattle.evidence.proofs.rounds_end_on_evidence.Goals as goal

pub returns : goal.returns
returns c = endings_rest
