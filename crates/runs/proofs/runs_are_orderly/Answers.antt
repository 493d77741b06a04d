use Rattle.runs.proofs.Orderly.{runs_orderly}
use Rattle.runs.proofs.runs_are_orderly.Goals as goal

pub returns : goal.returns
returns c = runs_orderly
