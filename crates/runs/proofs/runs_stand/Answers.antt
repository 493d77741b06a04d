use Rattle.runs.proofs.Findings.{runs_safe}
use Rattle.runs.proofs.runs_stand.Goals as goal

pub returns : goal.returns
returns c = runs_safe
