use Rattle.std.proofs.Common.{rules}
use Rattle.runs.proofs.work.Call.replica.Goals as goal

pub returns-in-Stop : goal.returns-in-Stop
returns-in-Stop c = search rules
