use Rattle.std.proofs.Common.{rules}
use Rattle.rounds.proofs.report.Report.is_clear.Goals as goal

pub returns-else-is_none : goal.returns-else-is_none
returns-else-is_none c = search rules
