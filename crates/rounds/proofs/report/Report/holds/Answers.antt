use Rattle.std.proofs.Common.{rules}
use Rattle.rounds.proofs.report.Report.holds.Goals as goal

pub returns-then-is_at : goal.returns-then-is_at
returns-then-is_at c = search rules
