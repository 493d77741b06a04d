use Rattle.std.proofs.Common.{refl}
use Rattle.rounds.proofs.report.ReportFromRefPage.from.Goals as goal

pub returns : goal.returns
returns c = refl
