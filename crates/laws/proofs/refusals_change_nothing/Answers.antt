use Rattle.laws.proofs.Words.{refusals_leave}
use Rattle.laws.proofs.refusals_change_nothing.Goals as goal

pub returns : goal.returns
returns c = refusals_leave
