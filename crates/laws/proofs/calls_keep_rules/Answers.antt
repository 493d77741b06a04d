use Rattle.laws.proofs.Calls.{calls_keep}
use Rattle.laws.proofs.calls_keep_rules.Goals as goal

pub returns : goal.returns
returns c = calls_keep
