use Rattle.std.proofs.Common.{rules}
use Rattle.manager.proofs.terms.Terms.judge_round.Goals as goal

pub returns-then-not-is_empty : goal.returns-then-not-is_empty
returns-then-not-is_empty g c = search rules
