use Rattle.std.proofs.Common.{rules}
use Rattle.quorum.proofs.choice.ChosenRuleQuorumRule.carries.Goals as goal

pub returns-in-Weight : goal.returns-in-Weight
returns-in-Weight c = search rules
