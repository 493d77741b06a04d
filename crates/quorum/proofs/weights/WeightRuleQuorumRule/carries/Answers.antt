use Rattle.std.proofs.Common.{rules}
use Rattle.quorum.proofs.weights.WeightRuleQuorumRule.carries.Goals as goal

pub returns : goal.returns
returns c = search rules
