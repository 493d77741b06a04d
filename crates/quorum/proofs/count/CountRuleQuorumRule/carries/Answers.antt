use Rattle.std.proofs.Common.{rules}
use Rattle.quorum.proofs.count.CountRuleQuorumRule.carries.Goals as goal

pub returns : goal.returns
returns c = search rules
