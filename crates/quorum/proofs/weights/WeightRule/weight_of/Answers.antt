use Rattle.std.proofs.Common.{rules}
use Rattle.quorum.specs.Tallies.{tally_none, tally_more_yes, tally_more_no}
use Rattle.quorum.proofs.weights.WeightRule.weight_of.Goals as goal

pub loop-replica-init : goal.loop-replica-init
loop-replica-init c = search (rules, tally_none)

pub loop-replica-preserved : goal.loop-replica-preserved
loop-replica-preserved c = search (rules, tally_more_yes, tally_more_no)
