use Rattle.std.proofs.Common.{◌≡◌, ◌*◌, ◌≤◌}
use Rattle.quorum.specs.Members.{has, tally, listed}
use Rattle.quorum.proofs.weights.WeightRule.weight_of.Given as goal

-- the total is the weight of the members passed, at most 255 each
abbrev pub invariant-loop-replica : goal.invariant-loop-replica
invariant-loop-replica l = (l.total ≡ tally (listed l.self.weights) (has l.set.0) l.replica) × (l.total ≤ 255 * l.replica)
