use Rattle.std.proofs.Common.{◌≡◌, ℕ, ◌<◌, false}
use Rattle.quorum.specs.Members.{has}
use Rattle.quorum.proofs.set.ReplicaSet.lowest.Given as goal

-- none of the replicas passed is a member
abbrev pub invariant-loop-replica : goal.invariant-loop-replica
invariant-loop-replica l = (k : ℕ) → k < l.replica-index → has l.self.0 k ≡ false
