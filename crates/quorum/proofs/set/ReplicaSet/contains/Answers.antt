use Rattle.std.proofs.Common.{rules}
use Rattle.quorum.proofs.Bits.{test_bit, has_high}
use Rattle.quorum.proofs.set.ReplicaSet.contains.Goals as goal

pub returns-then-replica-lt16 : goal.returns-then-replica-lt16
returns-then-replica-lt16 c = search (rules, test_bit)

pub returns-else-replica-lt16 : goal.returns-else-replica-lt16
returns-else-replica-lt16 c = search (rules, has_high c.args.self.0 16)
