use Rattle.std.proofs.Common.{ap, ◌∙◌, rules}
use Rattle.quorum.specs.Members.{has}
use Rattle.quorum.proofs.Sets.{shifted_single, high_single, has_alone}
use Rattle.quorum.proofs.set.ReplicaSet.of.Goals as goal

pub returns-then-replica-lt16 : goal.returns-then-replica-lt16
returns-then-replica-lt16 c =
    let e = shifted_single c.args.replica (search rules) in
    record { bits = e; members = λ k. ap (λ s. has s k) e ∙ has_alone c.args.replica k }

pub returns-else-replica-lt16 : goal.returns-else-replica-lt16
returns-else-replica-lt16 c =
    let e = high_single c.args.replica (search rules) in
    record { bits = e; members = λ k. ap (λ s. has s k) e ∙ has_alone c.args.replica k }
