use Rattle.std.proofs.Common.{sym, rules}
use Rattle.quorum.proofs.Below.{everybody_at, length-everybody, lowest_from, lowest_none_from}
use Rattle.quorum.proofs.set.ReplicaSet.lowest.Goals as goal

pub returns-then-contains : goal.returns-then-contains
returns-then-contains c =
    let at = everybody_at c.loop-replica.replica-index c.replica-item.result (search (rules, length-everybody)) in
    sym (lowest_from c.args.self.0 _ (search rules) (search rules) (search rules))

pub loop-replica-preserved : goal.loop-replica-preserved
loop-replica-preserved c = let at = everybody_at c.loop-replica.replica-index c.replica-item.result (search (rules, length-everybody)) in search rules

pub returns : goal.returns
returns c = sym (lowest_none_from c.args.self.0 (search (rules, length-everybody)))
