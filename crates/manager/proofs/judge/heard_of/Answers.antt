use Rattle.std.proofs.Common.{ℕ, Bool, is_some, arith, rules}
use Rattle.quorum.proofs.Below.{select_none, select_more_no}
use Rattle.rounds.specs.Reports.{reported}
use Rattle.rounds.proofs.Membership.{select_with}
use Rattle.manager.proofs.judge.heard_of.Goals as goal

pub loop-replica-init : goal.loop-replica-init
loop-replica-init c = search (rules, select_none)

pub loop-replica-preserved : goal.loop-replica-preserved
loop-replica-preserved c =
    let f : ℕ → Bool = λ q. is_some (reported c.args.reports.now q) in
    let yes = select_with f c.loop-replica.replica (omega arith) in
    let no = select_more_no f c.loop-replica.replica in
    search rules
