use Rattle.std.proofs.Common.{rules, arith}
use Rattle.quorum.proofs.Below.{select_none, select_more_no}
use Rattle.rounds.specs.Members.{member_that}
use Rattle.rounds.proofs.Membership.{select_with}
use Rattle.rounds.proofs.members.members_that.Goals as goal

pub loop-replica-init : goal.loop-replica-init
loop-replica-init g c = λ p told. search (rules, select_none)

pub loop-replica-preserved : goal.loop-replica-preserved
loop-replica-preserved g c = λ p told.
    let f = member_that p c.args.reports.now c.args.view in
    let before = c.loop-replica.invariant p told in
    let yes = select_with f c.loop-replica.replica (omega arith) in
    let no = select_more_no f c.loop-replica.replica in
    search (rules, told)
