use Rattle.std.proofs.Common.{◌≡◌, true, false}
use Rattle.manager.proofs.terms.Terms.member_takes_up.Goals as goal

-- survivors that do not carry the component view's set begin a round
pub returns-then-not-carries : goal.returns-then-not-carries
returns-then-not-carries g c =
    let no : false ≡ g.R.QuorumRule.carries c.args.self.now.rule.now c.args.row.now.survivors.0 c.args.component.set.0 = c.if-not-carries.ensures in
    rw (← no, ← c.message-abort.ensures) c.begin_round.ensures

-- those that do gather States, where the head has others than survivors
pub returns : goal.returns
returns g c =
    let yes : true ≡ g.R.QuorumRule.carries c.args.self.now.rule.now c.args.row.now.survivors.0 c.args.component.set.0 = c.if-not-carries.ensures in
    let others = rw c.gather.ensures at c.if-is_subset.ensures.test in
    rw (← yes, ← others) (rw (c.message-state.ensures, c.gather.ensures) at c.judge_head.ensures)
