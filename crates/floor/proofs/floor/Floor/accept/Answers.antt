use Rattle.std.proofs.Common.{false, refl, ap, ◌∙◌, Result}
use Rattle.std.proofs.lemmas.Result.{err_from_is_err_and}
use Rattle.quorum.specs.declared.fault.Fault.{Fault}
use Rattle.manager.specs.Calls.{page_left}
use Rattle.manager.specs.Effects.{Effect}
use Rattle.runs.specs.World.{World}
use Rattle.stores.specs.Rules.{keeps_rules}
use Rattle.floor.specs.Tasks.{lent}
use Rattle.floor.specs.Worlds.{world}
use Rattle.floor.proofs.Ruled.{asked_refused, asked_not, asked_done, managed_accepted, managed_keeps}
use Rattle.floor.proofs.floor.Floor.accept.Goals as goal

pub returns-in_err-replica-clause-asked : goal.returns-in_err-replica-clause-asked
returns-in_err-replica-clause-asked g c =
    let w : World = world g.S.Store.pages g.S.Store.places c.args.self.now c.args.post.now in
    let e = err_from_is_err_and c.from_residual.result c.from_residual.ensures.1 in
    rw (e.1, e.2) (
      asked_refused (g.R.QuorumRule.carries c.args.self.now.rule) w c.args.work _ c.in_err-replica.ensures,
      record { pages_are = refl; rows_are = refl; post_is = refl; places_are = refl; need_is = refl },
    )

pub returns-in_err-answer-clause-asked : goal.returns-in_err-answer-clause-asked
returns-in_err-answer-clause-asked g c =
    let w : World = world g.S.Store.pages g.S.Store.places c.args.self.now c.args.post.now in
    let task = c.in_ok-replica in
    let left = ap (λ s. world g.S.Store.pages g.S.Store.places s c.args.post.now) c.lend.ensures.floor in
    let e = err_from_is_err_and c.from_residual-in_err-answer.result c.from_residual-in_err-answer.ensures.1 in
    rw (e.1, e.2)
    (asked_not (g.R.QuorumRule.carries c.args.self.now.rule) w c.args.work task.replica task.task _ task.ensures c.read-page.ensures _ _ c.in_err-answer.ensures.answer left)

-- the page that the manager leaves keeps the rules
pub invariant_of-result : goal.invariant_of-result
invariant_of-result g c =
    let f = g.R.QuorumRule.carries c.args.self.now.rule in
    let r = c.in_ok-replica.replica in
    let what : Result Effect Fault = lent f c.args.self.now.need c.args.self.now.table.rows r c.read-page.result c.in_ok-replica.task in
    let yes = managed_accepted what _ c.in_ok-answer.ensures.answer in
    let keeps = managed_keeps f _ r c.read-page.result _ c.in_ok-replica.task yes.0 yes.1 in
    record { keeps = ap (keeps_rules r) (c.lend.ensures.page ∙ ap (page_left c.read-page.result) yes.1) ∙ keeps.page }

pub returns-clause-asked : goal.returns-clause-asked
returns-clause-asked g c =
    let w : World = world g.S.Store.pages g.S.Store.places c.args.self.now c.args.post.now in
    let task = c.in_ok-replica in
    let left = ap (λ s. world g.S.Store.pages g.S.Store.places s c.args.post.now) c.lend.ensures.floor in
    asked_done (g.R.QuorumRule.carries c.args.self.now.rule) w c.args.work task.replica task.task _ task.ensures c.read-page.ensures
    _ _ c.in_ok-answer.ensures.answer refl c.lend.ensures.page c.wants_room.ensures left
