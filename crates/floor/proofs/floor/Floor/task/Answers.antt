use Rattle.std.proofs.lemmas.Result.{err_from_is_err_and}
use Rattle.runs.specs.World.{down_test, loss_test}
use Rattle.floor.proofs.Ruled.{given_on}
use Rattle.floor.proofs.floor.Floor.task.Goals as goal

pub returns-in_err-check_loss-in-Loss : goal.returns-in_err-check_loss-in-Loss
returns-in_err-check_loss-in-Loss g c =
    let left = c.from_residual-in_err-check_loss-in-Loss in
    let e = err_from_is_err_and left.result left.ensures.1 in
    rw (e.1, e.2, c.in-Loss.is) (given_on (loss_test c.args.self.now.table.rows c.in-Loss.replica c.in-Loss.lost) _ _ _ c.in_err-check_loss-in-Loss.ensures)

pub returns-in_err-check_down-in-Start : goal.returns-in_err-check_down-in-Start
returns-in_err-check_down-in-Start g c =
    let left = c.from_residual-in_err-check_down-in-Start in
    let e = err_from_is_err_and left.result left.ensures.1 in
    rw (e.1, e.2, c.in-Start.is) (given_on (down_test c.args.self.now.table.rows c.in-Start.replica) _ _ _ c.in_err-check_down-in-Start.ensures)

pub returns-in-Deliver : goal.returns-in-Deliver
returns-in-Deliver g c = rw c.in-Deliver.is (rw c.message_at.ensures at c.check_delivery.ensures)
