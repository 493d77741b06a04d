use Rattle.std.proofs.lemmas.Result.{err_from_is_err_and}
use Rattle.manager.specs.Calls.{loss_refusal}
use Rattle.manager.proofs.Refusing.{second_refuses}
use Rattle.manager.proofs.refuse.check_loss.Goals as goal

pub returns-in_err-check_lost : goal.returns-in_err-check_lost
unfolding loss_refusal
returns-in_err-check_lost c =
    let s = c.from_residual-in_err-check_lost in
    let e = err_from_is_err_and s.result s.ensures.1 in rw (e.1, e.2) (second_refuses _ _ _ _ _ _ c.in_ok-found.ensures c.in_err-check_lost.ensures)
