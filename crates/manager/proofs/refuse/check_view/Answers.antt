use Rattle.std.proofs.lemmas.Result.{err_from_is_err_and}
use Rattle.manager.specs.Calls.{view_refusal}
use Rattle.manager.proofs.Refusing.{first_refuses, second_refuses}
use Rattle.manager.proofs.refuse.check_view.Goals as goal

pub returns-in_err-found : goal.returns-in_err-found
unfolding view_refusal
returns-in_err-found c =
    let e = err_from_is_err_and c.from_residual.result c.from_residual.ensures.1 in rw (e.1, e.2) (first_refuses _ _ _ _ _ c.in_err-found.ensures)

pub returns-in_err-check_announcement : goal.returns-in_err-check_announcement
unfolding view_refusal
returns-in_err-check_announcement c =
    let s = c.from_residual-in_err-check_announcement in
    let e = err_from_is_err_and s.result s.ensures.1 in rw (e.1, e.2) (second_refuses _ _ _ _ _ _ c.in_ok-found.ensures c.in_err-check_announcement.ensures)
