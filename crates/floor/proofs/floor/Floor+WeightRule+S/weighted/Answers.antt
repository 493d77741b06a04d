use Rattle.std.proofs.lemmas.Result.{err_from_is_err_and}
use Rattle.floor.proofs.floor.«Floor+WeightRule+S».weighted.Goals as goal

-- a zero weight is refused by the rule, and the refusal passed up
pub returns-in_err-new-clause-refused : goal.returns-in_err-new-clause-refused
returns-in_err-new-clause-refused g c =
    let e = err_from_is_err_and c.from_residual.result c.from_residual.ensures.1 in
    rw e.1 c.in_err-new.ensures.refused

pub returns-clause-rule : goal.returns-clause-rule
returns-clause-rule g c = rw c.new-2.ensures.rule c.in_ok-new.ensures.kept

pub returns-clause-refused : goal.returns-clause-refused
returns-clause-refused g c = c.in_ok-new.ensures.refused
