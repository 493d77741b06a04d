use Rattle.std.proofs.Common.{false, rules}
use Rattle.rows.specs.Rows.{empty_row}
use Rattle.floor.proofs.floor.Floor.lend.Goals as goal

-- the row that the manager is lent is the replica's own
pub returns-clause-answer : goal.returns-clause-answer
returns-clause-answer g c = rw (c.number.ensures.value, c.row_mut-row.ensures.value (empty_row false)) at c.manage.ensures.answer

pub returns-clause-page : goal.returns-clause-page
returns-clause-page g c = rw (c.number.ensures.value, c.row_mut-row.ensures.value (empty_row false)) at c.manage.ensures.page

pub returns-clause-floor : goal.returns-clause-floor
returns-clause-floor g c =
    let left = rw (c.number.ensures.value, c.row_mut-row.ensures.value (empty_row false)) at c.manage.ensures.row in
    search (rules, left)
