use Rattle.std.proofs.Common.{rules}
use Rattle.rows.proofs.row.Recorders.is_within.Goals as goal

pub returns-then-is_subset : goal.returns-then-is_subset
returns-then-is_subset c = search rules

pub returns-else-is_subset : goal.returns-else-is_subset
returns-else-is_subset c = search rules
