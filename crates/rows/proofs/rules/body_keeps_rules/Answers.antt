use Rattle.std.proofs.Common.{rules}
use Rattle.rows.proofs.rules.body_keeps_rules.Goals as goal

pub returns-then-is_subset : goal.returns-then-is_subset
returns-then-is_subset c = search rules
