use Rattle.std.proofs.Common.{rules}
use Rattle.rows.proofs.rules.head_keeps_rules.Goals as goal

pub returns-then-contains : goal.returns-then-contains
returns-then-contains c = search rules
