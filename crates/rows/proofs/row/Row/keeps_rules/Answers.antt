use Rattle.std.proofs.Common.{rules}
use Rattle.rows.proofs.Kept.{row_decides}
use Rattle.rows.specs.Rows.{row_keeps}
use Rattle.rows.proofs.row.Row.keeps_rules.Goals as goal

pub returns-then-survivors_keep_rules-clause-rules : goal.returns-then-survivors_keep_rules-clause-rules
unfolding row_keeps
returns-then-survivors_keep_rules-clause-rules c =
    row_decides c.args.replica c.args.page.now c.args.self.now c.stage_keeps_rules.result (search rules)

pub returns-else-survivors_keep_rules-clause-rules : goal.returns-else-survivors_keep_rules-clause-rules
unfolding row_keeps
returns-else-survivors_keep_rules-clause-rules c =
    row_decides c.args.replica c.args.page.now c.args.self.now c.survivors_keep_rules.result (search rules)
