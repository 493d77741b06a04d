use Rattle.std.proofs.Common.{rules}
use Rattle.rows.proofs.Kept.{message_decides}
use Rattle.rows.specs.Messages.{message_keeps}
use Rattle.rows.proofs.message.Message.keeps_rules.Goals as goal

pub returns-then-contains-clause-rules : goal.returns-then-contains-clause-rules
unfolding message_keeps
returns-then-contains-clause-rules c = message_decides c.args.self.now c.body_keeps_rules.result (search rules)
