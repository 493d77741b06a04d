use Rattle.std.proofs.Common.{rules}
use Rattle.stores.proofs.kept_page.KeptPage.new.Goals as goal

pub invariant_of-result : goal.invariant_of-result
invariant_of-result c = search rules

pub returns-else-keeps_rules : goal.returns-else-keeps_rules
returns-else-keeps_rules c = search rules
