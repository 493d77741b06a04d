use Rattle.std.proofs.Common.{rules}
use Rattle.stores.proofs.rules.is_marked.Goals as goal

pub returns : goal.returns
returns c = search rules
