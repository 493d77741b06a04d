use Rattle.std.proofs.Common.{rules}
use Rattle.stores.proofs.view.Number.next.Goals as goal

pub returns : goal.returns
returns c = search rules
