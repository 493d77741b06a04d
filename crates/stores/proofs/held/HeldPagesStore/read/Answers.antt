use Rattle.std.proofs.Common.{rules}
use Rattle.stores.proofs.held.HeldPagesStore.read.Goals as goal

pub returns : goal.returns
returns c = search rules
