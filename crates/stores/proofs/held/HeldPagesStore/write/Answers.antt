use Rattle.std.proofs.Common.{rules}
use Rattle.stores.proofs.held.HeldPagesStore.write.Goals as goal

pub invariant_of-self : goal.invariant_of-self
invariant_of-self c = search rules

pub returns : goal.returns
returns c = search rules
