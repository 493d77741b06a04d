use Rattle.std.proofs.Common.{rules}
use Rattle.stores_tests.proofs.counted.CountedPagesBreakable.cut.Goals as goal

pub invariant_of-self : goal.invariant_of-self
invariant_of-self c = search rules
