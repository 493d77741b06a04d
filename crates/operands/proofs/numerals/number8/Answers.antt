use Rattle.std.proofs.Common.{rules}
use Rattle.operands.proofs.numerals.number8.Goals as goal

pub returns : goal.returns
returns c = search rules
