use Rattle.std.proofs.Common.{rules}
use Rattle.operands.proofs.numerals.number32.Goals as goal

pub returns : goal.returns
returns c = search rules
