use Rattle.std.proofs.Common.{rules}
use Rattle.operands.proofs.numerals.one_more.Goals as goal

pub returns-then-not-is_ascii_digit : goal.returns-then-not-is_ascii_digit
returns-then-not-is_ascii_digit c = search rules
