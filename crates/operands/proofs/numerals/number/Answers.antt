use Rattle.std.proofs.Common.{rules}
use Rattle.operands.proofs.Reading.{goes_on, stops, ends}
use Rattle.operands.proofs.numerals.number.Goals as goal

-- a byte that adds nothing to the value ends the reading
pub returns-in_err-value : goal.returns-in_err-value
returns-in_err-value c = search (rules, stops c.args.word.now c.loop-byte.byte-index c.loop-byte.value c.loop-byte-test.true c.loop-byte.invariant)

pub loop-byte-init : goal.loop-byte-init
loop-byte-init c = search rules

pub loop-byte-preserved : goal.loop-byte-preserved
loop-byte-preserved c = search (rules, goes_on c.args.word.now c.loop-byte.byte-index c.loop-byte.value c.in_ok-value.value c.loop-byte-test.true c.loop-byte.invariant)

pub returns : goal.returns
returns c = search (rules, ends c.args.word.now c.loop-byte.byte-index c.loop-byte.value c.loop-byte-test.false)
