use Rattle.operands.proofs.Reading.{Reading}
use Rattle.operands.proofs.numerals.number.Given as goal

-- the bytes so far read as the value
abbrev pub invariant-loop-byte : goal.invariant-loop-byte
invariant-loop-byte l = Reading l.word l.byte-index l.value
