use Rattle.std.proofs.Common.{◌≡◌, map, Some, fold}
use Rattle.quorum.specs.Sets.{nobody_set}
use Rattle.operands.specs.Sets.{joined}
use Rattle.operands.proofs.sets.listed.Given as goal

-- the words so far name the set
abbrev pub invariant-loop-word : goal.invariant-loop-word
invariant-loop-word l = Some l.set ≡ fold joined (Some nobody_set) (map (λ w. w.now) l.yielded)
