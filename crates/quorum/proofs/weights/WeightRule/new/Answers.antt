use Rattle.std.proofs.Common.{rules, nat_eq}
use Rattle.quorum.proofs.Below.{any_answered}
use Rattle.quorum.proofs.weights.WeightRule.new.Goals as goal

pub returns-in_err-refuse_if-clause-refused : goal.returns-in_err-refuse_if-clause-refused
returns-in_err-refuse_if-clause-refused c = let at = any_answered (λ w. nat_eq w 0) 0 c.args.weights _ c.contains.ensures.cases in search rules

pub returns-clause-refused : goal.returns-clause-refused
returns-clause-refused c = let at = any_answered (λ w. nat_eq w 0) 0 c.args.weights _ c.contains.ensures.cases in search rules
