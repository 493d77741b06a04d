use Rattle.std.proofs.Common.{rules}
use Rattle.rounds.proofs.decision.first_that_applies.Goals as goal

-- found by the clauses of the calls alone, and where a call is another, soon seen to be wrong
pub returns-in-Some-backed : goal.returns-in-Some-backed
returns-in-Some-backed g c = search rules

-- the same where nothing is backed
pub returns : goal.returns
returns g c = search rules
