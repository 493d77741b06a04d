use Rattle.std.proofs.Common.{rules}
use Rattle.quorum.proofs.replica.Replica.index.Goals as goal

pub returns-clause-value : goal.returns-clause-value
returns-clause-value c = search rules
