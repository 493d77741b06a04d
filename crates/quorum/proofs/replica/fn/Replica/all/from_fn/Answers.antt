use Rattle.std.proofs.Common.{rules}
use Rattle.quorum.proofs.replica.fn.Replica.all.from_fn.Goals as goal

pub returns : goal.returns
returns c = search rules
