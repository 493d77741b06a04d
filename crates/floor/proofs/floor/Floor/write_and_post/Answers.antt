use Rattle.std.proofs.Common.{rules}
use Rattle.floor.proofs.floor.Floor.write_and_post.Goals as goal

pub returns-in_err-write-clause-refused : goal.returns-in_err-write-clause-refused
returns-in_err-write-clause-refused g c = search rules
