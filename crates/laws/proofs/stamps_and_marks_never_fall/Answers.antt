use Rattle.laws.proofs.Calls.{calls_advance}
use Rattle.laws.proofs.stamps_and_marks_never_fall.Goals as goal

pub returns : goal.returns
returns c = calls_advance
