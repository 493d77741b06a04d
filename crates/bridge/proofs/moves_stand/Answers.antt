use Rattle.bridge.proofs.Calls.{refines}
use Rattle.bridge.proofs.moves_stand.Goals as goal

pub returns : goal.returns
returns c = refines
