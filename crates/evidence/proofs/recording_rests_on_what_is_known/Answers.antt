use Rattle.evidence.proofs.Views.{recordings_rest}
use Rattle.evidence.proofs.recording_rests_on_what_is_known.Goals as goal

pub returns : goal.returns
returns c = recordings_rest
