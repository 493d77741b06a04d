use Rattle.evidence.proofs.Views.{components_follow}
use Rattle.evidence.proofs.components_change_only_by_installing_or_settling.Goals as goal

pub returns : goal.returns
returns c = components_follow
