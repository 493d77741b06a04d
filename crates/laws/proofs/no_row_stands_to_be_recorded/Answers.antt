use Rattle.laws.proofs.Standing.{none_left_standing}
use Rattle.laws.proofs.no_row_stands_to_be_recorded.Goals as goal

pub returns : goal.returns
returns c = none_left_standing
