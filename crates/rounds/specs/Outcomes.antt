-- Each outcome's number. Assumes nothing.
use Rattle.std.specs.Prelude.{ℕ}
use Rattle.rounds.specs.declared.outcome.Outcome.{Outcome}
use Rattle.rounds.specs.declared.outcome.Outcome.TheVariants.{SettledByHolders, SettledByClear, SettledByAll, LostMember, NoComponent, NotCarried, MarkedPast, Undecided, Spare}

abbrev pub outcome_number : Outcome → ℕ
outcome_number SettledByHolders = 1
outcome_number SettledByClear = 2
outcome_number SettledByAll = 3
outcome_number LostMember = 4
outcome_number NoComponent = 5
outcome_number NotCarried = 6
outcome_number MarkedPast = 7
outcome_number Undecided = 8
outcome_number Spare = 9
