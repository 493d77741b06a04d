-- The relation of a rule chosen while a program runs. Assumes nothing.
use Rattle.std.specs.Prelude.{ℕ, Bool}
use Rattle.quorum.specs.declared.choice.ChosenRule.{ChosenRule}
use Rattle.quorum.specs.declared.choice.ChosenRule.TheVariants.{Count, Weight}
use Rattle.quorum.specs.Members.{one, listed, majority}

abbrev pub chosen : ChosenRule → ℕ → ℕ → Bool
chosen Count = majority one
chosen (Weight w) = majority (listed w.weights)
