-- The table of examples: view 7 is {1,2,3,4,5} and the component view of all, unless said. Assumes nothing.
use Rattle.std.specs.Prelude.{ℕ, ◌+◌, ◌^◌, true, false, List, [], ◌∷◌, Some, None}
use Rattle.quorum.specs.declared.set.ReplicaSet.{ReplicaSet}
use Rattle.stores.specs.declared.view.View.{View}
use Rattle.stores.specs.Views.{view}
use Rattle.rounds.specs.declared.outcome.Outcome.TheVariants.{SettledByHolders, SettledByClear, SettledByAll, Undecided}
use Rattle.starred.specs.declared.round.Round.{Round}
use Rattle.starred.specs.declared.table.Example.{Example}
use Rattle.starred.specs.declared.table.Example.TheVariants.{Count, Weight, Ends}

-- the set of these replicas, each named once
abbrev pub bits_of : List ℕ → ℕ
bits_of [] = 0
bits_of (r ∷ rs) = 2 ^ r + bits_of rs

abbrev pub set_of : List ℕ → ReplicaSet
set_of rs = record { 0 = bits_of rs }

-- of the members ms: v is the component view of all but the last, s is recorded by the early and by the late
abbrev pub round : View → List ℕ → View → List ℕ → List ℕ → List ℕ → Round
round v ms s early late bare =
    record { view = v; members = set_of ms; recorded = s; early = set_of early; late = set_of late; bare = set_of bare }

abbrev pub seven : View
seven = view 7 (bits_of (1 ∷ 2 ∷ 3 ∷ 4 ∷ 5 ∷ []))

abbrev pub narrow_seven : View
narrow_seven = view 7 (bits_of (1 ∷ 2 ∷ 3 ∷ []))

abbrev pub eight : View
eight = view 8 (bits_of (1 ∷ 2 ∷ 3 ∷ []))

abbrev pub eight_of_four : View
eight_of_four = view 8 (bits_of (1 ∷ 2 ∷ 3 ∷ 4 ∷ []))

abbrev pub wide_eight : View
wide_eight = view 8 (bits_of (1 ∷ 2 ∷ 3 ∷ 6 ∷ 7 ∷ 8 ∷ 9 ∷ []))

abbrev pub table : List Example
table =
    -- three of five, two of four, one that outweighs two
    Count (set_of (1 ∷ 2 ∷ 3 ∷ [])) (set_of (1 ∷ 2 ∷ 3 ∷ 4 ∷ 5 ∷ [])) true ∷
    Count (set_of (1 ∷ 2 ∷ [])) (set_of (1 ∷ 2 ∷ 3 ∷ 4 ∷ [])) false ∷
    Weight (set_of (1 ∷ [])) (set_of (1 ∷ 2 ∷ 3 ∷ [])) true ∷
    -- three clear
    Ends (round seven (1 ∷ 2 ∷ 3 ∷ []) eight [] [] []) SettledByClear (Some seven) ∷
    -- two hold and two are clear; the same with a third that is clear
    Ends (round seven (1 ∷ 2 ∷ 3 ∷ 4 ∷ []) eight (1 ∷ 2 ∷ []) [] []) Undecided None ∷
    Ends (round seven (1 ∷ 2 ∷ 3 ∷ 4 ∷ 5 ∷ []) eight (1 ∷ 2 ∷ []) [] []) SettledByClear (Some seven) ∷
    -- three hold one of seven members; the same with a fourth, which has no component view
    Ends (round narrow_seven (1 ∷ 2 ∷ 3 ∷ []) wide_eight (1 ∷ 2 ∷ 3 ∷ []) [] []) Undecided None ∷
    Ends (round narrow_seven (1 ∷ 2 ∷ 3 ∷ 6 ∷ []) wide_eight (1 ∷ 2 ∷ 3 ∷ 6 ∷ []) [] (6 ∷ [])) SettledByHolders (Some wide_eight) ∷
    -- two hold under one stamp, two under another
    Ends (round seven (1 ∷ 2 ∷ 3 ∷ 4 ∷ 5 ∷ []) eight_of_four (1 ∷ 3 ∷ []) (2 ∷ 4 ∷ []) []) SettledByAll (Some seven) ∷
    []
