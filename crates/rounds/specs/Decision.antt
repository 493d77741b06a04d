-- How a round ends: the first that applies. `rs` are the reports by replica, `f p s` says whether the part p carries the set s.
-- Assumes nothing.
use Rattle.std.specs.Prelude.{ℕ, ◌+◌, Bool, if◌then◌else◌, not, ◌&&◌, List, Some, None, Option}
use Rattle.quorum.specs.Below.{within}
use Rattle.stores.specs.declared.view.Head.{Head}
use Rattle.stores.specs.declared.view.Recorded.{Recorded}
use Rattle.stores.specs.declared.view.View.{View}
use Rattle.rounds.specs.declared.outcome.Outcome.{Outcome}
use Rattle.rounds.specs.declared.outcome.Outcome.TheVariants.{SettledByHolders, SettledByClear, SettledByAll, NoComponent, NotCarried, MarkedPast, Undecided}
use Rattle.rounds.specs.declared.report.Report.{Report}
use Rattle.rounds.specs.Members.{clear_members, level_members, any_mark_above, backed}
use Rattle.rounds.specs.Presumed.{presumed}

-- why nothing can be settled from the presumed view v, if so: the order of these two stands here alone
abbrev pub barred : (ℕ → ℕ → Bool) → Head → List (Option Report) → View → Option Outcome
barred f h rs v =
    if not (f h.set.0 v.set.0) then Some NotCarried
    else if any_mark_above rs (v.number.0 + 1) then Some MarkedPast
    else None

-- all members of v are in the round, each at v or clear
abbrev pub all_level : Head → List (Option Report) → View → Bool
all_level h rs v = within v.set.0 h.set.0 && within v.set.0 (level_members rs v)

-- where no holders carry v
abbrev pub clear_or_all : (ℕ → ℕ → Bool) → Head → List (Option Report) → View → Outcome × Option View
clear_or_all f h rs v =
    if f (clear_members rs v) v.set.0 then (SettledByClear, Some v)
    else if all_level h rs v then (SettledByAll, Some v)
    else (Undecided, None)

-- on what the holders recorded, where they carry v: if its own members in the round carry it, and on nothing else
abbrev pub unless_held : (ℕ → ℕ → Bool) → Head → Option Recorded → Outcome × Option View → Outcome × Option View
unless_held f h None rest = rest
unless_held f h (Some s) rest = if f h.set.0 s.view.set.0 then (SettledByHolders, Some s.view) else (Undecided, None)

abbrev pub unless_barred : Option Outcome → Outcome × Option View → Outcome × Option View
unless_barred None rest = rest
unless_barred (Some o) rest = (o, None)

-- from the presumed view
abbrev pub decided_on : (ℕ → ℕ → Bool) → Head → List (Option Report) → Option View → Outcome × Option View
decided_on f h rs None = (NoComponent, None)
decided_on f h rs (Some v) = unless_barred (barred f h rs v) (unless_held f h (backed f rs v) (clear_or_all f h rs v))

abbrev pub decided : (ℕ → ℕ → Bool) → Head → List (Option Report) → Outcome × Option View
decided f h rs = decided_on f h rs (presumed rs)
