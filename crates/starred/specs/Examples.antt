-- What an example shows. Assumes nothing.
use Rattle.std.specs.Prelude.{ℕ, Bool, true, false, if◌then◌else◌, ◌&&◌, List, ◌∷◌, map, replicate, is_some, Some, None, Option, ◌==◌}
use Rattle.std.specs.Bool.{beq}
use Rattle.std.specs.List.{range_with_len}
use Rattle.quorum.specs.Members.{has, one, listed, majority}
use Rattle.stores.specs.declared.page.Mode.TheVariants.{Reconfiguration}
use Rattle.stores.specs.declared.view.Recorded.{Recorded}
use Rattle.stores.specs.declared.view.View.{View}
use Rattle.stores.specs.Views.{head, same_view}
use Rattle.rounds.specs.declared.outcome.Outcome.{Outcome}
use Rattle.rounds.specs.declared.report.Report.{Report}
use Rattle.rounds.specs.Decision.{decided}
use Rattle.rounds.specs.Outcomes.{outcome_number}
use Rattle.starred.specs.declared.round.Round.{Round}
use Rattle.starred.specs.declared.table.Example.{Example}
use Rattle.starred.specs.declared.table.Example.TheVariants.{Count, Weight, Ends}

-- ---- a round
-- recorded under stamp 40 by the early, under stamp 41 by the late
abbrev pub recorded_by : Round → ℕ → Option Recorded
recorded_by e q =
    if has e.early.0 q then Some (record { view = e.recorded; stamp = record { 0 = 40 } })
    else if has e.late.0 q then Some (record { view = e.recorded; stamp = record { 0 = 41 } })
    else None

abbrev pub report_of : Round → ℕ → Option Report
report_of e q =
    if has e.members.0 q then Some (record {
      mode = Reconfiguration;
      mark = Some (if is_some (recorded_by e q) then e.recorded.number else e.view.number);
      component = if has e.bare.0 q then None else Some e.view;
      recorded = recorded_by e q;
    })
    else None

unfoldable pub reports_of : Round → List (Option Report)
reports_of e = map (report_of e) (range_with_len 0 16)

abbrev pub end_of : Round → Outcome × Option View
end_of e = decided (majority one) (head 50 e.members.0) (reports_of e)

-- ---- an example
-- both absent, or the same view
abbrev pub settles : Option View → Option View → Bool
settles None None = true
settles None (Some w) = false
settles (Some v) None = false
settles (Some v) (Some w) = same_view v w

-- replica 1 weighs 5, each other 1
abbrev pub heavy : List ℕ
heavy = 1 ∷ 5 ∷ replicate 14 1

-- the example is as the rules say
abbrev pub shows : Example → Bool
shows (Count p s b) = beq (majority one p.0 s.0) b
shows (Weight p s b) = beq (majority (listed heavy) p.0 s.0) b
shows (Ends e o w) = outcome_number (end_of e).0 == outcome_number o && settles (end_of e).1 w
