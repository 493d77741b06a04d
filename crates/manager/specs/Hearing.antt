-- What each stage hears. Assumes nothing.
use Rattle.std.specs.Prelude.{ℕ, ◌+◌, ◌-◌, Bool, true, false, if◌then◌else◌, not, ◌&&◌, List, is_some, Some, None, Ok, Err, Option, Result, ◌==◌, nat_le, nat_lt, slice_set}
use Rattle.quorum.specs.Members.{has}
use Rattle.quorum.specs.declared.fault.Reason.{Reason}
use Rattle.quorum.specs.declared.fault.Reason.TheVariants.{NotHeard, HeardAlready}
use Rattle.quorum.specs.declared.set.ReplicaSet.{ReplicaSet}
use Rattle.rounds.specs.Reports.{reported}
use Rattle.rounds.specs.declared.report.Report.{Report}
use Rattle.stores.specs.Views.{same_view}
use Rattle.stores.specs.declared.page.Page.{Page}
use Rattle.stores.specs.declared.view.Number.{Number}
use Rattle.stores.specs.declared.view.Recorded.{Recorded as RecordedView}
use Rattle.stores.specs.declared.view.View.{View}
use Rattle.rows.specs.Recorders.{adding, all_recorders, recorders_with}
use Rattle.rows.specs.Rows.{is_normal, is_reconfiguration}
use Rattle.rows.specs.declared.message.Body.{Body}
use Rattle.rows.specs.declared.message.Body.TheVariants.{State, Abort, Join, Recorded, Report as Reports}
use Rattle.rows.specs.declared.message.Part.{Part}
use Rattle.rows.specs.declared.row.Applied.{Applied}
use Rattle.rows.specs.declared.row.Confirmed.{Confirmed}
use Rattle.rows.specs.declared.row.Entered.{Entered}
use Rattle.rows.specs.declared.row.Gathered.{Gathered}
use Rattle.rows.specs.declared.row.Recorders.{Recorders}
use Rattle.rows.specs.declared.row.Reference.{Reference}
use Rattle.rows.specs.declared.row.Row.{Row}
use Rattle.rows.specs.declared.row.Stage.{Stage}
use Rattle.rows.specs.declared.row.Stage.TheVariants.{Idle, Gathering, Confirming, Applying, Entering, Round}
use Rattle.manager.specs.declared.hearing.Hearing.{Hearing}
use Rattle.manager.specs.declared.hearing.Hearing.TheVariants.{Heard, Answered, Outdone, Aborted}

-- what a message leaves of the stage, or of what the stage holds, and what follows from it
pub record Turn (A : Type 0) : Type 0 where
  pub left : A
  pub hearing : Hearing

-- heard where a rule hears it and it was not heard before
abbrev pub heard_if : {A : Type 0} → Bool → Bool → A → Hearing → Result (Turn A) Reason
heard_if hears already a k = if hears then (if already then Err HeardAlready else Ok (record { left = a; hearing = k })) else Err NotHeard

-- the turn of what a stage holds is one of the stage
abbrev pub turned : {A : Type 0} → (A → Stage) → Result (Turn A) Reason → Result (Turn Stage) Reason
turned stage (Ok t) = Ok (record { left = stage t.left; hearing = t.hearing })
turned stage (Err e) = Err e

-- the same, where nothing is said of the stage
abbrev pub may_hear : Bool → Bool → Result Unit Reason
may_hear hears already = if hears then (if already then Err HeardAlready else Ok tt) else Err NotHeard

-- Recorded is heard once from a sender, in whichever part
abbrev pub hears_recorded : Bool → Recorders → ℕ → Part → Result (Turn Recorders) Reason
hears_recorded hears x q part = heard_if hears (has (all_recorders x) q) (recorders_with x q part) Heard

-- a State is heard once from a sender
abbrev pub hears_from : Bool → ReplicaSet → ℕ → Result (Turn ReplicaSet) Reason
hears_from hears s q = heard_if hears (has s.0 q) (adding s q) Heard

-- a Report of mode reconfiguration is answered once
abbrev pub hears_reconfiguring : Bool → Report → Result (Turn Bool) Reason
hears_reconfiguring answered m = heard_if (is_reconfiguration m.mode) answered true Answered

-- a number one above the component view's
abbrev pub one_above : Option View → Number → Bool
one_above None n = false
one_above (Some c) n = n.0 == c.number.0 + 1

-- a number that is the recorded view's
abbrev pub as_recorded : Option RecordedView → Number → Bool
as_recorded None n = false
as_recorded (Some s) n = n.0 == s.view.number.0

-- equal to the component view
abbrev pub as_component : Option View → View → Bool
as_component None c = false
as_component (Some v) c = same_view v c

-- a number whose successor is not below the mark
abbrev pub reaches_mark : Option Number → Number → Bool
reaches_mark None n = true
reaches_mark (Some m) n = nat_le m.0 (n.0 + 1)

-- equal to the reference's view, or the first
abbrev pub as_reference : Option Reference → View → Bool
as_reference None c = true
as_reference (Some x) c = same_view x.component c

-- the first State fixes the reference
abbrev pub fixed : Option Reference → View → ReplicaSet → Reference
fixed None c s = record { component = c; survivors = s }
fixed (Some x) c s = x

-- ---- gathering: a State from a survivor with the same component view; Recorded one above it; a Report of mode reconfiguration, answered once
abbrev pub gathered_state : Gathered → ℕ → Gathered
gathered_state g q = record g { states = adding g.states q }

abbrev pub gathered_recorded : Gathered → ℕ → Part → Gathered
gathered_recorded g q part = record g { recorders = recorders_with g.recorders q part }

abbrev pub gathered_answer : Gathered → Gathered
gathered_answer g = record g { answered = true }

abbrev pub hears_gathering : Page → ReplicaSet → Gathered → ℕ → Body → Result (Turn Gathered) Reason
hears_gathering p survivors g q (State c s) = heard_if (has survivors.0 q && as_component p.component c) (has g.states.0 q) (gathered_state g q) Heard
hears_gathering p survivors g q Abort = Err NotHeard
hears_gathering p survivors g q Join = Err NotHeard
hears_gathering p survivors g q (Recorded n part) = heard_if (one_above p.component n) (has (all_recorders g.recorders) q) (gathered_recorded g q part) Heard
hears_gathering p survivors g q (Reports m) = heard_if (is_reconfiguration m.mode) g.answered (gathered_answer g) Answered

-- ---- confirming: Recorded numbered as the recorded view; a Report of mode reconfiguration, answered once
abbrev pub confirmed_recorded : Confirmed → ℕ → Part → Confirmed
confirmed_recorded g q part = record g { recorders = recorders_with g.recorders q part }

abbrev pub confirmed_answer : Confirmed → Confirmed
confirmed_answer g = record g { answered = true }

abbrev pub hears_confirming : Page → Confirmed → ℕ → Body → Result (Turn Confirmed) Reason
hears_confirming p g q (State c s) = Err NotHeard
hears_confirming p g q Abort = Err NotHeard
hears_confirming p g q Join = Err NotHeard
hears_confirming p g q (Recorded n part) = heard_if (as_recorded p.recorded n) (has (all_recorders g.recorders) q) (confirmed_recorded g q part) Heard
hears_confirming p g q (Reports m) = heard_if (is_reconfiguration m.mode) g.answered (confirmed_answer g) Answered

-- ---- applying: a State that reaches the mark and fits the reference; before a reference Join, which takes its sender from the sources; Abort
abbrev pub applied_state : Applied → ℕ → View → ReplicaSet → Applied
applied_state a q c s = record a { states = adding a.states q; reference = Some (fixed a.reference c s) }

abbrev pub applied_join : Applied → ℕ → Applied
applied_join a q = record a { joins = adding a.joins q }

abbrev pub hears_reference : Page → Applied → ℕ → View → ReplicaSet → Result (Turn Applied) Reason
hears_reference p a q c s = heard_if (reaches_mark p.mark c.number && as_reference a.reference c) (has a.states.0 q) (applied_state a q c s) Heard

abbrev pub hears_join : Applied → ℕ → Result (Turn Applied) Reason
hears_join a q = heard_if (not (is_some a.reference)) (has a.joins.0 q) (applied_join a q) Heard

abbrev pub hears_applying : Page → Applied → ℕ → Body → Result (Turn Applied) Reason
hears_applying p a q (State c s) = hears_reference p a q c s
hears_applying p a q Abort = Ok (record { left = a; hearing = Aborted })
hears_applying p a q Join = hears_join a q
hears_applying p a q (Recorded n part) = Err NotHeard
hears_applying p a q (Reports m) = Err NotHeard

-- ---- entering: Recorded numbered as the recorded view
abbrev pub entered_recorded : Entered → ℕ → Part → Entered
entered_recorded e q part = record e { recorders = recorders_with e.recorders q part }

abbrev pub hears_entering : Page → Entered → ℕ → Body → Result (Turn Entered) Reason
hears_entering p e q (State c s) = Err NotHeard
hears_entering p e q Abort = Err NotHeard
hears_entering p e q Join = Err NotHeard
hears_entering p e q (Recorded n part) = heard_if (as_recorded p.recorded n) (has (all_recorders e.recorders) q) (entered_recorded e q part) Heard
hears_entering p e q (Reports m) = Err NotHeard

-- ---- a round: Report
-- the number that a round starts from: the component view's or, where that is absent, the recorded view's less one
abbrev pub base_of : Option View → Option RecordedView → Option Number
base_of (Some c) s = Some c.number
base_of None (Some s) = Some (record { 0 = s.view.number.0 - 1 })
base_of None None = None

abbrev pub above : Option Number → Option View → Bool
above None c = false
above (Some n) None = false
above (Some n) (Some c) = nat_lt n.0 c.number.0

-- a report of mode normal with a component view above the base: the board has gone on without this replica
abbrev pub outdoes : Page → Report → Bool
outdoes p m = is_normal m.mode && above (base_of p.component p.recorded) m.component

abbrev pub hears_report : Page → List (Option Report) → ℕ → Report → Result (Turn (List (Option Report))) Reason
hears_report p rs q m = heard_if true (is_some (reported rs q)) (slice_set rs q (Some m)) (if outdoes p m then Outdone else Heard)

abbrev pub hears_round : Page → List (Option Report) → ℕ → Body → Result (Turn (List (Option Report))) Reason
hears_round p rs q (State c s) = Err NotHeard
hears_round p rs q Abort = Err NotHeard
hears_round p rs q Join = Err NotHeard
hears_round p rs q (Recorded n part) = Err NotHeard
hears_round p rs q (Reports m) = hears_report p rs q m

abbrev pub hears_stage : Page → ReplicaSet → ℕ → Body → Stage → Result (Turn Stage) Reason
hears_stage p survivors q b Idle = Err NotHeard
hears_stage p survivors q b (Gathering h g) = turned (Gathering h) (hears_gathering p survivors g q b)
hears_stage p survivors q b (Confirming h g) = turned (Confirming h) (hears_confirming p g q b)
hears_stage p survivors q b (Applying h a) = turned (Applying h) (hears_applying p a q b)
hears_stage p survivors q b (Entering h e) = turned (Entering h) (hears_entering p e q b)
hears_stage p survivors q b (Round h rs) = turned (Round h) (hears_round p rs q b)

-- what replica q tells, heard or not
unfoldable pub hears : Page → Row → ℕ → Body → Result (Turn Stage) Reason
hears p w q b = hears_stage p w.survivors q b w.stage

-- what of it is answered, and what is left of what was there
abbrev pub hearing_of : {A : Type 0} → Result (Turn A) Reason → Result Hearing Reason
hearing_of (Ok t) = Ok t.hearing
hearing_of (Err e) = Err e

abbrev pub left_of : {A : Type 0} → A → Result (Turn A) Reason → A
left_of a (Ok t) = t.left
left_of a (Err e) = a
