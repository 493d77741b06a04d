-- The rules of a report, of a message and of a row as facts, one to a rule. Assumes nothing.
use Rattle.std.specs.Prelude.{◌≡◌, ◌≢◌, ℕ, ◌<◌, ◌≤◌, true, ◌⊎◌, List, Some, None, Option}
use Rattle.quorum.specs.Members.{has}
use Rattle.quorum.specs.Sets.{nobody_set}
use Rattle.quorum.specs.declared.set.ReplicaSet.{ReplicaSet}
use Rattle.rounds.specs.Reports.{report_of, reported}
use Rattle.rounds.specs.declared.report.Report.{Report}
use Rattle.stores.specs.Facts.{PageRules}
use Rattle.stores.specs.declared.page.Mode.TheVariants.{Waiting, Joining, Normal, Reconfiguration}
use Rattle.stores.specs.declared.page.Page.{Page}
use Rattle.stores.specs.declared.view.Head.{Head}
use Rattle.stores.specs.declared.view.Number.{Number}
use Rattle.stores.specs.declared.view.Recorded.{Recorded as RecordedView}
use Rattle.stores.specs.declared.view.View.{View}
use Rattle.rows.specs.declared.message.Body.TheVariants.{State, Recorded, Report as Reports}
use Rattle.rows.specs.declared.message.Message.{Message}
use Rattle.rows.specs.declared.message.Part.{Part}
use Rattle.rows.specs.declared.row.Applied.{Applied}
use Rattle.rows.specs.declared.row.Confirmed.{Confirmed}
use Rattle.rows.specs.declared.row.Entered.{Entered}
use Rattle.rows.specs.declared.row.Gathered.{Gathered}
use Rattle.rows.specs.declared.row.Recorders.{Recorders}
use Rattle.rows.specs.declared.row.Reference.{Reference}
use Rattle.rows.specs.declared.row.Row.{Row}
use Rattle.rows.specs.declared.row.Stage.TheVariants.{Idle, Gathering, Confirming, Applying, Entering, Round}
use Rattle.rows.specs.Rows.{head_of}

-- each replica of a is one of b
abbrev pub LiesIn : ℕ → ℕ → Type 0
LiesIn a b = (q : ℕ) → q < 16 → has a q ≡ true → has b q ≡ true

-- whoever recorded, in either part, is one of b
abbrev pub RecordersLieIn : Recorders → ℕ → Type 0
RecordersLieIn x b = LiesIn x.members.0 b × LiesIn x.newcomers.0 b

-- the recorded view is there and under the head: its stamp and its set are the head's
abbrev pub IsUnder : Option RecordedView → Head → Type 0
IsUnder o h = (s : RecordedView) × (o ≡ Some s) × (s.stamp ≡ h.stamp) × (s.view.set ≡ h.set)

-- The rules of a report of replica q. It tells all of a page but the top stamp: there is such a page of q that keeps
-- the rules of pages.
pub record ReportRules (q : ℕ) (m : Report) : Type 0 where
  pub mode : (m.mode ≡ Normal) ⊎ (m.mode ≡ Reconfiguration)
  pub page : (p : Page) × (report_of p ≡ m) × PageRules q p

-- The rules of a message. What a State and a Recorded add is bounded, and a Report tells of its sender.
pub record MessageRules (m : Message) : Type 0 where
  pub sender : has m.head.set.0 m.sender ≡ true
  pub next : (c : View) (s : ReplicaSet) → m.body ≡ State c s → c.number.0 < 1000000000
  pub in_component : (c : View) (s : ReplicaSet) → m.body ≡ State c s → LiesIn s.0 c.set.0
  pub in_head : (c : View) (s : ReplicaSet) → m.body ≡ State c s → LiesIn s.0 m.head.set.0
  pub numbered : (n : Number) (p : Part) → m.body ≡ Recorded n p → 1 ≤ n.0
  pub highest : (n : Number) (p : Part) → m.body ≡ Recorded n p → n.0 ≤ 1000000000
  pub report : (t : Report) → m.body ≡ Reports t → ReportRules m.sender t

-- The rules of the row w of replica r, beside its page p.
pub record RowRules (r : ℕ) (p : Page) (w : Row) : Type 0 where
  -- idle, and up
  pub nothing_lost : w.stage ≡ Idle → w.lost ≡ nobody_set
  pub not_idle : w.up ≡ true → p.mode ≡ Joining → w.stage ≢ Idle
  -- the head
  pub head_holds : (h : Head) → head_of w.stage ≡ Some h → has h.set.0 r ≡ true
  pub head_stamped : (h : Head) → head_of w.stage ≡ Some h → h.stamp.0 ≤ p.top.0
  -- the survivors
  pub survivors : (c : View) → p.component ≡ Some c → LiesIn w.survivors.0 c.set.0
  pub no_survivors : p.component ≡ None → w.survivors ≡ nobody_set
  -- the mode that goes with the stage
  pub gathering : (h : Head) (g : Gathered) → w.stage ≡ Gathering h g → p.mode ≡ Normal
  pub confirming : (h : Head) (g : Confirmed) → w.stage ≡ Confirming h g → p.mode ≡ Normal
  pub applying : (h : Head) (a : Applied) → w.stage ≡ Applying h a → p.mode ≡ Waiting
  pub entering : (h : Head) (e : Entered) → w.stage ≡ Entering h e → p.mode ≡ Joining
  pub round : (h : Head) (rs : List (Option Report)) → w.stage ≡ Round h rs → p.mode ≡ Reconfiguration
  -- a next number
  pub component_next : (h : Head) (g : Gathered) → w.stage ≡ Gathering h g →
      (c : View) × (p.component ≡ Some c) × (c.number.0 < 1000000000)
  pub applied_next : (h : Head) (a : Applied) (f : Reference) → w.stage ≡ Applying h a → a.reference ≡ Some f →
      f.component.number.0 < 1000000000
  pub entered_next : (h : Head) (e : Entered) → w.stage ≡ Entering h e → e.reference.component.number.0 < 1000000000
  -- the recorded view
  pub confirming_under : (h : Head) (g : Confirmed) → w.stage ≡ Confirming h g → IsUnder p.recorded h
  pub entering_under : (h : Head) (e : Entered) → w.stage ≡ Entering h e → IsUnder p.recorded h
  -- what was heard comes from members of the head
  pub gathered_states : (h : Head) (g : Gathered) → w.stage ≡ Gathering h g → LiesIn g.states.0 h.set.0
  pub gathered_recorders : (h : Head) (g : Gathered) → w.stage ≡ Gathering h g → RecordersLieIn g.recorders h.set.0
  pub confirmed_recorders : (h : Head) (g : Confirmed) → w.stage ≡ Confirming h g → RecordersLieIn g.recorders h.set.0
  pub applied_joins : (h : Head) (a : Applied) → w.stage ≡ Applying h a → LiesIn a.joins.0 h.set.0
  pub applied_states : (h : Head) (a : Applied) → w.stage ≡ Applying h a → LiesIn a.states.0 h.set.0
  pub entered_recorders : (h : Head) (e : Entered) → w.stage ≡ Entering h e → RecordersLieIn e.recorders h.set.0
  pub reporters : (h : Head) (rs : List (Option Report)) → w.stage ≡ Round h rs →
      (q : ℕ) (m : Report) → q < 16 → reported rs q ≡ Some m → has h.set.0 q ≡ true
  pub reports : (h : Head) (rs : List (Option Report)) → w.stage ≡ Round h rs →
      (q : ℕ) (m : Report) → q < 16 → reported rs q ≡ Some m → ReportRules q m
