-- The rules that every row keeps, beside its page. Assumes nothing.
use Rattle.std.specs.Prelude.{ℕ, Bool, true, false, not, ◌&&◌, List, Some, None, Option, ◌==◌, nat_le, nat_lt}
use Rattle.quorum.specs.Below.{any, within}
use Rattle.quorum.specs.Members.{has}
use Rattle.quorum.specs.Sets.{nobody_set}
use Rattle.quorum.specs.declared.set.ReplicaSet.{ReplicaSet}
use Rattle.rounds.specs.Reports.{reported}
use Rattle.rounds.specs.declared.report.Report.{Report}
use Rattle.stores.specs.declared.page.Mode.{Mode}
use Rattle.stores.specs.declared.page.Mode.TheVariants.{Waiting, Joining, Normal, Reconfiguration}
use Rattle.stores.specs.declared.page.Page.{Page}
use Rattle.stores.specs.declared.view.Head.{Head}
use Rattle.stores.specs.declared.view.Recorded.{Recorded}
use Rattle.stores.specs.declared.view.View.{View}
use Rattle.rows.specs.declared.row.Applied.{Applied}
use Rattle.rows.specs.declared.row.Confirmed.{Confirmed}
use Rattle.rows.specs.declared.row.Entered.{Entered}
use Rattle.rows.specs.declared.row.Gathered.{Gathered}
use Rattle.rows.specs.declared.row.Reference.{Reference}
use Rattle.rows.specs.declared.row.Row.{Row}
use Rattle.rows.specs.declared.row.Stage.{Stage}
use Rattle.rows.specs.declared.row.Stage.TheVariants.{Idle, Gathering, Confirming, Applying, Entering, Round}
use Rattle.rows.specs.Messages.{report_keeps}
use Rattle.rows.specs.Recorders.{recorders_within}

abbrev pub is_waiting : Mode → Bool
is_waiting Waiting = true
is_waiting Joining = false
is_waiting Normal = false
is_waiting Reconfiguration = false

abbrev pub is_joining : Mode → Bool
is_joining Waiting = false
is_joining Joining = true
is_joining Normal = false
is_joining Reconfiguration = false

abbrev pub is_normal : Mode → Bool
is_normal Waiting = false
is_normal Joining = false
is_normal Normal = true
is_normal Reconfiguration = false

abbrev pub is_reconfiguration : Mode → Bool
is_reconfiguration Waiting = false
is_reconfiguration Joining = false
is_reconfiguration Normal = false
is_reconfiguration Reconfiguration = true

-- the head of a stage; idle has none
abbrev pub head_of : Stage → Option Head
head_of Idle = None
head_of (Gathering h g) = Some h
head_of (Confirming h g) = Some h
head_of (Applying h a) = Some h
head_of (Entering h e) = Some h
head_of (Round h rs) = Some h

-- a head holds its replica, its stamp at most the top stamp
abbrev pub head_keeps : ℕ → Page → Head → Bool
head_keeps r p h = has h.set.0 r && nat_le h.stamp.0 p.top.0

-- survivors lie in the component view's set; without one there are none
abbrev pub survivors_keep : ReplicaSet → Option View → Bool
survivors_keep s None = s.0 == 0
survivors_keep s (Some c) = within s.0 c.set.0

-- a component view with a number after it
abbrev pub has_next : Option View → Bool
has_next None = false
has_next (Some c) = nat_lt c.number.0 1000000000

-- a reference, if there is one, has a number after it
abbrev pub reference_keeps : Option Reference → Bool
reference_keeps None = true
reference_keeps (Some f) = nat_lt f.component.number.0 1000000000

-- the recorded view is under the head: stamp and set are the head's
abbrev pub under_head : Head → Option Recorded → Bool
under_head h None = false
under_head h (Some s) = s.stamp.0 == h.stamp.0 && s.view.set.0 == h.set.0

-- a report against the rules, or of a replica outside the head
abbrev pub report_breaks : Head → ℕ → Option Report → Bool
report_breaks h q None = false
report_breaks h q (Some m) = not (has h.set.0 q && report_keeps q m)

-- gathering goes with mode normal
abbrev pub gathering_keeps : ℕ → Page → Head → Gathered → Bool
gathering_keeps r p h g =
    is_normal p.mode && head_keeps r p h && has_next p.component
    && within g.states.0 h.set.0 && recorders_within g.recorders h.set.0

-- confirming goes with mode normal, the recorded view under the head
abbrev pub confirming_keeps : ℕ → Page → Head → Confirmed → Bool
confirming_keeps r p h g =
    is_normal p.mode && head_keeps r p h && under_head h p.recorded && recorders_within g.recorders h.set.0

-- applying goes with mode waiting
abbrev pub applying_keeps : ℕ → Page → Head → Applied → Bool
applying_keeps r p h a =
    is_waiting p.mode && head_keeps r p h && reference_keeps a.reference
    && within a.joins.0 h.set.0 && within a.states.0 h.set.0

-- entering goes with mode joining, the recorded view under the head
abbrev pub entering_keeps : ℕ → Page → Head → Entered → Bool
entering_keeps r p h e =
    is_joining p.mode && head_keeps r p h && under_head h p.recorded && reference_keeps (Some e.reference)
    && recorders_within e.recorders h.set.0

-- a round goes with mode reconfiguration, its reports by members of the head
abbrev pub round_keeps : ℕ → Page → Head → List (Option Report) → Bool
round_keeps r p h rs = is_reconfiguration p.mode && head_keeps r p h && not (any (λ q. report_breaks h q (reported rs q)) 16)

-- idle has nothing lost; up, joining is not idle
abbrev pub idle_keeps : Bool → ReplicaSet → Mode → Bool
idle_keeps up lost mode = lost.0 == 0 && not (up && is_joining mode)

abbrev pub stage_keeps : ℕ → Page → Bool → ReplicaSet → Stage → Bool
stage_keeps r p up lost Idle = idle_keeps up lost p.mode
stage_keeps r p up lost (Gathering h g) = gathering_keeps r p h g
stage_keeps r p up lost (Confirming h g) = confirming_keeps r p h g
stage_keeps r p up lost (Applying h a) = applying_keeps r p h a
stage_keeps r p up lost (Entering h e) = entering_keeps r p h e
stage_keeps r p up lost (Round h rs) = round_keeps r p h rs

unfoldable pub row_keeps : ℕ → Page → Row → Bool
row_keeps r p w = survivors_keep w.survivors p.component && stage_keeps r p w.up w.lost w.stage

-- a row that is down, or up, and empty
abbrev pub empty_row : Bool → Row
empty_row up = record { up = up; lost = nobody_set; survivors = nobody_set; stage = Idle }
