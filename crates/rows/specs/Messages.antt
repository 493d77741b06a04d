-- The rules that every message keeps. Assumes nothing.
use Rattle.std.specs.Prelude.{ℕ, Bool, true, false, ◌&&◌, None, Some, Option, nat_le, nat_lt}
use Rattle.quorum.specs.Below.{within}
use Rattle.quorum.specs.Members.{has}
use Rattle.rounds.specs.declared.report.Report.{Report}
use Rattle.stores.specs.declared.page.Mode.{Mode}
use Rattle.stores.specs.declared.page.Mode.TheVariants.{Waiting, Joining, Normal, Reconfiguration}
use Rattle.stores.specs.declared.page.Page.{Page}
use Rattle.stores.specs.declared.view.Head.{Head}
use Rattle.stores.specs.declared.view.Recorded.{Recorded as RecordedView}
use Rattle.stores.specs.declared.view.Stamp.{Stamp}
use Rattle.stores.specs.Rules.{keeps_rules}
use Rattle.rows.specs.declared.message.Body.{Body}
use Rattle.rows.specs.declared.message.Body.TheVariants.{State, Abort, Join, Recorded, Report as Reports}
use Rattle.rows.specs.declared.message.Message.{Message}

-- the modes that a report may tell
abbrev pub reporting_mode : Mode → Bool
reporting_mode Waiting = false
reporting_mode Joining = false
reporting_mode Normal = true
reporting_mode Reconfiguration = true

-- the lowest top stamp that the recorded view's stamp allows
abbrev pub lowest_top : Option RecordedView → Stamp
lowest_top None = record { 0 = 0 }
lowest_top (Some s) = s.stamp

-- A page that a report tells of. A report tells no top stamp, so the rule that bounds the recorded view's stamp by it binds
-- nothing here: of the pages that differ in the top stamp alone this is the lowest that may keep the rules.
abbrev pub reported_page : Report → Page
reported_page r = record { mode = r.mode; top = lowest_top r.recorded; mark = r.mark; component = r.component; recorded = r.recorded }

-- a report of replica q: mode 3 or 4, and the rest by the page's rules but for the top stamp's
abbrev pub report_keeps : ℕ → Report → Bool
report_keeps q r = reporting_mode r.mode && keeps_rules q (reported_page r)

-- what a kind adds: State a component view with a number after it, and survivors within it and the head; Recorded a number that a
-- recorded view may have
abbrev pub body_keeps : ℕ → Head → Body → Bool
body_keeps q h (State c s) = nat_lt c.number.0 1000000000 && within s.0 c.set.0 && within s.0 h.set.0
body_keeps q h Abort = true
body_keeps q h Join = true
body_keeps q h (Recorded n p) = nat_le 1 n.0 && nat_le n.0 1000000000
body_keeps q h (Reports r) = report_keeps q r

-- the head holds the sender, and what the kind adds keeps the rules
unfoldable pub message_keeps : Message → Bool
message_keeps m = has m.head.set.0 m.sender && body_keeps m.sender m.head m.body
