-- What the moves see of a page, a row, a message and a post. The rest (who is lost, who survives, States and Joins heard, newcomers'
-- recordings, aborts) decides which moves a call makes, and bears on no finding. Assumes nothing.
use Rattle.std.specs.Prelude.{ℕ, if◌then◌else◌, ◌&&◌, List, [], ◌∷◌, ◌++◌, Some, None, Option, nat_lt}
use Rattle.stores.specs.declared.page.Page.{Page}
use Rattle.stores.specs.declared.view.Head.{Head}
use Rattle.stores.specs.declared.view.View.{View}
use Rattle.rounds.specs.Reports.{reported}
use Rattle.rounds.specs.declared.outcome.Outcome.{Outcome}
use Rattle.rounds.specs.declared.report.Report.{Report}
use Rattle.rows.specs.Rows.{is_normal}
use Rattle.rows.specs.declared.message.Body.{Body}
use Rattle.rows.specs.declared.message.Body.TheVariants.{State, Abort, Join, Recorded, Report as Reports}
use Rattle.rows.specs.declared.message.Message.{Message}
use Rattle.rows.specs.declared.message.Part.TheVariants.{Member, Newcomer}
use Rattle.rows.specs.declared.message.Posts.{Posts}
use Rattle.rows.specs.declared.message.Posts.TheVariants.{Nothing, One, Two}
use Rattle.rows.specs.declared.row.Reference.{Reference}
use Rattle.rows.specs.declared.row.Row.{Row}
use Rattle.rows.specs.declared.row.Stage.{Stage}
use Rattle.rows.specs.declared.row.Stage.TheVariants.{Idle, Gathering, Confirming, Applying, Entering, Round}
use Rattle.safety.specs.Moves.{Settlement, settlement}
use Rattle.safety.specs.Replicas.{Node, node}
use Rattle.safety.specs.Replicas as Moves
use Rattle.safety.specs.Replicas.Message.{state_from, recorded_from, report_from}
use Rattle.safety.specs.Replicas.Row.{idle, under}
use Rattle.safety.specs.Replicas.Phase.{gathering, confirming, applying, entering, round}

-- ---- a replica
-- a report without its mode
abbrev pub seen_report : Report → Moves.Report
seen_report m = record { mark = m.mark; component = m.component; recorded = m.recorded }

abbrev pub seen_option : Option Report → Option Moves.Report
seen_option None = None
seen_option (Some m) = Some (seen_report m)

-- the reports of a round, one for each of the sixteen replicas
abbrev pub seen_reports : List (Option Report) → ℕ → Option Moves.Report
seen_reports rs q = if nat_lt q 16 then seen_option (reported rs q) else None

-- of a reference its view
abbrev pub seen_reference : Option Reference → Option View
seen_reference None = None
seen_reference (Some x) = Some x.component

-- how far the replica has come: of those heard only who recorded as a member
abbrev pub seen_stage : Stage → Moves.Row
seen_stage Idle = idle
seen_stage (Gathering h g) = under h (gathering g.recorders.members.0)
seen_stage (Confirming h g) = under h (confirming g.recorders.members.0)
seen_stage (Applying h a) = under h (applying (seen_reference a.reference))
seen_stage (Entering h e) = under h (entering e.reference.component e.recorders.members.0)
seen_stage (Round h rs) = under h (round (seen_reports rs))

-- a replica with this page and this row
abbrev pub node_of : Page → Row → Node
node_of p w = node (is_normal p.mode && w.up) p.top p.mark p.component p.recorded (seen_stage w.stage)

-- ---- messages
-- what replica q says under the head h
abbrev pub seen_body : ℕ → Head → Body → List Moves.Message
seen_body q h (State v survivors) = state_from q h v ∷ []
seen_body q h Abort = []
seen_body q h Join = []
seen_body q h (Recorded n Member) = recorded_from q h n ∷ []
seen_body q h (Recorded n Newcomer) = []
seen_body q h (Reports m) = report_from q h (seen_report m) ∷ []

abbrev pub seen_message : Message → List Moves.Message
seen_message m = seen_body m.sender m.head m.body

abbrev pub seen_post : List Message → List Moves.Message
seen_post [] = []
seen_post (m ∷ ms) = seen_message m ++ seen_post ms

-- the messages that a call formed, the latest first
abbrev pub formed_by : Posts → List Moves.Message
formed_by Nothing = []
formed_by (One m) = seen_message m
formed_by (Two m n) = seen_message n ++ seen_message m

-- ---- the end of a round
-- a call under the head h that ended a round so: a settlement where there is a settled view
abbrev pub settlement_of : Option Head → Option (Outcome × Option View) → Option Settlement
settlement_of h None = None
settlement_of h (Some (o, None)) = None
settlement_of None (Some (o, Some v)) = None
settlement_of (Some h) (Some (o, Some v)) = Some (settlement h v)
