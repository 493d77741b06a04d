-- The calls of a host: what each does, or why it is refused. Assumes nothing.
use Rattle.std.specs.Prelude.{ℕ, Bool, true, false, if◌then◌else◌, not, ◌&&◌, ◌||◌, List, is_some, replicate, Some, None, Ok, Err, Option, Result, ◌==◌, nat_le, slice_set}
use Rattle.std.specs.Option.{option_or}
use Rattle.quorum.specs.Below.{within}
use Rattle.quorum.specs.Members.{has}
use Rattle.quorum.specs.Sets.{nobody_set, both, single}
use Rattle.quorum.specs.declared.fault.Fault.{Fault}
use Rattle.quorum.specs.declared.fault.Layer.TheVariants.{Manager}
use Rattle.quorum.specs.declared.fault.Reason.{Reason}
use Rattle.quorum.specs.declared.fault.Reason.TheVariants.{NoSuchReplica, WrongPower, ViewWithoutReplica, HeadOpen, StampNotAbove, NumbersExhausted, NoHead, OtherHead, WrongParty, AgainstRules}
use Rattle.quorum.specs.declared.set.ReplicaSet.{ReplicaSet}
use Rattle.rounds.specs.declared.outcome.Outcome.TheVariants.{Spare}
use Rattle.rounds.specs.declared.report.Report.{Report}
use Rattle.rows.specs.Messages.{message_keeps}
use Rattle.rows.specs.Recorders.{adding, no_recorders}
use Rattle.rows.specs.Rows.{row_keeps, is_normal, empty_row}
pub use Rattle.rows.specs.Rows.{head_of}
use Rattle.rows.specs.declared.message.Body.TheVariants.{State, Abort, Join, Report as Reports}
use Rattle.rows.specs.declared.message.Message.{Message}
use Rattle.rows.specs.declared.message.Posts.TheVariants.{Nothing}
use Rattle.rows.specs.declared.row.Row.{Row}
use Rattle.rows.specs.declared.row.Stage.{Stage}
use Rattle.rows.specs.declared.row.Stage.TheVariants.{Gathering, Applying, Round}
use Rattle.stores.specs.Rules.{keeps_rules}
use Rattle.stores.specs.Views.{same_head}
use Rattle.stores.specs.declared.page.Mode.{Mode}
use Rattle.stores.specs.declared.page.Mode.TheVariants.{Waiting, Joining, Normal, Reconfiguration}
use Rattle.stores.specs.declared.page.Page.{Page}
use Rattle.stores.specs.declared.view.Head.{Head}
use Rattle.stores.specs.declared.view.View.{View}
use Rattle.manager.specs.declared.answer.Answer.{Answer}
use Rattle.manager.specs.declared.hearing.Hearing.{Hearing}
use Rattle.manager.specs.declared.hearing.Hearing.TheVariants.{Heard, Answered, Outdone, Aborted}
use Rattle.manager.specs.declared.need.Need.{Need}
use Rattle.manager.specs.Effects.{Effect, effect, ending, in_mode, in_stage, closed, spare_page, spare_row, carried_out, posts_of, entry_of, judged, judged_again}
use Rattle.manager.specs.Hearing.{Turn, hears}
use Rattle.manager.specs.Verdicts.{verdict_of}
use Rattle.quorum.specs.Faults.{refused_at, refused_if, given}
use Rattle.rounds.specs.Reports.{report_of}

-- ---- refusals
-- a refusal of the manager, naming the replica
abbrev pub refusal : Reason → ℕ → Fault
refusal reason r = refused_at Manager reason r

-- page and row keep the rules
abbrev pub all_keep : ℕ → Page → Row → Bool
all_keep r p w = keeps_rules r p && row_keeps r p w

-- every call: a page or row against the rules, then a replica above 15
abbrev pub offer_refusal : ℕ → Page → Row → Option Fault
offer_refusal r p w = option_or (refused_if (not (all_keep r p w)) (refusal AgainstRules r)) (refused_if (nat_le 16 r) (refusal NoSuchReplica r))

-- a call at a replica that is to be up
abbrev pub call_refusal : ℕ → Page → Row → Option Fault
call_refusal r p w = option_or (offer_refusal r p w) (refused_if (not w.up) (refusal WrongPower r))

-- normal mode at the highest number
abbrev pub at_highest : Option View → Bool
at_highest None = false
at_highest (Some c) = nat_le 1000000000 c.number.0

-- a view: without the replica, a head open, the stamp not above the top stamp, normal mode at the highest number
abbrev pub announcement_refusal : ℕ → Page → Row → Head → Option Fault
announcement_refusal r p w h =
    option_or (refused_if (not (has h.set.0 r)) (refusal ViewWithoutReplica r))
    (option_or (refused_if (is_some (head_of w.stage)) (refusal HeadOpen r))
    (option_or (refused_if (nat_le h.stamp.0 p.top.0) (refusal StampNotAbove r))
    (refused_if (is_normal p.mode && at_highest p.component) (refusal NumbersExhausted r))))

unfoldable pub view_refusal : ℕ → Page → Row → Head → Option Fault
view_refusal r p w h = option_or (call_refusal r p w) (announcement_refusal r p w h)

-- a message against the rules comes first of all
abbrev pub message_refusal : ℕ → Message → Option Fault
message_refusal r m = refused_if (not (message_keeps m)) (refusal AgainstRules r)

-- the open head, or the refusal that there is none
abbrev pub opened : ℕ → Option Head → Result Head Fault
opened r None = Err (refusal NoHead r)
opened r (Some h) = Ok h

-- of a message and the open head: no head, another head, a sender that is the replica itself or lost
abbrev pub head_refusal : ℕ → Row → Message → Option Head → Option Fault
head_refusal r w m None = Some (refusal NoHead r)
head_refusal r w m (Some h) =
    option_or (refused_if (not (same_head m.head h)) (refusal OtherHead r)) (refused_if (m.sender == r || has w.lost.0 m.sender) (refusal WrongParty r))

unfoldable pub delivery_refusal : ℕ → Page → Row → Message → Option Fault
delivery_refusal r p w m = option_or (message_refusal r m) (option_or (call_refusal r p w) (head_refusal r w m (head_of w.stage)))

-- of a loss and the open head: no head, itself, a stranger, one lost already
abbrev pub party_refusal : ℕ → Row → ℕ → Option Head → Option Fault
party_refusal r w q None = Some (refusal NoHead r)
party_refusal r w q (Some h) = refused_if (q == r || (not (has h.set.0 q) || has w.lost.0 q)) (refusal WrongParty r)

abbrev pub lost_refusal : ℕ → Row → ℕ → Option Fault
lost_refusal r w q =
    option_or (refused_if (nat_le 16 q) (refusal NoSuchReplica q)) (option_or (refused_if (not w.up) (refusal WrongPower r)) (party_refusal r w q (head_of w.stage)))

-- the replica of the call above 15 comes before the lost one above 15
unfoldable pub loss_refusal : ℕ → Page → Row → ℕ → Option Fault
loss_refusal r p w q = option_or (offer_refusal r p w) (lost_refusal r w q)

-- a start finds the replica up
unfoldable pub start_refusal : ℕ → Page → Row → Option Fault
start_refusal r p w = option_or (offer_refusal r p w) (refused_if w.up (refusal WrongPower r))

-- ---- what an accepted call does
-- a replica's own report under a head
abbrev pub report_message : ℕ → Head → Page → Message
report_message r h p = record { sender = r; head = h; body = Reports (report_of p) }

-- a round begins with the replica's own report
abbrev pub own_reports : ℕ → Page → List (Option Report)
own_reports r p = slice_set (replicate 16 None) r (Some (report_of p))

abbrev pub round_row : ℕ → Page → Row → Head → Row
round_row r p w h = in_stage (Round h (own_reports r p)) w

abbrev pub beginning : (ℕ → ℕ → Bool) → Need → ℕ → Page → Row → Head → Option Message → Effect
beginning f need r p w h first =
    carried_out r p (round_row r p w h) (posts_of first (Some (report_message r h p))) (verdict_of f need r p (round_row r p w h))

-- the top stamp becomes the head's
abbrev pub topped : Page → Head → Page
topped p h = record p { top = h.stamp }

-- survivors keep only the view's members
abbrev pub thinned : Row → Head → Row
thinned w h = record w { survivors = record { 0 = both w.survivors.0 h.set.0 } }

-- the replica's own State counts as heard
abbrev pub gathering_row : ℕ → Row → Head → Row
gathering_row r w h = in_stage (Gathering h (record { states = record { 0 = single r }; recorders = no_recorders; answered = false })) w

abbrev pub state_message : ℕ → Head → View → ReplicaSet → Message
state_message r h c s = record { sender = r; head = h; body = State c s }

abbrev pub abort_message : ℕ → Head → Message
abort_message r h = record { sender = r; head = h; body = Abort }

abbrev pub join_message : ℕ → Head → Message
join_message r h = record { sender = r; head = h; body = Join }

-- a waiting replica has heard nothing yet
abbrev pub applying_row : Row → Head → Row
applying_row w h = in_stage (Applying h (record { joins = nobody_set; states = nobody_set; reference = None })) w

-- a member with the component view c: survivors that no longer carry it begin a round; without newcomers the view is recorded; else States are gathered
abbrev pub member_takes_up : (ℕ → ℕ → Bool) → Need → ℕ → Page → Row → Head → View → Effect
member_takes_up f need r p w h c =
    if f w.survivors.0 c.set.0 then
    (if within h.set.0 w.survivors.0 then judged_again f need r None (entry_of r p (gathering_row r w h))
    else judged f need r p (gathering_row r w h) (Some (state_message r h c w.survivors)))
    else beginning f need r (in_mode Reconfiguration p) w h (Some (abort_message r h))

abbrev pub normal_takes_up : (ℕ → ℕ → Bool) → Need → ℕ → Page → Row → Head → Option View → Effect
normal_takes_up f need r p w h None = effect p w Nothing
normal_takes_up f need r p w h (Some c) = member_takes_up f need r p (thinned w h) h c

abbrev pub mode_takes_up : (ℕ → ℕ → Bool) → Need → ℕ → Page → Row → Head → Mode → Effect
mode_takes_up f need r p w h Waiting = judged f need r p (applying_row w h) (Some (join_message r h))
mode_takes_up f need r p w h Joining = effect p w Nothing
mode_takes_up f need r p w h Normal = normal_takes_up f need r p w h p.component
mode_takes_up f need r p w h Reconfiguration = beginning f need r p w h None

abbrev pub taking_up : (ℕ → ℕ → Bool) → Need → ℕ → Page → Row → Head → Effect
taking_up f need r p w h = mode_takes_up f need r (topped p h) w h p.mode

-- what follows from a message that was heard under the head h
abbrev pub following : (ℕ → ℕ → Bool) → Need → ℕ → Page → Row → Head → Hearing → Effect
following f need r p w h Heard = judged f need r p w None
following f need r p w h Answered = judged f need r p w (Some (report_message r h p))
following f need r p w h Outdone = ending (spare_page p) (spare_row w) Nothing Spare None
following f need r p w h Aborted = effect p (closed w) Nothing

-- one more lost
abbrev pub losing : Row → ℕ → Row
losing w q = record w { lost = adding w.lost q }

-- a start turns normal and joining into reconfiguration
abbrev pub started : Mode → Mode
started Waiting = Waiting
started Joining = Reconfiguration
started Normal = Reconfiguration
started Reconfiguration = Reconfiguration

-- ---- the calls
-- a view is taken up
unfoldable pub viewed : (ℕ → ℕ → Bool) → Need → ℕ → Page → Row → Head → Result Effect Fault
viewed f need r p w h = given (view_refusal r p w h) (taking_up f need r p w h)

abbrev pub heard_or_not : (ℕ → ℕ → Bool) → Need → ℕ → Page → Row → Head → Result (Turn Stage) Reason → Result Effect Fault
heard_or_not f need r p w h (Err reason) = Err (refusal reason r)
heard_or_not f need r p w h (Ok t) = Ok (following f need r p (in_stage t.left w) h t.hearing)

abbrev pub delivered_to : (ℕ → ℕ → Bool) → Need → ℕ → Page → Row → Message → Option Fault → Result Effect Fault
delivered_to f need r p w m (Some fault) = Err fault
delivered_to f need r p w m None = heard_or_not f need r p w m.head (hears p w m.sender m.body)

-- a message is delivered
unfoldable pub delivered : (ℕ → ℕ → Bool) → Need → ℕ → Page → Row → Message → Result Effect Fault
delivered f need r p w m = delivered_to f need r p w m (delivery_refusal r p w m)

-- a replica of the head is lost
unfoldable pub lost_at : (ℕ → ℕ → Bool) → Need → ℕ → Page → Row → ℕ → Result Effect Fault
lost_at f need r p w q = given (loss_refusal r p w q) (judged f need r p (losing w q) None)

-- a replica stops
unfoldable pub stopped_at : ℕ → Page → Row → Result Effect Fault
stopped_at r p w = given (call_refusal r p w) (effect p (empty_row false) Nothing)

-- a replica starts
unfoldable pub started_at : ℕ → Page → Row → Result Effect Fault
started_at r p w = given (start_refusal r p w) (effect (in_mode (started p.mode) p) (empty_row true) Nothing)

-- ---- what is answered and left
abbrev pub answer_of : Result Effect Fault → Result Answer Fault
answer_of (Ok e) = Ok e.answer
answer_of (Err fault) = Err fault

abbrev pub page_left : Page → Result Effect Fault → Page
page_left p (Ok e) = e.page
page_left p (Err fault) = p

abbrev pub row_left : Row → Result Effect Fault → Row
row_left w (Ok e) = e.row
row_left w (Err fault) = w
