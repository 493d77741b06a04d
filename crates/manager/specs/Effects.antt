-- What a call leaves: recording, installing, settling, closing, and what judging comes to. Assumes nothing.
use Rattle.std.specs.Prelude.{ℕ, ◌+◌, max, Bool, if◌then◌else◌, Some, None, Option, nat_lt}
use Rattle.quorum.specs.Members.{has}
use Rattle.quorum.specs.Sets.{nobody_set}
use Rattle.rounds.specs.declared.outcome.Outcome.{Outcome}
use Rattle.stores.specs.declared.page.Mode.{Mode}
use Rattle.stores.specs.declared.page.Mode.TheVariants.{Waiting, Joining, Normal, Reconfiguration}
use Rattle.stores.specs.declared.page.Page.{Page}
use Rattle.stores.specs.declared.view.Head.{Head}
use Rattle.stores.specs.declared.view.Number.{Number}
use Rattle.stores.specs.declared.view.Recorded.{Recorded as RecordedView}
use Rattle.stores.specs.declared.view.View.{View}
use Rattle.stores.specs.Views.{recorded as recorded_view}
use Rattle.manager.specs.declared.answer.Answer.{Answer}
use Rattle.rows.specs.Recorders.{no_recorders, recorders_with}
use Rattle.rows.specs.declared.message.Body.TheVariants.{Recorded}
use Rattle.rows.specs.declared.message.Message.{Message}
use Rattle.rows.specs.declared.message.Part.{Part}
use Rattle.rows.specs.declared.message.Part.TheVariants.{Member, Newcomer}
use Rattle.rows.specs.declared.message.Posts.{Posts}
use Rattle.rows.specs.declared.message.Posts.TheVariants.{Nothing, One, Two}
use Rattle.manager.specs.declared.need.Need.{Need}
use Rattle.rows.specs.declared.row.Gathered.{Gathered}
use Rattle.rows.specs.declared.row.Reference.{Reference}
use Rattle.rows.specs.declared.row.Row.{Row}
use Rattle.rows.specs.declared.row.Stage.{Stage}
use Rattle.rows.specs.declared.row.Stage.TheVariants.{Idle, Gathering, Confirming, Applying, Entering, Round}
use Rattle.manager.specs.declared.verdict.Verdict.{Verdict}
use Rattle.manager.specs.declared.verdict.Verdict.TheVariants.{Stays, Records, Installs, Reconfigures, Closes, Forgets, Ends}
use Rattle.manager.specs.Verdicts.{verdict_of}

-- what an accepted call leaves and answers
pub record Effect : Type 0 where
  pub page : Page
  pub row : Row
  pub answer : Answer

abbrev pub effect : Page → Row → Posts → Effect
effect p w posts = record { page = p; row = w; answer = record { posts = posts; ended = None } }

-- the same where a round ended
abbrev pub ending : Page → Row → Posts → Outcome → Option View → Effect
ending p w posts o v = record { page = p; row = w; answer = record { posts = posts; ended = Some (o, v) } }

-- ---- pages and rows
abbrev pub in_mode : Mode → Page → Page
in_mode m p = record p { mode = m }

abbrev pub in_stage : Stage → Row → Row
in_stage s w = record w { stage = s }

-- the head closes: idle, with nothing lost or heard
abbrev pub closed : Row → Row
closed w = record w { lost = nobody_set; stage = Idle }

-- a mark raised to a number
abbrev pub raised : Option Number → ℕ → Number
raised None n = record { 0 = n }
raised (Some m) n = record { 0 = max m.0 n }

-- the page with the head recorded under the number n
abbrev pub recording : Mode → Page → Head → ℕ → Page
recording m p h n = record p { mode = m; mark = Some (raised p.mark n); recorded = Some (recorded_view n h.set.0 h.stamp.0) }

-- the page and row with a view as the component view, nothing recorded, and the view's set as the survivors
abbrev pub component_page : Page → Option Number → View → Page
component_page p m v = record p { mode = Normal; mark = m; component = Some v; recorded = None }

abbrev pub component_row : Row → View → Row
component_row w v = record w { lost = nobody_set; survivors = v.set; stage = Idle }

-- a spare: waiting, with neither view, the mark kept
abbrev pub spare_page : Page → Page
spare_page p = record p { mode = Waiting; component = None; recorded = None }

abbrev pub spare_row : Row → Row
spare_row w = record w { lost = nobody_set; survivors = nobody_set; stage = Idle }

-- ---- the end of a head
-- the recorded view becomes the component view
abbrev pub installing : Page → Row → Posts → Option RecordedView → Effect
installing p w posts None = effect p (closed w) posts
installing p w posts (Some s) = effect (component_page p p.mark s.view) (component_row w s.view) posts

-- a settled view becomes the component view, the mark raised to it; a replica outside it becomes a spare
abbrev pub settling : ℕ → Page → Row → Posts → Outcome → Option View → Effect
settling r p w posts o None = ending p (closed w) posts o None
settling r p w posts o (Some v) =
    if has v.set.0 r then ending (component_page p (Some (raised p.mark v.number.0)) v) (component_row w v) posts o (Some v)
    else ending (spare_page p) (spare_row w) posts o (Some v)

-- what a verdict comes to; recording is not among them
abbrev pub carried_out : ℕ → Page → Row → Posts → Verdict → Effect
carried_out r p w posts Stays = effect p w posts
carried_out r p w posts Records = effect p w posts
carried_out r p w posts Installs = installing p w posts p.recorded
carried_out r p w posts Reconfigures = effect (in_mode Reconfiguration p) (closed w) posts
carried_out r p w posts Closes = effect p (closed w) posts
carried_out r p w posts Forgets = effect (record p { mode = Waiting; recorded = None }) (closed w) posts
carried_out r p w posts (Ends o v) = settling r p w posts o v

-- ---- recording
-- a member records the head with its component view's number plus one; its own Recorded counts as heard
abbrev pub member_row : ℕ → Row → Head → Gathered → Row
member_row r w h g = in_stage (Confirming h (record { recorders = recorders_with g.recorders r Member; answered = g.answered })) w

-- a newcomer records it with the reference's number plus one
abbrev pub newcomer_row : ℕ → Row → Head → Reference → Row
newcomer_row r w h x = in_stage (Entering h (record { reference = x; recorders = recorders_with no_recorders r Newcomer })) w

-- Recorded of replica r under its head
abbrev pub recorded_message : ℕ → Head → ℕ → Part → Message
recorded_message r h n part = record { sender = r; head = h; body = Recorded (record { 0 = n }) part }

-- the number after one; the highest, 1,000,000,000, has none
abbrev pub next_of : Number → Option Number
next_of n = if nat_lt n.0 1000000000 then Some (record { 0 = n.0 + 1 }) else None

abbrev pub next_component : Option View → Option Number
next_component None = None
next_component (Some c) = next_of c.number

-- page, row and message of a recording
pub record Entry : Type 0 where
  pub page : Page
  pub row : Row
  pub message : Option Message

abbrev pub no_entry : Page → Row → Entry
no_entry p w = record { page = p; row = w; message = None }

abbrev pub member_entry : ℕ → Page → Row → Head → Gathered → Option Number → Entry
member_entry r p w h g None = no_entry p w
member_entry r p w h g (Some n) = record { page = recording p.mode p h n.0; row = member_row r w h g; message = Some (recorded_message r h n.0 Member) }

abbrev pub numbered_entry : ℕ → Page → Row → Head → Reference → Option Number → Entry
numbered_entry r p w h x None = no_entry p w
numbered_entry r p w h x (Some n) = record { page = recording Joining p h n.0; row = newcomer_row r w h x; message = Some (recorded_message r h n.0 Newcomer) }

abbrev pub newcomer_entry : ℕ → Page → Row → Head → Option Reference → Entry
newcomer_entry r p w h None = no_entry p w
newcomer_entry r p w h (Some x) = numbered_entry r p w h x (next_of x.component.number)

abbrev pub stage_entry : ℕ → Page → Row → Stage → Entry
stage_entry r p w Idle = no_entry p w
stage_entry r p w (Gathering h g) = member_entry r p w h g (next_component p.component)
stage_entry r p w (Confirming h g) = no_entry p w
stage_entry r p w (Applying h a) = newcomer_entry r p w h a.reference
stage_entry r p w (Entering h e) = no_entry p w
stage_entry r p w (Round h rs) = no_entry p w

unfoldable pub entry_of : ℕ → Page → Row → Entry
entry_of r p w = stage_entry r p w w.stage

-- one message after another
abbrev pub posts_of : Option Message → Option Message → Posts
posts_of None None = Nothing
posts_of None (Some m) = One m
posts_of (Some m) None = One m
posts_of (Some m) (Some n) = Two m n

-- ---- judging
-- recorded, and judged again
abbrev pub judged_again : (ℕ → ℕ → Bool) → Need → ℕ → Option Message → Entry → Effect
judged_again f need r m e = carried_out r e.page e.row (posts_of m e.message) (verdict_of f need r e.page e.row)

abbrev pub judged_by : (ℕ → ℕ → Bool) → Need → ℕ → Page → Row → Option Message → Verdict → Effect
judged_by f need r p w m Stays = carried_out r p w (posts_of m None) Stays
judged_by f need r p w m Records = judged_again f need r m (entry_of r p w)
judged_by f need r p w m Installs = carried_out r p w (posts_of m None) Installs
judged_by f need r p w m Reconfigures = carried_out r p w (posts_of m None) Reconfigures
judged_by f need r p w m Closes = carried_out r p w (posts_of m None) Closes
judged_by f need r p w m Forgets = carried_out r p w (posts_of m None) Forgets
judged_by f need r p w m (Ends o v) = carried_out r p w (posts_of m None) (Ends o v)

-- the head is judged, after a message that the call posts first, if any
abbrev pub judged : (ℕ → ℕ → Bool) → Need → ℕ → Page → Row → Option Message → Effect
judged f need r p w m = judged_by f need r p w m (verdict_of f need r p w)
