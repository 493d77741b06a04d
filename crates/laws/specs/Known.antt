-- What a replica knows under a head once a call has brought its part, before the head is judged. Assumes nothing.
use Rattle.std.specs.Prelude.{ℕ, Bool, true, false, List, [], Some, None, Option, slice_set}
use Rattle.quorum.specs.Sets.{nobody_set, both, single}
use Rattle.quorum.specs.declared.set.ReplicaSet.{ReplicaSet}
use Rattle.rounds.specs.declared.report.Report.{Report}
use Rattle.rows.specs.Recorders.{adding, no_recorders, recorders_with}
use Rattle.rows.specs.declared.message.Body.{Body}
use Rattle.rows.specs.declared.message.Body.TheVariants.{State, Abort, Join, Recorded, Report as Reports}
use Rattle.rows.specs.declared.message.Message.{Message}
use Rattle.rows.specs.declared.message.Part.{Part}
use Rattle.rows.specs.declared.message.Posts.{Posts}
use Rattle.rows.specs.declared.message.Posts.TheVariants.{Nothing, One, Two}
use Rattle.rows.specs.declared.row.Recorders.{Recorders}
use Rattle.rows.specs.declared.row.Reference.{Reference}
use Rattle.rows.specs.declared.row.Row.{Row}
use Rattle.rows.specs.declared.row.Stage.{Stage}
use Rattle.rows.specs.declared.row.Stage.TheVariants.{Idle, Gathering, Confirming, Applying, Entering, Round}
use Rattle.stores.specs.declared.page.Mode.{Mode}
use Rattle.stores.specs.declared.page.Mode.TheVariants.{Waiting, Joining, Normal, Reconfiguration}
use Rattle.stores.specs.declared.page.Page.{Page}
use Rattle.stores.specs.declared.view.Head.{Head}
use Rattle.manager.specs.Calls.{head_of, own_reports}
use Rattle.manager.specs.Effects.{in_mode}
use Rattle.manager.specs.Hearing.{fixed}
use Rattle.manager.specs.Requests.{Request}
use Rattle.manager.specs.Requests.Request.{view, delivery, loss, start, stop}

-- What is known under a head: whose State, who recorded and in what part, whose Join, the reference of a newcomer, the
-- reports of a round, who is lost, who survives, and whether the head is recorded.
pub record Known : Type 0 where
  pub states : ReplicaSet
  pub recorders : Recorders
  pub joins : ReplicaSet
  pub reference : Option Reference
  pub reports : List (Option Report)
  pub lost : ReplicaSet
  pub survivors : ReplicaSet
  pub recorded : Bool

-- ---- what a row has
-- nothing but who is lost and who survives; no head is recorded
abbrev pub nothing_heard : ReplicaSet → ReplicaSet → Known
nothing_heard lost survivors = record {
  states = nobody_set;
  recorders = no_recorders;
  joins = nobody_set;
  reference = None;
  reports = [];
  lost = lost;
  survivors = survivors;
  recorded = false;
}

-- what was heard in a stage; confirming and entering have recorded the head
abbrev pub heard_in : Known → Stage → Known
heard_in k Idle = k
heard_in k (Gathering h g) = record k { states = g.states; recorders = g.recorders }
heard_in k (Confirming h g) = record k { recorders = g.recorders; recorded = true }
heard_in k (Applying h a) = record k { states = a.states; joins = a.joins; reference = a.reference }
heard_in k (Entering h e) = record k { recorders = e.recorders; reference = Some e.reference; recorded = true }
heard_in k (Round h rs) = record k { reports = rs }

abbrev pub known_in : Row → Known
known_in w = heard_in (nothing_heard w.lost w.survivors) w.stage

-- ---- what a call brings
-- what the sender of a message tells; the first State fixes the reference
abbrev pub telling : Known → ℕ → Body → Known
telling k q (State c s) = record k { states = adding k.states q; reference = Some (fixed k.reference c s) }
telling k q Abort = k
telling k q Join = record k { joins = adding k.joins q }
telling k q (Recorded n part) = record k { recorders = recorders_with k.recorders q part }
telling k q (Reports m) = record k { reports = slice_set k.reports q (Some m) }

-- Of a view just taken up nothing was heard but the replica's own word: a member's State, or its Report where a round
-- begins. A member's survivors keep only the view's members.
abbrev pub taken_up : ℕ → Page → Row → Head → Mode → Known
taken_up r p w h Waiting = nothing_heard w.lost w.survivors
taken_up r p w h Joining = nothing_heard w.lost w.survivors
taken_up r p w h Normal = record (nothing_heard w.lost (record { 0 = both w.survivors.0 h.set.0 })) {
  states = record { 0 = single r };
  reports = own_reports r (in_mode Reconfiguration p);
}
taken_up r p w h Reconfiguration = record (nothing_heard w.lost w.survivors) { reports = own_reports r p }

-- what is known once the call has brought its part; a start and a stop know nothing
abbrev pub known : ℕ → Page → Row → Request → Known
known r p w (view h) = taken_up r p w h p.mode
known r p w (delivery m) = telling (known_in w) m.sender m.body
known r p w (loss q) = record (known_in w) { lost = adding w.lost q }
known r p w start = nothing_heard nobody_set nobody_set
known r p w stop = nothing_heard nobody_set nobody_set

-- ---- the replica's own Recorded
-- the last message to be posted
abbrev pub last_of : Posts → Option Message
last_of Nothing = None
last_of (One m) = Some m
last_of (Two m n) = Some n

-- in what part a message says that its sender recorded
abbrev pub part_in : Body → Option Part
part_in (State c s) = None
part_in Abort = None
part_in Join = None
part_in (Recorded n part) = Some part
part_in (Reports m) = None

abbrev pub part_told : Option Message → Option Part
part_told None = None
part_told (Some m) = part_in m.body

-- with replica r, if it recorded, in this part
abbrev pub with_own : ℕ → Known → Option Part → Known
with_own r k None = k
with_own r k (Some part) = record k { recorders = recorders_with k.recorders r part; recorded = true }

-- what is known with the replica's own Recorded counted, where the call posts one
abbrev pub counted : ℕ → Known → Posts → Known
counted r k posts = with_own r k (part_told (last_of posts))

-- ---- the head under which a call works: of a view its own, else the open one; a start and a stop work under none
abbrev pub head_under : Row → Request → Option Head
head_under w (view h) = Some h
head_under w (delivery m) = head_of w.stage
head_under w (loss q) = head_of w.stage
head_under w start = None
head_under w stop = None
