-- What recording, installing, closing and the end of a round rest on: what is known under the head. `f p s` says
-- whether the part p carries the set s. Assumes nothing.
use Rattle.std.specs.Prelude.{◌≡◌, ℕ, ◌+◌, ◌<◌, ◌≤◌, Bool, true, false, ◌⊎◌, Some, None, Option}
use Rattle.quorum.specs.Below.{within}
use Rattle.quorum.specs.Members.{size}
use Rattle.quorum.specs.Sets.{either, both, less}
use Rattle.quorum.specs.declared.set.ReplicaSet.{ReplicaSet}
use Rattle.rounds.specs.Decision.{decided}
use Rattle.rounds.specs.declared.outcome.Outcome.{Outcome}
use Rattle.rounds.specs.declared.outcome.Outcome.TheVariants.{SettledByHolders, SettledByClear, SettledByAll, LostMember, NoComponent, NotCarried, MarkedPast, Undecided, Spare}
use Rattle.rounds.specs.declared.report.Report.{Report}
use Rattle.rows.specs.Rows.{under_head}
use Rattle.rows.specs.declared.message.Body.TheVariants.{Report as Reports}
use Rattle.rows.specs.declared.message.Message.{Message}
use Rattle.rows.specs.declared.message.Part.{Part}
use Rattle.rows.specs.declared.message.Posts.{Posts}
use Rattle.rows.specs.declared.message.Part.TheVariants.{Member, Newcomer}
use Rattle.rows.specs.declared.row.Applied.{Applied}
use Rattle.rows.specs.declared.row.Reference.{Reference}
use Rattle.rows.specs.declared.row.Row.{Row}
use Rattle.rows.specs.declared.row.Stage.{Stage}
use Rattle.rows.specs.declared.row.Stage.TheVariants.{Idle, Gathering, Confirming, Applying, Entering, Round}
use Rattle.stores.specs.declared.page.Mode.{Mode}
use Rattle.stores.specs.declared.page.Mode.TheVariants.{Waiting, Joining, Normal, Reconfiguration}
use Rattle.stores.specs.declared.page.Page.{Page}
use Rattle.stores.specs.declared.view.Head.{Head}
use Rattle.stores.specs.declared.view.Recorded.{Recorded as RecordedView}
use Rattle.stores.specs.declared.view.View.{View}
use Rattle.stores.specs.Views.{recorded as recorded_view}
use Rattle.manager.specs.Effects.{recorded_message}
use Rattle.manager.specs.Hearing.{base_of, above}
use Rattle.manager.specs.Requests.{Request}
use Rattle.manager.specs.Requests.Request.{view, delivery, loss, start, stop}
use Rattle.manager.specs.Verdicts.{need_of, unheard, nobody, sources_of, possible_senders, asked, need_met, heard_of}
use Rattle.manager.specs.declared.need.Need.{Need}
use Rattle.laws.specs.Known.{Known, last_of}

-- ---- what is known of newcomers, States, members and a round
-- every newcomer, a member of the head outside these survivors, is known to have recorded
abbrev pub AllRecorded : Head → ReplicaSet → Known → Type 0
AllRecorded h survivors k = nobody (unheard h survivors.0 k.recorders) ≡ true

-- a newcomer not known to have recorded is lost
abbrev pub LostUnheard : Head → ReplicaSet → Known → Type 0
LostUnheard h survivors k = nobody (both (unheard h survivors.0 k.recorders) k.lost.0) ≡ false

-- the head has no newcomers: each of its members is a survivor
abbrev pub NoNewcomers : Head → Known → Type 0
NoNewcomers h k = within h.set.0 k.survivors.0 ≡ true

-- as many States are known as needed of a set
abbrev pub EnoughStates : Need → Known → ℕ → Type 0
EnoughStates need k set = need_of need (size set) ≤ size k.states.0

-- States known and survivors not lost are fewer than needed of a set
abbrev pub TooFewStates : Need → Known → ℕ → Type 0
TooFewStates need k set = size (either k.states.0 (less k.survivors.0 k.lost.0)) < need_of need (size set)

-- of these survivors those known to have recorded as members carry a set
abbrev pub Carried : (ℕ → ℕ → Bool) → Known → ReplicaSet → ℕ → Type 0
Carried f k survivors set = f (both k.recorders.members.0 survivors.0) set ≡ true

-- of these survivors those known to have recorded as members, with those not lost, do not carry a set
abbrev pub Uncarriable : (ℕ → ℕ → Bool) → Known → ReplicaSet → ℕ → Type 0
Uncarriable f k survivors set =
    f (either (both k.recorders.members.0 survivors.0) (less survivors.0 k.lost.0)) set ≡ false

-- what a waiting replica knows
abbrev pub applied_of : Known → Applied
applied_of k = record { joins = k.joins; states = k.states; reference = k.reference }

-- a waiting replica has no sources
abbrev pub NoSources : ℕ → Head → Known → Type 0
NoSources r h k = nobody (sources_of r h (applied_of k)) ≡ true

-- States known and those who may still send one are fewer than needed
abbrev pub TooFewSenders : Need → ℕ → Head → Known → Type 0
TooFewSenders need r h k =
    size (either k.states.0 (possible_senders r k.lost.0 h (applied_of k) k.reference)) <
    need_of need (asked r h (applied_of k) k.reference)

-- a waiting replica does not know as many States as needed
abbrev pub NeedUnmet : Need → Known → Type 0
NeedUnmet need k = need_met need (applied_of k) k.reference ≡ false

-- a member of the head is lost
abbrev pub LostOne : Head → Known → Type 0
LostOne h k = nobody (both k.lost.0 h.set.0) ≡ false

-- the reports of all the head's members are known
abbrev pub AllReported : Head → Known → Type 0
AllReported h k = within h.set.0 (heard_of k.reports) ≡ true

-- ---- recording under the number n, with or without a component view, what was not recorded yet
-- a member: no newcomers, or all of them recorded and States enough
pub record MemberRecords (need : Need) (h : Head) (k : Known) (component : Option View) (n : ℕ) : Type 0 where
  pub view : View
  pub is : component ≡ Some view
  pub next : n ≡ view.number.0 + 1
  pub once : k.recorded ≡ false
  pub known : NoNewcomers h k ⊎ (AllRecorded h k.survivors k × EnoughStates need k view.set.0)

-- a newcomer: States enough of the reference's set
pub record NewcomerRecords (need : Need) (k : Known) (component : Option View) (n : ℕ) : Type 0 where
  pub without : component ≡ None
  pub reference : Reference
  pub is : k.reference ≡ Some reference
  pub next : n ≡ reference.component.number.0 + 1
  pub once : k.recorded ≡ false
  pub enough : EnoughStates need k reference.component.set.0

-- in either part
abbrev pub RecordingGrounds : Need → Head → Known → Option View → ℕ → Part → Type 0
RecordingGrounds need h k component n Member = MemberRecords need h k component n
RecordingGrounds need h k component n Newcomer = NewcomerRecords need k component n

-- a view is recorded: the head's set and stamp under a number that the last message tells, with the grounds for it
pub record RecordedBy (need : Need) (r : ℕ) (head : Option Head) (k : Known) (component : Option View)
    (recorded : Option RecordedView) (posts : Posts) : Type 0 where
  pub under : Head
  pub is : head ≡ Some under
  pub number : ℕ
  pub part : Part
  pub view : recorded ≡ Some (recorded_view number under.set.0 under.stamp.0)
  pub told : last_of posts ≡ Some (recorded_message r under number part)
  pub grounds : RecordingGrounds need under k component number part

-- ---- installing what is recorded
-- a member: recording members among the survivors carry the component view's set
pub record MemberInstalls (f : ℕ → ℕ → Bool) (k : Known) (component : Option View) : Type 0 where
  pub view : View
  pub is : component ≡ Some view
  pub held : k.recorded ≡ true
  pub carried : Carried f k k.survivors view.set.0

-- a newcomer: every newcomer recorded, and recording members among the reference's survivors carry the reference's set
pub record NewcomerInstalls (f : ℕ → ℕ → Bool) (h : Head) (k : Known) (component : Option View) : Type 0 where
  pub without : component ≡ None
  pub reference : Reference
  pub is : k.reference ≡ Some reference
  pub held : k.recorded ≡ true
  pub all : AllRecorded h reference.survivors k
  pub carried : Carried f k reference.survivors reference.component.set.0

-- as either
abbrev pub InstallingGrounds : (ℕ → ℕ → Bool) → Head → Known → Option View → Type 0
InstallingGrounds f h k component = MemberInstalls f k component ⊎ NewcomerInstalls f h k component

-- ---- why a head closes before its view is installed or its round ends
-- The mode becomes reconfiguration.
pub data GivingUp (f : ℕ → ℕ → Bool) (need : Need) (h : Head) (k : Known) (component : Option View)
    (recorded : Option RecordedView) : Type 0 where
  -- a member has not recorded, and can no longer know as many States as needed
  too_few_states : (c : View) (its : component ≡ Some c) (yet : k.recorded ≡ false) (few : TooFewStates need k c.set.0)
      → GivingUp f need h k component recorded
  -- it has recorded, and its component view can no longer be carried
  member_uncarriable : (c : View) (its : component ≡ Some c) (held : k.recorded ≡ true)
      (under : under_head h recorded ≡ true) (lacks : Uncarriable f k k.survivors c.set.0)
      → GivingUp f need h k component recorded
  -- a newcomer has recorded, as all have, and its reference can no longer be carried
  newcomer_uncarriable : (x : Reference) (without : component ≡ None) (its : k.reference ≡ Some x)
      (held : k.recorded ≡ true) (under : under_head h recorded ≡ true) (all : AllRecorded h x.survivors k)
      (lacks : Uncarriable f k x.survivors x.component.set.0)
      → GivingUp f need h k component recorded

-- Page and mode stay.
pub data Leaving (need : Need) (r : ℕ) (h : Head) (k : Known) (component : Option View) (mode : Mode) : Type 0 where
  -- a member has not recorded and knows States enough, and a newcomer is lost unheard
  newcomer_lost : (c : View) (its : component ≡ Some c) (normal : mode ≡ Normal) (yet : k.recorded ≡ false)
      (enough : EnoughStates need k c.set.0) (gone : LostUnheard h k.survivors k)
      → Leaving need r h k component mode
  -- a waiting replica has no sources, or can no longer know as many States as needed
  no_sources : (waiting : mode ≡ Waiting) (yet : k.recorded ≡ false) (unmet : NeedUnmet need k) (none : NoSources r h k)
      → Leaving need r h k component mode
  too_few_senders : (waiting : mode ≡ Waiting) (yet : k.recorded ≡ false) (few : TooFewSenders need r h k)
      → Leaving need r h k component mode

-- A newcomer that recorded waits again, since another newcomer is lost unheard.
pub record Forgetting (h : Head) (k : Known) (component : Option View) : Type 0 where
  pub without : component ≡ None
  pub reference : Reference
  pub is : k.reference ≡ Some reference
  pub held : k.recorded ≡ true
  pub gone : LostUnheard h reference.survivors k

-- ---- a round
-- all reports are known, and the decision gives this outcome with this view
abbrev pub DecidedSo : (ℕ → ℕ → Bool) → Head → Known → Outcome → Option View → Type 0
DecidedSo f h k o v = AllReported h k × ((o, v) ≡ decided f h k.reports)

-- the request delivers a Report of mode normal with a component view above the base of the page
pub record OutdoneBy (p : Page) (q : Request) : Type 0 where
  pub message : Message
  pub delivers : q ≡ delivery message
  pub report : Report
  pub tells : message.body ≡ Reports report
  pub normal : report.mode ≡ Normal
  pub higher : above (base_of p.component p.recorded) report.component ≡ true

-- what each outcome rests on
abbrev pub EndingGrounds : (ℕ → ℕ → Bool) → Head → Known → Page → Request → Outcome → Option View → Type 0
EndingGrounds f h k p q SettledByHolders v = DecidedSo f h k SettledByHolders v
EndingGrounds f h k p q SettledByClear v = DecidedSo f h k SettledByClear v
EndingGrounds f h k p q SettledByAll v = DecidedSo f h k SettledByAll v
EndingGrounds f h k p q LostMember v = (v ≡ None) × LostOne h k
EndingGrounds f h k p q NoComponent v = DecidedSo f h k NoComponent v
EndingGrounds f h k p q NotCarried v = DecidedSo f h k NotCarried v
EndingGrounds f h k p q MarkedPast v = DecidedSo f h k MarkedPast v
EndingGrounds f h k p q Undecided v = DecidedSo f h k Undecided v
EndingGrounds f h k p q Spare v = (v ≡ None) × OutdoneBy p q

-- the stage is a round
abbrev pub IsRound : Stage → Type 0
IsRound Idle = ⊥
IsRound (Gathering h g) = ⊥
IsRound (Confirming h g) = ⊥
IsRound (Applying h a) = ⊥
IsRound (Entering h e) = ⊥
IsRound (Round h rs) = Unit {0}

-- survivors within the view do not carry the component view
abbrev pub Uncarrying : (ℕ → ℕ → Bool) → ReplicaSet → Head → Option View → Type 0
Uncarrying f survivors h None = ⊥
Uncarrying f survivors h (Some c) = f (both survivors.0 h.set.0) c.set.0 ≡ false

-- a view taken up in this mode begins a round: in reconfiguration, and with a member whose survivors do not carry
abbrev pub Begins : (ℕ → ℕ → Bool) → ReplicaSet → Head → Option View → Mode → Type 0
Begins f survivors h component Waiting = ⊥
Begins f survivors h component Joining = ⊥
Begins f survivors h component Normal = Uncarrying f survivors h component
Begins f survivors h component Reconfiguration = Unit {0}

-- a call is in a round: the row is, or the view begins one
abbrev pub InRound : (ℕ → ℕ → Bool) → Page → Row → Request → Type 0
InRound f p w (view h) = Begins f w.survivors h p.component p.mode
InRound f p w (delivery m) = IsRound w.stage
InRound f p w (loss q) = IsRound w.stage
InRound f p w start = ⊥
InRound f p w stop = ⊥
