-- Where the component view and the recorded view go, and on what evidence. Assumes nothing.
use Rattle.std.specs.Prelude.{◌≡◌, ℕ, ◌+◌, Bool, false, ◌⊎◌, Some, None, Option}
use Rattle.quorum.specs.Members.{has}
use Rattle.quorum.specs.declared.set.ReplicaSet.{ReplicaSet}
use Rattle.rounds.specs.declared.outcome.Outcome.{Outcome}
use Rattle.rounds.specs.declared.outcome.Outcome.TheVariants.{Spare}
use Rattle.rows.specs.declared.message.Body.TheVariants.{State}
use Rattle.rows.specs.declared.message.Message.{Message}
use Rattle.rows.specs.declared.message.Part.{Part}
use Rattle.rows.specs.declared.row.Applied.{Applied}
use Rattle.rows.specs.declared.row.Reference.{Reference}
use Rattle.rows.specs.declared.row.Stage.TheVariants.{Applying}
use Rattle.stores.specs.declared.page.Mode.TheVariants.{Waiting}
use Rattle.stores.specs.declared.page.Page.{Page}
use Rattle.stores.specs.declared.view.Head.{Head}
use Rattle.stores.specs.declared.view.Recorded.{Recorded as RecordedView}
use Rattle.stores.specs.declared.view.View.{View}
use Rattle.manager.specs.declared.need.Need.{Need}
use Rattle.manager.specs.Effects.{Effect, recorded_message}
use Rattle.manager.specs.Requests.Request.{delivery}
use Rattle.laws.specs.Grounds.{RecordedBy, RecordingGrounds, InstallingGrounds, Forgetting}
use Rattle.laws.specs.Known.{Known, known, last_of, part_told, counted, head_under}
use Rattle.laws.specs.Laws.{EveryCall}

-- ---- the component view
-- v is installed: its set is the head's, its number one above the component view's; it was recorded under the head
-- before the call, or in the call, which then posts the Recorded that tells so; recording members carry what they must
pub record Installed (f : ℕ → ℕ → Bool) (r : ℕ) (head : Option Head) (k : Known) (p : Page) (v : View) (e : Effect)
    : Type 0 where
  pub component : e.page.component ≡ Some v
  pub under : Head
  pub is : head ≡ Some under
  pub set : v.set ≡ under.set
  pub number : (c : View) → p.component ≡ Some c → v.number.0 ≡ c.number.0 + 1
  pub recorded : ((s : RecordedView) × (p.recorded ≡ Some s) × (s.view ≡ v) × (s.stamp ≡ under.stamp))
      ⊎ ((part : Part) × (last_of e.answer.posts ≡ Some (recorded_message r under v.number.0 part)))
  pub grounds : InstallingGrounds f under k p.component

-- v is settled on: the answer says that a round ended so
pub record Settled (v : View) (e : Effect) : Type 0 where
  pub component : e.page.component ≡ Some v
  pub outcome : Outcome
  pub ended : e.answer.ended ≡ Some (outcome, Some v)

-- a round ended with replica r outdone, or on a view that it is outside of
abbrev pub WithoutReplica : ℕ → Option (Outcome × Option View) → Type 0
WithoutReplica r ended =
    (ended ≡ Some (Spare, None)) ⊎ ((o : Outcome) × (v : View) × (ended ≡ Some (o, Some v)) × (has v.set.0 r ≡ false))

-- the replica becomes a spare, waiting and with no component view
pub record Spared (r : ℕ) (e : Effect) : Type 0 where
  pub component : e.page.component ≡ None
  pub mode : e.page.mode ≡ Waiting
  pub ended : WithoutReplica r e.answer.ended

-- The component view after a call, under this head and with this known, that found the page p: as it was, installed,
-- settled on, or gone with a spare.
abbrev pub Follows : (ℕ → ℕ → Bool) → ℕ → Option Head → Known → Page → Effect → Type 0
Follows f r head k p e =
    (e.page.component ≡ p.component) ⊎ ((v : View) × Installed f r head k p v e)
    ⊎ ((v : View) × Settled v e) ⊎ Spared r e

-- ---- the recorded view
-- Why there is no recorded view any more.
pub data Gone (f : ℕ → ℕ → Bool) (r : ℕ) (head : Option Head) (k : Known) (p : Page) (e : Effect) : Type 0 where
  by_installing : (v : View) (how : Installed f r head k p v e) → Gone f r head k p e
  by_settling : (v : View) (how : Settled v e) → Gone f r head k p e
  with_spare : (how : Spared r e) → Gone f r head k p e
  by_forgetting : (h : Head) (its : head ≡ Some h) (waiting : e.page.mode ≡ Waiting)
      (how : Forgetting h k p.component) → Gone f r head k p e

-- the recorded view is as it was, and no Recorded is posted
pub record Unrecorded (p : Page) (e : Effect) : Type 0 where
  pub same : e.page.recorded ≡ p.recorded
  pub untold : part_told (last_of e.answer.posts) ≡ None

-- The recorded view after a call: as it was, recorded by the call, or gone. Whenever the call posts a Recorded there
-- are grounds for it. k is known before the replica's own Recorded counts.
pub record Recording (f : ℕ → ℕ → Bool) (need : Need) (r : ℕ) (head : Option Head) (k : Known) (p : Page) (e : Effect)
    : Type 0 where
  pub view : Unrecorded p e ⊎ RecordedBy need r head k p.component e.page.recorded e.answer.posts
      ⊎ ((e.page.recorded ≡ None) × Gone f r head (counted r k e.answer.posts) p e)
  pub grounds : (h : Head) (n : ℕ) (part : Part) → head ≡ Some h →
      last_of e.answer.posts ≡ Some (recorded_message r h n part) → RecordingGrounds need h k p.component n part

-- ---- the laws
-- the component view changes only by installing or settling, or goes with a spare; a start and a stop, which work under no
-- head, leave it
pub record ComponentsFollow : Type 0 where
  pub follows : EveryCall (λ f need r p w q e.
      Follows f r (head_under w q) (counted r (known r p w q) e.answer.posts) p e)
  pub left : EveryCall (λ f need r p w q e. head_under w q ≡ None → e.page.component ≡ p.component)

-- the recorded view changes only by recording, or goes; a Recorded is posted only on its grounds
abbrev pub RecordingsRest : Type 0
RecordingsRest = EveryCall (λ f need r p w q e. Recording f need r (head_under w q) (known r p w q) p e)

-- while applying, States of one component view are heard: the reference's, which stays once it is fixed
abbrev pub OneReference : Type 0
OneReference = EveryCall (λ f need r p w q e.
    (h : Head) (a : Applied) (m : Message) (c : View) (s : ReplicaSet) →
    w.stage ≡ Applying h a → q ≡ delivery m → m.body ≡ State c s →
    (x : Reference) × ((known r p w q).reference ≡ Some x) × (x.component ≡ c)
    × ((y : Reference) → a.reference ≡ Some y → x ≡ y))
