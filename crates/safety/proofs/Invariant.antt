-- What holds of every world that a run reaches, and of what has happened by then. Assumes nothing.
use Rattle.std.proofs.Common.{◌≡◌, ℕ, suc, ◌<◌, ◌≤◌, Bool, true, ◌⊎◌, Some, None, Option}
use Rattle.quorum.specs.Members.{has}
use Rattle.stores.specs.declared.view.Head.{Head}
use Rattle.stores.specs.declared.view.Number.{Number}
use Rattle.stores.specs.declared.view.View.{View}
use Rattle.stores.specs.Views.{view, recorded}
use Rattle.safety.specs.Replicas.{number, Report, Phase, Row, Node, content, Message, In, Upto}
use Rattle.safety.specs.Replicas.Phase.{taken, gathering, confirming, applying, entering, round}
use Rattle.safety.specs.Replicas.Row.{idle, under}
use Rattle.safety.specs.Replicas.Message.{state_from, recorded_from, report_from}
use Rattle.safety.specs.Runs.{World}
use Rattle.safety.proofs.Fate.{May, Dead}
use Rattle.safety.proofs.History.{History}
use Rattle.safety.proofs.History.Event.{records, installs}
use Rattle.safety.proofs.Lists.{Was}
use Rattle.safety.proofs.Marks.{}
use Rattle.stores.specs.Facts.{Marked}
use Rattle.safety.proofs.Promises.{Promise}

-- q has recorded under stamps below s only
abbrev pub Below : History → ℕ → ℕ → Type 0
Below past q s = (k t X : ℕ) → In (records q k t X) past → t < s

-- all of the set have recorded under h, with k
abbrev pub Heard : History → Head → ℕ → ℕ → Type 0
Heard past h k heard = (p : ℕ) → has heard p ≡ true → In (records p k h.stamp.0 h.set.0) past

-- whom a member has heard has recorded with its component view's number
abbrev pub GatheringOk : History → Node → Head → ℕ → Type 0
GatheringOk past x h heard = (k V : ℕ) → x.component ≡ Some (view k V) → Heard past h k heard

pub record ConfirmingOk (past : History) (x : Node) (h : Head) (heard : ℕ) : Type 0 where
  pub all_heard : GatheringOk past x h heard
  pub holds : (n : ℕ) × (x.recorded ≡ Some (recorded n h.set.0 h.stamp.0))

abbrev pub ApplyingOk : History → Option Number → Option View → Type 0
ApplyingOk past mark None = Unit {0}
ApplyingOk past mark (Some v) = In (installs v.number.0 v.set.0) past × Upto mark (suc v.number.0)

pub record EnteringOk (past : History) (x : Node) (h : Head) (v : View) (heard : ℕ) : Type 0 where
  pub reference : In (installs v.number.0 v.set.0) past
  pub holds : x.recorded ≡ Some (recorded (suc v.number.0) h.set.0 h.stamp.0)
  pub all_heard : Heard past h v.number.0 heard

-- a row that has recorded its head as a member
abbrev pub Confirms : Row → Type 0
Confirms idle = ⊥
Confirms (under h taken) = ⊥
Confirms (under h (gathering heard)) = ⊥
Confirms (under h (confirming heard)) = Unit {0}
Confirms (under h (applying o)) = ⊥
Confirms (under h (entering v heard)) = ⊥
Confirms (under h (round reports)) = ⊥

module _ (carries : ℕ → ℕ → Bool) where
  pub record RoundOk (past : History) (w : World) (q : ℕ) (x : Node) (h : Head) (reports : ℕ → Option Report) : Type 0 where
    pub below : Below past q h.stamp.0
    pub own : reports q ≡ Some (content x)
    pub promised : (p : ℕ) (m : Report) → reports p ≡ Some m → Promise carries past w p h m

  abbrev pub PhaseOk : History → World → ℕ → Node → Head → Phase → Type 0
  PhaseOk past w q x h taken = Below past q h.stamp.0
  PhaseOk past w q x h (gathering heard) = GatheringOk past x h heard
  PhaseOk past w q x h (confirming heard) = ConfirmingOk past x h heard
  PhaseOk past w q x h (applying o) = ApplyingOk past x.mark o
  PhaseOk past w q x h (entering v heard) = EnteringOk past x h v heard
  PhaseOk past w q x h (round reports) = RoundOk past w q x h reports

  abbrev pub RowOk : History → World → ℕ → Node → Row → Type 0
  RowOk past w q x idle = Unit {0}
  RowOk past w q x (under h p) = (has h.set.0 q ≡ true) × (h.stamp.0 ≤ x.top.0) × PhaseOk past w q x h p

  pub record NodeOk (past : History) (w : World) (q : ℕ) (x : Node) : Type 0 where
    pub component_mark : (k V : ℕ) → x.component ≡ Some (view k V) → (x.mark ≡ Some (number k)) ⊎ (x.mark ≡ Some (number (suc k)))
    pub recorded_mark : (n X s : ℕ) → x.recorded ≡ Some (recorded n X s) → x.mark ≡ Some (number n)
    -- what it recorded as a member shows in its mark and top stamp, and it is in the set
    pub marked : (k s X : ℕ) → In (records q k s X) past → Marked x.mark (suc k)
    pub topped : (k s X : ℕ) → In (records q k s X) past → s ≤ x.top.0
    pub within : (k s X : ℕ) → In (records q k s X) past → has X q ≡ true
    -- beside a component view it holds only what it recorded as its member
    pub both : (k V n X s : ℕ) → x.component ≡ Some (view k V) → x.recorded ≡ Some (recorded n X s) → (n ≡ suc k) × In (records q k s X) past
    -- the heart: what it recorded with its component view it holds still, or that is dead
    pub chose : (k V s X : ℕ) → x.component ≡ Some (view k V) → In (records q k s X) past → (x.recorded ≡ Some (recorded (suc k) X s)) ⊎ Dead carries past w k V s X
    pub known : (k V : ℕ) → x.component ≡ Some (view k V) → In (installs k V) past
    -- in normal mode nothing is recorded until its head is confirmed
    pub free : x.normal ≡ true → (x.recorded ≡ None) ⊎ Confirms x.row
    pub row_ok : RowOk past w q x x.row

  abbrev pub MessageOk : History → World → Message → Type 0
  MessageOk past w (state_from q h v) = In (installs v.number.0 v.set.0) past
  MessageOk past w (recorded_from q h n) = (k : ℕ) × (n.0 ≡ suc k) × In (records q k h.stamp.0 h.set.0) past
  MessageOk past w (report_from q h m) = Promise carries past w q h m

  -- members of the predecessor, a part that carries it, have recorded the view (n, X) under one stamp
  pub record Backed (past : History) (n X : ℕ) : Type 0 where
    pub num : ℕ
    pub set : ℕ
    pub stamp : ℕ
    pub part : ℕ
    pub next : n ≡ suc num
    pub was : In (installs num set) past
    pub carried : carries part set ≡ true
    pub each : (q : ℕ) → q < 16 → has part q ≡ true → has set q ≡ true → In (records q num stamp X) past

  -- one view to a number, and each but the first is backed
  pub record Rooted (first : View) (past : History) : Type 0 where
    pub single : (n X Y : ℕ) → In (installs n X) past → In (installs n Y) past → X ≡ Y
    pub backed : (n X : ℕ) → In (installs n X) past → ((n ≡ first.number.0) × (X ≡ first.set.0)) ⊎ Backed past n X

  -- of two successors of one view that one replica recorded, one is dead
  abbrev pub Rivals : History → World → Type 0
  Rivals past w = (q k s X t Y : ℕ) → In (records q k s X) past → In (records q k t Y) past → ((s ≡ t) × (X ≡ Y)) ⊎ ((V : ℕ) × In (installs k V) past × (Dead carries past w k V s X ⊎ Dead carries past w k V t Y))

  pub record Invariant (first : View) (past : History) (w : World) : Type 0 where
    pub nodes : (q : ℕ) → NodeOk past w q (w.at q)
    pub mail : (m : Message) → In m w.post → MessageOk past w m
    pub rooted : Rooted first past
    pub rivals : Rivals past w

-- What came later: history grew, nobody may record more than before, and who has recorded since might have.
pub record Later (past : History) (w : World) (past' : History) (w' : World) : Type 0 where
  pub more : Was past past'
  pub may : (q s X : ℕ) → May (w'.at q) s X → May (w.at q) s X
  pub new : (q k s X : ℕ) → In (records q k s X) past' → In (records q k s X) past ⊎ May (w.at q) s X
