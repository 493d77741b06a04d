-- When a call is refused, and with which number: the first of its order whose condition holds. Assumes nothing.
use Rattle.std.specs.Prelude.{◌≡◌, ℕ, ◌≤◌, Bool, true, false, ◌≢◌, ◌⊎◌, ◌↔◌, List, [], ◌∷◌, Some, Ok, Err, if◌then◌else◌, nat_lt}
use Rattle.std.specs.List.{All}
use Rattle.quorum.specs.Members.{has}
use Rattle.quorum.specs.declared.fault.Fault.{Fault}
use Rattle.quorum.specs.declared.fault.Layer.TheVariants.{Manager}
use Rattle.quorum.specs.declared.fault.Reason.{Reason}
use Rattle.quorum.specs.declared.fault.Reason.TheVariants.{NoSuchReplica, WrongPower, ViewWithoutReplica, HeadOpen, StampNotAbove, NumbersExhausted, NoHead, OtherHead, WrongParty, NotHeard, HeardAlready, AgainstRules}
use Rattle.stores.specs.Facts.{PageRules}
use Rattle.stores.specs.declared.page.Mode.TheVariants.{Normal}
use Rattle.stores.specs.declared.page.Page.{Page}
use Rattle.stores.specs.declared.view.Head.{Head}
use Rattle.stores.specs.declared.view.View.{View}
use Rattle.rows.specs.Facts.{MessageRules, RowRules}
use Rattle.rows.specs.declared.row.Row.{Row}
use Rattle.manager.specs.declared.need.Need.{Need}
use Rattle.manager.specs.Effects.{Effect}
use Rattle.manager.specs.Requests.{Request, effect_of}
use Rattle.manager.specs.Requests.Request.{view, delivery, loss, start, stop}
use Rattle.refusals.specs.Heard.{IsOpen, IsIdle, Hears, WasHeard, kind_of}

-- each call's refusals, the earliest first
abbrev pub order_of : Request → List Reason
order_of (view h) =
    AgainstRules ∷ NoSuchReplica ∷ WrongPower ∷ ViewWithoutReplica ∷ HeadOpen ∷ StampNotAbove ∷ NumbersExhausted ∷ []
order_of (delivery m) =
    AgainstRules ∷ NoSuchReplica ∷ WrongPower ∷ NoHead ∷ OtherHead ∷ WrongParty ∷ NotHeard ∷ HeardAlready ∷ []
order_of (loss q) = AgainstRules ∷ NoSuchReplica ∷ WrongPower ∷ NoHead ∷ WrongParty ∷ []
order_of start = AgainstRules ∷ NoSuchReplica ∷ WrongPower ∷ []
order_of stop = AgainstRules ∷ NoSuchReplica ∷ WrongPower ∷ []

-- of these reasons the first whose condition holds is y
abbrev pub IsFirst : List Reason → (Reason → Type 0) → Reason → Type 0
IsFirst [] Holds y = ⊥
IsFirst (x ∷ xs) Holds y = ((x ≡ y) × Holds y) ⊎ ((Holds x → ⊥) × IsFirst xs Holds y)

-- ---- what each number means
-- page or row breaks the rules, or the message that is delivered does
abbrev pub BreaksRules : ℕ → Page → Row → Request → Type 0
BreaksRules r p w (delivery m) = (MessageRules m → ⊥) ⊎ (PageRules r p → ⊥) ⊎ (RowRules r p w → ⊥)
BreaksRules r p w a = (PageRules r p → ⊥) ⊎ (RowRules r p w → ⊥)

-- a replica is above 15: the call's, or the one that a loss names
abbrev pub IsAboveFifteen : ℕ → Request → Type 0
IsAboveFifteen r (loss q) = (16 ≤ r) ⊎ (16 ≤ q)
IsAboveFifteen r a = 16 ≤ r

-- normal mode at the highest number
abbrev pub IsExhausted : Page → Type 0
IsExhausted p = (p.mode ≡ Normal) × (c : View) × (p.component ≡ Some c) × (1000000000 ≤ c.number.0)

-- a replica is no member of the open head
abbrev pub IsStranger : Row → ℕ → Type 0
IsStranger w q = (h : Head) × IsOpen h w × (has h.set.0 q ≡ false)

-- what each number means for a call at replica r, with this page and row
abbrev pub Condition : ℕ → Page → Row → Request → Reason → Type 0
Condition r p w a AgainstRules = BreaksRules r p w a
Condition r p w a NoSuchReplica = IsAboveFifteen r a
Condition r p w start WrongPower = w.up ≡ true
Condition r p w a WrongPower = w.up ≡ false
Condition r p w (view h) ViewWithoutReplica = has h.set.0 r ≡ false
Condition r p w (view h) HeadOpen = (g : Head) × IsOpen g w
Condition r p w (view h) StampNotAbove = h.stamp.0 ≤ p.top.0
Condition r p w (view h) NumbersExhausted = IsExhausted p
Condition r p w (delivery m) NoHead = IsIdle w
Condition r p w (delivery m) OtherHead = (h : Head) × IsOpen h w × (m.head ≢ h)
Condition r p w (delivery m) WrongParty = (m.sender ≡ r) ⊎ (has w.lost.0 m.sender ≡ true)
Condition r p w (delivery m) NotHeard = Hears p w.survivors w.stage m.sender m.body → ⊥
Condition r p w (delivery m) HeardAlready = WasHeard w.stage (kind_of m.body) m.sender
Condition r p w (loss q) NoHead = IsIdle w
Condition r p w (loss q) WrongParty = (q ≡ r) ⊎ IsStranger w q ⊎ (has w.lost.0 q ≡ true)
Condition r p w a reason = ⊥

-- the replica that a refusal names: the call's; but of a loss refused for a number above 15 that number, the call's
-- before the one lost
abbrev pub replica_named : ℕ → Request → Reason → ℕ
replica_named r (loss q) NoSuchReplica = if nat_lt 15 r then r else q
replica_named r a reason = r

-- ---- the laws
-- a fault is the call's refusal: its reason is the first of the call's order whose condition holds
pub record IsRefusal (r : ℕ) (p : Page) (w : Row) (a : Request) (fault : Fault) : Type 0 where
  pub reason : IsFirst (order_of a) (Condition r p w a) fault.reason
  pub replica : fault.replica ≡ Some (replica_named r a fault.reason)
  pub layer : fault.layer ≡ Manager

-- a call is refused with a fault exactly where it is the call's refusal
abbrev pub RefusalsInOrder : Type 0
RefusalsInOrder =
    (f : ℕ → ℕ → Bool) (need : Need) (r : ℕ) (p : Page) (w : Row) (a : Request) (fault : Fault) →
    (effect_of f need r p w a ≡ Err fault) ↔ IsRefusal r p w a fault

-- a call is accepted exactly where no condition of its order holds
abbrev pub AcceptedOtherwise : Type 0
AcceptedOtherwise =
    (f : ℕ → ℕ → Bool) (need : Need) (r : ℕ) (p : Page) (w : Row) (a : Request) →
    ((e : Effect) × (effect_of f need r p w a ≡ Ok e)) ↔ All (λ x. Condition r p w a x → ⊥) (order_of a)
