-- What a call that is not refused has found. Assumes nothing.
use Rattle.std.proofs.Common.{◌≡◌, ℕ, ◌<◌, true, false, not, ◌&&◌, ◌||◌, eqb, leb, ◌≢◌, is_some, Some, None, Ok, Option, sym, refl, ap}
use Rattle.std.proofs.lemmas.Bool.{and_parts, or_parts, not-false, leb-false, eqb-false}
use Rattle.quorum.specs.Members.{has}
use Rattle.quorum.specs.Faults.{refused_if, given}
use Rattle.quorum.specs.declared.fault.Fault.{Fault}
use Rattle.quorum.specs.declared.fault.Reason.TheVariants.{NoSuchReplica, WrongPower, ViewWithoutReplica, HeadOpen, StampNotAbove, NumbersExhausted, OtherHead, WrongParty, AgainstRules}
use Rattle.quorum.proofs.Refused.{neither, not_refused}
use Rattle.stores.proofs.Same.{decides_head}
use Rattle.stores.specs.Rules.{keeps_rules}
use Rattle.stores.specs.Views.{same_head}
use Rattle.stores.specs.declared.page.Page.{Page}
use Rattle.stores.specs.declared.view.Head.{Head}
use Rattle.rows.specs.Messages.{message_keeps}
use Rattle.rows.specs.Rows.{is_normal, row_keeps}
use Rattle.rows.specs.declared.message.Message.{Message}
use Rattle.rows.specs.declared.row.Row.{Row}
use Rattle.manager.specs.Calls.{refusal, all_keep, offer_refusal, call_refusal, head_of, at_highest, announcement_refusal, view_refusal, message_refusal, head_refusal, delivery_refusal, party_refusal, lost_refusal, loss_refusal, start_refusal}

pub accepted : {A : Type 0} (o : Option Fault) (x y : A) → given o x ≡ Ok y → (o ≡ None) × (x ≡ y)
accepted None x y e = (refl, cc)
accepted (Some fault) x y e = absurd cc

-- ---- every call
pub record Offered (r : ℕ) (p : Page) (w : Row) : Type 0 where
  pub page : keeps_rules r p ≡ true
  pub row : row_keeps r p w ≡ true
  pub below : r < 16

offered : (r : ℕ) (p : Page) (w : Row) → offer_refusal r p w ≡ None → Offered r p w
offered r p w e =
    let a = neither (refused_if (not (all_keep r p w)) (refusal AgainstRules r)) (refused_if (leb 16 r) (refusal NoSuchReplica r)) e in
    let b = and_parts (keeps_rules r p) (row_keeps r p w) (not-false (all_keep r p w) (not_refused _ (refusal AgainstRules r) a.0)) in
    record { page = b.0; row = b.1; below = leb-false 16 r (not_refused _ (refusal NoSuchReplica r) a.1) }

-- a call at a replica that is up
pub called : (r : ℕ) (p : Page) (w : Row) → call_refusal r p w ≡ None → Offered r p w × (w.up ≡ true)
called r p w e =
    let a = neither (offer_refusal r p w) (refused_if (not w.up) (refusal WrongPower r)) e in
    (offered r p w a.0, not-false w.up (not_refused _ (refusal WrongPower r) a.1))

-- ---- a view
pub record Announced (r : ℕ) (p : Page) (w : Row) (h : Head) : Type 0 where
  pub offer : Offered r p w
  pub up : w.up ≡ true
  pub member : has h.set.0 r ≡ true
  pub idle : is_some (head_of w.stage) ≡ false
  pub later : p.top.0 < h.stamp.0
  pub room : (is_normal p.mode && at_highest p.component) ≡ false

pub announced : (r : ℕ) (p : Page) (w : Row) (h : Head) → view_refusal r p w h ≡ None → Announced r p w h
unfolding view_refusal
announced r p w h e =
    let a = neither (call_refusal r p w) (announcement_refusal r p w h) e in
    let o = called r p w a.0 in
    let b = neither (refused_if (not (has h.set.0 r)) (refusal ViewWithoutReplica r)) _ a.1 in
    let c = neither (refused_if (is_some (head_of w.stage)) (refusal HeadOpen r)) _ b.1 in
    let d = neither (refused_if (leb h.stamp.0 p.top.0) (refusal StampNotAbove r)) _ c.1 in
    record {
      offer = o.0;
      up = o.1;
      member = not-false (has h.set.0 r) (not_refused _ (refusal ViewWithoutReplica r) b.0);
      idle = not_refused _ (refusal HeadOpen r) c.0;
      later = leb-false h.stamp.0 p.top.0 (not_refused _ (refusal StampNotAbove r) d.0);
      room = not_refused _ (refusal NumbersExhausted r) d.1;
    }

-- ---- a delivery
pub record Delivered (r : ℕ) (p : Page) (w : Row) (m : Message) : Type 0 where
  pub offer : Offered r p w
  pub up : w.up ≡ true
  pub message : message_keeps m ≡ true
  pub head : head_of w.stage ≡ Some m.head
  pub other : r ≢ m.sender

under_its_head : (r : ℕ) (w : Row) (m : Message) (o : Option Head) → head_refusal r w m o ≡ None → (o ≡ Some m.head) × (r ≢ m.sender)
under_its_head r w m None e = absurd cc
under_its_head r w m (Some h) e =
    let a = neither (refused_if (not (same_head m.head h)) (refusal OtherHead r)) (refused_if (eqb m.sender r || has w.lost.0 m.sender) (refusal WrongParty r)) e in
    let same : m.head ≡ h = (decides_head m.head h).0 (not-false (same_head m.head h) (not_refused _ (refusal OtherHead r) a.0)) in
    let b = or_parts (eqb m.sender r) (has w.lost.0 m.sender) (not_refused _ (refusal WrongParty r) a.1) in
    (ap Some (sym same), λ i. eqb-false m.sender r b.0 (sym i))

pub arrived : (r : ℕ) (p : Page) (w : Row) (m : Message) → delivery_refusal r p w m ≡ None → Delivered r p w m
unfolding delivery_refusal
arrived r p w m e =
    let a = neither (message_refusal r m) _ e in
    let b = neither (call_refusal r p w) (head_refusal r w m (head_of w.stage)) a.1 in
    let o = called r p w b.0 in
    let h = under_its_head r w m (head_of w.stage) b.1 in
    record { offer = o.0; up = o.1; message = not-false (message_keeps m) (not_refused _ (refusal AgainstRules r) a.0); head = h.0; other = h.1 }

-- ---- a loss
pub record Missed (r : ℕ) (p : Page) (w : Row) : Type 0 where
  pub offer : Offered r p w
  pub up : w.up ≡ true
  pub opened : is_some (head_of w.stage) ≡ true

with_head : (r : ℕ) (w : Row) (q : ℕ) (o : Option Head) → party_refusal r w q o ≡ None → is_some o ≡ true
with_head r w q None e = absurd cc
with_head r w q (Some h) e = refl

pub missed : (r : ℕ) (p : Page) (w : Row) (q : ℕ) → loss_refusal r p w q ≡ None → Missed r p w
unfolding loss_refusal
missed r p w q e =
    let a = neither (offer_refusal r p w) (lost_refusal r w q) e in
    let b = neither (refused_if (leb 16 q) (refusal NoSuchReplica q)) _ a.1 in
    let c = neither (refused_if (not w.up) (refusal WrongPower r)) (party_refusal r w q (head_of w.stage)) b.1 in
    record { offer = offered r p w a.0; up = not-false w.up (not_refused _ (refusal WrongPower r) c.0); opened = with_head r w q (head_of w.stage) c.1 }

-- ---- a start
pub startable : (r : ℕ) (p : Page) (w : Row) → start_refusal r p w ≡ None → Offered r p w
unfolding start_refusal
startable r p w e = offered r p w (neither (offer_refusal r p w) (refused_if w.up (refusal WrongPower r)) e).0
