-- What a call that the floor lets through has found: its replica, the manager's effect, room in the post. Assumes nothing.
use Rattle.std.proofs.Common.{◌≡◌, ℕ, ◌<◌, Bool, false, not, eqb, leb, Some, None, Ok, Err, Option, Result, refl}
use Rattle.std.specs.Option.{option_or}
use Rattle.quorum.proofs.Refused.{err_ok, neither, not_refused, one_of_sixteen}
use Rattle.quorum.specs.Faults.{refused_if}
use Rattle.quorum.specs.declared.fault.Fault.{Fault}
use Rattle.quorum.specs.declared.fault.Reason.TheVariants.{NoSuchReplica, WrongPower, PostFull}
use Rattle.manager.specs.Calls.{message_refusal, viewed, delivered, lost_at, started_at, stopped_at}
use Rattle.manager.specs.Effects.{Effect}
use Rattle.rows.specs.declared.message.Message.{Message}
use Rattle.stores.specs.Kept.{no_place}
use Rattle.runs.specs.Founding.{row_at}
use Rattle.runs.specs.Steps.{stopped}
use Rattle.runs.specs.World.{World, replica_of, unless, message_at, up_test, down_test, loss_test, delivery_test, page_of, row_of, delivered_or_not, asked, full, placed, ruled, floor_refusal}
use Rattle.runs.specs.declared.work.Work.{Work}
use Rattle.runs.specs.declared.work.Work.TheVariants.{View as Views, Deliver, Loss, Start}
use Rattle.runs.proofs.Answered.{let_through}

module _ (f : ℕ → ℕ → Bool) (w : World) where
  -- what the manager made of it
  abbrev pub ByManager : Work → Effect → Type 0
  ByManager (Views r h) e = viewed f w.need r (page_of f w r) (row_of f w r) h ≡ Ok e
  ByManager (Deliver r i) e =
      (m : Message) × (message_at w.post i ≡ Some m) × (delivered f w.need r (page_of f w r) (row_of f w r) m ≡ Ok e)
  ByManager (Loss r q) e = lost_at f w.need r (page_of f w r) (row_of f w r) q ≡ Ok e
  ByManager (Start r) e = started_at r (page_of f w r) (row_of f w r) ≡ Ok e

  -- an accepted call: one of the sixteen, with the manager's effect
  abbrev pub IsAccepted : Work → Effect → Type 0
  IsAccepted k e = (replica_of k < 16) × ByManager k e

  up_below : (r : ℕ) → up_test w.rows r ≡ None → r < 16
  up_below r e =
      one_of_sixteen r (floor_refusal NoSuchReplica r)
      (neither (refused_if (leb 16 r) (floor_refusal NoSuchReplica r))
      (refused_if (not (row_at w.rows r).up) (floor_refusal WrongPower r)) e).0

  delivery_accepted : (r i : ℕ) (o : Option Message) (e : Effect) → message_at w.post i ≡ o →
      unless (delivery_test w.rows r o) (delivered_or_not f w r o) ≡ Ok e → IsAccepted (Deliver r i) e
  delivery_accepted r i None e at k =
      absurd (err_ok (let_through (delivery_test w.rows r None) (delivered_or_not f w r None) e k).1)
  delivery_accepted r i (Some m) e at k =
      let a = let_through (delivery_test w.rows r (Some m)) (delivered_or_not f w r (Some m)) e k in
      (up_below r (neither (message_refusal r m) (up_test w.rows r) a.0).1, (m, at, a.1))

  asked_accepted : (k : Work) (e : Effect) → asked f w k ≡ Ok e → IsAccepted k e
  asked_accepted (Views r h) e k =
      let a = let_through (up_test w.rows r) (viewed f w.need r (page_of f w r) (row_of f w r) h) e k in
      (up_below r a.0, a.1)
  asked_accepted (Deliver r i) e k = delivery_accepted r i (message_at w.post i) e refl k
  asked_accepted (Loss r q) e k =
      let a = let_through (loss_test w.rows r q) (lost_at f w.need r (page_of f w r) (row_of f w r) q) e k in
      let above = refused_if (leb 16 r) (floor_refusal NoSuchReplica r) in
      let others = option_or (refused_if (leb 16 q) (floor_refusal NoSuchReplica q))
      (refused_if (not (row_at w.rows r).up) (floor_refusal WrongPower r)) in
      (one_of_sixteen r (floor_refusal NoSuchReplica r) (neither above others a.0).0, a.1)
  asked_accepted (Start r) e k =
      let a = let_through (down_test w.rows r) (started_at r (page_of f w r) (row_of f w r)) e k in
      let above = refused_if (leb 16 r) (floor_refusal NoSuchReplica r) in
      let up = refused_if (row_at w.rows r).up (floor_refusal WrongPower r) in
      (one_of_sixteen r (floor_refusal NoSuchReplica r) (neither above up a.0).0, a.1)

  placed_is : (k : Work) (a : Result Effect Fault) (e : Effect) → placed f w k a ≡ Ok e →
      (a ≡ Ok e) × (full f w k ≡ false)
  placed_is k (Err fault) e i = absurd (err_ok i)
  placed_is k (Ok x) e i =
      let no_room = refused_if (full f w k) (floor_refusal PostFull (replica_of k)) in
      let no_place_left = refused_if (eqb w.places 0) (no_place (replica_of k)) in
      let a = let_through (option_or no_room no_place_left) (Ok x) e i in
      (a.1, not_refused (full f w k) (floor_refusal PostFull (replica_of k)) (neither no_room no_place_left a.0).0)

  pub ruled_accepted : (k : Work) (e : Effect) → ruled f w k ≡ Ok e → IsAccepted k e
  unfolding ruled
  ruled_accepted k e i = asked_accepted k e (placed_is k (asked f w k) e i).0

  -- a view or a delivery finds two free places in the post
  pub ruled_room : (k : Work) (e : Effect) → ruled f w k ≡ Ok e → full f w k ≡ false
  unfolding ruled
  ruled_room k e i = (placed_is k (asked f w k) e i).1

  -- an accepted stop
  pub stop_accepted : (r : ℕ) (e : Effect) → stopped f w r ≡ Ok e →
      (r < 16) × (stopped_at r (page_of f w r) (row_of f w r) ≡ Ok e)
  stop_accepted r e i =
      let a = let_through (up_test w.rows r) (stopped_at r (page_of f w r) (row_of f w r)) e i in
      (up_below r a.0, a.1)
