-- Every accepted call is a chain of moves. Assumes nothing.
use Rattle.std.proofs.Common.{◌≡◌, ℕ, Bool, true, false, ◌&&◌, List, [], ◌∷◌, Some, None, Ok, Err, Option, Result, sym, refl, ap, subst, inl, inr}
use Rattle.quorum.specs.Laws.{Grows, Meets}
use Rattle.quorum.specs.declared.fault.Fault.{Fault}
use Rattle.quorum.specs.declared.fault.Reason.{Reason}
use Rattle.stores.specs.declared.page.Mode.{Mode}
use Rattle.stores.specs.declared.page.Mode.TheVariants.{Waiting, Joining, Normal, Reconfiguration}
use Rattle.stores.specs.declared.page.Page.{Page}
use Rattle.rows.specs.Rows.{is_normal, empty_row}
use Rattle.rows.specs.declared.message.Message.{Message}
use Rattle.rows.specs.declared.row.Row.{Row}
use Rattle.rows.specs.declared.row.Stage.{Stage}
use Rattle.manager.specs.Calls.{head_of, view_refusal, delivery_refusal, loss_refusal, call_refusal, start_refusal, taking_up, losing, started, following, viewed, heard_or_not, delivered_to, delivered, lost_at, stopped_at, started_at}
use Rattle.manager.specs.Effects.{Effect, effect, in_mode, in_stage, judged}
use Rattle.manager.specs.Hearing.{Turn, hears}
use Rattle.manager.specs.declared.need.Need.{Need}
use Rattle.rows.specs.declared.message.Posts.TheVariants.{Nothing}
use Rattle.safety.proofs.Lists.{in_left, in_right}
use Rattle.safety.specs.Moves.Move.{close}
use Rattle.safety.specs.Replicas.{node, In}
use Rattle.safety.specs.Replicas as Moves
use Rattle.safety.specs.Replicas.Row.{idle}
use Rattle.bridge.specs.Refines.{MovesTo, ViewMoves, DeliveryMoves, LossMoves, StopMoves, StartMoves, CallsMove, Refines}
use Rattle.bridge.specs.Seen.{seen_message, seen_post}
use Rattle.manager.proofs.Accepted.{accepted, Delivered, announced, arrived, missed}
use Rattle.bridge.proofs.Accepted.{staged}
use Rattle.bridge.proofs.Chains.{one_move, ends_in}
use Rattle.bridge.proofs.Down.{down_is}
use Rattle.bridge.proofs.Heard.{Follows, stage_hears}
use Rattle.bridge.proofs.Recorded.{at_once, judges}
use Rattle.quorum.proofs.Refused.{err_ok, ok_inj}
use Rattle.bridge.proofs.TakenUp.{taking_goes}

-- what a message of the post says is in what the moves see of it
seen_in : (m : Message) (post : List Message) → In m post → (y : Moves.Message) → In y (seen_message m) → In y (seen_post post)
seen_in m [] h y i = absurd h
seen_in m (x ∷ xs) (inl e) y i = in_left y (seen_message x) (seen_post xs) (subst (λ (z : Message). In y (seen_message z)) e i)
seen_in m (x ∷ xs) (inr h) y i = in_right y (seen_message x) (seen_post xs) (seen_in m xs h y i)

-- no start leads to normal mode
not_normal : (m : Mode) → is_normal (started m) ≡ false
not_normal Waiting = refl
not_normal Joining = refl
not_normal Normal = refl
not_normal Reconfiguration = refl

module _ (carries : ℕ → ℕ → Bool) (grows : Grows carries) (meets : Meets carries) (need : Need) (r : ℕ) where
  view_moves : ViewMoves carries need r
  unfolding viewed
  view_moves post p w h e i =
      let a = accepted (view_refusal r p w h) (taking_up carries need r p w h) e i in
      subst (MovesTo carries post r p w (Some h)) a.1 (taking_goes carries grows meets need r post p w h (announced r p w h a.0))

  -- ---- a delivery
  module _ (post : List Message) (p : Page) (w : Row) (m : Message) (e : Effect) (there : In m post) where
    heard : (d : Delivered r p w m) (t : Result (Turn Stage) Reason) → Follows carries grows meets need r (seen_post post) p w d.up m.sender d.other m.head w.stage t →
        heard_or_not carries need r p w m.head t ≡ Ok e → MovesTo carries (seen_post post) r p w (head_of w.stage) e
    heard d (Err why) f i = absurd (err_ok i)
    heard d (Ok t) f i =
        subst (MovesTo carries (seen_post post) r p w (head_of w.stage)) (ok_inj i)
        (subst (λ o. MovesTo carries (seen_post post) r p w o (following carries need r p (in_stage t.left w) m.head t.hearing)) (sym d.head) f)

    hears_moves : (d : Delivered r p w m) → Follows carries grows meets need r (seen_post post) p w d.up m.sender d.other m.head w.stage (hears p w m.sender m.body)
    unfolding hears
    hears_moves d =
        stage_hears carries grows meets need r (seen_post post) p w d.up m.sender d.other m.head w.stage m.body d.head (staged r p w d.offer)
        (λ y. seen_in m post there y)

    delivered_moves : (o : Option Fault) → delivery_refusal r p w m ≡ o → delivered_to carries need r p w m o ≡ Ok e → MovesTo carries (seen_post post) r p w (head_of w.stage) e
    delivered_moves (Some fault) k i = absurd (err_ok i)
    delivered_moves None k i = let d = arrived r p w m k in heard d (hears p w m.sender m.body) (hears_moves d) i

  delivery_moves : DeliveryMoves carries need r
  unfolding delivered
  delivery_moves post p w m e there i = delivered_moves post p w m e there (delivery_refusal r p w m) refl i

  -- ---- a loss: those lost are not seen
  loss_moves : LossMoves carries need r
  unfolding lost_at
  loss_moves post p w q e i =
      let a = accepted (loss_refusal r p w q) (judged carries need r p (losing w q) None) e i in
      let f = missed r p w q a.0 in
      subst (MovesTo carries post r p w (head_of w.stage)) a.1
      (at_once carries grows meets need r post (judges carries grows meets need r post p (losing w q) None f.up (staged r p w f.offer)))

  -- ---- a stop and a start
  stop_moves : StopMoves carries need r
  unfolding stopped_at
  stop_moves post p w e i =
      let a = accepted (call_refusal r p w) (effect p (empty_row false) Nothing) e i in
      subst (MovesTo carries post r p w None) a.1
      (ends_in carries post r (sym (down_is p w)) (one_move carries post r close))

  start_moves : StartMoves carries need r
  unfolding started_at
  start_moves post p w e i =
      let a = accepted (start_refusal r p w) (effect (in_mode (started p.mode) p) (empty_row true) Nothing) e i in
      subst (MovesTo carries post r p w None) a.1
      (ends_in carries post r (ap (λ b. node (b && true) p.top p.mark p.component p.recorded idle) (sym (not_normal p.mode))) (one_move carries post r close))

  calls_move : CallsMove carries need r
  calls_move = record { view = view_moves; delivery = delivery_moves; loss = loss_moves; stop = stop_moves; start = start_moves }

pub refines : Refines
refines carries grows meets need r = calls_move carries grows meets need r
