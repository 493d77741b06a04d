-- What the history of a chain says of its messages, its last page and its settlement. Assumes nothing.
use Rattle.std.proofs.Common.{◌≡◌, ℕ, ◌≤◌, Bool, List, [], ◌∷◌, ◌++◌, Some, Option, sym, ap, subst, inl, inr, ⊎_elim, append_assoc}
use Rattle.quorum.specs.Laws.{Meets}
use Rattle.stores.specs.declared.view.Head.{Head}
use Rattle.stores.specs.declared.view.View.{View}
use Rattle.stores.specs.Views.{view}
use Rattle.safety.specs.Replicas.{Report, Node, content, Message, In}
use Rattle.safety.specs.Replicas.Phase.{round}
use Rattle.safety.specs.Replicas.Row.{under}
use Rattle.safety.specs.Replicas.Message.{report_from}
use Rattle.safety.specs.Moves.{Move, Settlement, settlement, Finish, Chain}
use Rattle.safety.specs.Rounds.{Decides}
use Rattle.safety.specs.Runs.{World}
use Rattle.safety.proofs.History.{History, installs_inj, records_forms, records_installs, installs_forms, in_move, in_finish, in_chain}
use Rattle.safety.proofs.History.Event.{installs, forms}
use Rattle.safety.proofs.Invariant.{Rooted, Invariant}
use Rattle.safety.proofs.Lists.{in_right, in_left, in_split, Was, was_more}
use Rattle.safety.proofs.Marks.{none_some, some_inj}
use Rattle.safety.proofs.Worlds.{put, here}
use Rattle.safety.specs.Moves.Move.{take_up, gather, apply, begin_round, tell_state, answer, hear_gathering, hear_confirming, hear_state, hear_entering, hear_report, member_records, newcomer_records, give_up, leave, close, wait_again}
use Rattle.safety.specs.Moves.Finish.{member_installs, newcomer_installs, settle, settle_outside, become_spare}
use Rattle.safety.specs.Moves.Chain.{rest, go, end}
use Rattle.safety.proofs.Back.{never_back, formed_in_round}
use Rattle.safety.proofs.Chains.{stepped}

forms_inj : {h g : Head} → forms h ≡ forms g → h ≡ g
forms_inj u = cc

-- a report that was formed is among the messages
formed_in_move : {post : List Message} {r : ℕ} {x y : Node} {ms : List Message} (m : Move post r x y ms) (h : Head) → In (forms h) (in_move m)
    → (q : ℕ) × (n : Report) × In (report_from q h n) ms
formed_in_move (take_up g a b c) h u = absurd u
formed_in_move (gather g heard a b) h u = absurd u
formed_in_move (apply g a) h u = absurd u
formed_in_move {r = r} {x = x} (begin_round g reports a b c) h (inl u) = (r, content x, inl (ap (λ (y : Head). report_from r y (content x)) (forms_inj u)))
formed_in_move (begin_round g reports a b c) h (inr u) = absurd u
formed_in_move (tell_state g p v a b) h u = absurd u
formed_in_move {r = r} {x = x} (answer g p a) h (inl u) = (r, content x, inl (ap (λ (y : Head). report_from r y (content x)) (forms_inj u)))
formed_in_move (answer g p a) h (inr u) = absurd u
formed_in_move (hear_gathering g v heard more q a b c d) h u = absurd u
formed_in_move (hear_confirming g v heard more q a b c d) h u = absurd u
formed_in_move (hear_state g old v q a b c) h u = absurd u
formed_in_move (hear_entering g v d heard more q a b c e) h u = absurd u
formed_in_move (hear_report g reports more q m a b c d) h u = absurd u
formed_in_move (member_records g v heard more a b c d) h (inl u) = absurd (records_forms (sym u))
formed_in_move (member_records g v heard more a b c d) h (inr u) = absurd u
formed_in_move (newcomer_records g v heard a b c) h u = absurd u
formed_in_move (give_up g heard a) h u = absurd u
formed_in_move leave h u = absurd u
formed_in_move close h u = absurd u
formed_in_move (wait_again a) h u = absurd u

-- only a last move installs
no_install : {post : List Message} {r : ℕ} {x y : Node} {ms : List Message} (m : Move post r x y ms) (n X : ℕ) → In (installs n X) (in_move m) → ⊥
no_install (take_up g a b c) n X u = u
no_install (gather g heard a b) n X u = u
no_install (apply g a) n X u = u
no_install (begin_round g reports a b c) n X (inl u) = installs_forms u
no_install (begin_round g reports a b c) n X (inr u) = u
no_install (tell_state g p v a b) n X u = u
no_install (answer g p a) n X (inl u) = installs_forms u
no_install (answer g p a) n X (inr u) = u
no_install (hear_gathering g v heard more q a b c d) n X u = u
no_install (hear_confirming g v heard more q a b c d) n X u = u
no_install (hear_state g old v q a b c) n X u = u
no_install (hear_entering g v d heard more q a b c e) n X u = u
no_install (hear_report g reports more q m a b c d) n X u = u
no_install (member_records g v heard more a b c d) n X (inl u) = records_installs (sym u)
no_install (member_records g v heard more a b c d) n X (inr u) = u
no_install (newcomer_records g v heard a b c) n X u = u
no_install (give_up g heard a) n X u = u
no_install leave n X u = u
no_install close n X u = u
no_install (wait_again a) n X u = u

view_at : {n X m Y : ℕ} → installs n X ≡ installs m Y → ◌≡◌ {A = Option View} (Some (view m Y)) (Some (view n X))
view_at u = let z = installs_inj u in λ l. Some (view (sym z.0 l) (sym z.1 l))

settlement_head : {g h : Head} {u v : View} → ◌≡◌ {A = Option Settlement} (Some (settlement g u)) (Some (settlement h v)) → g ≡ h
settlement_head e = ap (λ (y : Settlement). y.head) (some_inj e)

settlement_view : {g h : Head} {u v : View} → ◌≡◌ {A = Option Settlement} (Some (settlement g u)) (Some (settlement h v)) → u ≡ v
settlement_view e = ap (λ (y : Settlement). y.view) (some_inj e)

module _ (carries : ℕ → ℕ → Bool) where
  formed_in_finish : {r : ℕ} {x y : Node} {s : Option Settlement} (f : Finish carries r x y s) (h : Head) → In (forms h) (in_finish carries f) → ⊥
  formed_in_finish (member_installs g u d heard part a b c e f) h (inl z) = installs_forms (sym z)
  formed_in_finish (member_installs g u d heard part a b c e f) h (inr z) = z
  formed_in_finish (newcomer_installs g u d heard part a b c e) h (inl z) = installs_forms (sym z)
  formed_in_finish (newcomer_installs g u d heard part a b c e) h (inr z) = z
  formed_in_finish (settle g u reports a d) h (inl z) = installs_forms (sym z)
  formed_in_finish (settle g u reports a d) h (inr z) = z
  formed_in_finish (settle_outside g u reports a d) h z = z
  formed_in_finish become_spare h u = u

  pub formed_in_chain : {post : List Message} {r : ℕ} {x z : Node} {ms : List Message} {s : Option Settlement} (c : Chain carries post r x ms s z) (h : Head)
      → In (forms h) (in_chain carries c) → (q : ℕ) × (n : Report) × In (report_from q h n) ms
  formed_in_chain rest h u = absurd u
  formed_in_chain (go {ms = ms} {ns = ns} m c) h u =
      ⊎_elim (λ (a : In (forms h) (in_chain carries c)). let b = formed_in_chain c h a in (b.0, b.1, in_left (report_from b.0 h b.1) ns ms b.2))
      (λ (a : In (forms h) (in_move m)). let b = formed_in_move m h a in (b.0, b.1, in_right (report_from b.0 h b.1) ns ms b.2)) (in_split (forms h) (in_chain carries c) (in_move m) u)
  formed_in_chain (end f) h u = absurd (formed_in_finish f h u)

  -- what a chain installs it holds at its end
  installed_by_finish : {r : ℕ} {x y : Node} {s : Option Settlement} (f : Finish carries r x y s) (n X : ℕ) → In (installs n X) (in_finish carries f)
      → y.component ≡ Some (view n X)
  installed_by_finish (member_installs g u d heard part a b c e f) n X (inl z) = view_at z
  installed_by_finish (member_installs g u d heard part a b c e f) n X (inr z) = absurd z
  installed_by_finish (newcomer_installs g u d heard part a b c e) n X (inl z) = view_at z
  installed_by_finish (newcomer_installs g u d heard part a b c e) n X (inr z) = absurd z
  installed_by_finish (settle g u reports a d) n X (inl z) = view_at z
  installed_by_finish (settle g u reports a d) n X (inr z) = absurd z
  installed_by_finish (settle_outside g u reports a d) n X z = absurd z
  installed_by_finish become_spare n X u = absurd u

  pub installed_by_chain : {post : List Message} {r : ℕ} {x z : Node} {ms : List Message} {s : Option Settlement} (c : Chain carries post r x ms s z) (n X : ℕ)
      → In (installs n X) (in_chain carries c) → z.component ≡ Some (view n X)
  installed_by_chain rest n X u = absurd u
  installed_by_chain (go m c) n X u =
      ⊎_elim (λ (a : In (installs n X) (in_chain carries c)). installed_by_chain c n X a) (λ (a : In (installs n X) (in_move m)). absurd (no_install m n X a)) (in_split (installs n X) (in_chain carries c) (in_move m) u)
  installed_by_chain (end f) n X u = installed_by_finish f n X u

  module _ (first : View) (meets : Meets carries) where
    -- a round under h has settled on n: a report under h was formed, and no view numbered above n was installed before one was
    pub record Settled (past : History) (es : History) (h : Head) (n : ℕ) : Type 0 where
      pub formed : In (forms h) (es ++ past)
      pub least : (then : History) → Was then past → Rooted carries first then → (In (forms h) then → ⊥) → (m Y : ℕ) → In (installs m Y) then → m ≤ n

    module _ (past : History) (w : World) (r : ℕ) (i : Invariant carries first past w) where
      decided : (es : History) (g h : Head) (reports : ℕ → Option Report) (u v : View) → (w.at r).row ≡ under g (round reports)
          → Decides reports carries u → ◌≡◌ {A = Option Settlement} (Some (settlement g u)) (Some (settlement h v)) → Settled past es h v.number.0
      decided es g h reports u v a d e =
          subst (λ (y : Head). Settled past es y v.number.0) (settlement_head e)
          (subst (λ (y : View). Settled past es g y.number.0) (settlement_view e)
          (record {
            formed = in_right (forms g) es past (formed_in_round carries first meets past w r i g reports a);
            least = λ then was ro early j Y b. never_back carries first meets past w r i g reports a then was ro early u d j Y b;
          }))

      settled_by_finish : (y : Node) (s : Option Settlement) (f : Finish carries r (w.at r) y s) (h : Head) (v : View) → s ≡ Some (settlement h v)
          → Settled past (in_finish carries f) h v.number.0
      settled_by_finish y s (member_installs g u d heard part a b c e f) h v z = absurd (none_some z)
      settled_by_finish y s (newcomer_installs g u d heard part a b c e) h v z = absurd (none_some z)
      settled_by_finish y s (settle g u reports a d) h v z = decided (installs u.number.0 u.set.0 ∷ []) g h reports u v a d z
      settled_by_finish y s (settle_outside g u reports a d) h v z = decided [] g h reports u v a d z
      settled_by_finish y s become_spare h v u = absurd (none_some u)

    pub settled_by_chain : (post : List Message) (r : ℕ) (past : History) (w : World) → Invariant carries first past w
        → ((m : Message) → In m post → In m w.post) → {x z : Node} {ms : List Message} {s : Option Settlement} → w.at r ≡ x
        → (c : Chain carries post r x ms s z) (h : Head) (v : View) → s ≡ Some (settlement h v) → Settled past (in_chain carries c) h v.number.0
    settled_by_chain post r past w i sub e rest h v u = absurd (none_some u)
    settled_by_chain post r past w i sub e (go {y = y} {ms = ms} m c) h v u =
        let b = settled_by_chain post r (in_move m ++ past) (put w r y ms) (stepped carries first meets past w r i post sub e m) (λ l d. in_right l ms w.post (sub l d)) (here w r y ms) c h v u in
        record {
          formed = subst (In (forms h)) (sym (append_assoc (in_chain carries c) (in_move m) past)) b.formed;
          least = λ then was. b.least then (was_more then past (in_move m) was);
        }
    settled_by_chain post r past w i sub {s = s} e (end {y = y} f) h v u =
        subst (λ (z : Node). (f : Finish carries r z y s) → Settled past (in_finish carries f) h v.number.0) e (λ f. settled_by_finish past w r i y s f h v u) f
