-- Recording as a member. Assumes nothing.
use Rattle.std.proofs.Common.{◌≡◌, ℕ, suc, Bool, true, ◌⊎◌, List, [], ◌∷◌, Some, None, sym, refl, ap, ◌∙◌, subst, inl, inr, ⊎_elim, arith}
use Rattle.quorum.specs.Members.{has}
use Rattle.stores.specs.declared.view.Head.{Head}
use Rattle.stores.specs.declared.view.View.{View}
use Rattle.stores.specs.Views.{view, recorded}
use Rattle.safety.specs.Replicas.{number, Row, Node, recording, Message, In, raise, Upto}
use Rattle.safety.specs.Replicas.Phase.{gathering, confirming}
use Rattle.safety.specs.Replicas.Row.{under}
use Rattle.safety.specs.Replicas.Message.{recorded_from}
use Rattle.safety.specs.Moves.{Adds}
use Rattle.safety.specs.Runs.{World}
use Rattle.safety.proofs.Fate.{head_of, May, Dead}
use Rattle.safety.proofs.History.{Event, History, records_inj, records_installs}
use Rattle.safety.proofs.History.Event.{records, installs}
use Rattle.safety.proofs.Invariant.{Confirms, RowOk, NodeOk, MessageOk, Rivals, Invariant, Later}
use Rattle.safety.proofs.Marks.{none_some, view_inj, recorded_inj, mark_inj, mark_at, raise_reaches, raise_keeps, raise_is}
use Rattle.stores.specs.Facts.{Marked}
use Rattle.safety.proofs.Worlds.{put}
use Rattle.safety.proofs.Stays.{dead_stays, rival_stays, rooted_stays, later, kept}

module _ (carries : ℕ → ℕ → Bool) (first : View) (past : History) (w : World) (r : ℕ) (i : Invariant carries first past w) (h : Head) (heard more k V : ℕ)
    (normal : (w.at r).normal ≡ true) (e : (w.at r).row ≡ under h (gathering heard)) (c : (w.at r).component ≡ Some (view k V)) (add : Adds heard r more) where
  -- who gathers in normal mode has nothing recorded
  none : (w.at r).recorded ≡ None
  none = ⊎_elim (λ (a : (w.at r).recorded ≡ None). a) (λ (a : ⊥). absurd a) (subst (λ (y : Row). ((w.at r).recorded ≡ None) ⊎ Confirms y) e ((i.nodes r).free normal))

  abbrev after : Node
  after = recording (w.at r) (w.at r).normal (suc k) h (confirming more)

  abbrev sent : List Message
  sent = recorded_from r h (number (suc k)) ∷ []

  abbrev event : Event
  event = records r k h.stamp.0 h.set.0

  abbrev past' : History
  past' = event ∷ past

  abbrev w' : World
  w' = put w r after sent

  at_head : RowOk carries past w r (w.at r) (under h (gathering heard))
  at_head = subst (RowOk carries past w r (w.at r)) e (i.nodes r).row_ok

  may : (t Y : ℕ) → May after t Y → May (w.at r) t Y
  may t Y (inl l) = inl l
  may t Y (inr u) = inr (ap head_of e ∙ u)

  new : (q j t Y : ℕ) → In (records q j t Y) (event ∷ []) → (q ≡ r) × May (w.at r) t Y
  new q j t Y (inl u) =
      let z = records_inj u in
      (z.0, subst (λ (a : ℕ). May (w.at r) a Y) (sym z.2) (subst (λ (a : ℕ). May (w.at r) h.stamp.0 a) (sym z.3) (inr (ap head_of e))))
  new q j t Y (inr u) = absurd u

  then : Later past w past' w'
  then = later carries first past w r after sent (event ∷ []) may new

  -- the mark is at most one above the component view
  upto : Upto (w.at r).mark (suc k)
  upto m u =
      ⊎_elim (λ (a : (w.at r).mark ≡ Some (number k)). let z = mark_inj (sym u ∙ a) in omega arith)
      (λ (a : (w.at r).mark ≡ Some (number (suc k))). let z = mark_inj (sym u ∙ a) in omega arith) ((i.nodes r).component_mark k V c)

  mark_is : raise (w.at r).mark (suc k) ≡ Some (number (suc k))
  mark_is = raise_is (w.at r).mark (suc k) upto

  same : {j W : ℕ} → (w.at r).component ≡ Some (view j W) → (k ≡ j) × (V ≡ W)
  same u = view_inj (sym c ∙ u)

  -- whatever it recorded before with this component view is dead
  old_dead : (j t Y : ℕ) → k ≡ j → In (records r j t Y) past → Dead carries past' w' j V t Y
  old_dead j t Y z u =
      ⊎_elim (λ (a : (w.at r).recorded ≡ Some (recorded (suc j) Y t)). absurd (none_some (sym none ∙ a)))
      (λ (d : Dead carries past w j V t Y). dead_stays carries past w past' w' then j V t Y d)
      ((i.nodes r).chose j V t Y (subst (λ (a : ℕ). (w.at r).component ≡ Some (view a V)) z c) u)

  pub node_ok : NodeOk carries past' w' r after
  node_ok =
      let a = i.nodes r in
      record {
        component_mark = λ j W u. inr (mark_is ∙ ap (λ (y : ℕ). Some (number (suc y))) (same u).0);
        recorded_mark = λ n X s u. mark_is ∙ mark_at (recorded_inj u).0;
        marked = λ j t Y. elim [ inl u ↦ subst (λ (y : ℕ). Marked (raise (w.at r).mark (suc k)) (suc y)) (sym (records_inj u).1) (raise_reaches (w.at r).mark (suc k)) | inr u ↦ raise_keeps (w.at r).mark (suc k) (suc j) (a.marked j t Y u) ];
        topped = λ j t Y. elim [ inl u ↦ omega (arith, (records_inj u).2, at_head.1) | inr u ↦ a.topped j t Y u ];
        within = λ j t Y. elim [ inl u ↦ rw (records_inj u).3 at_head.0 | inr u ↦ a.within j t Y u ];
        both = λ j W n Y t u f.
            let z = recorded_inj f in
            let y = (same u).0 in
            let n_is : n ≡ suc j = cc in
            let same_event : records r j t Y ≡ event = cc in
            (n_is, inl same_event);
        chose = λ j W t Y u.
            elim [
              | inl f ↦
                  (let z = records_inj f in
                  let y = (same u).0 in
                  inl (sym (λ l. Some (recorded (suc (z.1 l)) (z.3 l) (z.2 l)))))
              | inr f ↦ inr (subst (λ (y : ℕ). Dead carries past' w' j y t Y) (same u).1 (old_dead j t Y (same u).0 f))
            ];
        known = λ j W u. inr (a.known j W u);
        free = λ z. inr tt;
        row_ok = (
          at_head.0,
          at_head.1,
          record {
            all_heard = λ j W u p b.
                ⊎_elim (λ (g : has heard p ≡ true). inr (at_head.2 j W u p g))
                (λ (g : p ≡ r). let y = (same u).0 in let same_event : records p j h.stamp.0 h.set.0 ≡ event = cc in inl same_event) (add p b);
            holds = (suc k, refl);
          },
        );
      }

  no_install : (n X : ℕ) → In (installs n X) past' → In (installs n X) past
  no_install n X (inl u) = absurd (records_installs (sym u))
  no_install n X (inr u) = u

  pub rival : Rivals carries past' w'
  rival q j s X t Y (inl u) (inl f) = let a = records_inj u in let b = records_inj f in inl (a.2 ∙ sym b.2, a.3 ∙ sym b.3)
  rival q j s X t Y (inl u) (inr f) =
      let a = records_inj u in
      inr (V, subst (λ (y : ℕ). In (installs y V) past') (sym a.1) (inr ((i.nodes r).known k V c)), inr (old_dead j t Y (sym a.1) (subst (λ (y : ℕ). In (records y j t Y) past) a.0 f)))
  rival q j s X t Y (inr u) (inl f) =
      let a = records_inj f in
      inr (V, subst (λ (y : ℕ). In (installs y V) past') (sym a.1) (inr ((i.nodes r).known k V c)), inl (old_dead j s X (sym a.1) (subst (λ (y : ℕ). In (records y j s X) past) a.0 u)))
  rival q j s X t Y (inr u) (inr f) = rival_stays carries past w past' w' then j s X t Y (i.rivals q j s X t Y u f)

  pub keep_member_records : Invariant carries first past' w'
  keep_member_records =
      kept carries first past w r after sent (event ∷ []) i then (λ q j t Y u. (new q j t Y u).0) node_ok
      (λ m. elim [ inl u ↦ subst (MessageOk carries past' w') (sym u) (k, refl, inl refl) | inr u ↦ absurd u ])
      (rooted_stays carries past w past' w' then first no_install i.rooted) rival
