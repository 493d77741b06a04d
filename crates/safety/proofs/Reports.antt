-- Forming a report: what it promises is what holds of its sender then. Assumes nothing.
use Rattle.std.proofs.Common.{◌≡◌, ℕ, suc, ◌≤◌, Bool, List, [], ◌∷◌, Some, Option, sym, ap, ◌∙◌, subst, inl, inr, ⊎_elim, arith}
use Rattle.stores.specs.declared.view.Head.{Head}
use Rattle.stores.specs.declared.view.View.{View}
use Rattle.stores.specs.Views.{recorded}
use Rattle.safety.specs.Replicas.{Report, Phase, Node, with_row, content, Message, In}
use Rattle.safety.specs.Replicas.Phase.{taken, round}
use Rattle.safety.specs.Replicas.Row.{under}
use Rattle.safety.specs.Replicas.Message.{report_from}
use Rattle.safety.specs.Runs.{World}
use Rattle.safety.proofs.Fate.{head_of, May, Dead}
use Rattle.safety.proofs.History.{History, records_forms, installs_forms}
use Rattle.safety.proofs.History.Event.{records, installs, forms}
use Rattle.safety.proofs.Invariant.{NodeOk, MessageOk, Invariant, Later}
use Rattle.safety.proofs.Lists.{was_same}
use Rattle.safety.proofs.Marks.{some_inj}
use Rattle.safety.proofs.Promises.{Promise}
use Rattle.safety.proofs.Worlds.{put}
use Rattle.safety.proofs.Quiet.{at_row, row_may, free_still, same_head}
use Rattle.safety.proofs.Stays.{dead_stays, node_stays, rivals_stay, rooted_stays, later, kept}

module _ (carries : ℕ → ℕ → Bool) (first : View) (past : History) (w : World) (r : ℕ) (i : Invariant carries first past w) where
  module _ (h : Head) (p : Phase) (e : (w.at r).row ≡ under h p) (x : Node) (ms : List Message) (may : (s X : ℕ) → May x s X → May (w.at r) s X) where
    told : Later past w (forms h ∷ past) (put w r x ms)
    told = later carries first past w r x ms (forms h ∷ []) may (λ q k s X. elim [ inl u ↦ absurd (records_forms u) | inr u ↦ absurd u ])

    no_record : (q k s X : ℕ) → In (records q k s X) (forms h ∷ past) → In (records q k s X) past
    no_record q k s X (inl u) = absurd (records_forms u)
    no_record q k s X (inr u) = u

    no_install : (n X : ℕ) → In (installs n X) (forms h ∷ past) → In (installs n X) past
    no_install n X (inl u) = absurd (installs_forms u)
    no_install n X (inr u) = u

    own_promise : Promise carries (forms h ∷ past) (put w r x ms) r h (content (w.at r))
    own_promise =
        let a = i.nodes r in
        let b = at_row carries first past w r i (under h p) e in
        let low : (s X : ℕ) → May (w.at r) s X → h.stamp.0 ≤ s = λ s X. elim [ inl l ↦ omega (arith, b.1) | inr u ↦ (let z : h.stamp.0 ≡ s = ap (λ (y : Head). y.stamp.0) (some_inj (sym (ap head_of e) ∙ u)) in omega arith) ] in
        record {
          before = past;
          formed = was_same (forms h ∷ past);
          marked = a.marked;
          chose = λ k V s X u f.
              ⊎_elim (λ (c : (w.at r).recorded ≡ Some (recorded (suc k) X s)). inl c)
              (λ (d : Dead carries past w k V s X). inr (dead_stays carries past w (forms h ∷ past) (put w r x ms) told k V s X d)) (a.chose k V s X u f);
          only_above = λ s X u. low s X (told.may r s X u);
          all_before = λ k s X l u. no_record r k s X u;
          known = λ k V u. inr (a.known k V u);
          both = λ k V n X s u f. let c = a.both k V n X s u f in (c.0, inr c.1);
        }

    reported : NodeOk carries (forms h ∷ past) (put w r x ms) r x → ((m : Message) → In m ms → m ≡ report_from r h (content (w.at r)))
        → Invariant carries first (forms h ∷ past) (put w r x ms)
    reported ok sent =
        kept carries first past w r x ms (forms h ∷ []) i told (λ q k s X. elim [ inl u ↦ absurd (records_forms u) | inr u ↦ absurd u ]) ok
        (λ m u. subst (MessageOk carries (forms h ∷ past) (put w r x ms)) (sym (sent m u)) own_promise)
        (rooted_stays carries past w (forms h ∷ past) (put w r x ms) told first no_install i.rooted)
        (rivals_stay carries past w (forms h ∷ past) (put w r x ms) told no_record i.rivals)

  pub keep_answer : (h : Head) (p : Phase) → (w.at r).row ≡ under h p
      → Invariant carries first (forms h ∷ past) (put w r (w.at r) (report_from r h (content (w.at r)) ∷ []))
  keep_answer h p e =
      let ms : List Message = report_from r h (content (w.at r)) ∷ [] in
      reported h p e (w.at r) ms (λ s X a. a)
      (node_stays carries past w (forms h ∷ past) (put w r (w.at r) ms) (told h p e (w.at r) ms (λ s X a. a)) r (no_record h p e (w.at r) ms (λ s X a. a) r) (w.at r) (i.nodes r))
      (λ m. elim [ inl u ↦ u | inr u ↦ absurd u ])

  pub keep_begin_round : (h : Head) (reports : ℕ → Option Report) → (w.at r).row ≡ under h taken → reports r ≡ Some (content (w.at r))
      → ((q : ℕ) (m : Report) → reports q ≡ Some m → (q ≡ r) × (m ≡ content (w.at r)))
      → Invariant carries first (forms h ∷ past) (put w r (with_row (w.at r) (under h (round reports))) (report_from r h (content (w.at r)) ∷ []))
  keep_begin_round h reports e own alone =
      let ms : List Message = report_from r h (content (w.at r)) ∷ [] in
      let x : Node = with_row (w.at r) (under h (round reports)) in
      let v : World = put w r x ms in
      let may = row_may carries first past w r i (w.at r).normal (under h (round reports)) (same_head carries first past w r i h taken (round reports) e) in
      let b = at_row carries first past w r i (under h taken) e in
      let a : NodeOk carries (forms h ∷ past) v r (w.at r) = node_stays carries past w (forms h ∷ past) v (told h taken e x ms may) r (no_record h taken e x ms may r) (w.at r) (i.nodes r) in
      reported h taken e x ms may
      (record {
        component_mark = a.component_mark;
        recorded_mark = a.recorded_mark;
        marked = a.marked;
        topped = a.topped;
        within = a.within;
        both = a.both;
        chose = a.chose;
        known = a.known;
        free = free_still carries first past w r i (under h taken) (under h (round reports)) e (λ z. z);
        row_ok = (
          b.0,
          b.1,
          record {
            below = λ k t X u. b.2 k t X (no_record h taken e x ms may r k t X u);
            own = own;
            promised = λ q m u. let c = alone q m u in subst (λ (j : ℕ). Promise carries (forms h ∷ past) v j h m) (sym c.0) (subst (Promise carries (forms h ∷ past) v r h) (sym c.1) (own_promise h taken e x ms may));
          },
        );
      })
      (λ m. elim [ inl u ↦ u | inr u ↦ absurd u ])
