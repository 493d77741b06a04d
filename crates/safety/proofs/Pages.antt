-- Taking up a head, telling the state, and what a newcomer records and clears. Assumes nothing.
use Rattle.std.proofs.Common.{◌≡◌, ℕ, suc, ◌<◌, Bool, true, false, List, [], ◌∷◌, Some, None, sym, refl, ap, ◌∙◌, subst, inl, inr, ⊎_elim, arith}
use Rattle.std.proofs.lemmas.Bool.{false≢true}
use Rattle.quorum.specs.Members.{has}
use Rattle.stores.specs.declared.view.Head.{Head}
use Rattle.stores.specs.declared.view.View.{View}
use Rattle.safety.specs.Replicas.{Phase, Node, node, taking_up, recording, Message}
use Rattle.safety.specs.Replicas.Phase.{applying, entering}
use Rattle.safety.specs.Replicas.Row.{idle, under}
use Rattle.safety.specs.Replicas.Message.{state_from}
use Rattle.safety.specs.Moves.{Empty}
use Rattle.safety.specs.Runs.{World}
use Rattle.safety.proofs.Fate.{head_of, May}
use Rattle.safety.proofs.History.{History}
use Rattle.safety.proofs.Invariant.{NodeOk, MessageOk, Invariant}
use Rattle.safety.proofs.Marks.{none_some, some_inj, recorded_inj, mark_at, raise_keeps, raise_is}
use Rattle.safety.proofs.Worlds.{put}
use Rattle.safety.proofs.Quiet.{silent, quiet, at_row, at_free}
use Rattle.safety.proofs.Stays.{node_stays}

module _ (carries : ℕ → ℕ → Bool) (first : View) (past : History) (w : World) (r : ℕ) (i : Invariant carries first past w) where
  -- the invariant holds where r has become x and posted ms
  abbrev Keeps : Node → List Message → Type 0
  Keeps x ms = Invariant carries first past (put w r x ms)

  pub keep_tell_state : (h : Head) (p : Phase) (v : View) → (w.at r).row ≡ under h p → (w.at r).component ≡ Some v → Keeps (w.at r) (state_from r h v ∷ [])
  keep_tell_state h p v e f =
      let ms : List Message = state_from r h v ∷ [] in
      let u : World = put w r (w.at r) ms in
      quiet carries first past w r i (w.at r) ms (λ s X a. a)
      (node_stays carries past w past u (silent carries first past w r i (w.at r) ms (λ s X a. a)) r (λ k s X b. b) (w.at r) (i.nodes r))
      (λ m. elim [ inl b ↦ subst (MessageOk carries past u) (sym b) ((i.nodes r).known v.number.0 v.set.0 f) | inr b ↦ absurd b ])

  pub keep_take_up : (h : Head) → (w.at r).row ≡ idle → has h.set.0 r ≡ true → (w.at r).top.0 < h.stamp.0 → Keeps (taking_up (w.at r) h) []
  keep_take_up h shut mine lt =
      let x : Node = taking_up (w.at r) h in
      let v : World = put w r x [] in
      let may : (t Y : ℕ) → May x t Y → May (w.at r) t Y = λ t Y. elim [ inl l ↦ inl (omega arith) | inr e ↦ inl (let z = ap (λ (y : Head). y.stamp.0) (some_inj e) in omega arith) ] in
      let a : NodeOk carries past v r (w.at r) = node_stays carries past w past v (silent carries first past w r i x [] may) r (λ k t Y e. e) (w.at r) (i.nodes r) in
      quiet carries first past w r i x [] may
      (record {
        component_mark = a.component_mark;
        recorded_mark = a.recorded_mark;
        marked = a.marked;
        topped = λ k t Y e. let l = a.topped k t Y e in omega arith;
        within = a.within;
        both = a.both;
        chose = a.chose;
        known = a.known;
        free = λ n. ⊎_elim (λ (u : (w.at r).recorded ≡ None). inl u) (λ (u : ⊥). absurd u) (at_free carries first past w r i idle shut n);
        row_ok = (mine, omega arith, λ k t Y e. let l = a.topped k t Y e in omega arith);
      })
      (λ m e. absurd e)

  pub keep_wait_again : (w.at r).component ≡ None → Keeps (node false (w.at r).top (w.at r).mark (w.at r).component None idle) []
  keep_wait_again c =
      let x : Node = node false (w.at r).top (w.at r).mark (w.at r).component None idle in
      let may : (t Y : ℕ) → May x t Y → May (w.at r) t Y = λ t Y. elim [ inl l ↦ inl l | inr e ↦ absurd (none_some e) ] in
      let a = i.nodes r in
      quiet carries first past w r i x [] may
      (record {
        component_mark = a.component_mark;
        recorded_mark = λ n X s e. absurd (none_some e);
        marked = a.marked;
        topped = a.topped;
        within = a.within;
        both = λ k V n X s e f. absurd (none_some f);
        chose = λ k V s X e f. absurd (none_some (sym c ∙ e));
        known = a.known;
        free = λ n. absurd (false≢true n);
        row_ok = tt;
      })
      (λ m e. absurd e)

  pub keep_newcomer_records : (h : Head) (heard : ℕ) (v : View) → (w.at r).row ≡ under h (applying (Some v)) → (w.at r).component ≡ None → Empty heard
      → Keeps (recording (w.at r) false (suc v.number.0) h (entering v heard)) []
  keep_newcomer_records h heard v e none nobody =
      let x : Node = recording (w.at r) false (suc v.number.0) h (entering v heard) in
      let may : (t Y : ℕ) → May x t Y → May (w.at r) t Y = λ t Y. elim [ inl l ↦ inl l | inr u ↦ inr (ap head_of e ∙ u) ] in
      let a = i.nodes r in
      let b = at_row carries first past w r i (under h (applying (Some v))) e in
      quiet carries first past w r i x [] may
      (record {
        component_mark = λ k V u. absurd (none_some (sym none ∙ u));
        recorded_mark = λ n X s u. raise_is (w.at r).mark (suc v.number.0) b.2.1 ∙ mark_at (recorded_inj u).0;
        marked = λ k s X u. raise_keeps (w.at r).mark (suc v.number.0) (suc k) (a.marked k s X u);
        topped = a.topped;
        within = a.within;
        both = λ k V n X s u. absurd (none_some (sym none ∙ u));
        chose = λ k V s X u. absurd (none_some (sym none ∙ u));
        known = a.known;
        free = λ n. absurd (false≢true n);
        row_ok = (b.0, b.1, record { reference = b.2.0; holds = refl; all_heard = λ p u. absurd (nobody p u) });
      })
      (λ m u. absurd u)
