-- Installing a view, and becoming a spare. Assumes nothing.
use Rattle.std.proofs.Common.{◌≡◌, ℕ, suc, Bool, true, ◌⊎◌, [], ◌∷◌, Some, Option, sym, refl, ap, ◌∙◌, subst, inl, inr, arith}
use Rattle.std.proofs.lemmas.Bool.{false≢true}
use Rattle.quorum.specs.Laws.{Meets}
use Rattle.stores.specs.declared.view.Head.{Head}
use Rattle.stores.specs.declared.view.Number.{Number}
use Rattle.stores.specs.declared.view.Recorded.{Recorded}
use Rattle.stores.specs.declared.view.View.{View}
use Rattle.stores.specs.Views.{view, recorded}
use Rattle.safety.specs.Replicas.{number, holding, spare, In}
use Rattle.safety.specs.Replicas.Phase.{confirming, entering}
use Rattle.safety.specs.Replicas.Row.{under}
use Rattle.safety.specs.Moves.{Part}
use Rattle.safety.specs.Runs.{World}
use Rattle.safety.proofs.Fate.{May, Dead}
use Rattle.safety.proofs.History.{History, past_after, installs_inj, records_installs}
use Rattle.safety.proofs.History.Event.{records, installs}
use Rattle.safety.proofs.Invariant.{RowOk, Backed, Rooted, Invariant, Later}
use Rattle.safety.proofs.Marks.{none_some, some_inj}
use Rattle.stores.specs.Facts.{Marked}
use Rattle.safety.proofs.Worlds.{put}
use Rattle.safety.proofs.Quiet.{quiet}
use Rattle.safety.proofs.Rooted.{rooted_new}
use Rattle.safety.proofs.Stays.{dead_stays, rivals_stay, later, kept}

module _ (carries : ℕ → ℕ → Bool) (first : View) where
  pub keep_spare : (past : History) (w : World) (r : ℕ) → Invariant carries first past w → Invariant carries first past (put w r (spare (w.at r)) [])
  keep_spare past w r i =
      let a = i.nodes r in
      let may : (t Y : ℕ) → May (spare (w.at r)) t Y → May (w.at r) t Y = λ t Y. elim [ inl l ↦ inl l | inr u ↦ absurd (none_some u) ] in
      quiet carries first past w r i (spare (w.at r)) [] may
      (record {
        component_mark = λ k V u. absurd (none_some u);
        recorded_mark = λ k Y s u. absurd (none_some u);
        marked = a.marked;
        topped = a.topped;
        within = a.within;
        both = λ k V j Y s u f. absurd (none_some u);
        chose = λ k V s Y u f. absurd (none_some u);
        known = λ k V u. absurd (none_some u);
        free = λ z. absurd (false≢true z);
        row_ok = tt;
      })
      (λ m u. absurd u)

  module _ (past : History) (w : World) (r : ℕ) (i : Invariant carries first past w) where
    -- r comes to hold v: its mark fits and is not lowered, and whatever it recorded with v's number is dead
    module _ (mark : Option Number) (v : View)
        (fits : (mark ≡ Some v.number) ⊎ (mark ≡ Some (number (suc v.number.0))))
        (raised : (k : ℕ) → Marked (w.at r).mark k → Marked mark k)
        (fate : (s Y : ℕ) → In (records r v.number.0 s Y) past → Dead carries past w v.number.0 v.set.0 s Y) where
      abbrev world_after : World
      world_after = put w r (holding (w.at r) mark v) []

      may : (t Y : ℕ) → May (holding (w.at r) mark v) t Y → May (w.at r) t Y
      may t Y (inl l) = inl l
      may t Y (inr u) = absurd (none_some u)

      pub then : Later past w (past_after past v) world_after
      then = later carries first past w r (holding (w.at r) mark v) [] (installs v.number.0 v.set.0 ∷ []) may (λ q k s Y. elim [ inl u ↦ absurd (records_installs u) | inr u ↦ absurd u ])

      own : (q k s Y : ℕ) → In (records q k s Y) (past_after past v) → In (records q k s Y) past
      own q k s Y (inl u) = absurd (records_installs u)
      own q k s Y (inr u) = u

      fate_of : (k V s Y : ℕ) → ◌≡◌ {A = Option View} (Some v) (Some (view k V)) → In (records r k s Y) past → Dead carries past w k V s Y
      fate_of k V s Y u = subst (λ (y : View). In (records r y.number.0 s Y) past → Dead carries past w y.number.0 y.set.0 s Y) (some_inj u) (fate s Y)

      mark_of : (k V : ℕ) → ◌≡◌ {A = Option View} (Some v) (Some (view k V)) → (mark ≡ Some (number k)) ⊎ (mark ≡ Some (number (suc k)))
      mark_of k V u = subst (λ (y : View). (mark ≡ Some y.number) ⊎ (mark ≡ Some (number (suc y.number.0)))) (some_inj u) fits

      pub installed : Rooted carries first (past_after past v) → Invariant carries first (past_after past v) world_after
      installed ro =
          let a = i.nodes r in
          kept carries first past w r (holding (w.at r) mark v) [] (installs v.number.0 v.set.0 ∷ []) i then (λ q k s Y. elim [ inl u ↦ absurd (records_installs u) | inr u ↦ absurd u ])
          (record {
            component_mark = mark_of;
            recorded_mark = λ k Y s u. absurd (none_some u);
            marked = λ k s Y u. raised (suc k) (a.marked k s Y (own r k s Y u));
            topped = λ k s Y u. a.topped k s Y (own r k s Y u);
            within = λ k s Y u. a.within k s Y (own r k s Y u);
            both = λ k V j Y s u f. absurd (none_some f);
            chose = λ k V s Y u f. inr (dead_stays carries past w (past_after past v) world_after then k V s Y (fate_of k V s Y u (own r k s Y f)));
            known = λ k V u. inl (ap (λ (y : View). installs y.number.0 y.set.0) (sym (some_inj u)));
            free = λ z. inl refl;
            row_ok = tt;
          })
          (λ m u. absurd u) ro (rivals_stay carries past w (past_after past v) world_after then own i.rivals)

    -- the recorded view becomes the component view: nothing was recorded with its number, which is the mark
    module _ (meets : Meets carries) where
      from_recorded : (v : View) → (w.at r).mark ≡ Some v.number → Backed carries past v.number.0 v.set.0
          → Invariant carries first (past_after past v) (put w r (holding (w.at r) (w.at r).mark v) [])
      from_recorded v m b =
          installed (w.at r).mark v (inl m) (λ k u. u) fate
          (rooted_new carries first meets past w (past_after past v) (put w r (holding (w.at r) (w.at r).mark v) []) (then (w.at r).mark v (inl m) (λ k u. u) fate) i.rooted i.rivals v.number.0 v.set.0 b
          (λ j Y. elim [ inl u ↦ inr (installs_inj u) | inr u ↦ inl u ]))
        where
          fate : (s Y : ℕ) → In (records r v.number.0 s Y) past → Dead carries past w v.number.0 v.set.0 s Y
          fate s Y u = let z = (i.nodes r).marked v.number.0 s Y u in absurd (omega (arith, ap (λ (y : Number). y.0) (some_inj (sym m ∙ z.1)), z.2))

      pub keep_member_installs : (h : Head) (v : View) (d : Recorded) (heard part : ℕ) → (w.at r).row ≡ under h (confirming heard)
          → (w.at r).component ≡ Some v → (w.at r).recorded ≡ Some d → Part part heard → carries part v.set.0 ≡ true
          → Invariant carries first (past_after past d.view) (put w r (holding (w.at r) (w.at r).mark d.view) [])
      keep_member_installs h v d heard part e c s of car =
          let a = i.nodes r in
          let b = subst (RowOk carries past w r (w.at r)) e a.row_ok in
          let sets : d.view.set.0 ≡ h.set.0 = ap (λ (y : Recorded). y.view.set.0) (some_inj (sym s ∙ b.2.holds.1)) in
          from_recorded d.view (a.recorded_mark d.view.number.0 d.view.set.0 d.stamp.0 s)
          (record {
            num = v.number.0;
            set = v.set.0;
            stamp = h.stamp.0;
            part = part;
            next = (a.both v.number.0 v.set.0 d.view.number.0 d.view.set.0 d.stamp.0 c s).0;
            was = a.known v.number.0 v.set.0 c;
            carried = car;
            each = λ q l p u. subst (λ (y : ℕ). In (records q v.number.0 h.stamp.0 y) past) (sym sets) (b.2.all_heard v.number.0 v.set.0 c q (of q p));
          })

      pub keep_newcomer_installs : (h : Head) (v : View) (d : Recorded) (heard part : ℕ) → (w.at r).row ≡ under h (entering v heard)
          → (w.at r).recorded ≡ Some d → Part part heard → carries part v.set.0 ≡ true
          → Invariant carries first (past_after past d.view) (put w r (holding (w.at r) (w.at r).mark d.view) [])
      keep_newcomer_installs h v d heard part e s of car =
          let a = i.nodes r in
          let b = subst (RowOk carries past w r (w.at r)) e a.row_ok in
          let z : d ≡ recorded (suc v.number.0) h.set.0 h.stamp.0 = some_inj (sym s ∙ b.2.holds) in
          let sets : d.view.set.0 ≡ h.set.0 = ap (λ (y : Recorded). y.view.set.0) z in
          from_recorded d.view (a.recorded_mark d.view.number.0 d.view.set.0 d.stamp.0 s)
          (record {
            num = v.number.0;
            set = v.set.0;
            stamp = h.stamp.0;
            part = part;
            next = ap (λ (y : Recorded). y.view.number.0) z;
            was = b.2.reference;
            carried = car;
            each = λ q l p u. subst (λ (y : ℕ). In (records q v.number.0 h.stamp.0 y) past) (sym sets) (b.2.all_heard q (of q p));
          })
