-- Moves that change only the row, and the mode. Assumes nothing.
use Rattle.std.proofs.Common.{◌≡◌, ℕ, suc, Bool, true, false, ◌⊎◌, List, [], Some, None, Option, sym, ap, ◌∙◌, subst, ⊎_elim, arith}
use Rattle.std.proofs.lemmas.Bool.{false≢true}
use Rattle.quorum.specs.Members.{has}
use Rattle.stores.specs.declared.view.Head.{Head}
use Rattle.stores.specs.declared.view.Recorded.{Recorded}
use Rattle.stores.specs.declared.view.View.{View}
use Rattle.stores.specs.Views.{view}
use Rattle.safety.specs.Replicas.{number, Report, Phase, Row, Node, with_row, leaving, Message, In, Upto}
use Rattle.safety.specs.Replicas.Phase.{taken, gathering, confirming, applying, entering, round}
use Rattle.safety.specs.Replicas.Row.{idle, under}
use Rattle.safety.specs.Replicas.Message.{state_from, recorded_from, report_from}
use Rattle.safety.specs.Moves.{Empty, Adds}
use Rattle.safety.specs.Runs.{World}
use Rattle.safety.proofs.History.{History}
use Rattle.safety.proofs.Invariant.{GatheringOk, Confirms, PhaseOk, RowOk, Invariant}
use Rattle.safety.proofs.Marks.{none_some, some_inj, view_inj}
use Rattle.safety.proofs.Promises.{Promise}
use Rattle.safety.proofs.Worlds.{put}
use Rattle.safety.proofs.Quiet.{at_row, row_move, free_still, same_head}

module _ (carries : ℕ → ℕ → Bool) (first : View) (past : History) (w : World) (r : ℕ) (i : Invariant carries first past w) where
  -- the invariant holds where r has become x and posted ms
  abbrev Keeps : Node → List Message → Type 0
  Keeps x ms = Invariant carries first past (put w r x ms)

  -- the phase changes, and the mode stays
  phase_move : (h : Head) (p p' : Phase) → (w.at r).row ≡ under h p → (Confirms (under h p) → Confirms (under h p'))
      → PhaseOk carries past w r (with_row (w.at r) (under h p')) h p'
      → Keeps (with_row (w.at r) (under h p')) []
  phase_move h p p' e free ok =
      let a = at_row carries first past w r i (under h p) e in
      row_move carries first past w r i (w.at r).normal (under h p') (same_head carries first past w r i h p p' e) (free_still carries first past w r i (under h p) (under h p') e free) (a.0, a.1, ok)

  at_phase : (h : Head) (p : Phase) → (w.at r).row ≡ under h p → PhaseOk carries past w r (w.at r) h p
  at_phase h p e = (at_row carries first past w r i (under h p) e).2

  pub keep_close : Keeps (leaving (w.at r) idle) []
  keep_close = row_move carries first past w r i false idle (λ h e. absurd (none_some e)) (λ e. absurd (false≢true e)) tt

  pub keep_leave : Keeps (leaving (w.at r) (w.at r).row) []
  keep_leave = row_move carries first past w r i false (w.at r).row (λ h e. e) (λ e. absurd (false≢true e)) (left (w.at r).row (i.nodes r).row_ok)
    where
      left : (row : Row) → RowOk carries past w r (w.at r) row → RowOk carries past w r (leaving (w.at r) (w.at r).row) row
      left idle a = a
      left (under h taken) a = a
      left (under h (gathering heard)) a = a
      left (under h (confirming heard)) a = (a.0, a.1, record { all_heard = a.2.all_heard; holds = a.2.holds })
      left (under h (applying None)) a = a
      left (under h (applying (Some v))) a = a
      left (under h (entering v heard)) a = (a.0, a.1, record { reference = a.2.reference; holds = a.2.holds; all_heard = a.2.all_heard })
      left (under h (round reports)) a = (a.0, a.1, record { below = a.2.below; own = a.2.own; promised = a.2.promised })

  pub keep_give_up : (h : Head) (heard : ℕ) → (w.at r).row ≡ under h (gathering heard) → Keeps (with_row (w.at r) idle) []
  keep_give_up h heard e = row_move carries first past w r i (w.at r).normal idle (λ g u. absurd (none_some u)) (free_still carries first past w r i (under h (gathering heard)) idle e (λ z. z)) tt

  pub keep_gather : (h : Head) (heard : ℕ) → (w.at r).row ≡ under h taken → Empty heard → Keeps (with_row (w.at r) (under h (gathering heard))) []
  keep_gather h heard e nobody = phase_move h taken (gathering heard) e (λ z. z) (λ k V f p b. absurd (nobody p b))

  pub keep_apply : (h : Head) → (w.at r).row ≡ under h taken → Keeps (with_row (w.at r) (under h (applying None))) []
  keep_apply h e = phase_move h taken (applying None) e (λ z. z) tt

  -- whom a member hears has recorded under its head, with its component view's number
  heard_more : (h : Head) (heard more q k V : ℕ) → (w.at r).component ≡ Some (view k V) → In (recorded_from q h (number (suc k))) w.post
      → Adds heard q more → GatheringOk past (w.at r) h heard → GatheringOk past (w.at r) h more
  heard_more h heard more q k V c m add old j W f p u =
      let b = i.mail _ m in
      ⊎_elim (λ (g : has heard p ≡ true). old j W f p g)
      (λ (g : p ≡ q).
      let z : b.0 ≡ j = omega (arith, b.1, (view_inj (sym c ∙ f)).0) in
      rw (g, ← z) b.2) (add p u)

  pub keep_hear_gathering : (h : Head) (heard more q k V : ℕ) → (w.at r).row ≡ under h (gathering heard) → (w.at r).component ≡ Some (view k V)
      → In (recorded_from q h (number (suc k))) w.post → Adds heard q more → Keeps (with_row (w.at r) (under h (gathering more))) []
  keep_hear_gathering h heard more q k V e c m add = phase_move h (gathering heard) (gathering more) e (λ z. z) (heard_more h heard more q k V c m add (at_phase h (gathering heard) e))

  pub keep_hear_confirming : (h : Head) (heard more q k V : ℕ) → (w.at r).row ≡ under h (confirming heard) → (w.at r).component ≡ Some (view k V)
      → In (recorded_from q h (number (suc k))) w.post → Adds heard q more → Keeps (with_row (w.at r) (under h (confirming more))) []
  keep_hear_confirming h heard more q k V e c m add =
      let a = at_phase h (confirming heard) e in
      phase_move h (confirming heard) (confirming more) e (λ z. z) (record { all_heard = heard_more h heard more q k V c m add a.all_heard; holds = a.holds })

  pub keep_hear_state : (h : Head) (o : Option View) (q : ℕ) (v : View) → (w.at r).row ≡ under h (applying o) → In (state_from q h v) w.post
      → Upto (w.at r).mark (suc v.number.0) → Keeps (with_row (w.at r) (under h (applying (Some v)))) []
  keep_hear_state h o q v e m up = phase_move h (applying o) (applying (Some v)) e (λ z. z) (i.mail _ m, up)

  pub keep_hear_entering : (h : Head) (v : View) (heard more q : ℕ) (d : Recorded) → (w.at r).row ≡ under h (entering v heard)
      → (w.at r).recorded ≡ Some d → In (recorded_from q h d.view.number) w.post → Adds heard q more
      → Keeps (with_row (w.at r) (under h (entering v more))) []
  keep_hear_entering h v heard more q d e f m add =
      let a = at_phase h (entering v heard) e in
      let b = i.mail _ m in
      let same : d.view.number.0 ≡ suc v.number.0 = ap (λ (y : Recorded). y.view.number.0) (some_inj (sym f ∙ a.holds)) in
      let z : b.0 ≡ v.number.0 = omega (arith, b.1, same) in
      phase_move h (entering v heard) (entering v more) e (λ z. z)
      (record { reference = a.reference; holds = a.holds; all_heard = λ p u. ⊎_elim (λ (g : has heard p ≡ true). a.all_heard p g) (λ (g : p ≡ q). rw (g, ← z) b.2) (add p u) })

  pub keep_hear_report : (h : Head) (reports more : ℕ → Option Report) (q : ℕ) (m : Report) → (w.at r).row ≡ under h (round reports)
      → In (report_from q h m) w.post → more r ≡ reports r → ((p : ℕ) (n : Report) → more p ≡ Some n → (reports p ≡ Some n) ⊎ ((p ≡ q) × (n ≡ m)))
      → Keeps (with_row (w.at r) (under h (round more))) []
  keep_hear_report h reports more q m e d own add =
      let a = at_phase h (round reports) e in
      let b = i.mail _ d in
      phase_move h (round reports) (round more) e (λ z. z)
      (record {
        below = a.below;
        own = own ∙ a.own;
        promised = λ p n u.
            ⊎_elim (λ (c : reports p ≡ Some n). a.promised p n c)
            (λ (c : (p ≡ q) × (n ≡ m)). subst (λ (j : ℕ). Promise carries past w j h n) (sym c.0) (subst (Promise carries past w q h) (sym c.1) b)) (add p n u);
      })
