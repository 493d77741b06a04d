-- Judging a head, and what a verdict comes to, is a chain of moves. Assumes nothing.
use Rattle.std.proofs.Common.{◌≡◌, ℕ, suc, Bool, true, false, if◌then◌else◌, ◌&&◌, ltb, List, [], Some, None, Option, sym, refl, ap, subst}
use Rattle.std.proofs.lemmas.Bool.{cond_both}
use Rattle.quorum.specs.Below.{within}
use Rattle.quorum.specs.Laws.{Grows, Meets}
use Rattle.quorum.specs.Members.{has, size}
use Rattle.quorum.specs.Sets.{either, both, less}
use Rattle.stores.specs.declared.page.Mode.TheVariants.{Waiting, Normal, Reconfiguration}
use Rattle.stores.specs.declared.page.Page.{Page}
use Rattle.stores.specs.declared.view.Head.{Head}
use Rattle.stores.specs.declared.view.Number.{Number}
use Rattle.stores.specs.declared.view.Recorded.{Recorded}
use Rattle.stores.specs.declared.view.View.{View}
use Rattle.rounds.proofs.Grounds.{grounds_of}
use Rattle.rounds.specs.Grounds.{Grounds}
use Rattle.rounds.specs.declared.outcome.Outcome.{Outcome}
use Rattle.rounds.specs.declared.outcome.Outcome.TheVariants.{LostMember}
use Rattle.rounds.specs.declared.report.Report.{Report}
use Rattle.rows.specs.Rows.{is_normal}
use Rattle.rows.specs.declared.message.Posts.{Posts}
use Rattle.rows.specs.declared.row.Applied.{Applied}
use Rattle.rows.specs.declared.row.Confirmed.{Confirmed}
use Rattle.rows.specs.declared.row.Entered.{Entered}
use Rattle.rows.specs.declared.row.Gathered.{Gathered}
use Rattle.rows.specs.declared.row.Row.{Row}
use Rattle.rows.specs.declared.row.Stage.{Stage}
use Rattle.rows.specs.declared.row.Stage.TheVariants.{Idle, Gathering, Confirming, Applying, Entering, Round}
use Rattle.manager.specs.Calls.{head_of}
use Rattle.manager.specs.Effects.{Effect, in_stage, raised, component_page, component_row, installing, ending, closed, spare_page, spare_row, carried_out}
use Rattle.manager.specs.Verdicts.{need_of, unheard, nobody, gathering_verdict, carrying_verdict, confirming_verdict, need_met, sources_of, possible_senders, asked, applying_verdict, entering_verdict, heard_of, round_end, round_verdict, with_component, stage_verdict, verdict_of}
use Rattle.manager.specs.declared.need.Need.{Need}
use Rattle.manager.specs.declared.verdict.Verdict.{Verdict}
use Rattle.manager.specs.declared.verdict.Verdict.TheVariants.{Stays, Records, Installs, Reconfigures, Closes, Forgets, Ends}
use Rattle.safety.specs.Moves.{Finish, Chain}
use Rattle.safety.specs.Moves.Chain.{rest, end}
use Rattle.safety.specs.Moves.Finish.{member_installs, newcomer_installs, settle, settle_outside}
use Rattle.safety.specs.Moves.Move.{close, give_up, wait_again}
use Rattle.safety.specs.Replicas.{node, raise}
use Rattle.safety.specs.Replicas as Moves
use Rattle.safety.specs.Replicas.Row.{idle}
use Rattle.bridge.specs.Seen.{node_of, seen_reports, settlement_of}
use Rattle.bridge.proofs.Bits.{part_of}
use Rattle.bridge.proofs.Chains.{one_move, ends_in}
use Rattle.bridge.proofs.Decided.{decides_seen}

-- a member that has recorded: its component view, and the recorded view numbered one above it
pub record Confirms (p : Page) : Type 0 where
  pub view : View
  pub next : Recorded
  pub component : p.component ≡ Some view
  pub recorded : p.recorded ≡ Some next
  pub numbered : next.view.number.0 ≡ suc view.number.0

-- What the page says beside the stage, as far as the moves ask for it. It follows from the rules of page and row.
abbrev pub Staged : Page → Stage → Type 0
Staged p Idle = Unit {0}
Staged p (Gathering h g) = p.mode ≡ Normal
Staged p (Confirming h g) = Confirms p
Staged p (Applying h a) = (p.mode ≡ Waiting) × (p.component ≡ None)
Staged p (Entering h e) = (p.component ≡ None) × (d : Recorded) × (p.recorded ≡ Some d)
Staged p (Round h rs) = p.mode ≡ Reconfiguration

-- a mark raised, as the rules and as the moves write it
pub raised_is : (o : Option Number) (n : ℕ) → raise o n ≡ Some (raised o n)
raised_is None n = refl
raised_is (Some m) n = refl

-- out of normal mode nothing but the row tells a closed head from an open one
pub closed_is : (p : Page) (w : Row) → is_normal p.mode ≡ false → node false p.top p.mark p.component p.recorded idle ≡ node_of p (closed w)
closed_is p w e = ap (λ b. node b p.top p.mark p.component p.recorded idle) (sym (ap (λ b. b && w.up) e))

module _ (carries : ℕ → ℕ → Bool) (grows : Grows carries) (meets : Meets carries) (need : Need) (r : ℕ) (post : List Moves.Message) where
  -- carrying the verdict out makes no message, and is a chain of moves
  abbrev pub Comes : Page → Row → Verdict → Type 0
  Comes p w v =
      (posts : Posts) →
      Chain carries post r (node_of p w) [] (settlement_of (head_of w.stage) (carried_out r p w posts v).answer.ended)
      (node_of (carried_out r p w posts v).page (carried_out r p w posts v).row)

  -- a part that carries installs, and the rest stays or leaves normal mode
  carrying_comes : (P : Verdict → Type 0) (heard survivors lost set : ℕ) → (carries heard set ≡ true → P Installs) → P Stays → P Reconfigures →
      P (carrying_verdict carries heard survivors lost set)
  carrying_comes P heard survivors lost set a b c =
      cond_both (carries heard set) Installs (if carries (either heard (less survivors lost)) set then Stays else Reconfigures) P a
      (λ _. cond_both (carries (either heard (less survivors lost)) set) Stays Reconfigures P (λ _. b) (λ _. c))

  module _ (p : Page) (w : Row) (up : w.up ≡ true) where
    -- the recorded view d is installed
    installed : (s : Stage) (d : Recorded) → p.recorded ≡ Some d →
        Finish carries r (node_of p (in_stage s w)) (node true p.top p.mark (Some d.view) None idle) None → (posts : Posts) →
        Chain carries post r (node_of p (in_stage s w)) [] (settlement_of (head_of s) (installing p (in_stage s w) posts p.recorded).answer.ended)
        (node_of (installing p (in_stage s w) posts p.recorded).page (installing p (in_stage s w) posts p.recorded).row)
    installed s d e f posts =
        subst
        (λ o.
        Chain carries post r (node_of p (in_stage s w)) [] (settlement_of (head_of s) (installing p (in_stage s w) posts o).answer.ended)
        (node_of (installing p (in_stage s w) posts o).page (installing p (in_stage s w) posts o).row))
        (sym e)
        (ends_in carries post r (ap (λ b. node b p.top p.mark (Some d.view) None idle) (sym up)) (end f))

    -- ---- gathering
    gathering_comes : (h : Head) (g : Gathered) (o : Option View) →
        Comes p (in_stage (Gathering h g) w) (with_component o (gathering_verdict need w.survivors.0 w.lost.0 h g))
    gathering_comes h g None = λ posts. rest
    gathering_comes h g (Some c) =
        let needed = need_of need (size c.set.0) in
        let missing = unheard h w.survivors.0 g.recorders in
        let P : Verdict → Type 0 = Comes p (in_stage (Gathering h g) w) in
        let stays : P Stays = λ posts. rest in
        let closes : P Closes = λ posts. one_move carries post r (give_up h g.recorders.members.0 refl) in
        cond_both (ltb (size (either g.states.0 (less w.survivors.0 w.lost.0))) needed) Reconfigures _ P (λ _. λ posts. one_move carries post r close)
        (λ _. cond_both (ltb (size g.states.0) needed) Stays _ P (λ _. stays)
        (λ _. cond_both (nobody missing) Records _ P (λ _. λ posts. rest)
        (λ _. cond_both (nobody (both missing w.lost.0)) Stays Closes P (λ _. stays) (λ _. closes))))

    -- ---- confirming
    confirming_comes : (h : Head) (g : Confirmed) (d : Recorded) → p.recorded ≡ Some d → (o : Option View) → p.component ≡ o →
        Comes p (in_stage (Confirming h g) w) (with_component o (confirming_verdict carries w.survivors.0 w.lost.0 g))
    confirming_comes h g d e None i = λ posts. rest
    confirming_comes h g d e (Some c) i =
        carrying_comes (Comes p (in_stage (Confirming h g) w)) (both g.recorders.members.0 w.survivors.0) w.survivors.0 w.lost.0 c.set.0
        (λ carry. λ posts. installed (Confirming h g) d e (member_installs h c d g.recorders.members.0 (both g.recorders.members.0 w.survivors.0) refl i e (part_of g.recorders.members.0 w.survivors.0) carry) posts)
        (λ posts. rest) (λ posts. one_move carries post r close)

    -- ---- applying
    applying_comes : (h : Head) (a : Applied) → p.mode ≡ Waiting → Comes p (in_stage (Applying h a) w) (applying_verdict need r w.lost.0 h a)
    applying_comes h a e =
        let P : Verdict → Type 0 = Comes p (in_stage (Applying h a) w) in
        let closes : P Closes = λ posts. ends_in carries post r (closed_is p w (ap is_normal e)) (one_move carries post r close) in
        cond_both (need_met need a a.reference) Records _ P (λ _. λ posts. rest)
        (λ _. cond_both (nobody (sources_of r h a)) Closes _ P (λ _. closes)
        (λ _. cond_both (ltb (size (either a.states.0 (possible_senders r w.lost.0 h a a.reference))) (need_of need (asked r h a a.reference))) Closes Stays P (λ _. closes) (λ _. λ posts. rest)))

    -- ---- entering
    entering_comes : (h : Head) (x : Entered) (d : Recorded) → p.component ≡ None → p.recorded ≡ Some d →
        Comes p (in_stage (Entering h x) w) (entering_verdict carries w.lost.0 h x)
    entering_comes h x d i e =
        let survivors = x.reference.survivors.0 in
        let missing = unheard h survivors x.recorders in
        let P : Verdict → Type 0 = Comes p (in_stage (Entering h x) w) in
        cond_both (nobody missing) (carrying_verdict carries (both x.recorders.members.0 survivors) survivors w.lost.0 x.reference.component.set.0) _ P
        (λ _.
        carrying_comes P (both x.recorders.members.0 survivors) survivors w.lost.0 x.reference.component.set.0
        (λ carry. λ posts. installed (Entering h x) d e (newcomer_installs h x.reference.component d x.recorders.members.0 (both x.recorders.members.0 survivors) refl e (part_of x.recorders.members.0 survivors) carry) posts)
        (λ posts. rest) (λ posts. one_move carries post r close))
        (λ _. cond_both (nobody (both missing w.lost.0)) Stays Forgets P (λ _. λ posts. rest) (λ _. λ posts. one_move carries post r (wait_again i)))

    -- ---- a round
    module _ (h : Head) (rs : List (Option Report)) (e : p.mode ≡ Reconfiguration) where
      -- no view is settled on: the head closes
      unsettled_comes : (o : Outcome) → Comes p (in_stage (Round h rs) w) (Ends o None)
      unsettled_comes o posts = ends_in carries post r (closed_is p w (ap is_normal e)) (one_move carries post r close)

      settled_comes : within h.set.0 (heard_of rs) ≡ true → (o : Outcome) (v : Option View) → Grounds carries h rs o v → Comes p (in_stage (Round h rs) w) (Ends o v)
      settled_comes all o None g posts = unsettled_comes o posts
      settled_comes all o (Some v) g posts =
          let x : Row = in_stage (Round h rs) w in
          let d = decides_seen carries h rs grows all o v g in
          cond_both (has v.set.0 r) (ending (component_page p (Some (raised p.mark v.number.0)) v) (component_row x v) posts o (Some v)) (ending (spare_page p) (spare_row x) posts o (Some v))
          (λ (k : Effect). Chain carries post r (node_of p x) [] (settlement_of (Some h) k.answer.ended) (node_of k.page k.row))
          (λ _. ends_in carries post r (λ i. node (sym up i) p.top (raised_is p.mark v.number.0 i) (Some v) None idle) (end (settle h v (seen_reports rs) refl d)))
          (λ _. end (settle_outside h v (seen_reports rs) refl d))

      decided_comes : within h.set.0 (heard_of rs) ≡ true → Comes p (in_stage (Round h rs) w) (Ends (round_end carries h rs).0 (round_end carries h rs).1)
      unfolding round_end
      decided_comes all = settled_comes all _ _ (grounds_of carries h rs grows meets _ refl)

      round_comes : Comes p (in_stage (Round h rs) w) (round_verdict carries w.lost.0 h rs)
      round_comes =
          let P : Verdict → Type 0 = Comes p (in_stage (Round h rs) w) in
          cond_both (nobody (both w.lost.0 h.set.0)) _ (Ends LostMember None) P
          (λ _. cond_both (within h.set.0 (heard_of rs)) (Ends (round_end carries h rs).0 (round_end carries h rs).1) Stays P decided_comes (λ _. λ posts. rest))
          (λ _. unsettled_comes LostMember)

    -- ---- any stage
    stage_comes : (s : Stage) → Staged p s → Comes p (in_stage s w) (stage_verdict carries need r p w.survivors.0 w.lost.0 s)
    stage_comes Idle st = λ posts. rest
    stage_comes (Gathering h g) st = gathering_comes h g p.component
    stage_comes (Confirming h g) st = confirming_comes h g st.next st.recorded p.component refl
    stage_comes (Applying h a) st = applying_comes h a st.0
    stage_comes (Entering h x) st = entering_comes h x st.1 st.0 st.2
    stage_comes (Round h rs) st = round_comes h rs st

    pub verdict_comes : Staged p w.stage → Comes p w (verdict_of carries need r p w)
    unfolding verdict_of
    verdict_comes st = stage_comes w.stage st
