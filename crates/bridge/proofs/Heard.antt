-- Hearing a message, stage by stage, is a chain of moves at a post that holds it. Assumes nothing.
use Rattle.std.proofs.Common.{◌≡◌, ℕ, suc, ◌+◌, ◌≤◌, Bool, true, if◌then◌else◌, not, ◌&&◌, ◌≢◌, List, [], set, is_some, Some, None, Ok, Err, Option, Result, sym, refl, ap, ◌∙◌, subst, inl, add-one}
use Rattle.std.proofs.lemmas.Bool.{cond_both, and_parts, eqb-true, leb-true, false≢true}
use Rattle.quorum.specs.Laws.{Grows, Meets}
use Rattle.quorum.specs.Members.{has}
use Rattle.quorum.specs.Sets.{either, single}
use Rattle.quorum.specs.declared.fault.Reason.{Reason}
use Rattle.quorum.specs.declared.fault.Reason.TheVariants.{NotHeard, HeardAlready}
use Rattle.stores.specs.declared.page.Page.{Page}
use Rattle.stores.specs.declared.view.Head.{Head}
use Rattle.stores.specs.declared.view.Number.{Number}
use Rattle.stores.specs.declared.view.Recorded.{Recorded as RecordedView}
use Rattle.stores.specs.declared.view.View.{View}
use Rattle.rounds.specs.Reports.{reported}
use Rattle.rounds.specs.declared.report.Report.{Report}
use Rattle.rows.specs.Recorders.{all_recorders}
use Rattle.rows.specs.Rows.{is_normal, is_reconfiguration}
use Rattle.rows.specs.declared.message.Body.{Body}
use Rattle.rows.specs.declared.message.Body.TheVariants.{State, Abort, Join, Recorded, Report as Reports}
use Rattle.rows.specs.declared.message.Part.TheVariants.{Member, Newcomer}
use Rattle.rows.specs.declared.row.Applied.{Applied}
use Rattle.rows.specs.declared.row.Confirmed.{Confirmed}
use Rattle.rows.specs.declared.row.Entered.{Entered}
use Rattle.rows.specs.declared.row.Gathered.{Gathered}
use Rattle.rows.specs.declared.row.Reference.{Reference}
use Rattle.rows.specs.declared.row.Row.{Row}
use Rattle.rows.specs.declared.row.Stage.{Stage}
use Rattle.rows.specs.declared.row.Stage.TheVariants.{Idle, Gathering, Confirming, Applying, Entering, Round}
use Rattle.manager.specs.Calls.{head_of, report_message, following}
use Rattle.manager.specs.Effects.{Effect, in_stage}
use Rattle.manager.specs.Hearing.{Turn, heard_if, turned, one_above, as_recorded, as_component, reaches_mark, as_reference, gathered_state, gathered_recorded, gathered_answer, hears_gathering, confirmed_recorded, confirmed_answer, hears_confirming, applied_state, applied_join, hears_applying, entered_recorded, hears_entering, outdoes, hears_round, hears_stage}
use Rattle.manager.specs.declared.hearing.Hearing.{Hearing}
use Rattle.manager.specs.declared.hearing.Hearing.TheVariants.{Heard, Answered, Outdone}
use Rattle.manager.specs.declared.need.Need.{Need}
use Rattle.safety.proofs.Marks.{none_some, some_inj}
use Rattle.safety.specs.Moves.{Move, Chain}
use Rattle.safety.specs.Moves.Chain.{end}
use Rattle.safety.specs.Moves.Finish.{become_spare}
use Rattle.safety.specs.Moves.Move.{answer, hear_gathering, hear_confirming, hear_state, hear_entering, hear_report, close}
use Rattle.safety.specs.Replicas.{Node, number, Upto, In}
use Rattle.safety.specs.Replicas as Moves
use Rattle.safety.specs.Replicas.Message.{recorded_from}
use Rattle.safety.specs.Replicas.Phase.{gathering, confirming}
use Rattle.bridge.specs.Seen.{seen_report, seen_reports, seen_body, node_of, formed_by, settlement_of}
use Rattle.bridge.proofs.Bits.{adds_one}
use Rattle.bridge.proofs.Chains.{one_move, ends_in}
use Rattle.bridge.proofs.Judged.{Staged, Confirms, closed_is}
use Rattle.bridge.proofs.Recorded.{after, at_once, judges}
use Rattle.bridge.proofs.Reports.{others_stay, one_more}

-- ---- what the tests of a message say
pub heard_cases : {A : Type 0} (P : Result (Turn A) Reason → Type 0) (a b : Bool) (x : A) (k : Hearing) → ((e : Reason) → P (Err e)) → (a ≡ true → P (Ok (record { left = x; hearing = k }))) → P (heard_if a b x k)
heard_cases P a b x k refused heard =
    cond_both a (if b then Err HeardAlready else Ok (record { left = x; hearing = k })) (Err NotHeard) P
    (λ e. cond_both b (Err HeardAlready) (Ok (record { left = x; hearing = k })) P (λ _. refused HeardAlready) (λ _. heard e)) (λ _. refused NotHeard)

above_component : (o : Option View) (n : Number) → one_above o n ≡ true → (v : View) × (o ≡ Some v) × (n ≡ number (suc v.number.0))
above_component None n e = absurd (false≢true e)
above_component (Some v) n e = (v, refl, ap number (eqb-true n.0 (v.number.0 + 1) e ∙ add-one v.number.0))

like_recorded : (o : Option RecordedView) (n : Number) → as_recorded o n ≡ true → (d : RecordedView) × (o ≡ Some d) × (n ≡ d.view.number)
like_recorded None n e = absurd (false≢true e)
like_recorded (Some d) n e = (d, refl, ap number (eqb-true n.0 d.view.number.0 e))

at_mark : (o : Option Number) (n : Number) → reaches_mark o n ≡ true → Upto o (suc n.0)
at_mark None n h m e = absurd (none_some e)
at_mark (Some k) n h m e = subst (λ (x : Number). x.0 ≤ suc n.0) (some_inj e) (subst (λ x. k.0 ≤ x) (add-one n.0) (leb-true k.0 (n.0 + 1) h))

module _ (carries : ℕ → ℕ → Bool) (grows : Grows carries) (meets : Meets carries) (need : Need) (r : ℕ) (post : List Moves.Message) where
  module _ (p : Page) (w : Row) (up : w.up ≡ true) (q : ℕ) (other : r ≢ q) (h : Head) where
    -- what follows under the head h, from the stage s to the turn t, is a chain of moves; where nothing is heard nothing follows
    abbrev pub Follows : Stage → Result (Turn Stage) Reason → Type 0
    Follows s (Err e) = Unit {0}
    Follows s (Ok t) =
        Chain carries post r (node_of p (in_stage s w)) (formed_by (following carries need r p (in_stage t.left w) h t.hearing).answer.posts)
        (settlement_of (Some h) (following carries need r p (in_stage t.left w) h t.hearing).answer.ended)
        (node_of (following carries need r p (in_stage t.left w) h t.hearing).page (following carries need r p (in_stage t.left w) h t.hearing).row)

    -- the same of what a stage holds
    abbrev pub Within : {A : Type 0} → (A → Stage) → A → Result (Turn A) Reason → Type 0
    Within stage a x = Follows (stage a) (turned stage x)

    unheard : (e : Reason) → Unit {0}
    unheard e = tt

    -- a move to the new stage, and the head is judged; or the moves see no difference
    heard_by : (s t : Stage) → head_of t ≡ Some h → Staged p t → Move post r (node_of p (in_stage s w)) (node_of p (in_stage t w)) [] → Follows s (Ok (record { left = t; hearing = Heard }))
    heard_by s t e st m =
        subst (λ o. Chain carries post r (node_of p (in_stage s w)) (formed_by E.answer.posts) (settlement_of o E.answer.ended) (node_of E.page E.row)) e
        (after carries grows meets need r post m (judges carries grows meets need r post p (in_stage t w) None up st))
      where
        E : Effect
        E = following carries need r p (in_stage t w) h Heard

    heard_alike : (s t : Stage) → head_of t ≡ Some h → Staged p t → node_of p (in_stage s w) ≡ node_of p (in_stage t w) → Follows s (Ok (record { left = t; hearing = Heard }))
    heard_alike s t e st same =
        subst (λ (x : Node). Chain carries post r x (formed_by E.answer.posts) (settlement_of (Some h) E.answer.ended) (node_of E.page E.row)) (sym same)
        (subst (λ o. Chain carries post r (node_of p (in_stage t w)) (formed_by E.answer.posts) (settlement_of o E.answer.ended) (node_of E.page E.row)) e
        (at_once carries grows meets need r post (judges carries grows meets need r post p (in_stage t w) None up st)))
      where
        E : Effect
        E = following carries need r p (in_stage t w) h Heard

    -- ---- gathering
    gathering_hears : (g : Gathered) (b : Body) → Staged p (Gathering h g) → ((y : Moves.Message) → In y (seen_body q h b) → In y post) → Within (Gathering h) g (hears_gathering p w.survivors g q b)
    gathering_hears g (State c s) st sub =
        heard_cases (Within (Gathering h) g) (has w.survivors.0 q && as_component p.component c) (has g.states.0 q) (gathered_state g q) Heard unheard
        (λ _. heard_alike (Gathering h g) (Gathering h (gathered_state g q)) refl st refl)
    gathering_hears g Abort st sub = tt
    gathering_hears g Join st sub = tt
    gathering_hears g (Recorded n Member) st sub =
        let m = g.recorders.members.0 in
        heard_cases (Within (Gathering h) g) (one_above p.component n) (has (all_recorders g.recorders) q) (gathered_recorded g q Member) Heard unheard
        (λ e.
        let a = above_component p.component n e in
        heard_by (Gathering h g) (Gathering h (gathered_recorded g q Member)) refl st
        (hear_gathering h a.0 m (either m (single q)) q refl a.1 (subst (λ k. In (recorded_from q h k) post) a.2 (sub _ (inl refl))) (adds_one m q)))
    gathering_hears g (Recorded n Newcomer) st sub =
        heard_cases (Within (Gathering h) g) (one_above p.component n) (has (all_recorders g.recorders) q) (gathered_recorded g q Newcomer) Heard unheard
        (λ _. heard_alike (Gathering h g) (Gathering h (gathered_recorded g q Newcomer)) refl st refl)
    gathering_hears g (Reports m) st sub =
        heard_cases (Within (Gathering h) g) (is_reconfiguration m.mode) g.answered (gathered_answer g) Answered unheard
        (λ _.
        after carries grows meets need r post (answer h (gathering g.recorders.members.0) refl)
        (judges carries grows meets need r post p (in_stage (Gathering h (gathered_answer g)) w) (Some (report_message r h p)) up st))

    -- ---- confirming
    confirming_hears : (g : Confirmed) (b : Body) → Confirms p → ((y : Moves.Message) → In y (seen_body q h b) → In y post) → Within (Confirming h) g (hears_confirming p g q b)
    confirming_hears g (State c s) st sub = tt
    confirming_hears g Abort st sub = tt
    confirming_hears g Join st sub = tt
    confirming_hears g (Recorded n Member) st sub =
        let m = g.recorders.members.0 in
        heard_cases (Within (Confirming h) g) (as_recorded p.recorded n) (has (all_recorders g.recorders) q) (confirmed_recorded g q Member) Heard unheard
        (λ e.
        let a = like_recorded p.recorded n e in
        let same : n ≡ number (suc st.view.number.0) = a.2 ∙ ap (λ (d : RecordedView). d.view.number) (some_inj (sym a.1 ∙ st.recorded)) ∙ ap number st.numbered in
        heard_by (Confirming h g) (Confirming h (confirmed_recorded g q Member)) refl st
        (hear_confirming h st.view m (either m (single q)) q refl st.component (subst (λ k. In (recorded_from q h k) post) same (sub _ (inl refl))) (adds_one m q)))
    confirming_hears g (Recorded n Newcomer) st sub =
        heard_cases (Within (Confirming h) g) (as_recorded p.recorded n) (has (all_recorders g.recorders) q) (confirmed_recorded g q Newcomer) Heard unheard
        (λ _. heard_alike (Confirming h g) (Confirming h (confirmed_recorded g q Newcomer)) refl st refl)
    confirming_hears g (Reports m) st sub =
        heard_cases (Within (Confirming h) g) (is_reconfiguration m.mode) g.answered (confirmed_answer g) Answered unheard
        (λ _.
        after carries grows meets need r post (answer h (confirming g.recorders.members.0) refl)
        (judges carries grows meets need r post p (in_stage (Confirming h (confirmed_answer g)) w) (Some (report_message r h p)) up st))

    -- ---- applying: the first State gives the reference
    abbrev going_by : Applied → Option Reference → Applied
    going_by a x = record a { reference = x }

    applying_hears : (a : Applied) (x : Option Reference) (b : Body) → Staged p (Applying h a) → ((y : Moves.Message) → In y (seen_body q h b) → In y post) →
        Within (Applying h) (going_by a x) (hears_applying p (going_by a x) q b)
    applying_hears a None (State c s) st sub =
        let A : Applied = going_by a None in
        heard_cases (Within (Applying h) A) (reaches_mark p.mark c.number && as_reference None c) (has a.states.0 q) (applied_state A q c s) Heard unheard
        (λ e. heard_by (Applying h A) (Applying h (applied_state A q c s)) refl st (hear_state h None c q refl (sub _ (inl refl)) (at_mark p.mark c.number (and_parts (reaches_mark p.mark c.number) (as_reference None c) e).0)))
    applying_hears a (Some x) (State c s) st sub =
        let A : Applied = going_by a (Some x) in
        heard_cases (Within (Applying h) A) (reaches_mark p.mark c.number && as_reference (Some x) c) (has a.states.0 q) (applied_state A q c s) Heard unheard
        (λ _. heard_alike (Applying h A) (Applying h (applied_state A q c s)) refl st refl)
    applying_hears a x Abort st sub = ends_in carries post r (closed_is p w (ap is_normal st.0)) (one_move carries post r close)
    applying_hears a x Join st sub =
        let A : Applied = going_by a x in
        heard_cases (Within (Applying h) A) (not (is_some x)) (has a.joins.0 q) (applied_join A q) Heard unheard
        (λ _. heard_alike (Applying h A) (Applying h (applied_join A q)) refl st refl)
    applying_hears a x (Recorded n part) st sub = tt
    applying_hears a x (Reports m) st sub = tt

    -- ---- entering
    entering_hears : (x : Entered) (b : Body) → Staged p (Entering h x) → ((y : Moves.Message) → In y (seen_body q h b) → In y post) → Within (Entering h) x (hears_entering p x q b)
    entering_hears x (State c s) st sub = tt
    entering_hears x Abort st sub = tt
    entering_hears x Join st sub = tt
    entering_hears x (Recorded n Member) st sub =
        let m = x.recorders.members.0 in
        heard_cases (Within (Entering h) x) (as_recorded p.recorded n) (has (all_recorders x.recorders) q) (entered_recorded x q Member) Heard unheard
        (λ e.
        let a = like_recorded p.recorded n e in
        heard_by (Entering h x) (Entering h (entered_recorded x q Member)) refl st
        (hear_entering h x.reference.component a.0 m (either m (single q)) q refl a.1 (subst (λ k. In (recorded_from q h k) post) a.2 (sub _ (inl refl))) (adds_one m q)))
    entering_hears x (Recorded n Newcomer) st sub =
        heard_cases (Within (Entering h) x) (as_recorded p.recorded n) (has (all_recorders x.recorders) q) (entered_recorded x q Newcomer) Heard unheard
        (λ _. heard_alike (Entering h x) (Entering h (entered_recorded x q Newcomer)) refl st refl)
    entering_hears x (Reports m) st sub = tt

    -- ---- a round
    round_hears : (rs : List (Option Report)) (b : Body) → Staged p (Round h rs) → ((y : Moves.Message) → In y (seen_body q h b) → In y post) → Within (Round h) rs (hears_round p rs q b)
    round_hears rs (State c s) st sub = tt
    round_hears rs Abort st sub = tt
    round_hears rs Join st sub = tt
    round_hears rs (Recorded n part) st sub = tt
    round_hears rs (Reports m) st sub =
        let more : List (Option Report) = set rs q (Some m) in
        heard_cases (Within (Round h) rs) true (is_some (reported rs q)) more (if outdoes p m then Outdone else Heard) unheard
        (λ _.
        cond_both (outdoes p m) Outdone Heard (λ k. Within (Round h) rs (Ok (record { left = more; hearing = k })))
        (λ _. end become_spare)
        (λ _. heard_by (Round h rs) (Round h more) refl st (hear_report h (seen_reports rs) (seen_reports more) q (seen_report m) refl (sub _ (inl refl)) (others_stay rs q r m other) (one_more rs q m))))

    -- ---- any stage under h
    pub stage_hears : (s : Stage) (b : Body) → head_of s ≡ Some h → Staged p s → ((y : Moves.Message) → In y (seen_body q h b) → In y post) → Follows s (hears_stage p w.survivors q b s)
    stage_hears Idle b e st sub = tt
    stage_hears (Gathering g x) b e st sub = subst (λ (j : Head). Within (Gathering j) x (hears_gathering p w.survivors x q b)) (sym (some_inj e)) (gathering_hears x b st sub)
    stage_hears (Confirming g x) b e st sub = subst (λ (j : Head). Within (Confirming j) x (hears_confirming p x q b)) (sym (some_inj e)) (confirming_hears x b st sub)
    stage_hears (Applying g a) b e st sub = subst (λ (j : Head). Within (Applying j) a (hears_applying p a q b)) (sym (some_inj e)) (applying_hears a a.reference b st sub)
    stage_hears (Entering g x) b e st sub = subst (λ (j : Head). Within (Entering j) x (hears_entering p x q b)) (sym (some_inj e)) (entering_hears x b st sub)
    stage_hears (Round g rs) b e st sub = subst (λ (j : Head). Within (Round j) rs (hears_round p rs q b)) (sym (some_inj e)) (round_hears rs b st sub)
