-- What a turn and a recording say of what was heard. Assumes nothing.
use Rattle.std.proofs.Common.{◌≡◌, ℕ, ◌<◌, true, ◌⊎◌, eqb, ltb, List, length, set, Some, None, Option, sym, refl, ap, ◌∙◌, subst, inl, inr, ⊎_elim}
use Rattle.std.proofs.lemmas.Bool.{both_ways, and_from, or_left, or_right, eq-eqb, lt-ltb, cases_lt}
use Rattle.std.proofs.lemmas.List.{get_or-set_same, get_or-set_other, set_past, length-set}
use Rattle.std.proofs.lemmas.Bool.{cases_eq}
use Rattle.std.proofs.lemmas.Option.{none-some}
use Rattle.quorum.proofs.Sets.{has_either, has_alone}
use Rattle.quorum.specs.Members.{has}
use Rattle.quorum.specs.Sets.{either, single}
use Rattle.quorum.specs.declared.set.ReplicaSet.{ReplicaSet}
use Rattle.rounds.specs.Reports.{reported}
use Rattle.rounds.specs.declared.report.Report.{Report}
use Rattle.stores.specs.declared.page.Page.{Page}
use Rattle.stores.specs.declared.view.Head.{Head}
use Rattle.stores.specs.declared.view.View.{View}
use Rattle.rows.specs.Recorders.{no_recorders, recorders_with}
use Rattle.rows.specs.declared.message.Body.{Body}
use Rattle.rows.specs.declared.message.Body.TheVariants.{State, Abort, Join, Recorded, Report as Reports}
use Rattle.rows.specs.declared.message.Part.{Part}
use Rattle.rows.specs.declared.message.Part.TheVariants.{Member, Newcomer}
use Rattle.rows.specs.declared.row.Applied.{Applied}
use Rattle.rows.specs.declared.row.Confirmed.{Confirmed}
use Rattle.rows.specs.declared.row.Entered.{Entered}
use Rattle.rows.specs.declared.row.Gathered.{Gathered}
use Rattle.rows.specs.declared.row.Recorders.{Recorders}
use Rattle.rows.specs.declared.row.Reference.{Reference}
use Rattle.rows.specs.declared.row.Stage.{Stage}
use Rattle.rows.specs.declared.row.Stage.TheVariants.{Idle, Gathering, Confirming, Applying, Entering, Round}
use Rattle.rows.specs.Rows.{head_of}
use Rattle.manager.specs.Hearing.{fixed, gathered_state, gathered_recorded, gathered_answer, confirmed_recorded, confirmed_answer, applied_state, applied_join, entered_recorded}
use Rattle.manager.specs.declared.hearing.Hearing.TheVariants.{Answered, Aborted}
use Rattle.refusals.specs.Heard.{Kind, kind_of, Hears, HasRecorded, IsPast, IsHeard}
use Rattle.refusals.specs.Heard.Kind.{state, abort, join, recorded, report}
use Rattle.refusals.specs.Once.{HasSixteenPlaces, IsAnswering}
use Rattle.refusals.proofs.Stages.{Kept}
use Rattle.refusals.proofs.Turns.{Rules}

-- ---- sets and reports with one more
stays_in : (s q k : ℕ) → has s k ≡ true → has (either s (single q)) k ≡ true
stays_in s q k h = has_either s (single q) k ∙ or_left (has s k) (has (single q) k) h

added : (s q : ℕ) → q < 16 → has (either s (single q)) q ≡ true
added s q l =
    has_either s (single q) q ∙
    or_right (has s q) (has (single q) q)
    (has_alone q q ∙ and_from (eqb q q) (ltb q 16) (eq-eqb q q refl) (lt-ltb q 16 l))

still_recorded : (x : Recorders) (q : ℕ) (part : Part) (k : ℕ) → HasRecorded x k →
    HasRecorded (recorders_with x q part) k
still_recorded x q Member k (inl h) = inl (stays_in x.members.0 q k h)
still_recorded x q Member k (inr h) = inr h
still_recorded x q Newcomer k (inl h) = inl h
still_recorded x q Newcomer k (inr h) = inr (stays_in x.newcomers.0 q k h)

now_recorded : (x : Recorders) (q : ℕ) (part : Part) → q < 16 → HasRecorded (recorders_with x q part) q
now_recorded x q Member l = inl (added x.members.0 q l)
now_recorded x q Newcomer l = inr (added x.newcomers.0 q l)

still_there : (rs : List (Option Report)) (q : ℕ) (m : Report) (k : ℕ) → (x : Report) × (reported rs k ≡ Some x) →
    (x : Report) × (reported (set rs q (Some m)) k ≡ Some x)
still_there rs q m k h =
    ⊎_elim
    (λ e. ⊎_elim
    (λ l. (m, ap (λ j. reported (set rs q (Some m)) j) e ∙ get_or-set_same rs q (Some m) None l))
    (λ l. (h.0, ap (λ xs. reported xs k) (set_past rs q (Some m) l) ∙ h.1))
    (cases_lt q (length rs)))
    (λ ne. (h.0, get_or-set_other rs q k (Some m) None ne ∙ h.1))
    (cases_eq k q)

-- ---- what is heard stays heard
module _ (q k : ℕ) where
  gathering_state : (kind : Kind) (h : Head) (g : Gathered) → IsHeard (Gathering h g) kind k →
      IsHeard (Gathering h (gathered_state g q)) kind k
  gathering_state state h g (inl i) = inl (stays_in g.states.0 q k i)
  gathering_state state h g (inr i) = inr i
  gathering_state kind h g i = i

  gathering_recorded : (kind : Kind) (h : Head) (g : Gathered) (part : Part) → IsHeard (Gathering h g) kind k →
      IsHeard (Gathering h (gathered_recorded g q part)) kind k
  gathering_recorded recorded h g part (inl i) = inl (still_recorded g.recorders q part k i)
  gathering_recorded recorded h g part (inr i) = inr i
  gathering_recorded kind h g part i = i

  gathering_report : (kind : Kind) (h : Head) (g : Gathered) → IsHeard (Gathering h g) kind k →
      IsHeard (Gathering h (gathered_answer g)) kind k
  gathering_report report h g i = inl refl
  gathering_report kind h g i = i

  confirming_recorded : (kind : Kind) (h : Head) (g : Confirmed) (part : Part) → IsHeard (Confirming h g) kind k →
      IsHeard (Confirming h (confirmed_recorded g q part)) kind k
  confirming_recorded recorded h g part (inl i) = inl (still_recorded g.recorders q part k i)
  confirming_recorded recorded h g part (inr i) = inr i
  confirming_recorded kind h g part i = i

  confirming_report : (kind : Kind) (h : Head) (g : Confirmed) → IsHeard (Confirming h g) kind k →
      IsHeard (Confirming h (confirmed_answer g)) kind k
  confirming_report report h g i = inl refl
  confirming_report kind h g i = i

  -- a reference, once there, stays
  fixed_stays : (o : Option Reference) (c : View) (s : ReplicaSet) → (x : Reference) × (o ≡ Some x) →
      (x : Reference) × (Some (fixed o c s) ≡ Some x)
  fixed_stays o c s h = (fixed o c s, refl)

  applying_state : (kind : Kind) (h : Head) (a : Applied) (c : View) (s : ReplicaSet) →
      IsHeard (Applying h a) kind k → IsHeard (Applying h (applied_state a q c s)) kind k
  applying_state state h a c s (inl i) = inl (stays_in a.states.0 q k i)
  applying_state state h a c s (inr i) = inr i
  applying_state join h a c s (inl i) = inl i
  applying_state join h a c s (inr i) = inr (fixed_stays a.reference c s i)
  applying_state kind h a c s i = i

  applying_join : (kind : Kind) (h : Head) (a : Applied) → IsHeard (Applying h a) kind k →
      IsHeard (Applying h (applied_join a q)) kind k
  applying_join join h a (inl i) = inl (stays_in a.joins.0 q k i)
  applying_join join h a (inr i) = inr i
  applying_join kind h a i = i

  entering_recorded : (kind : Kind) (h : Head) (e : Entered) (part : Part) → IsHeard (Entering h e) kind k →
      IsHeard (Entering h (entered_recorded e q part)) kind k
  entering_recorded recorded h e part (inl i) = inl (still_recorded e.recorders q part k i)
  entering_recorded recorded h e part (inr i) = inr i
  entering_recorded kind h e part i = i

  round_report : (kind : Kind) (h : Head) (rs : List (Option Report)) (m : Report) → IsHeard (Round h rs) kind k →
      IsHeard (Round h (set rs q (Some m))) kind k
  round_report report h rs m (inl i) = inl (still_there rs q m k i)
  round_report report h rs m (inr i) = inr i
  round_report kind h rs m i = i

  pub turn_stays : (kind : Kind) → Rules q (λ s b t. IsHeard s kind k → IsHeard t.left kind k)
  turn_stays kind = record {
    gathering_state = λ h g c s i. gathering_state kind h g i;
    gathering_recorded = λ h g n part i. gathering_recorded kind h g part i;
    gathering_report = λ h g m _ i. gathering_report kind h g i;
    confirming_recorded = λ h g n part i. confirming_recorded kind h g part i;
    confirming_report = λ h g m _ i. confirming_report kind h g i;
    applying_state = λ h a c s i. applying_state kind h a c s i;
    applying_abort = λ h a i. i;
    applying_join = λ h a i. applying_join kind h a i;
    entering_recorded = λ h e n part i. entering_recorded kind h e part i;
    round_report = λ h rs m x _ i. round_report kind h rs m i;
  }

member_stays : (kind : Kind) (k r : ℕ) (h : Head) (g : Gathered) → IsHeard (Gathering h g) kind k →
    IsHeard (Confirming h (record { recorders = recorders_with g.recorders r Member; answered = g.answered })) kind k
member_stays state k r h g i = inr tt
member_stays abort k r h g i = i
member_stays join k r h g i = i
member_stays recorded k r h g (inl i) = inl (still_recorded g.recorders r Member k i)
member_stays recorded k r h g (inr i) = inr i
member_stays report k r h g i = i

newcomer_stays : (kind : Kind) (k r : ℕ) (h : Head) (a : Applied) (x : Reference) → IsHeard (Applying h a) kind k →
    IsHeard (Entering h (record { reference = x; recorders = recorders_with no_recorders r Newcomer })) kind k
newcomer_stays state k r h a x i = inr tt
newcomer_stays abort k r h a x i = i
newcomer_stays join k r h a x i = inr tt
newcomer_stays recorded k r h a x (inl i) = absurd i
newcomer_stays recorded k r h a x (inr i) = absurd i
newcomer_stays report k r h a x i = i

-- where a head is open this kind is heard from replica k
abbrev pub HeardWhileOpen : Kind → ℕ → Stage → Type 0
HeardWhileOpen kind k s = (h : Head) → head_of s ≡ Some h → IsHeard s kind k

pub heard_kept : (kind : Kind) (k : ℕ) → Kept (HeardWhileOpen kind k)
heard_kept kind k = record {
  idle = λ h e. absurd (none-some h e);
  member = λ r h g i j e. member_stays kind k r h g (i h refl);
  newcomer = λ r h a x i j e. newcomer_stays kind k r h a x (i h refl);
}

-- ---- a turn notes its kind and sender, or closes the head
pub turn_notes : (q : ℕ) → q < 16 → Rules q
    (λ s b t. HasSixteenPlaces s → (t.hearing ≡ Aborted) ⊎ IsHeard t.left (kind_of b) q)
turn_notes q l = record {
  gathering_state = λ h g c s _. inr (inl (added g.states.0 q l));
  gathering_recorded = λ h g n part _. inr (inl (now_recorded g.recorders q part l));
  gathering_report = λ h g m _ i. inr (inl refl);
  confirming_recorded = λ h g n part _. inr (inl (now_recorded g.recorders q part l));
  confirming_report = λ h g m _ i. inr (inl refl);
  applying_state = λ h a c s _. inr (inl (added a.states.0 q l));
  applying_abort = λ h a _. inl refl;
  applying_join = λ h a _. inr (inl (added a.joins.0 q l));
  entering_recorded = λ h e n part _. inr (inl (now_recorded e.recorders q part l));
  round_report = λ h rs m x _ i. inr (inl (m, get_or-set_same rs q (Some m) None (subst (λ n. q < n) (sym i) l)));
}

-- what the stage is past it does not hear
pub past_unheard : (p : Page) (survivors : ReplicaSet) (s : Stage) (q : ℕ) (b : Body) → IsPast s (kind_of b) →
    Hears p survivors s q b → ⊥
past_unheard p survivors Idle q b i h = h
past_unheard p survivors (Gathering g x) q (State c s) i h = i
past_unheard p survivors (Gathering g x) q Abort i h = i
past_unheard p survivors (Gathering g x) q Join i h = i
past_unheard p survivors (Gathering g x) q (Recorded n part) i h = i
past_unheard p survivors (Gathering g x) q (Reports m) i h = i
past_unheard p survivors (Confirming g x) q (State c s) i h = h
past_unheard p survivors (Confirming g x) q Abort i h = i
past_unheard p survivors (Confirming g x) q Join i h = i
past_unheard p survivors (Confirming g x) q (Recorded n part) i h = i
past_unheard p survivors (Confirming g x) q (Reports m) i h = i
past_unheard p survivors (Applying g a) q (State c s) i h = i
past_unheard p survivors (Applying g a) q Abort i h = i
past_unheard p survivors (Applying g a) q Join i h = none-some i.0 (sym h ∙ i.1)
past_unheard p survivors (Applying g a) q (Recorded n part) i h = i
past_unheard p survivors (Applying g a) q (Reports m) i h = i
past_unheard p survivors (Entering g x) q (State c s) i h = h
past_unheard p survivors (Entering g x) q Abort i h = i
past_unheard p survivors (Entering g x) q Join i h = h
past_unheard p survivors (Entering g x) q (Recorded n part) i h = i
past_unheard p survivors (Entering g x) q (Reports m) i h = i
past_unheard p survivors (Round g rs) q (State c s) i h = i
past_unheard p survivors (Round g rs) q Abort i h = i
past_unheard p survivors (Round g rs) q Join i h = i
past_unheard p survivors (Round g rs) q (Recorded n part) i h = i
past_unheard p survivors (Round g rs) q (Reports m) i h = i

-- whoever was heard was heard under a head
pub heard_under : (s : Stage) (kind : Kind) (q : ℕ) → IsHeard s kind q → head_of s ≡ None → ⊥
heard_under Idle kind q (inl i) e = i
heard_under Idle kind q (inr i) e = i
heard_under (Gathering h g) kind q i e = none-some h (sym e)
heard_under (Confirming h g) kind q i e = none-some h (sym e)
heard_under (Applying h a) kind q i e = none-some h (sym e)
heard_under (Entering h x) kind q i e = none-some h (sym e)
heard_under (Round h rs) kind q i e = none-some h (sym e)

-- ---- a turn answers a Report to a member, and nothing else
pub turn_answers : (q : ℕ) →
    Rules q (λ s b t. (t.hearing ≡ Answered → IsAnswering s × (kind_of b ≡ report)) ×
    (IsAnswering s × (kind_of b ≡ report) → t.hearing ≡ Answered))
turn_answers q = record {
  gathering_state = λ h g c s. (λ e. absurd cc, λ i. absurd cc);
  gathering_recorded = λ h g n part. (λ e. absurd cc, λ i. absurd cc);
  gathering_report = λ h g m _. (λ e. (tt, refl), λ i. refl);
  confirming_recorded = λ h g n part. (λ e. absurd cc, λ i. absurd cc);
  confirming_report = λ h g m _. (λ e. (tt, refl), λ i. refl);
  applying_state = λ h a c s. (λ e. absurd cc, λ i. absurd i.0);
  applying_abort = λ h a. (λ e. absurd cc, λ i. absurd i.0);
  applying_join = λ h a. (λ e. absurd cc, λ i. absurd i.0);
  entering_recorded = λ h e n part. (λ i. absurd cc, λ i. absurd i.0);
  round_report = λ h rs m x other. (λ e. absurd (other e), λ i. absurd i.0);
}

-- ---- the own Report is posted once under a head
-- no Report of the replica is to come under this head: it has answered one, or answers none
abbrev pub IsQuiet : Stage → Type 0
IsQuiet (Gathering h g) = g.answered ≡ true
IsQuiet (Confirming h g) = g.answered ≡ true
IsQuiet s = Unit {0}

pub quiet_kept : Kept IsQuiet
quiet_kept = record { idle = tt; member = λ r h g i. i; newcomer = λ r h a x i. tt }

pub turn_quiet : (q : ℕ) → Rules q
    (λ s b t. (IsQuiet s → (t.hearing ≡ Answered → ⊥) × IsQuiet t.left) × (t.hearing ≡ Answered → IsQuiet t.left))
turn_quiet q = record {
  gathering_state = λ h g c s. (λ i. (λ e. cc, i), λ e. absurd cc);
  gathering_recorded = λ h g n part. (λ i. (λ e. cc, i), λ e. absurd cc);
  gathering_report = λ h g m a. (λ i. absurd (both_ways g.answered a i), λ e. refl);
  confirming_recorded = λ h g n part. (λ i. (λ e. cc, i), λ e. absurd cc);
  confirming_report = λ h g m a. (λ i. absurd (both_ways g.answered a i), λ e. refl);
  applying_state = λ h a c s. (λ i. (λ e. cc, tt), λ e. tt);
  applying_abort = λ h a. (λ i. (λ e. cc, tt), λ e. tt);
  applying_join = λ h a. (λ i. (λ e. cc, tt), λ e. tt);
  entering_recorded = λ h e n part. (λ i. (λ e. cc, tt), λ e. tt);
  round_report = λ h rs m x other. (λ i. (other, tt), λ e. tt);
}

-- ---- the head and the places of a round
pub turn_head : (q : ℕ) → Rules q (λ s b t. head_of t.left ≡ head_of s)
turn_head q = record {
  gathering_state = λ h g c s. refl;
  gathering_recorded = λ h g n part. refl;
  gathering_report = λ h g m _. refl;
  confirming_recorded = λ h g n part. refl;
  confirming_report = λ h g m _. refl;
  applying_state = λ h a c s. refl;
  applying_abort = λ h a. refl;
  applying_join = λ h a. refl;
  entering_recorded = λ h e n part. refl;
  round_report = λ h rs m x _. refl;
}

-- an open head is h
abbrev pub OnlyHead : Head → Stage → Type 0
OnlyHead h s = (j : Head) → head_of s ≡ Some j → h ≡ j

pub head_kept : (h : Head) → Kept (OnlyHead h)
head_kept h = record { idle = λ j e. absurd (none-some j e); member = λ r g x i. i; newcomer = λ r g a x i. i }

pub places_kept : Kept HasSixteenPlaces
places_kept = record { idle = tt; member = λ r h g i. tt; newcomer = λ r h a x i. tt }

pub turn_places : (q : ℕ) → Rules q (λ s b t. HasSixteenPlaces s → HasSixteenPlaces t.left)
turn_places q = record {
  gathering_state = λ h g c s i. i;
  gathering_recorded = λ h g n part i. i;
  gathering_report = λ h g m _ i. i;
  confirming_recorded = λ h g n part i. i;
  confirming_report = λ h g m _ i. i;
  applying_state = λ h a c s i. i;
  applying_abort = λ h a i. i;
  applying_join = λ h a i. i;
  entering_recorded = λ h e n part i. i;
  round_report = λ h rs m x _ i. length-set rs q (Some m) ∙ i;
}
