-- What is heard leaves the row within its rules, and what is answered keeps the message rules. Assumes nothing.
use Rattle.std.proofs.Common.{◌≡◌, ℕ, ◌<◌, Bool, true, false, if◌then◌else◌, not, ◌&&◌, ltb, List, length, set, is_some, Some, None, Ok, Err, Option, Result, refl, ap, ◌∙◌, subst, ⊎_elim}
use Rattle.std.proofs.lemmas.List.{get_or-set_same, get_or-set_other, set_past}
use Rattle.std.proofs.lemmas.Bool.{and_from, and_parts, not_from_true, cases_eq, cases_lt}
use Rattle.quorum.specs.Below.{within}
use Rattle.quorum.specs.Members.{has}
use Rattle.quorum.specs.Sets.{either, single}
use Rattle.quorum.specs.declared.fault.Reason.{Reason}
use Rattle.quorum.specs.declared.set.ReplicaSet.{ReplicaSet}
use Rattle.rounds.specs.Reports.{reported, report_of}
use Rattle.rounds.specs.declared.report.Report.{Report}
use Rattle.rows.specs.Recorders.{all_recorders, recorders_within, recorders_with}
use Rattle.rows.specs.Messages.{reporting_mode, reported_page, report_keeps, body_keeps, message_keeps}
use Rattle.rows.specs.Rows.{is_reconfiguration, reference_keeps, report_breaks, stage_keeps}
use Rattle.rows.specs.declared.message.Body.{Body}
use Rattle.rows.specs.declared.message.Body.TheVariants.{State, Abort, Join, Recorded, Report as Reports}
use Rattle.rows.specs.declared.row.Applied.{Applied}
use Rattle.rows.specs.declared.row.Confirmed.{Confirmed}
use Rattle.rows.specs.declared.row.Entered.{Entered}
use Rattle.rows.specs.declared.row.Gathered.{Gathered}
use Rattle.rows.specs.declared.message.Part.{Part}
use Rattle.rows.specs.declared.row.Recorders.{Recorders}
use Rattle.rows.specs.declared.row.Reference.{Reference}
use Rattle.rows.specs.declared.row.Row.{Row}
use Rattle.rows.specs.declared.row.Stage.{Stage}
use Rattle.rows.specs.declared.row.Stage.TheVariants.{Idle, Gathering, Confirming, Applying, Entering, Round}
use Rattle.stores.specs.Rules.{keeps_rules}
use Rattle.stores.specs.declared.page.Mode.TheVariants.{Waiting}
use Rattle.stores.specs.declared.page.Page.{Page}
use Rattle.stores.specs.declared.view.Head.{Head}
use Rattle.stores.specs.declared.view.View.{View}
use Rattle.manager.specs.Calls.{head_of, report_message}
use Rattle.manager.specs.Hearing.{Turn, heard_if, turned, one_above, as_recorded, as_component, reaches_mark, as_reference, fixed, gathered_state, gathered_recorded, gathered_answer, hears_gathering, confirmed_recorded, confirmed_answer, hears_confirming, applied_state, applied_join, hears_applying, entered_recorded, hears_entering, outdoes, hears_round, hears_stage, hears}
use Rattle.manager.specs.declared.hearing.Hearing.{Hearing}
use Rattle.manager.specs.declared.hearing.Hearing.TheVariants.{Heard, Answered, Outdone, Aborted}
use Rattle.laws.specs.Grounds.{IsRound}
use Rattle.laws.specs.Known.{Known, nothing_heard, heard_in, known_in, telling}
use Rattle.laws.proofs.Judged.{AgreesIn}
use Rattle.laws.proofs.Pages.{reported_tests}
use Rattle.rounds.proofs.Highest.{some_same}
use Rattle.rows.proofs.Facts.{GatheringFacts, gathering_from, gathering_back, ConfirmingFacts, confirming_from, confirming_back, ApplyingFacts, applying_from, applying_back, EnteringFacts, entering_from, entering_back, RoundFacts, round_from, round_back, mode_normal, mode_waiting}
use Rattle.laws.proofs.Subsets.{within_added, recorders_added}
use Rattle.stores.proofs.Kept.{Tests, of_tests}

-- a report more, of a member of the head
pub one_more : (h : Head) (q : ℕ) (rs : List (Option Report)) (m : Report) → has h.set.0 q ≡ true →
    report_keeps q m ≡ true →
    ((k : ℕ) → k < 16 → report_breaks h k (reported rs k) ≡ false) → (k : ℕ) → k < 16 → report_breaks h k
    (reported (set rs q (Some m)) k) ≡ false
one_more h q rs m i n old k l =
    let new : report_breaks h q (Some m) ≡ false = not_from_true _ (and_from (has h.set.0 q) (report_keeps q m) i n) in
    ⊎_elim
    (λ e. ⊎_elim
    (λ i. ap (λ j. report_breaks h j (reported (set rs q (Some m)) j)) e ∙ ap (report_breaks h q)
    (get_or-set_same rs q (Some m) None i) ∙ new)
    (λ i. ap (λ xs. report_breaks h k (reported xs k)) (set_past rs q (Some m) i) ∙ old k l) (cases_lt q (length rs)))
    (λ ne. ap (report_breaks h k) (get_or-set_other rs q k (Some m) None ne) ∙ old k l)
    (cases_eq k q)

-- ---- a replica's own report
pub report_kept : (r : ℕ) (p : Page) → Tests r p → reporting_mode p.mode ≡ true → report_keeps r (report_of p) ≡ true
report_kept r p t m =
    and_from (reporting_mode p.mode) (keeps_rules r (reported_page (report_of p))) m
    (of_tests r (reported_page (report_of p)) (reported_tests r p t))

pub report_told : (r : ℕ) (p : Page) (h : Head) → has h.set.0 r ≡ true → report_keeps r (report_of p) ≡ true →
    message_keeps (report_message r h p) ≡ true
unfolding message_keeps
report_told r p h i k = and_from (has h.set.0 r) (report_keeps r (report_of p)) i k

-- ---- a turn of the stage s, which hears b and has k known then: the stage that is left, under the same head, and what
-- follows
module _ (r : ℕ) (p : Page) (head : Option Head) (up : Bool) (lost : ReplicaSet) (k : Known) (b : Body) (s : Stage)
  where
    abbrev pub HearingKeeps : Hearing → Type 0
    HearingKeeps Heard = Unit {0}
    HearingKeeps Answered = (h : Head) → head ≡ Some h → message_keeps (report_message r h p) ≡ true
    HearingKeeps Outdone = (m : Report) × (b ≡ Reports m) × (outdoes p m ≡ true) × IsRound s
    HearingKeeps Aborted = (b ≡ Abort) × (p.mode ≡ Waiting) × (IsRound s → ⊥)

    pub record TurnKeeps (t : Turn Stage) : Type 0 where
      pub stage : stage_keeps r p up lost t.left ≡ true
      pub same : head ≡ head_of t.left
      pub known : AgreesIn k t.left
      pub enters : IsRound s → IsRound t.left
      pub leaves : IsRound t.left → IsRound s
      pub hearing : HearingKeeps t.hearing

    abbrev pub HeardKeeps : Result (Turn Stage) Reason → Type 0
    HeardKeeps (Err reason) = Unit {0}
    HeardKeeps (Ok t) = TurnKeeps t

    heard : {A : Type 0} (stage : A → Stage) (x y : Bool) (a : A) (j : Hearing) →
        TurnKeeps (record { left = stage a; hearing = j }) → HeardKeeps (turned stage (heard_if x y a j))
    heard stage false y a j t = tt
    heard stage true true a j t = tt
    heard stage true false a j t = t

-- with these lost and these survivors
module _ (r : ℕ) (p : Page) (up : Bool) (lost survivors : ReplicaSet) (tests : Tests r p) (h : Head) (q : ℕ)
    (sender : has h.set.0 q ≡ true) where
  -- what was known in a stage, with what q tells
  abbrev now : Body → Stage → Known
  now b s = telling (heard_in (nothing_heard lost survivors) s) q b

  -- a turn of the stage s
  abbrev Hears : Body → Stage → Result (Turn Stage) Reason → Type 0
  Hears b s x = HeardKeeps r p (Some h) up lost (now b s) b s x

  abbrev Turns : Body → Stage → Stage → Hearing → Type 0
  Turns b s t k = TurnKeeps r p (Some h) up lost (now b s) b s (record { left = t; hearing = k })

  added : (s : ReplicaSet) → within s.0 h.set.0 ≡ true → within (either s.0 (single q)) h.set.0 ≡ true
  added s i = within_added s.0 h.set.0 q i sender

  more : (x : Recorders) (part : Part) → recorders_within x h.set.0 ≡ true →
      recorders_within (recorders_with x q part) h.set.0 ≡ true
  more x part i = recorders_added x h.set.0 q part i sender

  answer : has h.set.0 r ≡ true → reporting_mode p.mode ≡ true → (k : Head) → Some h ≡ Some k →
      message_keeps (report_message r k p) ≡ true
  answer i m k e =
      subst (λ (x : Head). message_keeps (report_message r x p) ≡ true) (some_same refl e)
      (report_told r p h i (report_kept r p tests m))

  -- ---- gathering
  gathering_hears : (g : Gathered) (b : Body) → GatheringFacts r p h g →
      Hears b (Gathering h g) (turned (Gathering h) (hears_gathering p survivors g q b))
  gathering_hears g (State c s) f =
      heard r p (Some h) up lost (now (State c s) (Gathering h g)) (State c s) (Gathering h g) (Gathering h)
      (has survivors.0 q && as_component p.component c) (has g.states.0 q) (gathered_state g q) Heard
      (record {
        stage = gathering_back r p h (gathered_state g q)
            (record {
              normal = f.normal;
              head = f.head;
              next = f.next;
              states = added g.states f.states;
              recorders = f.recorders;
            });
        same = refl;
        known = (refl, refl, refl);
        enters = λ n. n;
        leaves = λ n. n;
        hearing = tt;
      })
  gathering_hears g Abort f = tt
  gathering_hears g Join f = tt
  gathering_hears g (Recorded n part) f =
      heard r p (Some h) up lost (now (Recorded n part) (Gathering h g)) (Recorded n part) (Gathering h g) (Gathering h)
      (one_above p.component n) (has (all_recorders g.recorders) q) (gathered_recorded g q part) Heard
      (record {
        stage = gathering_back r p h (gathered_recorded g q part)
            (record {
              normal = f.normal;
              head = f.head;
              next = f.next;
              states = f.states;
              recorders = more g.recorders
                  part f.recorders;
            });
        same = refl;
        known = (refl, refl, refl);
        enters = λ n. n;
        leaves = λ n. n;
        hearing = tt;
      })
  gathering_hears g (Reports m) f =
      heard r p (Some h) up lost (now (Reports m) (Gathering h g)) (Reports m) (Gathering h g) (Gathering h)
      (is_reconfiguration m.mode) g.answered (gathered_answer g) Answered
      (record {
        stage = gathering_back r p h g f;
        same = refl;
        known = (refl, refl, refl);
        enters = λ n. n;
        leaves = λ n. n;
        hearing = answer f.head.holds (ap reporting_mode (mode_normal p.mode f.normal));
      })

  -- ---- confirming
  confirming_hears : (g : Confirmed) (b : Body) → ConfirmingFacts r p h g →
      Hears b (Confirming h g) (turned (Confirming h) (hears_confirming p g q b))
  confirming_hears g (State c s) f = tt
  confirming_hears g Abort f = tt
  confirming_hears g Join f = tt
  confirming_hears g (Recorded n part) f =
      heard r p (Some h) up lost (now (Recorded n part) (Confirming h g)) (Recorded n part) (Confirming h g)
      (Confirming h) (as_recorded p.recorded n) (has (all_recorders g.recorders) q) (confirmed_recorded g q part) Heard
      (record {
        stage = confirming_back r p h (confirmed_recorded g q part)
            (record {
              normal = f.normal;
              head = f.head;
              under = f.under;
              recorders = more g.recorders part
                  f.recorders;
            });
        same = refl;
        known = (refl, refl);
        enters = λ n. n;
        leaves = λ n. n;
        hearing = tt;
      })
  confirming_hears g (Reports m) f =
      heard r p (Some h) up lost (now (Reports m) (Confirming h g)) (Reports m) (Confirming h g) (Confirming h)
      (is_reconfiguration m.mode) g.answered (confirmed_answer g) Answered
      (record {
        stage = confirming_back r p h g f;
        same = refl;
        known = (refl, refl);
        enters = λ n. n;
        leaves = λ n. n;
        hearing = answer f.head.holds (ap reporting_mode (mode_normal p.mode f.normal));
      })

  -- ---- applying
  reference_fixed : (o : Option Reference) (c : View) (s : ReplicaSet) → reference_keeps o ≡ true →
      ltb c.number.0 1000000000 ≡ true → reference_keeps (Some (fixed o c s)) ≡ true
  reference_fixed None c s k l = l
  reference_fixed (Some x) c s k l = k

  applying_hears : (a : Applied) (b : Body) → body_keeps q h b ≡ true → ApplyingFacts r p h a →
      Hears b (Applying h a) (turned (Applying h) (hears_applying p a q b))
  applying_hears a (State c s) k f =
      let x = and_parts _ (within s.0 h.set.0) k in
      let y = and_parts (ltb c.number.0 1000000000) (within s.0 c.set.0) x.0 in
      heard r p (Some h) up lost (now (State c s) (Applying h a)) (State c s) (Applying h a) (Applying h)
      (reaches_mark p.mark c.number && as_reference a.reference c) (has a.states.0 q) (applied_state a q c s) Heard
      (record {
        stage = applying_back r p h (applied_state a q c s)
            (record {
              waiting = f.waiting;
              head = f.head;
              reference = reference_fixed a.reference c s f.reference y.0;
              joins = f.joins;
              states = added a.states f.states;
            });
        same = refl;
        known = (refl, refl, refl, refl, refl);
        enters = λ n. n;
        leaves = λ n. n;
        hearing = tt;
      })
  applying_hears a Abort k f = record {
    stage = applying_back r p h a f;
    same = refl;
    known = (refl, refl, refl, refl, refl);
    enters = λ n. n;
    leaves = λ n. n;
    hearing = (refl, mode_waiting p.mode f.waiting, λ n. n);
  }
  applying_hears a Join k f =
      heard r p (Some h) up lost (now Join (Applying h a)) Join (Applying h a) (Applying h) (not (is_some a.reference))
      (has a.joins.0 q) (applied_join a q) Heard
      (record {
        stage = applying_back r p h (applied_join a q)
            (record {
              waiting = f.waiting;
              head = f.head;
              reference = f.reference;
              joins = added a.joins f.joins;
              states = f.states;
            });
        same = refl;
        known = (refl, refl, refl, refl, refl);
        enters = λ n. n;
        leaves = λ n. n;
        hearing = tt;
      })
  applying_hears a (Recorded n part) k f = tt
  applying_hears a (Reports m) k f = tt

  -- ---- entering
  entering_hears : (e : Entered) (b : Body) → EnteringFacts r p h e →
      Hears b (Entering h e) (turned (Entering h) (hears_entering p e q b))
  entering_hears e (State c s) f = tt
  entering_hears e Abort f = tt
  entering_hears e Join f = tt
  entering_hears e (Recorded n part) f =
      heard r p (Some h) up lost (now (Recorded n part) (Entering h e)) (Recorded n part) (Entering h e) (Entering h)
      (as_recorded p.recorded n) (has (all_recorders e.recorders) q) (entered_recorded e q part) Heard
      (record {
        stage = entering_back r p h (entered_recorded e q part)
            (record {
              joining = f.joining;
              head = f.head;
              under = f.under;
              reference = f.reference;
              recorders = more
                  e.recorders part f.recorders;
            });
        same = refl;
        known = (refl, refl, refl);
        enters = λ n. n;
        leaves = λ n. n;
        hearing = tt;
      })
  entering_hears e (Reports m) f = tt

  -- ---- a round
  round_hears : (rs : List (Option Report)) (b : Body) → body_keeps q h b ≡ true → RoundFacts r p h rs →
      Hears b (Round h rs) (turned (Round h) (hears_round p rs q b))
  round_hears rs (State c s) k f = tt
  round_hears rs Abort k f = tt
  round_hears rs Join k f = tt
  round_hears rs (Recorded n part) k f = tt
  round_hears rs (Reports m) k f =
      heard r p (Some h) up lost (now (Reports m) (Round h rs)) (Reports m) (Round h rs) (Round h) true
      (is_some (reported rs q)) (set rs q (Some m)) (if outdoes p m then Outdone else Heard)
      (outdone_or_heard (outdoes p m) refl)
    where
      turns : (j : Hearing) → HearingKeeps r p (Some h) up lost (now (Reports m) (Round h rs)) (Reports m) (Round h
          rs) j → Turns (Reports m) (Round h rs) (Round h (set rs q (Some m))) j
      turns j x = record {
        stage = round_back r p h (set rs q (Some m))
            (record {
              reconfiguration = f.reconfiguration;
              head = f.head;
              reports = one_more h q rs m sender k
                  f.reports;
            });
        same = refl;
        known = refl;
        enters = λ n. n;
        leaves = λ n. n;
        hearing = x;
      }

      outdone_or_heard : (b : Bool) → outdoes p m ≡ b →
          Turns (Reports m) (Round h rs) (Round h (set rs q (Some m))) (if b then Outdone else Heard)
      outdone_or_heard true e = turns Outdone (m, refl, e, tt)
      outdone_or_heard false e = turns Heard tt

-- ---- any stage
module _ (r : ℕ) (p : Page) (up : Bool) (lost survivors : ReplicaSet) (q : ℕ) (b : Body) (t : Tests r p) where
  heard_stage : (s : Stage) → stage_keeps r p up lost s ≡ true →
      ((h : Head) → head_of s ≡ Some h → (has h.set.0 q ≡ true) × (body_keeps q h b ≡ true)) →
      HeardKeeps r p (head_of s) up lost (telling (heard_in (nothing_heard lost survivors) s) q b) b s
      (hears_stage p survivors q b s)
  heard_stage Idle k f = tt
  heard_stage (Gathering h g) k f =
      gathering_hears r p up lost survivors t h q (f h refl).0 g b (gathering_from r p h g k)
  heard_stage (Confirming h g) k f =
      confirming_hears r p up lost survivors t h q (f h refl).0 g b (confirming_from r p h g k)
  heard_stage (Applying h a) k f =
      applying_hears r p up lost survivors t h q (f h refl).0 a b (f h refl).1 (applying_from r p h a k)
  heard_stage (Entering h e) k f = entering_hears r p up lost survivors t h q (f h refl).0 e b (entering_from r p h e k)
  heard_stage (Round h rs) k f =
      round_hears r p up lost survivors t h q (f h refl).0 rs b (f h refl).1 (round_from r p h rs k)

-- what a row hears from q under its head
pub heard_keeps : (r : ℕ) (p : Page) (w : Row) (q : ℕ) (b : Body) → Tests r p →
    stage_keeps r p w.up w.lost w.stage ≡ true →
    ((h : Head) → head_of w.stage ≡ Some h → (has h.set.0 q ≡ true) × (body_keeps q h b ≡ true)) →
    HeardKeeps r p (head_of w.stage) w.up w.lost (telling (known_in w) q b) b w.stage (hears p w q b)
unfolding hears
heard_keeps r p w q b t k f = heard_stage r p w.up w.lost w.survivors q b t w.stage k f
