-- Recording the head, as a member and as a newcomer, and judging a head. Assumes nothing.
use Rattle.std.proofs.Common.{◌≡◌, ℕ, ◌+◌, ◌<◌, ◌≤◌, Bool, true, ◌&&◌, ltb, leb, ◌⊎◌, is_some, Some, None, Option, sym, refl, ap, ◌∙◌, subst, inr, arith}
use Rattle.std.proofs.lemmas.Bool.{cond_both, eq-eqb, and_from, ltb-true, le-leb}
use Rattle.quorum.specs.Members.{has}
use Rattle.rounds.proofs.Highest.{some_same, none_some}
use Rattle.rows.specs.Messages.{message_keeps}
use Rattle.rows.specs.Recorders.{no_recorders, recorders_with}
use Rattle.rows.specs.Rows.{under_head, stage_keeps, row_keeps}
use Rattle.rows.specs.declared.message.Message.{Message}
use Rattle.rows.specs.declared.message.Part.{Part}
use Rattle.rows.specs.declared.message.Part.TheVariants.{Member, Newcomer}
use Rattle.rows.specs.declared.row.Applied.{Applied}
use Rattle.rows.specs.declared.row.Gathered.{Gathered}
use Rattle.rows.specs.declared.row.Recorders.{Recorders}
use Rattle.rows.specs.declared.row.Reference.{Reference}
use Rattle.rows.specs.declared.row.Row.{Row}
use Rattle.rows.specs.declared.row.Stage.{Stage}
use Rattle.rows.specs.declared.row.Stage.TheVariants.{Idle, Gathering, Confirming, Applying, Entering, Round}
use Rattle.stores.specs.Rules.{mode_fits}
use Rattle.stores.specs.Views.{recorded as recorded_view}
use Rattle.stores.specs.declared.page.Mode.TheVariants.{Waiting, Joining}
use Rattle.stores.specs.declared.page.Page.{Page}
use Rattle.stores.specs.declared.view.Head.{Head}
use Rattle.stores.specs.declared.view.View.{View}
use Rattle.manager.specs.Calls.{head_of}
use Rattle.manager.specs.Effects.{Entry, carried_out, recording, member_row, newcomer_row, recorded_message, next_component, no_entry, member_entry, numbered_entry, newcomer_entry, stage_entry, entry_of, posts_of, judged_again, judged_by, judged}
use Rattle.manager.specs.Verdicts.{verdict_of}
use Rattle.manager.specs.declared.need.Need.{Need}
use Rattle.manager.specs.declared.verdict.Verdict.{Verdict}
use Rattle.manager.specs.declared.verdict.Verdict.TheVariants.{Stays, Records, Installs, Reconfigures, Closes, Forgets, Ends}
use Rattle.manager.specs.Requests.{Request}
use Rattle.laws.specs.Grounds.{AllRecorded, NoNewcomers, EnoughStates, RecordingGrounds, IsRound}
use Rattle.laws.specs.Known.{Known, part_in, with_own, counted}
use Rattle.laws.specs.Laws.{Advances}
use Rattle.laws.proofs.Courses.{First, says, untold, last_posted, Brought, Stands, standing, Course}
use Rattle.laws.proofs.Courses.Course.{judged_so}
use Rattle.laws.proofs.Judged.{Agrees, MayRecord, Fits, verdict_fits}
use Rattle.stores.proofs.Kept.{Tests}
use Rattle.laws.proofs.Pages.{advances_raised, recording_tests}
use Rattle.rows.proofs.Facts.{row_parts, row_from, GatheringFacts, gathering_from, confirming_back, ApplyingFacts, applying_from, entering_back, mode_normal, mode_waiting}
use Rattle.laws.proofs.Subsets.{recorders_none, recorders_added}

-- ---- the message of a recording
recorded_told : (r : ℕ) (h : Head) (n : ℕ) (part : Part) → has h.set.0 r ≡ true → 1 ≤ n → n ≤ 1000000000 →
    message_keeps (recorded_message r h n part) ≡ true
unfolding message_keeps
recorded_told r h n part i a b =
    and_from (has h.set.0 r) (leb 1 n && leb n 1000000000) i
    (and_from (leb 1 n) (leb n 1000000000) (le-leb 1 n a) (le-leb n 1000000000 b))

counted_told : (r : ℕ) (k : Known) (a : Option Message) (m : Message) →
    with_own r k (part_in m.body) ≡ counted r k (posts_of a (Some m))
counted_told r k None m = refl
counted_told r k (Some a) m = refl

module _ (f : ℕ → ℕ → Bool) (need : Need) (r : ℕ) (h : Head) (k : Known) (q : Page) (In : Type 0) where
  -- a recording, after a first message
  abbrev pub EntryStands : Option Message → Entry → Type 0
  EntryStands first e = Stands f need r h k q In (posts_of first e.message) e.page e.row

  module _ (p : Page) (w : Row) (first : Option Message) (said : First r h first)
      (st : Brought f need r h k q In p w) where
    none_recorded : EntryStands first (no_entry p w)
    none_recorded = standing f need r h k q In (posts_of first None) p w (untold r h first said)
        (says r h first None said tt) st

    -- the head is recorded under the number n in this part, in a stage that is no round
    records : (n : ℕ) (part : Part) (x : Page) (y : Row) → Tests r x → row_keeps r x y ≡ true →
        head_of y.stage ≡ Some h → x.recorded ≡ Some (recorded_view n h.set.0 h.stamp.0) →
        Advances q x → x.component ≡ q.component → Agrees (with_own r k (Some part)) y → (In → IsRound y.stage) →
        (IsRound y.stage → In) →
        RecordingGrounds need h k q.component n part → has h.set.0 r ≡ true → 1 ≤ n → n ≤ 1000000000 →
        Stands f need r h k q In (posts_of first (Some (recorded_message r h n part))) x y
    records n part x y t i s c a o g e l grounds holds low high =
        let m = recorded_message r h n part in
        record {
          page = t;
          row = i;
          same = s;
          known = subst (λ (z : Known). Agrees z y) (counted_told r k first m) g;
          advances = a;
          component = o;
          recorded = inr (record {
            under = h;
            is = refl;
            number = n;
            part = part;
            view = c;
            told = last_posted first m;
            grounds = grounds;
          });
          enters = e;
          leaves = l;
          says = says r h first (Some m) said
              (record { keeps = recorded_told r h n part holds low high; sender = refl; head = refl }, tt);
        }

    under : under_head h (Some (recorded_view 0 h.set.0 h.stamp.0)) ≡ true
    under = and_from _ _ (eq-eqb h.stamp.0 h.stamp.0 refl) (eq-eqb h.set.0 h.set.0 refl)

    member_numbered : (g : Gathered) → w.stage ≡ Gathering h g → GatheringFacts r p h g → (c : View) →
        p.component ≡ Some c → c.number.0 < 1000000000 →
        (NoNewcomers h k ⊎ (AllRecorded h k.survivors k × EnoughStates need k c.set.0)) → EntryStands first
        (member_entry r p w h g (Some (record { 0 = c.number.0 + 1 })))
    member_numbered g i z c e l may =
        let n = c.number.0 + 1 in
        let x = recording p.mode p h n in
        let y = member_row r w h g in
        let same : (v : View) → p.component ≡ Some v → n ≡ v.number.0 + 1 = λ v d. ap (λ (u : View). u.number.0 + 1)
        (some_same e d) in
        let fits : mode_fits p.mode (is_some p.component) true ≡ true = rw (mode_normal p.mode z.normal, e) in
        let heard = rw i at st.known.stage in
        let enters = rw i at st.enters in
        records n Member x y (recording_tests r p.mode p h n fits z.head.holds z.head.stamped (omega arith)
        (omega arith) same st.page)
        (row_from r x y (row_parts r p w st.row).0
        (confirming_back r x h (record { recorders = recorders_with g.recorders r Member; answered = g.answered })
        (record {
          normal = z.normal;
          head = record { holds = z.head.holds; stamped = z.head.stamped };
          under = under;
          recorders = recorders_added g.recorders h.set.0 r Member z.recorders z.head.holds;
        })))
        refl refl (record { top = st.advances.top; mark = advances_raised q p n st.advances }) st.component
        (record {
          lost = st.known.lost;
          survivors = st.known.survivors;
          stage = (ap (λ (u : Recorders). recorders_with u r Member) heard.1, refl);
        })
        enters (λ b. absurd b) (record {
          view = c;
          is = sym st.component ∙ e;
          next = refl;
          once = heard.2;
          known = may;
        })
        z.head.holds (omega arith) (omega arith)

    member_recorded : (g : Gathered) → w.stage ≡ Gathering h g → GatheringFacts r p h g →
        MayRecord need h k p.component (Gathering h g) → (o : Option View) → p.component ≡ o →
        EntryStands first (member_entry r p w h g (next_component o))
    member_recorded g i z may None e = none_recorded
    member_recorded g i z may (Some c) e =
        cond_both (ltb c.number.0 1000000000) (Some (record { 0 = c.number.0 + 1 })) None
        (λ n. EntryStands first (member_entry r p w h g n))
        (λ l. member_numbered g i z c e (ltb-true c.number.0 1000000000 l) (may c e)) (λ _. none_recorded)

    no_component : p.mode ≡ Waiting → p.component ≡ None
    no_component m = let t = rw m at st.page.mode in absent p.component (is_some p.recorded) t
      where
        absent : (o : Option View) (s : Bool) → mode_fits Waiting (is_some o) s ≡ true → o ≡ None
        absent None s e = refl
        absent (Some v) s e = absurd cc

    newcomer_numbered : (a : Applied) → w.stage ≡ Applying h a → ApplyingFacts r p h a → (x : Reference) →
        a.reference ≡ Some x → x.component.number.0 < 1000000000 →
        EnoughStates need k x.component.set.0 → EntryStands first
        (numbered_entry r p w h x (Some (record { 0 = x.component.number.0 + 1 })))
    newcomer_numbered a i z x e l may =
        let n = x.component.number.0 + 1 in
        let m = mode_waiting p.mode z.waiting in
        let none = no_component m in
        let y = newcomer_row r w h x in
        let u = recording Joining p h n in
        let same : (v : View) → p.component ≡ Some v → n ≡ v.number.0 + 1 = λ v d. absurd (none_some none d) in
        let fits : mode_fits Joining (is_some p.component) true ≡ true = rw none in
        let keep = rw e at z.reference in
        let heard = rw i at st.known.stage in
        let enters = rw i at st.enters in
        records n Newcomer u y (recording_tests r Joining p h n fits z.head.holds z.head.stamped (omega arith)
        (omega arith) same st.page)
        (row_from r u y (row_parts r p w st.row).0
        (entering_back r u h (record { reference = x; recorders = recorders_with no_recorders r Newcomer })
        (record {
          joining = refl;
          head = record { holds = z.head.holds; stamped = z.head.stamped };
          under = under;
          reference = keep;
          recorders = recorders_added no_recorders h.set.0 r Newcomer (recorders_none h.set.0) z.head.holds;
        })))
        refl refl (record { top = st.advances.top; mark = advances_raised q p n st.advances }) st.component
        (record {
          lost = st.known.lost;
          survivors = st.known.survivors;
          stage = (ap (λ (v : Recorders). recorders_with v r Newcomer) heard.3, heard.2 ∙ e, refl);
        })
        enters (λ b. absurd b)
        (record {
          without = sym st.component ∙ none;
          reference = x;
          is = heard.2 ∙ e;
          next = refl;
          once = heard.4;
          enough = may;
        })
        z.head.holds (omega arith) (omega arith)

    newcomer_recorded : (a : Applied) → w.stage ≡ Applying h a → ApplyingFacts r p h a →
        MayRecord need h k p.component (Applying h a) → (o : Option Reference) → a.reference ≡ o →
        EntryStands first (newcomer_entry r p w h o)
    newcomer_recorded a i z may None e = none_recorded
    newcomer_recorded a i z may (Some x) e =
        let heard = rw i at st.known.stage in
        cond_both (ltb x.component.number.0 1000000000) (Some (record { 0 = x.component.number.0 + 1 })) None
        (λ n. EntryStands first (numbered_entry r p w h x n))
        (λ l. newcomer_numbered a i z x e (ltb-true x.component.number.0 1000000000 l) (may x (heard.2 ∙ e)))
        (λ _. none_recorded)

    stage_recorded : (s : Stage) → w.stage ≡ s → head_of s ≡ Some h → MayRecord need h k p.component s →
        stage_keeps r p w.up w.lost s ≡ true → EntryStands first (stage_entry r p w s)
    stage_recorded Idle i e may x = none_recorded
    stage_recorded (Gathering h' g) i e may x =
        let heads : h' ≡ h = some_same refl e in
        let j = rw heads at i in
        let y = rw heads at x in
        rw heads (member_recorded g j (gathering_from r p h g y) may p.component refl)
    stage_recorded (Confirming h' g) i e may x = none_recorded
    stage_recorded (Applying h' a) i e may x =
        let heads : h' ≡ h = some_same refl e in
        let j = rw heads at i in
        let y = rw heads at x in
        rw heads (newcomer_recorded a j (applying_from r p h a y) may a.reference refl)
    stage_recorded (Entering h' g) i e may x = none_recorded
    stage_recorded (Round h' rs) i e may x = none_recorded

    pub entry_stands : MayRecord need h k p.component w.stage → EntryStands first (entry_of r p w)
    unfolding entry_of
    entry_stands may = stage_recorded w.stage refl st.same may (row_parts r p w st.row).1

  -- ---- a head judged
  module _ (x : Request) where
    pub again : (first : Option Message) (e : Entry) → EntryStands first e →
        Course f need r h k q In x (judged_again f need r first e)
    again first e s =
        let posts = posts_of first e.message in
        judged_so posts e.page e.row (verdict_of f need r e.page e.row) s
        (verdict_fits f need r h (counted r k posts) e.page e.row s.page s.row s.same s.known)

    module _ (p : Page) (w : Row) (first : Option Message) (said : First r h first) (st : Brought f need r h k q In p w)
      where
        stood : Stands f need r h k q In (posts_of first None) p w
        stood = none_recorded p w first said st

        once : (v : Verdict) → Fits f need r h k p w.stage v →
            Course f need r h k q In x (carried_out r p w (posts_of first None) v)
        once v i =
            judged_so (posts_of first None) p w v stood
            (subst (λ (z : Known). Fits f need r h z p w.stage v) (ap (with_own r k) (sym (untold r h first said))) i)

        by_verdict : (v : Verdict) → Fits f need r h k p w.stage v →
            Course f need r h k q In x (judged_by f need r p w first v)
        by_verdict Stays i = once Stays i
        by_verdict Records i = again first (entry_of r p w) (entry_stands p w first said st i)
        by_verdict Installs i = once Installs i
        by_verdict Reconfigures i = once Reconfigures i
        by_verdict Closes i = once Closes i
        by_verdict Forgets i = once Forgets i
        by_verdict (Ends o v) i = once (Ends o v) i

        pub judges : Course f need r h k q In x (judged f need r p w first)
        judges = by_verdict (verdict_of f need r p w) (verdict_fits f need r h k p w st.page st.row st.same st.known)
