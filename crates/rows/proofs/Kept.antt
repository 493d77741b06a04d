-- The tests of a report, of a message and of a row decide their rules. Assumes nothing.
use Rattle.std.proofs.Common.{◌≡◌, ℕ, ◌<◌, ◌≤◌, Bool, true, false, ◌⊎◌, List, Some, None, Decides, Option, sym, refl, ap, ◌∙◌, subst, inl, inr, arith}
use Rattle.std.proofs.lemmas.Bool.{and_from, and_parts, not-false, not_from_true}
use Rattle.std.proofs.lemmas.Bool.Decides.{nat_tests}
use Rattle.quorum.proofs.Below.{within_members, within_from}
use Rattle.quorum.specs.Below.{within}
use Rattle.quorum.specs.Members.{has}
use Rattle.quorum.specs.Sets.{nobody_set}
use Rattle.quorum.specs.declared.set.ReplicaSet.{ReplicaSet}
use Rattle.rounds.specs.Reports.{report_of, reported}
use Rattle.rounds.specs.declared.report.Report.{Report}
use Rattle.stores.proofs.Kept.{rules_from, keeps_from}
use Rattle.stores.specs.Facts.{PageRules}
use Rattle.stores.specs.Rules.{keeps_rules}
use Rattle.stores.specs.declared.page.Mode.{Mode}
use Rattle.stores.specs.declared.page.Mode.TheVariants.{Waiting, Joining, Normal, Reconfiguration}
use Rattle.stores.specs.declared.page.Page.{Page}
use Rattle.stores.specs.declared.view.Head.{Head}
use Rattle.stores.specs.declared.view.Recorded.{Recorded as RecordedView}
use Rattle.stores.specs.declared.view.View.{View}
use Rattle.rows.specs.declared.message.Body.{Body}
use Rattle.rows.specs.declared.message.Body.TheVariants.{State, Abort, Join, Recorded, Report as Reports}
use Rattle.rows.specs.declared.message.Message.{Message}
use Rattle.rows.specs.declared.row.Applied.{Applied}
use Rattle.rows.specs.declared.row.Confirmed.{Confirmed}
use Rattle.rows.specs.declared.row.Entered.{Entered}
use Rattle.rows.specs.declared.row.Gathered.{Gathered}
use Rattle.rows.specs.declared.row.Recorders.{Recorders}
use Rattle.rows.specs.declared.row.Reference.{Reference}
use Rattle.rows.specs.declared.row.Row.{Row}
use Rattle.rows.specs.declared.row.Stage.{Stage}
use Rattle.rows.specs.declared.row.Stage.TheVariants.{Idle, Gathering, Confirming, Applying, Entering, Round}
use Rattle.rows.specs.Facts.{LiesIn, RecordersLieIn, IsUnder, ReportRules, MessageRules, RowRules}
use Rattle.rows.specs.Messages.{reporting_mode, lowest_top, reported_page, report_keeps, body_keeps, message_keeps}
use Rattle.rows.specs.Recorders.{recorders_within}
use Rattle.rows.specs.Rows.{is_waiting, is_joining, is_normal, is_reconfiguration, head_of, survivors_keep, has_next, reference_keeps, under_head, report_breaks, idle_keeps, stage_keeps, row_keeps}
use Rattle.rows.proofs.Facts.{row_parts, row_from, HeadFacts, gathering_from, gathering_back, confirming_from, confirming_back, applying_from, applying_back, entering_from, entering_back, round_from, round_back, mode_normal, mode_waiting, mode_joining, mode_reconfiguration}

-- ---- a report
mode_told : (m : Mode) → reporting_mode m ≡ true → (m ≡ Normal) ⊎ (m ≡ Reconfiguration)
mode_told Waiting e = absurd cc
mode_told Joining e = absurd cc
mode_told Normal e = inl refl
mode_told Reconfiguration e = inr refl

mode_back : (m : Mode) → (m ≡ Normal) ⊎ (m ≡ Reconfiguration) → reporting_mode m ≡ true
mode_back m (inl e) = ap reporting_mode e
mode_back m (inr e) = ap reporting_mode e

pub report_rules : (q : ℕ) (m : Report) → report_keeps q m ≡ true → ReportRules q m
report_rules q m k =
    let h = and_parts (reporting_mode m.mode) (keeps_rules q (reported_page m)) k in
    record { mode = mode_told m.mode h.0; page = (reported_page m, refl, rules_from q (reported_page m) h.1) }

lowest_stamp : (o : Option RecordedView) (s : RecordedView) → o ≡ Some s → s.stamp.0 ≤ (lowest_top o).0
lowest_stamp None s e = absurd cc
lowest_stamp (Some t) s e = let j : t ≡ s = cc in subst (λ x. x.stamp.0 ≤ t.stamp.0) j (omega arith)

-- a page that keeps the rules keeps them with the lowest top stamp that its recorded view allows
lowest_serves : (q : ℕ) (p : Page) → PageRules q p → PageRules q (reported_page (report_of p))
lowest_serves q p f =
    record {
      waiting = f.waiting;
      joining = f.joining;
      normal = f.normal;
      reconfiguration = f.reconfiguration;
      follow = f.follow;
      component_holds = f.component_holds;
      recorded_holds = f.recorded_holds;
      numbered = f.numbered;
      component_marked = f.component_marked;
      recorded_marked = f.recorded_marked;
      stamped = lowest_stamp p.recorded;
      highest_mark = f.highest_mark;
      highest_component = f.highest_component;
      highest_recorded = f.highest_recorded;
    }

pub report_back : (q : ℕ) (m : Report) → ReportRules q m → report_keeps q m ≡ true
report_back q m f =
    let told = lowest_serves q f.page.0 f.page.2 in
    let rules = subst (λ t. PageRules q (reported_page t)) f.page.1 told in
    and_from (reporting_mode m.mode) _ (mode_back m.mode f.mode) (keeps_from q (reported_page m) rules)

-- ---- a message
module _ (m : Message) where
  message_parts : message_keeps m ≡ true →
      (has m.head.set.0 m.sender ≡ true) × (body_keeps m.sender m.head m.body ≡ true)
  unfolding message_keeps
  message_parts k = and_parts (has m.head.set.0 m.sender) (body_keeps m.sender m.head m.body) k

  pub message_rules : message_keeps m ≡ true → MessageRules m
  message_rules k =
      let parts = message_parts k in
      let at = λ (b : Body) (e : m.body ≡ b). ap (body_keeps m.sender m.head) (sym e) ∙ parts.1 in
      record {
        sender = parts.0;
        next = λ c s e. let t = at (State c s) e in grind (arith, nat_tests);
        in_component = λ c s e. let t = at (State c s) e in within_members s.0 c.set.0 (grind (arith, nat_tests));
        in_head = λ c s e. let t = at (State c s) e in within_members s.0 m.head.set.0 (grind (arith, nat_tests));
        numbered = λ n p e. let t = at (Recorded n p) e in grind (arith, nat_tests);
        highest = λ n p e. let t = at (Recorded n p) e in grind (arith, nat_tests);
        report = λ t e. report_rules m.sender t (at (Reports t) e);
      }

  body_back : MessageRules m → (b : Body) → m.body ≡ b → body_keeps m.sender m.head b ≡ true
  body_back f (State c s) e =
      let n = f.next c s e in
      let i = within_from s.0 c.set.0 (f.in_component c s e) in
      let j = within_from s.0 m.head.set.0 (f.in_head c s e) in
      and_from _ _ (and_from _ _ (grind (arith, nat_tests)) i) j
  body_back f Abort e = refl
  body_back f Join e = refl
  body_back f (Recorded n p) e = let a = f.numbered n p e in let b = f.highest n p e in grind (arith, nat_tests)
  body_back f (Reports t) e = report_back m.sender t (f.report t e)

  pub message_back : MessageRules m → message_keeps m ≡ true
  unfolding message_keeps
  message_back f = and_from _ _ f.sender (body_back f m.body refl)

  -- whatever answers as the test does decides the rules
  pub message_decides : (b : Bool) → b ≡ message_keeps m → Decides b (MessageRules m)
  message_decides b e = subst (λ x. Decides x (MessageRules m)) (sym e) (message_rules, message_back)

-- ---- what a row's rules speak of
recorders_lie : (x : Recorders) (s : ℕ) → recorders_within x s ≡ true → RecordersLieIn x s
recorders_lie x s k =
    let i = and_parts (within x.members.0 s) (within x.newcomers.0 s) k in
    (within_members x.members.0 s i.0, within_members x.newcomers.0 s i.1)

recorders_back : (x : Recorders) (s : ℕ) → RecordersLieIn x s → recorders_within x s ≡ true
recorders_back x s f = and_from _ _ (within_from x.members.0 s f.0) (within_from x.newcomers.0 s f.1)

is_under : (h : Head) (o : Option RecordedView) → under_head h o ≡ true → IsUnder o h
is_under h None k = absurd cc
is_under h (Some s) k =
    let stamp : s.stamp.0 ≡ h.stamp.0 = grind (arith, nat_tests) in
    let set : s.view.set.0 ≡ h.set.0 = grind (arith, nat_tests) in
    (s, refl, ap (λ n. record { 0 = n }) stamp, ap (λ n. record { 0 = n }) set)

under_back : (h : Head) (o : Option RecordedView) → IsUnder o h → under_head h o ≡ true
under_back h None f = absurd (let e = f.1 in cc)
under_back h (Some s) f = let e = f.1 in let i = f.2 in let j = f.3 in grind (arith, nat_tests)

next_of : (o : Option View) → has_next o ≡ true → (c : View) × (o ≡ Some c) × (c.number.0 < 1000000000)
next_of None k = absurd cc
next_of (Some c) k = (c, refl, grind (arith, nat_tests))

next_back : (o : Option View) → (c : View) × (o ≡ Some c) × (c.number.0 < 1000000000) → has_next o ≡ true
next_back o f = let l = f.2 in rw f.1 (grind (arith, nat_tests))

reference_next : (o : Option Reference) → reference_keeps o ≡ true →
    (f : Reference) → o ≡ Some f → f.component.number.0 < 1000000000
reference_next o k f e = let t = ap reference_keeps (sym e) ∙ k in grind (arith, nat_tests)

reference_back : (o : Option Reference) → ((f : Reference) → o ≡ Some f → f.component.number.0 < 1000000000) →
    reference_keeps o ≡ true
reference_back None n = refl
reference_back (Some f) n = let l = n f refl in grind (arith, nat_tests)

survivors_lie : (s : ReplicaSet) (o : Option View) → survivors_keep s o ≡ true →
    (c : View) → o ≡ Some c → LiesIn s.0 c.set.0
survivors_lie s o k c e = within_members s.0 c.set.0 (ap (survivors_keep s) (sym e) ∙ k)

no_survivors : (s : ReplicaSet) (o : Option View) → survivors_keep s o ≡ true → o ≡ None → s ≡ nobody_set
no_survivors s o k e =
    let t : survivors_keep s None ≡ true = ap (survivors_keep s) (sym e) ∙ k in
    ap (λ n. record { 0 = n }) (grind (arith, nat_tests))

survivors_back : (s : ReplicaSet) (o : Option View) →
    ((c : View) → o ≡ Some c → LiesIn s.0 c.set.0) → (o ≡ None → s ≡ nobody_set) → survivors_keep s o ≡ true
survivors_back s None f g = let e = g refl in grind (arith, nat_tests)
survivors_back s (Some c) f g = within_from s.0 c.set.0 (f c refl)

idle_back : (up : Bool) (lost : ReplicaSet) (m : Mode) → lost ≡ nobody_set → (up ≡ true → m ≡ Joining → ⊥) →
    idle_keeps up lost m ≡ true
idle_back true lost Joining e n = absurd (n refl refl)
idle_back false lost m e n = grind (arith, nat_tests)
idle_back true lost Waiting e n = grind (arith, nat_tests)
idle_back true lost Normal e n = grind (arith, nat_tests)
idle_back true lost Reconfiguration e n = grind (arith, nat_tests)

heard_report : (h : Head) (q : ℕ) (o : Option Report) → report_breaks h q o ≡ false → (m : Report) → o ≡ Some m →
    (has h.set.0 q ≡ true) × ReportRules q m
heard_report h q o k m e =
    let t = and_parts (has h.set.0 q) (report_keeps q m) (not-false _ (ap (report_breaks h q) (sym e) ∙ k)) in
    (t.0, report_rules q m t.1)

heard_back : (h : Head) (q : ℕ) (o : Option Report) →
    ((m : Report) → o ≡ Some m → (has h.set.0 q ≡ true) × ReportRules q m) → report_breaks h q o ≡ false
heard_back h q None f = refl
heard_back h q (Some m) f = let t = f m refl in not_from_true _ (and_from _ _ t.0 (report_back q m t.1))

module _ (r : ℕ) (p : Page) (up : Bool) (lost : ReplicaSet) where
  -- the head, whatever the stage
  head_at : (s : Stage) → stage_keeps r p up lost s ≡ true → (h : Head) → head_of s ≡ Some h → HeadFacts r p h
  head_at Idle k h e = absurd cc
  head_at (Gathering i g) k h e = subst (HeadFacts r p) (let j : i ≡ h = cc in j) (gathering_from r p i g k).head
  head_at (Confirming i g) k h e = subst (HeadFacts r p) (let j : i ≡ h = cc in j) (confirming_from r p i g k).head
  head_at (Applying i a) k h e = subst (HeadFacts r p) (let j : i ≡ h = cc in j) (applying_from r p i a k).head
  head_at (Entering i a) k h e = subst (HeadFacts r p) (let j : i ≡ h = cc in j) (entering_from r p i a k).head
  head_at (Round i rs) k h e = subst (HeadFacts r p) (let j : i ≡ h = cc in j) (round_from r p i rs k).head

-- ---- a row
module _ (r : ℕ) (p : Page) (w : Row) where
  stage_at : (s : Stage) → row_keeps r p w ≡ true → w.stage ≡ s → stage_keeps r p w.up w.lost s ≡ true
  stage_at s k e = ap (stage_keeps r p w.up w.lost) (sym e) ∙ (row_parts r p w k).1

  pub row_rules : row_keeps r p w ≡ true → RowRules r p w
  row_rules k =
      let parts = row_parts r p w k in
      let head = head_at r p w.up w.lost w.stage parts.1 in
      let gathering = λ (h : Head) (g : Gathered) (e : w.stage ≡ Gathering h g).
      gathering_from r p h g (stage_at (Gathering h g) k e) in
      let confirming = λ (h : Head) (g : Confirmed) (e : w.stage ≡ Confirming h g).
      confirming_from r p h g (stage_at (Confirming h g) k e) in
      let applying = λ (h : Head) (a : Applied) (e : w.stage ≡ Applying h a).
      applying_from r p h a (stage_at (Applying h a) k e) in
      let entering = λ (h : Head) (a : Entered) (e : w.stage ≡ Entering h a).
      entering_from r p h a (stage_at (Entering h a) k e) in
      let round = λ (h : Head) (rs : List (Option Report)) (e : w.stage ≡ Round h rs).
      round_from r p h rs (stage_at (Round h rs) k e) in
      record {
        nothing_lost = λ e. let t = stage_at Idle k e in ap (λ n. record { 0 = n }) (grind (arith, nat_tests));
        not_idle = λ u j e. let t = stage_at Idle k e in grind (arith, nat_tests);
        head_holds = λ h e. (head h e).holds;
        head_stamped = λ h e. (head h e).stamped;
        survivors = survivors_lie w.survivors p.component parts.0;
        no_survivors = no_survivors w.survivors p.component parts.0;
        gathering = λ h g e. mode_normal p.mode (gathering h g e).normal;
        confirming = λ h g e. mode_normal p.mode (confirming h g e).normal;
        applying = λ h a e. mode_waiting p.mode (applying h a e).waiting;
        entering = λ h a e. mode_joining p.mode (entering h a e).joining;
        round = λ h rs e. mode_reconfiguration p.mode (round h rs e).reconfiguration;
        component_next = λ h g e. next_of p.component (gathering h g e).next;
        applied_next = λ h a f e i. reference_next a.reference (applying h a e).reference f i;
        entered_next = λ h a e. reference_next (Some a.reference) (entering h a e).reference a.reference refl;
        confirming_under = λ h g e. is_under h p.recorded (confirming h g e).under;
        entering_under = λ h a e. is_under h p.recorded (entering h a e).under;
        gathered_states = λ h g e. within_members g.states.0 h.set.0 (gathering h g e).states;
        gathered_recorders = λ h g e. recorders_lie g.recorders h.set.0 (gathering h g e).recorders;
        confirmed_recorders = λ h g e. recorders_lie g.recorders h.set.0 (confirming h g e).recorders;
        applied_joins = λ h a e. within_members a.joins.0 h.set.0 (applying h a e).joins;
        applied_states = λ h a e. within_members a.states.0 h.set.0 (applying h a e).states;
        entered_recorders = λ h a e. recorders_lie a.recorders h.set.0 (entering h a e).recorders;
        reporters = λ h rs e q m l i. (heard_report h q (reported rs q) ((round h rs e).reports q l) m i).0;
        reports = λ h rs e q m l i. (heard_report h q (reported rs q) ((round h rs e).reports q l) m i).1;
      }

  head_back : RowRules r p w → (h : Head) → head_of w.stage ≡ Some h → HeadFacts r p h
  head_back f h e = record { holds = f.head_holds h e; stamped = f.head_stamped h e }

  stage_back : RowRules r p w → (s : Stage) → w.stage ≡ s → stage_keeps r p w.up w.lost s ≡ true
  stage_back f Idle e = idle_back w.up w.lost p.mode (f.nothing_lost e) (λ u j. f.not_idle u j e)
  stage_back f (Gathering h g) e =
      gathering_back r p h g
      (record {
        normal = ap is_normal (f.gathering h g e);
        head = head_back f h (ap head_of e);
        next = next_back p.component (f.component_next h g e);
        states = within_from g.states.0 h.set.0 (f.gathered_states h g e);
        recorders = recorders_back g.recorders h.set.0 (f.gathered_recorders h g e);
      })
  stage_back f (Confirming h g) e =
      confirming_back r p h g
      (record {
        normal = ap is_normal (f.confirming h g e);
        head = head_back f h (ap head_of e);
        under = under_back h p.recorded (f.confirming_under h g e);
        recorders = recorders_back g.recorders h.set.0 (f.confirmed_recorders h g e);
      })
  stage_back f (Applying h a) e =
      applying_back r p h a
      (record {
        waiting = ap is_waiting (f.applying h a e);
        head = head_back f h (ap head_of e);
        reference = reference_back a.reference (λ t i. f.applied_next h a t e i);
        joins = within_from a.joins.0 h.set.0 (f.applied_joins h a e);
        states = within_from a.states.0 h.set.0 (f.applied_states h a e);
      })
  stage_back f (Entering h a) e =
      entering_back r p h a
      (record {
        joining = ap is_joining (f.entering h a e);
        head = head_back f h (ap head_of e);
        under = under_back h p.recorded (f.entering_under h a e);
        reference = let n = f.entered_next h a e in grind (arith, nat_tests);
        recorders = recorders_back a.recorders h.set.0 (f.entered_recorders h a e);
      })
  stage_back f (Round h rs) e =
      round_back r p h rs
      (record {
        reconfiguration = ap is_reconfiguration (f.round h rs e);
        head = head_back f h (ap head_of e);
        reports = λ q l. heard_back h q (reported rs q) (λ m i. (f.reporters h rs e q m l i, f.reports h rs e q m l i));
      })

  pub row_back : RowRules r p w → row_keeps r p w ≡ true
  row_back f =
      let survivors = survivors_back w.survivors p.component f.survivors f.no_survivors in
      row_from r p w survivors (stage_back f w.stage refl)

  -- whatever answers as the test does decides the rules
  pub row_decides : (b : Bool) → b ≡ row_keeps r p w → Decides b (RowRules r p w)
  row_decides b e = subst (λ x. Decides x (RowRules r p w)) (sym e) (row_rules, row_back)
