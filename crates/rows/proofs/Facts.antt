-- The rules of a row as facts, stage by stage. Assumes nothing.
use Rattle.std.proofs.Common.{◌≡◌, ℕ, ◌<◌, ◌≤◌, true, false, not, List, Some, Option, refl, arith}
use Rattle.std.proofs.lemmas.Bool.{and_from, and_parts, not-true, not_from_false}
use Rattle.std.proofs.lemmas.Bool.Decides.{nat_tests}
use Rattle.quorum.proofs.Below.{any_none, any_none_from}
use Rattle.quorum.specs.Below.{any, within}
use Rattle.quorum.specs.Members.{has}
use Rattle.rounds.specs.Reports.{reported}
use Rattle.rounds.specs.declared.report.Report.{Report}
use Rattle.rows.specs.Recorders.{recorders_within}
use Rattle.rows.specs.Rows.{is_waiting, is_joining, is_normal, is_reconfiguration, head_keeps, survivors_keep, has_next, reference_keeps, under_head, report_breaks, gathering_keeps, confirming_keeps, applying_keeps, entering_keeps, round_keeps, stage_keeps, row_keeps}
use Rattle.rows.specs.declared.row.Applied.{Applied}
use Rattle.rows.specs.declared.row.Confirmed.{Confirmed}
use Rattle.rows.specs.declared.row.Entered.{Entered}
use Rattle.rows.specs.declared.row.Gathered.{Gathered}
use Rattle.rows.specs.declared.row.Row.{Row}
use Rattle.stores.specs.declared.page.Mode.{Mode}
use Rattle.stores.specs.declared.page.Mode.TheVariants.{Waiting, Joining, Normal, Reconfiguration}
use Rattle.stores.specs.declared.page.Page.{Page}
use Rattle.stores.specs.declared.view.Head.{Head}

pub row_parts : (r : ℕ) (p : Page) (w : Row) → row_keeps r p w ≡ true →
    (survivors_keep w.survivors p.component ≡ true) × (stage_keeps r p w.up w.lost w.stage ≡ true)
unfolding row_keeps
row_parts r p w h = and_parts (survivors_keep w.survivors p.component) (stage_keeps r p w.up w.lost w.stage) h

pub row_from : (r : ℕ) (p : Page) (w : Row) → survivors_keep w.survivors p.component ≡ true → stage_keeps r p w.up w.lost w.stage ≡ true → row_keeps r p w ≡ true
unfolding row_keeps
row_from r p w a b = and_from (survivors_keep w.survivors p.component) (stage_keeps r p w.up w.lost w.stage) a b

-- ---- the head
pub record HeadFacts (r : ℕ) (p : Page) (h : Head) : Type 0 where
  pub holds : has h.set.0 r ≡ true
  pub stamped : h.stamp.0 ≤ p.top.0

pub head_from : (r : ℕ) (p : Page) (h : Head) → head_keeps r p h ≡ true → HeadFacts r p h
head_from r p h e = record { holds = grind (arith, nat_tests); stamped = grind (arith, nat_tests) }

pub head_back : (r : ℕ) (p : Page) (h : Head) → HeadFacts r p h → head_keeps r p h ≡ true
head_back r p h f = let a = f.holds in let b = f.stamped in grind (arith, nat_tests)

-- ---- gathering
pub record GatheringFacts (r : ℕ) (p : Page) (h : Head) (g : Gathered) : Type 0 where
  pub normal : is_normal p.mode ≡ true
  pub head : HeadFacts r p h
  pub next : has_next p.component ≡ true
  pub states : within g.states.0 h.set.0 ≡ true
  pub recorders : recorders_within g.recorders h.set.0 ≡ true

pub gathering_from : (r : ℕ) (p : Page) (h : Head) (g : Gathered) → gathering_keeps r p h g ≡ true → GatheringFacts r p h g
gathering_from r p h g e =
    let b = and_parts _ (recorders_within g.recorders h.set.0) e in
    let c = and_parts _ (within g.states.0 h.set.0) b.0 in
    let i = and_parts _ (has_next p.component) c.0 in
    let j = and_parts (is_normal p.mode) (head_keeps r p h) i.0 in
    record { normal = j.0; head = head_from r p h j.1; next = i.1; states = c.1; recorders = b.1 }

pub gathering_back : (r : ℕ) (p : Page) (h : Head) (g : Gathered) → GatheringFacts r p h g → gathering_keeps r p h g ≡ true
gathering_back r p h g f =
    and_from _ _ (and_from _ _ (and_from _ _ (and_from _ _ f.normal (head_back r p h f.head)) f.next) f.states) f.recorders

-- ---- confirming
pub record ConfirmingFacts (r : ℕ) (p : Page) (h : Head) (g : Confirmed) : Type 0 where
  pub normal : is_normal p.mode ≡ true
  pub head : HeadFacts r p h
  pub under : under_head h p.recorded ≡ true
  pub recorders : recorders_within g.recorders h.set.0 ≡ true

pub confirming_from : (r : ℕ) (p : Page) (h : Head) (g : Confirmed) → confirming_keeps r p h g ≡ true → ConfirmingFacts r p h g
confirming_from r p h g e =
    let b = and_parts _ (recorders_within g.recorders h.set.0) e in
    let c = and_parts _ (under_head h p.recorded) b.0 in
    let d = and_parts (is_normal p.mode) (head_keeps r p h) c.0 in
    record { normal = d.0; head = head_from r p h d.1; under = c.1; recorders = b.1 }

pub confirming_back : (r : ℕ) (p : Page) (h : Head) (g : Confirmed) → ConfirmingFacts r p h g → confirming_keeps r p h g ≡ true
confirming_back r p h g f =
    and_from _ _ (and_from _ _ (and_from _ _ f.normal (head_back r p h f.head)) f.under) f.recorders

-- ---- applying
pub record ApplyingFacts (r : ℕ) (p : Page) (h : Head) (a : Applied) : Type 0 where
  pub waiting : is_waiting p.mode ≡ true
  pub head : HeadFacts r p h
  pub reference : reference_keeps a.reference ≡ true
  pub joins : within a.joins.0 h.set.0 ≡ true
  pub states : within a.states.0 h.set.0 ≡ true

pub applying_from : (r : ℕ) (p : Page) (h : Head) (a : Applied) → applying_keeps r p h a ≡ true → ApplyingFacts r p h a
applying_from r p h a e =
    let x = and_parts _ (within a.states.0 h.set.0) e in
    let b = and_parts _ (within a.joins.0 h.set.0) x.0 in
    let d = and_parts _ (reference_keeps a.reference) b.0 in
    let i = and_parts (is_waiting p.mode) (head_keeps r p h) d.0 in
    record { waiting = i.0; head = head_from r p h i.1; reference = d.1; joins = b.1; states = x.1 }

pub applying_back : (r : ℕ) (p : Page) (h : Head) (a : Applied) → ApplyingFacts r p h a → applying_keeps r p h a ≡ true
applying_back r p h a f =
    and_from _ _ (and_from _ _ (and_from _ _ (and_from _ _ f.waiting (head_back r p h f.head)) f.reference) f.joins) f.states

-- ---- entering
pub record EnteringFacts (r : ℕ) (p : Page) (h : Head) (e : Entered) : Type 0 where
  pub joining : is_joining p.mode ≡ true
  pub head : HeadFacts r p h
  pub under : under_head h p.recorded ≡ true
  pub reference : reference_keeps (Some e.reference) ≡ true
  pub recorders : recorders_within e.recorders h.set.0 ≡ true

pub entering_from : (r : ℕ) (p : Page) (h : Head) (e : Entered) → entering_keeps r p h e ≡ true → EnteringFacts r p h e
entering_from r p h e k =
    let b = and_parts _ (recorders_within e.recorders h.set.0) k in
    let c = and_parts _ (reference_keeps (Some e.reference)) b.0 in
    let d = and_parts _ (under_head h p.recorded) c.0 in
    let i = and_parts (is_joining p.mode) (head_keeps r p h) d.0 in
    record { joining = i.0; head = head_from r p h i.1; under = d.1; reference = c.1; recorders = b.1 }

pub entering_back : (r : ℕ) (p : Page) (h : Head) (e : Entered) → EnteringFacts r p h e → entering_keeps r p h e ≡ true
entering_back r p h e f =
    and_from _ _ (and_from _ _ (and_from _ _ (and_from _ _ f.joining (head_back r p h f.head)) f.under) f.reference) f.recorders

-- ---- a round
pub record RoundFacts (r : ℕ) (p : Page) (h : Head) (rs : List (Option Report)) : Type 0 where
  pub reconfiguration : is_reconfiguration p.mode ≡ true
  pub head : HeadFacts r p h
  pub reports : (q : ℕ) → q < 16 → report_breaks h q (reported rs q) ≡ false

pub round_from : (r : ℕ) (p : Page) (h : Head) (rs : List (Option Report)) → round_keeps r p h rs ≡ true → RoundFacts r p h rs
round_from r p h rs e =
    let a = and_parts _ (not (any (λ q. report_breaks h q (reported rs q)) 16)) e in
    let b = and_parts (is_reconfiguration p.mode) (head_keeps r p h) a.0 in
    record { reconfiguration = b.0; head = head_from r p h b.1; reports = any_none (λ q. report_breaks h q (reported rs q)) 16 (not-true _ a.1) }

pub round_back : (r : ℕ) (p : Page) (h : Head) (rs : List (Option Report)) → RoundFacts r p h rs → round_keeps r p h rs ≡ true
round_back r p h rs f =
    and_from _ _ (and_from _ _ f.reconfiguration (head_back r p h f.head)) (not_from_false _ (any_none_from (λ q. report_breaks h q (reported rs q)) 16 f.reports))

-- ---- modes
pub mode_normal : (m : Mode) → is_normal m ≡ true → m ≡ Normal
mode_normal Waiting e = absurd cc
mode_normal Joining e = absurd cc
mode_normal Normal e = refl
mode_normal Reconfiguration e = absurd cc

pub mode_waiting : (m : Mode) → is_waiting m ≡ true → m ≡ Waiting
mode_waiting Waiting e = refl
mode_waiting Joining e = absurd cc
mode_waiting Normal e = absurd cc
mode_waiting Reconfiguration e = absurd cc

pub mode_joining : (m : Mode) → is_joining m ≡ true → m ≡ Joining
mode_joining Waiting e = absurd cc
mode_joining Joining e = refl
mode_joining Normal e = absurd cc
mode_joining Reconfiguration e = absurd cc

pub mode_reconfiguration : (m : Mode) → is_reconfiguration m ≡ true → m ≡ Reconfiguration
mode_reconfiguration Waiting e = absurd cc
mode_reconfiguration Joining e = absurd cc
mode_reconfiguration Normal e = absurd cc
mode_reconfiguration Reconfiguration e = refl
