-- Pages that a call leaves: each keeps the rules. Assumes nothing.
use Rattle.std.proofs.Common.{◌≡◌, ℕ, ◌+◌, ◌≤◌, Bool, true, false, ◌||◌, is_some, Some, None, Option, sym, refl, ap, arith}
use Rattle.std.proofs.lemmas.Bool.{and_from, and_parts}
use Rattle.std.proofs.lemmas.Bool.Decides.{nat_tests}
use Rattle.quorum.specs.Members.{has}
use Rattle.rows.specs.Messages.{lowest_top, reported_page}
use Rattle.rows.specs.Rows.{is_joining}
use Rattle.stores.specs.Rules.{mode_fits, mark_fits, marked, component_fits, recorded_fits, numbers_follow}
use Rattle.stores.specs.declared.page.Mode.{Mode}
use Rattle.stores.specs.declared.page.Mode.TheVariants.{Waiting, Joining, Normal, Reconfiguration}
use Rattle.stores.specs.declared.page.Page.{Page}
use Rattle.stores.specs.declared.view.Head.{Head}
use Rattle.stores.specs.declared.view.Number.{Number}
use Rattle.stores.specs.declared.view.Recorded.{Recorded}
use Rattle.stores.specs.declared.view.View.{View}
use Rattle.manager.specs.Calls.{topped, started}
use Rattle.manager.specs.Effects.{in_mode, raised, recording, component_page, spare_page}
use Rattle.rounds.specs.Reports.{report_of}
use Rattle.laws.specs.Laws.{NotLower, Advances}
use Rattle.stores.proofs.Kept.{Tests}

-- ---- marks raised
raised_fits : (m : Option Number) (n : ℕ) → mark_fits m ≡ true → n ≤ 1000000000 → mark_fits (Some (raised m n)) ≡ true
raised_fits None n h l = grind (arith, nat_tests)
raised_fits (Some m) n h l = grind (arith, nat_tests)

raised_marked : (m : Option Number) (n k : ℕ) → marked m k ≡ true → marked (Some (raised m n)) k ≡ true
raised_marked None n k h = absurd (grind (arith, nat_tests))
raised_marked (Some m) n k h = grind (arith, nat_tests)

raised_own : (m : Option Number) (n : ℕ) → marked (Some (raised m n)) n ≡ true
raised_own None n = grind (arith, nat_tests)
raised_own (Some m) n = grind (arith, nat_tests)

component_raised : (r : ℕ) (m : Option Number) (n : ℕ) (o : Option View) → component_fits r m o ≡ true → component_fits r (Some (raised m n)) o ≡ true
component_raised r m n None h = refl
component_raised r m n (Some v) h = let a = and_parts _ _ h in and_from _ _ a.0 (raised_marked m n v.number.0 a.1)

-- ---- installing: the recorded view becomes the component view
recorded_component : (r top : ℕ) (m : Option Number) (s : Recorded) → recorded_fits r top m (Some s) ≡ true → component_fits r m (Some s.view) ≡ true
recorded_component r top m s h = grind (arith, nat_tests)

pub installed_tests : (r : ℕ) (p : Page) (s : Recorded) → p.recorded ≡ Some s → Tests r p → Tests r (component_page p p.mark s.view)
installed_tests r p s e t =
    let c = rw e at t.recorded in
    record { mode = refl; mark = t.mark; component = recorded_component r p.top.0 p.mark s c; recorded = refl; follow = refl }

-- ---- settling
pub settled_tests : (r : ℕ) (p : Page) (v : View) → has v.set.0 r ≡ true → v.number.0 ≤ 1000000000 → Tests r p → Tests r (component_page p (Some (raised p.mark v.number.0)) v)
settled_tests r p v h l t =
    record { mode = refl; mark = raised_fits p.mark v.number.0 t.mark l; component = and_from _ _ h (raised_own p.mark v.number.0); recorded = refl; follow = refl }

pub spare_tests : (r : ℕ) (p : Page) → Tests r p → Tests r (spare_page p)
spare_tests r p t = record { mode = refl; mark = t.mark; component = refl; recorded = refl; follow = refl }

-- ---- modes
pub reconfigured_tests : (r : ℕ) (p : Page) → (is_some p.component || is_some p.recorded) ≡ true → Tests r p → Tests r (in_mode Reconfiguration p)
reconfigured_tests r p h t = record { mode = h; mark = t.mark; component = t.component; recorded = t.recorded; follow = t.follow }

some_view : (m : Mode) (c s : Bool) → mode_fits m c s ≡ true → (m ≡ Waiting → ⊥) → (c || s) ≡ true
some_view Waiting c s h n = absurd (n refl)
some_view Joining true true h n = refl
some_view Joining true false h n = refl
some_view Joining false true h n = refl
some_view Joining false false h n = h
some_view Normal true s h n = refl
some_view Normal false s h n = absurd (grind (arith, nat_tests))
some_view Reconfiguration c s h n = h

-- every mode but waiting goes with a view
pub has_view : (r : ℕ) (p : Page) → Tests r p → (p.mode ≡ Waiting → ⊥) → (is_some p.component || is_some p.recorded) ≡ true
has_view r p t n = some_view p.mode (is_some p.component) (is_some p.recorded) t.mode n

started_fits : (m : Mode) (c s : Bool) → mode_fits m c s ≡ true → mode_fits (started m) c s ≡ true
started_fits Waiting c s h = h
started_fits Joining c s h = grind (arith, nat_tests)
started_fits Normal c s h = grind (arith, nat_tests)
started_fits Reconfiguration c s h = h

pub started_tests : (r : ℕ) (p : Page) → Tests r p → Tests r (in_mode (started p.mode) p)
started_tests r p t = record { mode = started_fits p.mode _ _ t.mode; mark = t.mark; component = t.component; recorded = t.recorded; follow = t.follow }

-- without a recorded view, no page is joining
joining_none : (m : Mode) (c : Bool) → mode_fits m c false ≡ true → is_joining m ≡ false
joining_none Waiting c h = refl
joining_none Joining true h = sym h
joining_none Joining false h = sym h
joining_none Normal c h = refl
joining_none Reconfiguration c h = refl

pub joining_recorded : (r : ℕ) (p : Page) → p.recorded ≡ None → Tests r p → is_joining p.mode ≡ false
joining_recorded r p e t = let m = rw e at t.mode in joining_none p.mode (is_some p.component) m

-- ---- forgetting: the recorded view of a joining page goes
forgotten_fits : (m : Mode) (c s : Bool) → is_joining m ≡ true → mode_fits m c s ≡ true → mode_fits Waiting c false ≡ true
forgotten_fits Waiting c s j h = absurd (grind (arith, nat_tests))
forgotten_fits Joining c s j h = grind (arith, nat_tests)
forgotten_fits Normal c s j h = absurd (grind (arith, nat_tests))
forgotten_fits Reconfiguration c s j h = absurd (grind (arith, nat_tests))

pub forgotten_tests : (r : ℕ) (p : Page) → is_joining p.mode ≡ true → Tests r p →
    Tests r (record { mode = Waiting; top = p.top; mark = p.mark; component = p.component; recorded = None })
forgotten_tests r p j t = record { mode = forgotten_fits p.mode _ _ j t.mode; mark = t.mark; component = t.component; recorded = refl; follow = none_follows p.component }
  where
    none_follows : (o : Option View) → numbers_follow o None ≡ true
    none_follows None = refl
    none_follows (Some v) = refl

-- ---- recording under the head h
follow_from : (o : Option View) (s : Recorded) → ((c : View) → o ≡ Some c → s.view.number.0 ≡ c.number.0 + 1) → numbers_follow o (Some s) ≡ true
follow_from None s f = refl
follow_from (Some c) s f = let h = f c refl in grind (arith, nat_tests)

pub recording_tests : (r : ℕ) (m : Mode) (p : Page) (h : Head) (n : ℕ) → mode_fits m (is_some p.component) true ≡ true → has h.set.0 r ≡ true → h.stamp.0 ≤ p.top.0 →
    1 ≤ n → n ≤ 1000000000 → ((c : View) → p.component ≡ Some c → n ≡ c.number.0 + 1) → Tests r p → Tests r (recording m p h n)
recording_tests r m p h n f i l a b c t = record {
  mode = f;
  mark = raised_fits p.mark n t.mark b;
  component = component_raised r p.mark n p.component t.component;
  recorded = and_from _ _ (and_from _ _ (and_from _ _ i (grind (arith, nat_tests))) (raised_own p.mark n)) (grind (arith, nat_tests));
  follow = follow_from p.component _ c;
}

-- ---- another stamp for the top stamp
top_fits : (r a b : ℕ) (m : Option Number) (o : Option Recorded) → recorded_fits r a m o ≡ true → ((s : Recorded) → o ≡ Some s → s.stamp.0 ≤ a → s.stamp.0 ≤ b) → recorded_fits r b m o ≡ true
top_fits r a b m None h f = refl
top_fits r a b m (Some s) h f =
    let l : s.stamp.0 ≤ a = grind (arith, nat_tests) in
    let k = f s refl l in
    grind (arith, nat_tests)

pub topped_tests : (r : ℕ) (p : Page) (h : Head) → p.top.0 ≤ h.stamp.0 → Tests r p → Tests r (topped p h)
topped_tests r p h l t =
    record { mode = t.mode; mark = t.mark; component = t.component; recorded = top_fits r p.top.0 h.stamp.0 p.mark p.recorded t.recorded (λ s e k. omega arith); follow = t.follow }

lowest_fits : (o : Option Recorded) (s : Recorded) → o ≡ Some s → s.stamp.0 ≤ (lowest_top o).0
lowest_fits None s e = absurd cc
lowest_fits (Some t) s e = let same : t ≡ s = cc in let stamps : t.stamp.0 ≡ s.stamp.0 = ap (λ (x : Recorded). x.stamp.0) same in omega arith

-- the page that its own report tells of
pub reported_tests : (r : ℕ) (p : Page) → Tests r p → Tests r (reported_page (report_of p))
reported_tests r p t =
    record {
      mode = t.mode;
      mark = t.mark;
      component = t.component;
      recorded = top_fits r p.top.0 (lowest_top p.recorded).0 p.mark p.recorded t.recorded (λ s e k. lowest_fits p.recorded s e);
      follow = t.follow;
    }

-- ---- nothing falls where the mark is raised
raised_mark : (a b : Option Number) (n : ℕ) → NotLower a b → NotLower a (Some (raised b n))
raised_mark None b n h = tt
raised_mark (Some x) None n h = absurd h
raised_mark (Some x) (Some y) n h = omega arith

pub advances_raised : (q p : Page) (n : ℕ) → Advances q p → NotLower q.mark (Some (raised p.mark n))
advances_raised q p n a = raised_mark q.mark p.mark n a.mark
