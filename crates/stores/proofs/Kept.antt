-- The test of a page decides its rules. Assumes nothing.
use Rattle.std.proofs.Common.{◌≡◌, ℕ, ◌+◌, ◌≤◌, true, is_some, Some, None, Option, refl, arith}
use Rattle.std.proofs.lemmas.Bool.{and_from}
use Rattle.std.proofs.lemmas.Bool.Decides.{nat_tests}
use Rattle.quorum.specs.Members.{has}
use Rattle.stores.specs.declared.page.Page.{Page}
use Rattle.stores.specs.declared.view.Number.{Number}
use Rattle.stores.specs.declared.view.Recorded.{Recorded}
use Rattle.stores.specs.declared.view.View.{View}
use Rattle.stores.specs.Facts.{Marked, PageRules}
use Rattle.stores.specs.Rules.{mode_fits, mark_fits, component_fits, recorded_fits, numbers_follow, keeps_rules}

-- ---- from the test to the rules
component_facts : (r : ℕ) (m : Option Number) (v : View) → mark_fits m ≡ true → component_fits r m (Some v) ≡ true →
    (has v.set.0 r ≡ true) × Marked m v.number.0 × (v.number.0 ≤ 1000000000)
component_facts r None v h e = absurd (grind (arith, nat_tests))
component_facts r (Some m) v h e = (grind (arith, nat_tests), (m, refl, grind (arith, nat_tests)), grind (arith, nat_tests))

recorded_facts : (r top : ℕ) (m : Option Number) (s : Recorded) → mark_fits m ≡ true → recorded_fits r top m (Some s) ≡ true →
    (has s.view.set.0 r ≡ true) × (1 ≤ s.view.number.0) × Marked m s.view.number.0 × (s.stamp.0 ≤ top) × (s.view.number.0 ≤ 1000000000)
recorded_facts r top None s h e = absurd (grind (arith, nat_tests))
recorded_facts r top (Some m) s h e = (grind (arith, nat_tests), grind (arith, nat_tests), (m, refl, grind (arith, nat_tests)), grind (arith, nat_tests), grind (arith, nat_tests))

-- the five tests of a page
pub record Tests (r : ℕ) (p : Page) : Type 0 where
  pub mode : mode_fits p.mode (is_some p.component) (is_some p.recorded) ≡ true
  pub mark : mark_fits p.mark ≡ true
  pub component : component_fits r p.mark p.component ≡ true
  pub recorded : recorded_fits r p.top.0 p.mark p.recorded ≡ true
  pub follow : numbers_follow p.component p.recorded ≡ true

pub tests_of : (r : ℕ) (p : Page) → keeps_rules r p ≡ true → Tests r p
unfolding keeps_rules
tests_of r p h = record { mode = grind (arith, nat_tests); mark = grind (arith, nat_tests); component = grind (arith, nat_tests); recorded = grind (arith, nat_tests); follow = grind (arith, nat_tests) }

pub of_tests : (r : ℕ) (p : Page) → Tests r p → keeps_rules r p ≡ true
unfolding keeps_rules
of_tests r p t = and_from _ _ (and_from _ _ (and_from _ _ (and_from _ _ t.mode t.mark) t.component) t.recorded) t.follow

facts_at : (r : ℕ) (p : Page) → Tests r p → (v : View) → p.component ≡ Some v → (has v.set.0 r ≡ true) × Marked p.mark v.number.0 × (v.number.0 ≤ 1000000000)
facts_at r p t v e = let c = rw e at t.component in component_facts r p.mark v t.mark c

facts_of : (r : ℕ) (p : Page) → Tests r p → (s : Recorded) → p.recorded ≡ Some s →
    (has s.view.set.0 r ≡ true) × (1 ≤ s.view.number.0) × Marked p.mark s.view.number.0 × (s.stamp.0 ≤ p.top.0) × (s.view.number.0 ≤ 1000000000)
facts_of r p t s e = let c = rw e at t.recorded in recorded_facts r p.top.0 p.mark s t.mark c

pub rules_from : (r : ℕ) (p : Page) → keeps_rules r p ≡ true → PageRules r p
rules_from r p h =
    let t = tests_of r p h in
    let m = t.mode in let k = t.mark in let f = t.follow in
    record {
      waiting = λ e. grind (arith, nat_tests);
      joining = λ e. grind (arith, nat_tests);
      normal = λ e. grind (arith, nat_tests);
      reconfiguration = λ e. grind (arith, nat_tests);
      follow = λ v s e d. grind (arith, nat_tests);
      component_holds = λ v e. (facts_at r p t v e).0;
      recorded_holds = λ s e. (facts_of r p t s e).0;
      numbered = λ s e. (facts_of r p t s e).1;
      component_marked = λ v e. (facts_at r p t v e).1;
      recorded_marked = λ s e. (facts_of r p t s e).2;
      stamped = λ s e. (facts_of r p t s e).3;
      highest_mark = λ n e. grind (arith, nat_tests);
      highest_component = λ v e. (facts_at r p t v e).2;
      highest_recorded = λ s e. (facts_of r p t s e).4;
    }

-- ---- from the rules to the test
mode_back : (r : ℕ) (p : Page) → PageRules r p → mode_fits p.mode (is_some p.component) (is_some p.recorded) ≡ true
mode_back r p f = let a = f.waiting in let b = f.joining in let c = f.normal in let d = f.reconfiguration in grind (arith, nat_tests)

mark_back : (o : Option Number) → ((m : Number) → o ≡ Some m → m.0 ≤ 1000000000) → mark_fits o ≡ true
mark_back None h = refl
mark_back (Some m) h = let l = h m refl in grind (arith, nat_tests)

component_back : (r : ℕ) (m : Option Number) (o : Option View) → ((v : View) → o ≡ Some v → (has v.set.0 r ≡ true) × Marked m v.number.0) → component_fits r m o ≡ true
component_back r m None f = refl
component_back r m (Some v) f = let h = f v refl in grind (arith, nat_tests)

recorded_back : (r top : ℕ) (m : Option Number) (o : Option Recorded) →
    ((s : Recorded) → o ≡ Some s → (has s.view.set.0 r ≡ true) × (1 ≤ s.view.number.0) × Marked m s.view.number.0 × (s.stamp.0 ≤ top)) → recorded_fits r top m o ≡ true
recorded_back r top m None f = refl
recorded_back r top m (Some s) f = let h = f s refl in grind (arith, nat_tests)

follow_back : (o : Option View) (w : Option Recorded) → ((v : View) (s : Recorded) → o ≡ Some v → w ≡ Some s → s.view.number.0 ≡ v.number.0 + 1) → numbers_follow o w ≡ true
follow_back None w f = refl
follow_back (Some v) None f = refl
follow_back (Some v) (Some s) f = let h = f v s refl refl in grind (arith, nat_tests)

pub keeps_from : (r : ℕ) (p : Page) → PageRules r p → keeps_rules r p ≡ true
keeps_from r p f =
    of_tests r p (record {
      mode = mode_back r p f;
      mark = mark_back p.mark f.highest_mark;
      component = component_back r p.mark p.component (λ v e. (f.component_holds v e, f.component_marked v e));
      recorded = recorded_back r p.top.0 p.mark p.recorded (λ s e. (f.recorded_holds s e, f.numbered s e, f.recorded_marked s e, f.stamped s e));
      follow = follow_back p.component p.recorded f.follow;
    })
