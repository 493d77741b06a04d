-- Sixteen pages, one of them replaced; the pages of a founded floor. Assumes nothing.
use Rattle.std.proofs.Common.{◌≡◌, ℕ, ◌+◌, ◌<◌, true, false, if◌then◌else◌, not, ◌||◌, ◌==◌, nat_lt, List, length, set, is_some, Some, None, Ok, Option, refl, ap, ◌∙◌, ⊎_elim, arith}
use Rattle.std.proofs.lemmas.List.{get_or-set_same, get_or-set_other}
use Rattle.std.proofs.lemmas.Bool.{cases_eq, and_parts, or_parts, eqb-true, false≢true, not-false}
use Rattle.std.proofs.lemmas.Bool.Decides.{nat_tests}
use Rattle.quorum.proofs.Below.{any_none}
use Rattle.quorum.specs.Below.{any}
use Rattle.quorum.specs.Members.{has}
use Rattle.quorum.specs.declared.fault.Reason.TheVariants.{BadFounding, NotFresh}
use Rattle.rows.proofs.Facts.{mode_waiting}
use Rattle.stores.specs.Kept.{fresh, page_at}
use Rattle.stores.specs.declared.page.Page.{Page}
use Rattle.stores.specs.declared.view.View.{View}
use Rattle.runs.specs.Founding.{is_fresh, nameless, founding_refusal, founding_page, FoundedPages}
use Rattle.quorum.specs.Faults.{refused_if, allowed}
use Rattle.quorum.proofs.Refused.{neither, not_refused, was_allowed}

-- a member's page is written
pub founded_write : (v : View) (xs ys : List Page) (n : ℕ) → length ys ≡ 16 → n < 16 → has v.set.0 n ≡ true → FoundedPages v xs n ys →
    FoundedPages v xs (n + 1) (set ys n (founding_page v))
founded_write v xs ys n l b h f r i =
    ⊎_elim
    (λ e. let here : n < length ys = omega arith in
    let member : has v.set.0 r ≡ true = ap (has v.set.0) e ∙ h in
    ap (page_at (set ys n (founding_page v))) e ∙ get_or-set_same ys n (founding_page v) fresh here ∙ grind (arith, nat_tests))
    (λ ne. get_or-set_other ys n r (founding_page v) fresh ne ∙ f r i ∙ grind (arith, nat_tests))
    (cases_eq r n)

-- a replica outside the set is passed over
pub founded_skip : (v : View) (xs ys : List Page) (n : ℕ) → has v.set.0 n ≡ false → FoundedPages v xs n ys →
    FoundedPages v xs (n + 1) ys
founded_skip v xs ys n h f r i =
    ⊎_elim
    (λ e. let outside : has v.set.0 r ≡ false = ap (has v.set.0) e ∙ h in f r i ∙ grind (arith, nat_tests))
    (λ ne. f r i ∙ grind (arith, nat_tests))
    (cases_eq r n)

absent : {A : Type 0} (o : Option A) → not (is_some o) ≡ true → o ≡ None
absent None e = refl
absent (Some x) e = absurd (false≢true e)

-- a page that passes the test is the fresh page
pub fresh_from : (p : Page) → is_fresh p ≡ true → p ≡ fresh
fresh_from p e =
    let a = and_parts _ _ e in
    let b = and_parts _ _ a.1 in
    let c = and_parts _ _ b.1 in
    let d = and_parts _ _ c.1 in
    let mode = mode_waiting p.mode a.0 in
    let top = eqb-true p.top.0 0 b.0 in
    let mark = absent p.mark c.0 in
    let component = absent p.component d.0 in
    let recorded = absent p.recorded d.1 in
    λ i. record { mode = mode i; top = record { 0 = top i }; mark = mark i; component = component i; recorded = recorded i }

-- an accepted founding found every page fresh
pub accepted_fresh : (v : View) (pages : List Page) (places : ℕ) (u : Unit) → Ok u ≡ allowed (founding_refusal v pages places) →
    (r : ℕ) → r < 16 → page_at pages r ≡ fresh
accepted_fresh v pages places u e r l =
    let bad = v.set.0 == 0 || nat_lt 1000000000 v.number.0 in
    let used = any (λ q. not (is_fresh (page_at pages q))) 16 in
    let none = neither (refused_if bad (nameless BadFounding)) (refused_if (nat_lt places 16 || used) (nameless NotFresh)) (was_allowed _ u e) in
    let unused = (or_parts (nat_lt places 16) used (not_refused _ (nameless NotFresh) none.1)).1 in
    fresh_from (page_at pages r) (not-false (is_fresh (page_at pages r)) (any_none (λ q. not (is_fresh (page_at pages q))) 16 unused r l))

-- once all members are written, on pages that were fresh
pub founded_all : (v : View) (xs ys : List Page) → ((r : ℕ) → r < 16 → page_at xs r ≡ fresh) → FoundedPages v xs 16 ys →
    (r : ℕ) → r < 16 → page_at ys r ≡ (if has v.set.0 r then founding_page v else fresh)
founded_all v xs ys all f r l = let a = all r l in f r l ∙ grind (arith, nat_tests)
