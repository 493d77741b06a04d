-- An accepted founding is one to run from. Assumes nothing.
use Rattle.std.proofs.Common.{◌≡◌, ℕ, ◌^◌, ◌<◌, ◌≤◌, true, false, not, ◌||◌, eqb, ltb, List, length, None, ⊎_elim, arith}
use Rattle.std.proofs.lemmas.Bool.{both_ways, cases_Bool, cases_lt, or_parts, ltb-false}
use Rattle.std.proofs.lemmas.Bool.Decides.{nat_tests}
use Rattle.quorum.proofs.Below.{any_some, any_none}
use Rattle.quorum.proofs.Bits.{has_high}
use Rattle.quorum.proofs.Sets.{no_members}
use Rattle.quorum.specs.Below.{any}
use Rattle.quorum.specs.Members.{has}
use Rattle.quorum.specs.declared.fault.Reason.TheVariants.{BadFounding, NotFresh}
use Rattle.manager.specs.declared.need.Need.{Need}
use Rattle.stores.specs.Kept.{page_at}
use Rattle.stores.specs.Rules.{keeps_rules}
use Rattle.stores.specs.declared.page.Page.{Page}
use Rattle.stores.specs.declared.view.View.{View}
use Rattle.runs.specs.Founding.{is_fresh, founding_page, founding_refusal, Founding, nameless}
use Rattle.runs.specs.Runs.{Founded}
use Rattle.runs.specs.World.{World}
use Rattle.quorum.specs.Faults.{refused_if}
use Rattle.quorum.proofs.Refused.{neither, not_refused}

-- a set that is not empty has a member
pub a_member : (s : ℕ) → s < 2 ^ 16 → eqb s 0 ≡ false → (q : ℕ) × (q < 16) × (has s q ≡ true)
a_member s l e =
    ⊎_elim (λ (a : any (has s) 16 ≡ true). any_some (has s) 16 a)
    (λ (a : any (has s) 16 ≡ false).
    absurd (both_ways (eqb s 0) e ((no_members s l).1 (λ k. ⊎_elim (λ h. any_none (has s) 16 a k h) (λ h. has_high s 16 k l h) (cases_lt k 16)))))
    (cases_Bool (any (has s) 16))

-- an accepted founding has somebody in its set, and a number that is at most the highest
well_formed : (first : View) (pages : List Page) (places : ℕ) → founding_refusal first pages places ≡ None →
    (eqb first.set.0 0 ≡ false) × (ltb 1000000000 first.number.0 ≡ false)
well_formed first pages places e =
    let a = neither (refused_if (eqb first.set.0 0 || ltb 1000000000 first.number.0) (nameless BadFounding))
    (refused_if (ltb places 16 || any (λ r. not (is_fresh (page_at pages r))) 16) (nameless NotFresh)) e in
    or_parts (eqb first.set.0 0) (ltb 1000000000 first.number.0) (not_refused _ (nameless BadFounding) a.0)

-- a member's page keeps the rules
pub founding_keeps : (v : View) (r : ℕ) → has v.set.0 r ≡ true → v.number.0 ≤ 1000000000 →
    keeps_rules r (founding_page v) ≡ true
unfolding keeps_rules
founding_keeps v r h l = grind (arith, nat_tests)

-- what was let through was not refused
-- before it the store had these pages and places
pub founded : (first : View) (need : Need) (pages : List Page) (places : ℕ) (w : World) → first.set.0 < 2 ^ 16 → founding_refusal first pages places ≡ None →
    Founding first need w.pages w.rows w.need w.post → length w.pages ≡ 16 → length w.rows ≡ 16 → Founded first w
founded first need pages places w l accepted left all_pages all_rows =
    let formed = well_formed first pages places accepted in
    record {
      somebody = a_member first.set.0 l formed.0;
      numbered = ltb-false 1000000000 first.number.0 formed.1;
      wanted = need;
      left = left;
      all_pages = all_pages;
      all_rows = all_rows;
    }
