-- A founding leaves a world to start from. Assumes nothing.
use Rattle.std.proofs.Common.{◌≡◌, ℕ, ◌<◌, ◌≤◌, ◌⊎◌, Some, None, sym, ap, ◌∙◌, inl, inr, ⊎_elim}
use Rattle.std.proofs.lemmas.Bool.{cases_lt, cases_cond, cond-true}
use Rattle.quorum.specs.Members.{has}
use Rattle.bridge.specs.Seen.{seen_stage, seen_post}
use Rattle.rows.specs.declared.row.Row.{Row}
use Rattle.rows.specs.declared.row.Stage.TheVariants.{Idle}
use Rattle.safety.proofs.Marks.{none_some, some_inj}
use Rattle.safety.specs.Runs.{Started}
use Rattle.stores.specs.Kept.{fresh, page_at}
use Rattle.stores.specs.declared.page.Page.{Page}
use Rattle.stores.specs.declared.view.View.{View}
use Rattle.runs.specs.Founding.{row_at, founding_page}
use Rattle.runs.specs.Runs.{Founded}
use Rattle.runs.specs.World.{World}
use Rattle.runs.proofs.Seen.{world_of, Sixteen, past_pages, past_rows}

module _ (first : View) (w : World) (founded : Founded first w) where
  pub sixteen : Sixteen w
  sixteen = (founded.all_pages, founded.all_rows)

  -- a page is a member's or fresh
  page_is : (q : ℕ) → (page_at w.pages q ≡ founding_page first) ⊎ (page_at w.pages q ≡ fresh)
  page_is q =
      ⊎_elim (λ (l : q < 16). cases_cond (has first.set.0 q) (founding_page first) fresh (page_at w.pages q) (founded.left.pages_are q l))
      (λ (l : 16 ≤ q). inr (past_pages w sixteen q l)) (cases_lt q 16)

  none_recorded : (q : ℕ) → (page_at w.pages q).recorded ≡ None
  none_recorded q = ⊎_elim (λ (e : page_at w.pages q ≡ founding_page first). ap (λ (p : Page). p.recorded) e) (λ (e : page_at w.pages q ≡ fresh). ap (λ (p : Page). p.recorded) e) (page_is q)

  -- who has a view has the first one, marked with its number
  has_first : (q : ℕ) (v : View) → (page_at w.pages q).component ≡ Some v → (first ≡ v) × ((page_at w.pages q).mark ≡ Some first.number)
  has_first q v i =
      ⊎_elim
      (λ (e : page_at w.pages q ≡ founding_page first). (some_inj (sym (ap (λ (p : Page). p.component) e) ∙ i), ap (λ (p : Page). p.mark) e))
      (λ (e : page_at w.pages q ≡ fresh). absurd (none_some (sym (ap (λ (p : Page). p.component) e) ∙ i))) (page_is q)

  stage_is : (q : ℕ) → (row_at w.rows q).stage ≡ Idle
  stage_is q =
      ⊎_elim (λ (l : q < 16). ap (λ (x : Row). x.stage) (founded.left.rows_are q l)) (λ (l : 16 ≤ q). ap (λ (x : Row). x.stage) (past_rows w sixteen q l)) (cases_lt q 16)

  pub starts : Started first (world_of w)
  starts =
      let q = founded.somebody in
      record {
        some = (q.0, ap (λ (p : Page). p.component) (founded.left.pages_are q.0 q.1 ∙ cond-true (has first.set.0 q.0) (founding_page first) fresh q.2));
        only = λ q v i. (has_first q v i).0;
        marked = λ q v i. let a = has_first q v i in inl (a.1 ∙ ap (λ (u : View). Some u.number) a.0);
        recorded_marked = λ q d i. absurd (none_some (sym (none_recorded q) ∙ i));
        apart = λ q v d i j. none_some (sym (none_recorded q) ∙ j);
        free = λ q i. none_recorded q;
        idle_rows = λ q. ap seen_stage (stage_is q);
        silent = ap seen_post founded.left.silent;
      }
