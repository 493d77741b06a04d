-- The findings of every run of a floor, from those of the moves, and of a run that goes on. Assumes nothing.
use Rattle.std.proofs.Common.{◌≡◌, ℕ, ◌<◌, ◌≤◌, Bool, List, [], ◌∷◌, ◌++◌, Some, sym, refl, ap, ◌∙◌, inl, inr, ⊎_elim}
use Rattle.std.proofs.lemmas.Bool.{cases_lt}
use Rattle.quorum.specs.Laws.{Grows, Meets}
use Rattle.safety.proofs.Findings.{safe}
use Rattle.safety.proofs.Marks.{none_some}
use Rattle.safety.specs.Findings as OfMoves
use Rattle.safety.specs.Runs as Moves
use Rattle.stores.specs.Kept.{page_at}
use Rattle.stores.specs.declared.page.Page.{Page}
use Rattle.stores.specs.declared.view.View.{View}
use Rattle.runs.specs.Findings.{Installed, Predecessor, Findings, SafeRuns, RunsSafe, SafeGoingOn, SafeGoingOnFrom, GoesOnSafe, RunsOnSafe}
use Rattle.runs.specs.Runs.{Taken, Run, world_at, end_of, Founded}
use Rattle.runs.specs.World.{World}
use Rattle.runs.proofs.Carried.{Carried, carried}
use Rattle.runs.proofs.Runs.{run_on, run_step}
use Rattle.runs.proofs.Seen.{world_of, past_pages}
use Rattle.runs.proofs.Started.{sixteen, starts}

module _ (f : ℕ → ℕ → Bool) (grows : Grows f) (meets : Meets f) (first : View) (w : World) (takens : List Taken) (founded : Founded first w) (run : Run f w takens) where
  ran : Carried f w takens
  ran = carried f grows meets w takens (sixteen first w founded) run

  found : OfMoves.Findings (world_of w) ran.steps f first
  found = safe f grows meets first (world_of w) ran.steps (starts first w founded) ran.is

  page_is : (i q : ℕ) → ((Moves.world_at (world_of w) ran.steps i).at q).component ≡ (page_at (world_at w takens i).pages q).component
  page_is i q = ap (λ (v : Moves.World). (v.at q).component) (ran.worlds i)

  -- who has a component view is one of the sixteen
  below : (i q : ℕ) (v : View) → (page_at (world_at w takens i).pages q).component ≡ Some v → q < 16
  below i q v e =
      ⊎_elim (λ (l : q < 16). l)
      (λ (l : 16 ≤ q). absurd (none_some (sym (ap (λ (p : Page). p.component) (past_pages (world_at w takens i) (ran.long i) q l)) ∙ e))) (cases_lt q 16)

  to_moves : (i : ℕ) (v : View) → Installed w takens i v → OfMoves.Installed (world_of w) ran.steps i v
  to_moves i v a = record { by = a.by; holds = page_is i a.by ∙ a.holds; new = λ j e u. a.new j e (sym (page_is j a.by) ∙ u) }

  from_moves : (i : ℕ) (v : View) → OfMoves.Installed (world_of w) ran.steps i v → Installed w takens i v
  from_moves i v a =
      let e = sym (page_is i a.by) ∙ a.holds in
      record { by = a.by; below = below i a.by v e; holds = e; new = λ j e u. a.new j e (page_is j a.by ∙ u) }

  preceded : (i : ℕ) (v : View) → OfMoves.Predecessor (world_of w) ran.steps f first i v → Predecessor f w takens i v
  preceded i v p = record {
    view = p.view;
    call = p.call;
    installed = from_moves p.call p.view p.installed;
    earlier = p.earlier;
    next = p.next;
    carried = p.carried;
  }

  findings : Findings f first w takens
  findings = record {
    one_view = λ i j v u a b e. found.one_view i j v u (to_moves i v a) (to_moves j u b) e;
    succeeds = λ i v a.
        ⊎_elim (λ (e : v ≡ first). inl e) (λ (p : OfMoves.Predecessor (world_of w) ran.steps f first i v). inr (preceded i v p)) (found.succeeds i v (to_moves i v a));
    never_back = λ i j h v u s a early.
        found.never_back i j h v u (ran.settles i h v s) (to_moves j u a) (λ t l b. early t l (ran.forms t b.0 h b.1 b.2));
  }

-- every run, by a relation that grows and meets
pub safe_runs : (f : ℕ → ℕ → Bool) → Grows f → Meets f → SafeRuns f
safe_runs f grows meets first w takens founded run = findings f grows meets first w takens founded run

pub runs_safe : RunsSafe
runs_safe f local whole grows meets = safe_runs f grows meets

-- ---- a run that goes on
pub safe_going_on : (f : ℕ → ℕ → Bool) → Grows f → Meets f → SafeGoingOn f
safe_going_on f grows meets first w before t founded run s = safe_runs f grows meets first w (before ++ t ∷ []) founded (run_step f w before (end_of w before) t run refl s)

pub safe_going_on_from : (f : ℕ → ℕ → Bool) → Grows f → Meets f → SafeGoingOnFrom f
safe_going_on_from f grows meets first w before now t founded run e s = safe_runs f grows meets first w (before ++ t ∷ []) founded (run_step f w before now t run e s)

pub goes_on_safe : GoesOnSafe
goes_on_safe f local whole grows meets = safe_going_on f grows meets

pub runs_on_safe : RunsOnSafe
runs_on_safe f local whole grows meets first w before after founded run more = safe_runs f grows meets first w (before ++ after) founded (run_on f w before after run more)
