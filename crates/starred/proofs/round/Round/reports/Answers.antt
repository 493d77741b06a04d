use Rattle.std.proofs.Common.{◌≡◌, ℕ, zero, suc, ◌+◌, ◌<◌, ◌≤◌, List, None, get_or, refl, sym, ◌∙◌, subst, ⊎_elim, rules, arith}
use Rattle.std.proofs.lemmas.Bool.{cases_eq}
use Rattle.std.proofs.lemmas.List.FromFn.{fill_by_all}
use Rattle.std.specs.Array.{IsFromFnResultFrom}
use Rattle.std.specs.Fn.{Called}
use denote.Param.Members.{Mut}
use Rattle.starred.specs.Examples.{report_of, reports_of}
use Rattle.starred.proofs.round.Round.reports.Goals as goal

-- what `from_fn` makes of a closure that gives `of` of each number and stays as it was
module _ {F B : Type 0} (g : Mut F (ℕ × Unit {0}) B) (f : F) (of : ℕ → B) (step : (i : ℕ) (r : B) (q : F) → Called g f (i, tt) r q → (q ≡ f) × (r ≡ of i)) where
  made : (ys : List B) (n i k : ℕ) (q : F) (d : B) → q ≡ f → IsFromFnResultFrom g q ys i n → i ≤ k → k < i + n → get_or ys k d ≡ of k
  made ys zero i k q d e m l h = absurd (omega arith)
  made ys (suc n) i k q d e m l h =
      let s = step i m.1 m.0 (subst (λ p. Called g p (i, tt) m.1 m.0) e m.3) in
      ⊎_elim (λ a. subst (λ j. get_or ys j d ≡ of j) (sym a) (m.2.1 d ∙ s.1)) (λ a. made ys n (i + 1) k m.0 d s.0 m.4 (omega arith) (omega arith)) (cases_eq k i)

pub returns : goal.returns
unfolding reports_of
returns c =
    let r = report_of c.args.self.now in
    fill_by_all r c.from_fn.result 16 None c.from_fn.ensures.items.long (λ k l. made _ _ r (λ i b q e. search rules) c.from_fn.result 16 0 k _ None refl c.from_fn.ensures.items.each (omega arith) (omega arith))
