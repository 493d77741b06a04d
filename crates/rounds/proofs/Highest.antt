-- The presumed view: the steps of the loop that finds it, and its law. Assumes nothing.
use Rattle.std.proofs.Common.{◌≡◌, ℕ, zero, suc, ◌+◌, ◌<◌, false, cond, ltb, List, [], ◌∷◌, length, get_or, Some, None, Option, sym, refl, ap, ◌∙◌, subst, ⊎_elim, not-suc-le-zero, add-one, add-zero, zero-add, arith}
use Rattle.std.proofs.lemmas.Bool.{cases_eq, cond_both, cond-true, cond-false, ltb-true, ltb-false, lt-ltb, le-ltb}
use Rattle.std.specs.List.{fold, reduce, filter_map, cons_option}
use Rattle.quorum.proofs.Below.{any_from, any_none_from, first_from, first_none_from}
use Rattle.stores.specs.declared.view.View.{View}
use Rattle.rounds.specs.declared.report.Report.{Report}
use Rattle.rounds.specs.Presumed.{numbered_above, exceeded, unexceeded, presumed, Leading, Highest}
use Rattle.quorum.proofs.Chains.{there}
use Rattle.rounds.specs.Reports.{reported, component_of}

pub some_same : {A : Type 0} {o : Option A} {a b : A} → o ≡ Some a → o ≡ Some b → a ≡ b
some_same p q = cc

pub none_some : {A : Type 0} {o : Option A} {a : A} → o ≡ None → o ≡ Some a → ⊥
none_some p q = let z : ◌≡◌ {A = ℕ} 0 1 = cc in omega arith

value_same : {v w : View} → v ≡ w → v.number.0 ≡ w.number.0
value_same e = ap (λ x. x.number.0) e

-- the second where its number is higher
abbrev pub pick : View → View → View
pick v w = cond (ltb v.number.0 w.number.0) w v

-- the same where either may be absent
abbrev higher : Option View → Option View → Option View
higher o None = o
higher None (Some w) = Some w
higher (Some v) (Some w) = Some (pick v w)

-- ---- the chain of the component views
abbrev pub components : List (Option Report) → List View
components os = filter_map (λ r. r.component) (there os)

picks_more : (b : View) (o : Option View) (os : List (Option Report)) → ((c : View) → Some (fold pick c (components os)) ≡ fold (λ x p. higher x (component_of p)) (Some c) os) →
    Some (fold pick b (cons_option o (components os))) ≡ fold (λ x p. higher x (component_of p)) (higher (Some b) o) os
picks_more b None os h = h b
picks_more b (Some v) os h = h (pick b v)

picks_from : (os : List (Option Report)) (b : View) → Some (fold pick b (components os)) ≡ fold (λ x p. higher x (component_of p)) (Some b) os
picks_from [] b = refl
picks_from (None ∷ os) b = picks_from os b
picks_from (Some r ∷ os) b = picks_more b r.component os (picks_from os)

picks_first : (o : Option View) (os : List (Option Report)) → reduce pick (components os) ≡ fold (λ x p. higher x (component_of p)) None os →
    reduce pick (cons_option o (components os)) ≡ fold (λ x p. higher x (component_of p)) (higher None o) os
picks_first None os h = h
picks_first (Some v) os h = picks_from os v

picks : (os : List (Option Report)) → reduce pick (components os) ≡ fold (λ x p. higher x (component_of p)) None os
picks [] = refl
picks (None ∷ os) = picks os
picks (Some r ∷ os) = picks_first r.component os (picks os)

module _ (rs : List (Option Report)) where
  -- ---- a turn of the loop
  pub highest_more : (n : ℕ) (o p : Option View) → p ≡ component_of (reported rs n) → Highest rs n o → Highest rs (n + 1) (higher o p)
  highest_more n None None e h = λ q l. ⊎_elim (λ i. ap (λ k. component_of (reported rs k)) i ∙ sym e) (λ i. h q (omega arith)) (cases_eq q n)
  highest_more n None (Some w) e h = record {
    sender = n;
    below = omega arith;
    component = sym e;
    highest = λ q x l c.
        ⊎_elim (λ i. omega (arith, value_same (some_same c (ap (λ k. component_of (reported rs k)) i ∙ sym e))))
        (λ i. absurd (none_some (h q (omega arith)) c)) (cases_eq q n);
    lowest = λ q x l c. absurd (none_some (h q l) c);
  }
  highest_more n (Some v) None e h = record {
    sender = h.sender;
    below = omega (arith, h.below);
    component = h.component;
    highest = λ q x l c.
        ⊎_elim (λ i. absurd (none_some (ap (λ k. component_of (reported rs k)) i ∙ sym e) c)) (λ i. h.highest q x (omega arith) c) (cases_eq q n);
    lowest = h.lowest;
  }
  highest_more n (Some v) (Some w) e h =
      cond_both (ltb v.number.0 w.number.0) w v (λ x. Highest rs (n + 1) (Some x))
      (λ t. let above = ltb-true _ _ t in record {
        sender = n;
        below = omega arith;
        component = sym e;
        highest = λ q x l c.
            ⊎_elim (λ i. omega (arith, value_same (some_same c (ap (λ k. component_of (reported rs k)) i ∙ sym e))))
            (λ i. omega (arith, h.highest q x (omega arith) c)) (cases_eq q n);
        lowest = λ q x l c. omega (arith, h.highest q x l c);
      })
      (λ t. let under = ltb-false _ _ t in record {
        sender = h.sender;
        below = omega (arith, h.below);
        component = h.component;
        highest = λ q x l c.
            ⊎_elim (λ i. omega (arith, value_same (some_same c (ap (λ k. component_of (reported rs k)) i ∙ sym e))))
            (λ i. h.highest q x (omega arith) c) (cases_eq q n);
        lowest = h.lowest;
      })

  -- all turns
  highest_on : (os : List (Option Report)) (n : ℕ) (o : Option View) → ((k : ℕ) → get_or os k None ≡ reported rs (n + k)) → Highest rs n o →
      Highest rs (n + length os) (fold (λ b p. higher b (component_of p)) o os)
  highest_on [] n o e h = subst (λ m. Highest rs m o) (sym (add-zero n)) h
  highest_on (p ∷ os) n o e h =
      subst (λ m. Highest rs m (fold (λ b q. higher b (component_of q)) (higher o (component_of p)) os)) (omega arith)
      (highest_on os (n + 1) (higher o (component_of p)) (λ k. e (suc k) ∙ ap (reported rs) (omega arith))
      (highest_more n o (component_of p) (ap component_of (e 0) ∙ ap (λ i. component_of (reported rs i)) (add-zero n)) h))

  pub reduced_highest : (n : ℕ) → length rs ≡ n → Highest rs n (reduce pick (components rs))
  reduced_highest n e =
      subst (λ m. Highest rs m (reduce pick (components rs))) (zero-add (length rs) ∙ e)
      (subst (Highest rs (0 + length rs)) (sym (picks rs)) (highest_on rs 0 None (λ k. ap (reported rs) (sym (zero-add k))) (λ q l. absurd (omega arith))))

  -- ---- its end
  not_above : (v : View) (q : ℕ) (o : Option View) → o ≡ component_of (reported rs q) → Leading rs 16 v → q < 16 → numbered_above v o ≡ false
  not_above v q None e h l = refl
  not_above v q (Some w) e h l = le-ltb _ _ (h.highest q w l (sym e))

  earlier : (v : View) (q : ℕ) (o : Option View) → o ≡ component_of (reported rs q) → (h : Leading rs 16 v) → q < h.sender → unexceeded rs o ≡ None
  earlier v q None e h l = refl
  earlier v q (Some w) e h l =
      cond-true (exceeded rs w) None (Some w)
      (any_from (λ k. numbered_above w (component_of (reported rs k))) 16 h.sender h.below (ap (numbered_above w) h.component ∙ lt-ltb _ _ (h.lowest q w l (sym e))))

  pub highest_presumed : (o : Option View) → Highest rs 16 o → o ≡ presumed rs
  highest_presumed None h = sym (first_none_from (λ q. unexceeded rs (component_of (reported rs q))) 16 (λ k l. ap (unexceeded rs) (h k l)))
  highest_presumed (Some v) h =
      sym (first_from (λ q. unexceeded rs (component_of (reported rs q))) 16 h.sender v h.below
      (ap (unexceeded rs) h.component ∙ cond-false (exceeded rs v) None (Some v) (any_none_from _ 16 (λ k l. not_above v k _ refl h l)))
      (λ j l. earlier v j _ refl h l))

  -- ---- the law
  found : (n : ℕ) → (o : Option View) × Highest rs n o
  found zero = (None, λ q l. absurd (not-suc-le-zero l))
  found (suc n) =
      let f = found n in
      let m = highest_more n f.0 (component_of (reported rs n)) refl f.1 in
      (higher f.0 (component_of (reported rs n)), subst (λ k. Highest rs k (higher f.0 (component_of (reported rs n)))) (add-one n) m)

  pub presumed_highest : Highest rs 16 (presumed rs)
  presumed_highest = let f = found 16 in subst (Highest rs 16) (highest_presumed f.0 f.1) f.1
