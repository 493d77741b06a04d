-- What is there of a list of options, as a chain over it gives it: what `any`, `find` and `reduce` answer, said by place. Assumes nothing.
use Rattle.std.proofs.Common.{◌≡◌, ℕ, zero, suc, ◌<◌, min, Bool, true, false, cond, ◌||◌, List, [], ◌∷◌, length, get_or, Some, None, Option, sym, refl, ap, ◌∙◌, ap₂, subst, IsTrue, MatchBool, MatchOption, zip, arith}
use Rattle.std.proofs.lemmas.Iterator.{YieldsList, YieldsList-from_slice}
use Rattle.std.proofs.lemmas.Iterator.Adapters.{YieldsList-from_flatten}
use Rattle.std.proofs.lemmas.Iterator.Consumers.{YieldsList-from_shown, reduce_from_yields_List}
use Rattle.std.proofs.lemmas.Bool.{false≢true}
use Rattle.std.proofs.lemmas.Slice.Zip.{length-zip, get_or-zip}
use Rattle.std.proofs.Math.Bool.{or_assoc, or-false}
use Rattle.std.specs.Iterator.Adapters.{option_iter_item, option_iter_done, option_iter_steps, flatten_source, flatten_front, flatten_back, flatten_done, flatten_steps}
use Rattle.std.specs.List.{flat_map, list_any, find, filter_map, cons_option, FoldsTo, reduce}
use Rattle.std.specs.Option.{option_to_list, option_or}
use Rattle.std.specs.Slice.Iter.{iter_rest}
use Rattle.std.proofs.iter.Yields.{fronts}
use denote.Ref.{Bor}
use denote.Param.Members.{Mut}
use Rattle.std.specs.Fn.{Called}
use Rattle.std.specs.Iterator.{FoldTurn, ReducesItems, Drains}
use Rattle.quorum.specs.Below.{any, first}
use Rattle.quorum.specs.Members.{everybody}
use Rattle.quorum.proofs.Below.{everybody_at, length-everybody}

-- ---- `any` and `first` from the lowest place on, as a chain goes
any_front : (f : ℕ → Bool) (n : ℕ) → any f (suc n) ≡ (f 0 || any (λ k. f (suc k)) n)
unfolding any
any_front f zero = sym (or-false (f 0))
any_front f (suc n) = ap (λ b. b || f (suc n)) (any_front f n) ∙ or_assoc (f 0) _ (f (suc n))

any_zero : (f : ℕ → Bool) → any f 0 ≡ false
unfolding any
any_zero f = refl

-- a test of each element, by its place
list_any-places : {A : Type 0} (p : A → Bool) (d : A) (xs : List A) → list_any p xs ≡ any (λ k. p (get_or xs k d)) (length xs)
list_any-places p d [] = sym (any_zero _)
list_any-places p d (x ∷ xs) = ap (λ b. p x || b) (list_any-places p d xs) ∙ sym (any_front (λ k. p (get_or (x ∷ xs) k d)) (length xs))

any_alike : (f g : ℕ → Bool) (n : ℕ) → ((k : ℕ) → k < n → f k ≡ g k) → any f n ≡ any g n
unfolding any
any_alike f g zero h = refl
any_alike f g (suc n) h = ap₂ ◌||◌ (any_alike f g n (λ k l. h k (omega arith))) (h n (omega arith))

-- of sixteen things, each beside its replica
pub any_beside : {A : Type 0} (p : ℕ × A → Bool) (d : A) (xs : List A) → length xs ≡ 16 → list_any p (zip everybody xs) ≡ any (λ q. p (q, get_or xs q d)) 16
any_beside p d xs l =
    let all : length (zip everybody xs) ≡ 16 = length-zip everybody xs ∙ ap₂ min length-everybody l in
    list_any-places p (0, d) (zip everybody xs) ∙ ap (any (λ k. p (get_or (zip everybody xs) k (0, d)))) all ∙
    any_alike _ _ 16 (λ k b. ap p (get_or-zip everybody xs k (0, d) (omega (arith, length-everybody)) (omega (arith, l)) ∙ ap (λ q. (q, get_or xs k d)) (everybody_at k 0 b)))

module _ {A : Type 0} where
  option_or_none : (o : Option A) → option_or o None ≡ o
  option_or_none None = refl
  option_or_none (Some a) = refl

  option_or_assoc : (a b c : Option A) → option_or (option_or a b) c ≡ option_or a (option_or b c)
  option_or_assoc None b c = refl
  option_or_assoc (Some a) b c = refl

  first_front : (g : ℕ → Option A) (n : ℕ) → first g (suc n) ≡ option_or (g 0) (first (λ k. g (suc k)) n)
  unfolding first
  first_front g zero = sym (option_or_none (g 0))
  first_front g (suc n) = ap (λ o. option_or o (g (suc n))) (first_front g n) ∙ option_or_assoc (g 0) _ (g (suc n))

  first_zero : (g : ℕ → Option A) → first g 0 ≡ None
  unfolding first
  first_zero g = refl

  -- ---- the chain `iter().flatten()`
  -- what is left of an option that is gone through
  abbrev left : Bool → Option A → List A
  left done o = cond done [] (option_to_list o)

  left_none : (d : Bool) (o : Option A) → MatchBool d (◌≡◌ {A = Option (Bor A)} None None) (◌≡◌ {A = Option A} None o) → length (left d o) ≡ 0
  left_none true o e = refl
  left_none false o e = ap (λ k. length (option_to_list k)) (sym e)

  left_some : (d e : Bool) (o p : Option A) (x : Bor A) → IsTrue e → MatchBool d (◌≡◌ {A = Option (Bor A)} (Some x) None) (Some x.now ≡ o) → left d o ≡ x.now ∷ left e p
  left_some true e o p x t m = cc
  left_some false true o p x t m = ap option_to_list (sym m)
  left_some false false o p x t m = absurd (false≢true t)

  option_yields : {s : _} (o : Option A) → option_iter_item s ≡ o → option_iter_done s ≡ false → YieldsList option_iter_steps (λ y. y.now) s (option_to_list o)
  option_yields {s} o i d =
      subst (YieldsList option_iter_steps (λ y. y.now) s) (ap₂ left d i)
      (YieldsList-from_shown option_iter_steps (λ y. y.now) (λ u. left (option_iter_done u) (option_iter_item u)) (λ u t m. left_none _ _ m.1)
      (λ u x t m. left_some _ _ _ _ x m.0 m.1) s)

  -- those that are there
  abbrev pub there : List (Option A) → List A
  there os = flat_map option_to_list os

  -- the chain gives them
  pub flatten_yields : {s : _} (becomes : Bor (Option A) → _ → Type 0) (os : List (Option A)) → ((x : Bor (Option A)) (j : _) → becomes x j → (option_iter_item j ≡ x.now) × (option_iter_done j ≡ false)) →
      iter_rest (flatten_source s) ≡ os → flatten_front s ≡ None → flatten_back s ≡ None → flatten_done s ≡ false → YieldsList (flatten_steps fronts becomes option_iter_steps) (λ y. y.now) s (there os)
  flatten_yields becomes os opens source front back done =
      YieldsList-from_flatten becomes option_iter_steps (λ y. y.now) option_to_list (λ x j b. let e = opens x j b in option_yields x.now e.0 e.1)
      (YieldsList-from_slice os source) front back done

  -- ---- what ends the chain
  -- one of those that are there passes, where g says what passes of one
  pub any_there : (p : A → Bool) (g : Option A → Bool) → g None ≡ false → ((a : A) → g (Some a) ≡ p a) →
      (os : List (Option A)) → list_any p (there os) ≡ any (λ q. g (get_or os q None)) (length os)
  any_there p g none some [] = sym (any_zero _)
  any_there p g none some (None ∷ os) =
      any_there p g none some os ∙ ap (λ b. b || any (λ q. g (get_or os q None)) (length os)) (sym none) ∙ sym (any_front (λ q. g (get_or (None ∷ os) q None)) (length os))
  any_there p g none some (Some a ∷ os) =
      ap₂ (λ b c. b || c) (sym (some a)) (any_there p g none some os) ∙ sym (any_front (λ q. g (get_or (Some a ∷ os) q None)) (length os))

module _ {A B : Type 0} (offer : A → Option B) (test : B → Bool) where
  found_more : (o : Option B) (bs : List B) → find test (cons_option o bs) ≡ option_or (find test (option_to_list o)) (find test bs)
  found_more None bs = refl
  found_more (Some b) bs = elim (test b) as (λ t. cond t (Some b) (find test bs) ≡ option_or (cond t (Some b) None) (find test bs)) [ true ↦ refl | false ↦ refl ]

  -- the first that passes of what is offered, where g says what passes of one
  pub find_there : (g : Option A → Option B) → g None ≡ None → ((a : A) → g (Some a) ≡ find test (option_to_list (offer a))) →
      (os : List (Option A)) → find test (filter_map offer (there os)) ≡ first (λ q. g (get_or os q None)) (length os)
  find_there g none some [] = sym (first_zero _)
  find_there g none some (None ∷ os) =
      find_there g none some os ∙ ap (λ o. option_or o (first (λ q. g (get_or os q None)) (length os))) (sym none) ∙ sym (first_front (λ q. g (get_or (None ∷ os) q None)) (length os))
  find_there g none some (Some a ∷ os) =
      found_more (offer a) (filter_map offer (there os)) ∙ ap₂ option_or (sym (some a)) (find_there g none some os) ∙ sym (first_front (λ q. g (get_or (Some a ∷ os) q None)) (length os))

module _ {A F : Type 0} (g : Mut F (A × (A × Unit {0})) A) (pick : A → A → A) (f : F) (step : (a x b : A) (q : F) → Called g f (a, (x, tt)) b q → (q ≡ f) × (b ≡ pick a x)) where
  turns : (xs : List A) (x y : A) (q h : F) → q ≡ f → FoldsTo (FoldTurn g) (q, x) xs (h, y) → FoldsTo (λ a z c. c ≡ pick a z) x xs y
  turns [] x y q h e t = ap (λ p. p.1) t
  turns (z ∷ xs) x y q h e t =
      let c = step x z t.0.1 t.0.0 (subst (λ k. Called g k (x, (z, tt)) t.0.1 t.0.0) e t.1) in
      (t.0.1, c.1, turns xs t.0.1 y t.0.0 h c.0 t.2)

  reduced_by : {S : Type 0} (steps : S → Option A → S → Type 0) (s : S) (r : Option A) → ReducesItems steps g s f r → MatchOption r (Drains steps s []) (λ y. (x : A) × (xs : List A) × Drains steps s (x ∷ xs) × FoldsTo (λ a z c. c ≡ pick a z) x xs y)
  reduced_by steps s None t = t
  reduced_by steps s (Some y) t = (t.0, t.1, t.3, turns t.1 t.0 y f t.2 refl t.4)

  -- `reduce`, of a closure that picks
  pub reduce_yields : {S : Type 0} {steps : S → Option A → S → Type 0} {all : List A} (s : S) (r : Option A) → ReducesItems steps g s f r → YieldsList steps (λ x. x) s all → r ≡ reduce pick all
  reduce_yields {steps = steps} s r t e = reduce_from_yields_List pick s r (reduced_by steps s r t) e
