-- The laws of `any`, `first` and `select`, and the steps of loops that gather a set. Assumes nothing.
use Rattle.std.proofs.Common.{◌≡◌, ℕ, zero, suc, ◌+◌, ◌*◌, ◌^◌, ◌<◌, Bool, true, false, cond, not, ◌&&◌, ◌||◌, eqb, ltb, ◌⊎◌, is_some, Some, None, Decides, Option, sym, refl, ap, ◌∙◌, ap₂, inl, inr, ⊎_elim, not-suc-le-zero, add-zero, pow-suc, add-one, arith}
use Rattle.std.specs.List.{IsAnyAnswer, list_any, range_with_len}
use Rattle.std.proofs.lemmas.List.Folds.{list_any-append}
use Rattle.std.specs.Prelude.{List, [], ◌∷◌, ◌++◌, length, slice_index_or}
use Rattle.std.specs.Option.{option_or}
use lib.Bits.{bit_or, or_shifted_r}
use Rattle.std.proofs.lemmas.Bool.{cases_eq, cases_Bool, cases_lt, and_from, lt-ltb, false≢true, not-true, not_from_false, not_from_true, or_left, or_right, or_cases, both_ways, not-false, and_left, and_right}
use Rattle.std.proofs.lemmas.Bool.Decides.{nat_tests}
use Rattle.std.proofs.lemmas.List.FromFn.{get_or-range_with_len}
use Rattle.quorum.specs.Members.{has, everybody}
use Rattle.quorum.specs.Below.{any, first, select, within, First, if_member, lowest}
use Rattle.quorum.proofs.Bits.{and_true, has_or, has_single, has_high}

-- ---- any
pub any_from : (f : ℕ → Bool) (n k : ℕ) → k < n → f k ≡ true → any f n ≡ true
unfolding any
any_from f zero k h e = absurd (not-suc-le-zero h)
any_from f (suc n) k h e =
    ⊎_elim (λ q. or_right (any f n) (f n) (ap f (sym q) ∙ e)) (λ q. or_left (any f n) (f n) (any_from f n k (omega arith) e)) (cases_eq k n)

pub any_some : (f : ℕ → Bool) (n : ℕ) → any f n ≡ true → (k : ℕ) × (k < n) × (f k ≡ true)
unfolding any
any_some f zero e = absurd (false≢true e)
any_some f (suc n) e =
    ⊎_elim (λ q. let s = any_some f n q in (s.0, omega (arith, s.1), s.2)) (λ q. (n, omega arith, q)) (or_cases (any f n) (f n) e)

pub any_none : (f : ℕ → Bool) (n : ℕ) → any f n ≡ false → (k : ℕ) → k < n → f k ≡ false
any_none f n e k h = ⊎_elim (λ t. absurd (both_ways (any f n) e (any_from f n k h t))) (λ t. t) (cases_Bool (f k))

pub any_none_from : (f : ℕ → Bool) (n : ℕ) → ((k : ℕ) → k < n → f k ≡ false) → any f n ≡ false
any_none_from f n h =
    ⊎_elim (λ t. let s = any_some f n t in absurd (both_ways (f s.0) (h s.0 s.1) s.2)) (λ t. t) (cases_Bool (any f n))

-- ---- first
first_step : {A : Type 0} (g : ℕ → Option A) (n : ℕ) →
    ((first g n ≡ None) × ((k : ℕ) → k < n → g k ≡ None)) ⊎ ((a : A) × (first g n ≡ Some a) × First g n a) → (o : Option A) → o ≡ g n →
    ((option_or (first g n) (g n) ≡ None) × ((k : ℕ) → k < suc n → g k ≡ None)) ⊎ ((a : A) × (option_or (first g n) (g n) ≡ Some a) × First g (suc n) a)
first_step g n (inl h) None e =
    inl (ap₂ option_or h.0 (sym e), λ k l. ⊎_elim (λ q. ap g q ∙ sym e) (λ q. h.1 k (omega arith)) (cases_eq k n))
first_step g n (inl h) (Some a) e =
    inr (a, ap₂ option_or h.0 (sym e), record { place = n; below = omega arith; offers = sym e; earlier = h.1 })
first_step g n (inr h) o e =
    let i = h.2 in
    inr (h.0, ap (λ x. option_or x (g n)) h.1, record { place = i.place; below = omega (arith, i.below); offers = i.offers; earlier = i.earlier })

pub first_none_from : {A : Type 0} (g : ℕ → Option A) (n : ℕ) → ((k : ℕ) → k < n → g k ≡ None) → first g n ≡ None
unfolding first
first_none_from g zero h = refl
first_none_from g (suc n) h = ap₂ option_or (first_none_from g n (λ k l. h k (omega arith))) (h n (omega arith))

pub first_from : {A : Type 0} (g : ℕ → Option A) (n k : ℕ) (a : A) → k < n → g k ≡ Some a → ((j : ℕ) → j < k → g j ≡ None) → first g n ≡ Some a
unfolding first
first_from g zero k a h e l = absurd (not-suc-le-zero h)
first_from g (suc n) k a h e l =
    ⊎_elim (λ q. ap₂ option_or (first_none_from g n (λ j i. l j (omega arith))) (ap g (sym q) ∙ e))
    (λ q. ap (λ o. option_or o (g n)) (first_from g n k a (omega arith) e l)) (cases_eq k n)

-- nobody offers anything, or one does and none below
pub first_cases : {A : Type 0} (g : ℕ → Option A) (n : ℕ) →
    ((first g n ≡ None) × ((k : ℕ) → k < n → g k ≡ None)) ⊎ ((a : A) × (first g n ≡ Some a) × First g n a)
unfolding first
first_cases g zero = inl (refl, λ k h. absurd (not-suc-le-zero h))
first_cases g (suc n) = first_step g n (first_cases g n) (g n) refl

-- ---- select
pub select_lt : (f : ℕ → Bool) (n : ℕ) → select f n < 2 ^ n
unfolding select
select_lt f zero = omega arith
select_lt f (suc n) =
    elim (f n) as (λ b. select f n + cond b (2 ^ n) 0 < 2 ^ suc n)
    [ true ↦ omega (arith, select_lt f n, pow-suc 2 n) | false ↦ omega (arith, select_lt f n, pow-suc 2 n) ]

-- a set that lies below n, with n
has_next : (s n r : ℕ) → s < 2 ^ n → has (s + 2 ^ n) r ≡ (has s r || eqb r n)
has_next s n r h =
    ap (λ x. has x r) (let e = or_shifted_r 1 n s h in omega arith) ∙ has_or s (1 * 2 ^ n) r ∙
    ap (λ x. has s r || has x r) (omega arith) ∙ ap (λ x. has s r || x) (has_single n r)

picked_yes : (f : ℕ → Bool) (n r : ℕ) → f n ≡ true → ((f r && ltb r n) || eqb r n) ≡ (f r && ltb r (n + 1))
picked_yes f n r e = ⊎_elim (λ q. let t : f r ≡ true = ap f q ∙ e in rw t (grind (arith, nat_tests))) (λ q. grind (arith, nat_tests)) (cases_eq r n)

picked_no : (f : ℕ → Bool) (n r : ℕ) → f n ≡ false → (f r && ltb r n) ≡ (f r && ltb r (n + 1))
picked_no f n r e = ⊎_elim (λ q. let t : f r ≡ false = ap f q ∙ e in rw t) (λ q. grind (arith, nat_tests)) (cases_eq r n)

-- s has those below n that are picked, and no other
abbrev pub Gathered : (ℕ → Bool) → ℕ → ℕ → Type 0
Gathered f n s = (r : ℕ) → has s r ≡ (f r && ltb r n)

-- a loop that gathers a set: its start, its two steps
pub gathered_none : (f : ℕ → Bool) → Gathered f 0 0
gathered_none f r = has_high 0 0 r (omega arith) (omega arith) ∙ grind (arith, nat_tests)

pub gathered_more : (f : ℕ → Bool) (n s t : ℕ) → Gathered f n s → ((k : ℕ) → has t k ≡ (has s k || eqb k n)) → f n ≡ true → Gathered f (n + 1) t
gathered_more f n s t g h e r = h r ∙ ap (λ x. x || eqb r n) (g r) ∙ picked_yes f n r e

pub gathered_skip : (f : ℕ → Bool) (n s : ℕ) → Gathered f n s → f n ≡ false → Gathered f (n + 1) s
gathered_skip f n s g e r = g r ∙ picked_no f n r e

-- the law of `select`
pub select_members : (f : ℕ → Bool) (n : ℕ) → Gathered f n (select f n)
unfolding select
select_members f zero r = gathered_none f r
select_members f (suc n) r =
    ⊎_elim
    (λ e. ap (λ b. has (select f n + cond b (2 ^ n) 0) r) e ∙
    gathered_more f n (select f n) (select f n + 2 ^ n) (select_members f n) (λ k. has_next (select f n) n k (select_lt f n)) e r)
    (λ e. ap (λ b. has (select f n + cond b (2 ^ n) 0) r) e ∙ ap (λ s. has s r) (add-zero (select f n)) ∙ gathered_skip f n (select f n) (select_members f n) e r)
    (cases_Bool (f n)) ∙
    ap (λ m. f r && ltb r m) (add-one n)

-- the same loop, by equations: its start, its two steps
pub select_none : (f : ℕ → Bool) → select f 0 ≡ 0
unfolding select
select_none f = refl

pub select_more_yes : (f : ℕ → Bool) (n : ℕ) → f n ≡ true → bit_or (select f n) (2 ^ n) ≡ select f (n + 1)
unfolding select
select_more_yes f n e =
    let o = or_shifted_r 1 n (select f n) (select_lt f n) in
    ap (bit_or (select f n)) (omega arith) ∙ o ∙ omega arith ∙ ap (λ b. select f n + cond b (2 ^ n) 0) (sym e) ∙ ap (select f) (sym (add-one n))

pub select_more_no : (f : ℕ → Bool) (n : ℕ) → f n ≡ false → select f n ≡ select f (n + 1)
unfolding select
select_more_no f n e = sym (add-zero (select f n)) ∙ ap (λ b. select f n + cond b (2 ^ n) 0) (sym e) ∙ ap (select f) (sym (add-one n))

pub select_has : (f : ℕ → Bool) (n r : ℕ) → r < n → has (select f n) r ≡ f r
select_has f n r l = select_members f n r ∙ rw (lt-ltb r n l) (and_true (f r))

-- ---- within
pub within_members : (a b : ℕ) → within a b ≡ true → (k : ℕ) → k < 16 → has a k ≡ true → has b k ≡ true
within_members a b e k h m =
    not-false (has b k) (⊎_elim (λ t. absurd (both_ways _ (any_none _ 16 (not-true _ e) k h) (and_from (has a k) (not (has b k)) m t))) (λ t. t) (cases_Bool (not (has b k))))

pub within_from : (a b : ℕ) → ((k : ℕ) → k < 16 → has a k ≡ true → has b k ≡ true) → within a b ≡ true
within_from a b h =
    not_from_false _ (any_none_from _ 16 (λ k l. ⊎_elim (λ t. and_right (has a k) (not (has b k)) (not_from_true (has b k) (h k l t))) (λ t. and_left (has a k) (not (has b k)) t) (cases_Bool (has a k))))

pub decides_within : (a b : ℕ) → a < 2 ^ 16 → Decides (within a b) ((k : ℕ) → has a k ≡ true → has b k ≡ true)
decides_within a b l = (
  λ e k m. ⊎_elim (λ h. within_members a b e k h m) (λ h. absurd (both_ways (has a k) (has_high a 16 k l h) m)) (cases_lt k 16),
  λ e. within_from a b (λ k _. e k),
)

-- ---- lowest
pub lowest_from : (s m : ℕ) → m < 16 → has s m ≡ true → ((k : ℕ) → k < m → has s k ≡ false) → lowest s ≡ Some m
lowest_from s m l h e = first_from (if_member s) 16 m m l (ap (λ b. cond b (Some m) None) h) (λ j i. ap (λ b. cond b (Some j) None) (e j i))

pub lowest_none_from : (s : ℕ) → ((k : ℕ) → k < 16 → has s k ≡ false) → lowest s ≡ None
lowest_none_from s e = first_none_from (if_member s) 16 (λ k l. ap (λ b. cond b (Some k) None) (e k l))

some_is : (b : Bool) (k m : ℕ) → cond b (Some k) None ≡ Some m → (b ≡ true) × (k ≡ m)
some_is true k m e = (refl, cc)
some_is false k m e = absurd (let z : ◌≡◌ {A = ℕ} 0 1 = cc in omega arith)

none_is : (b : Bool) (k : ℕ) → cond b (Some k) None ≡ None → b ≡ false
none_is false k e = refl
none_is true k e = absurd (let z : ◌≡◌ {A = ℕ} 0 1 = cc in omega arith)

-- the lowest member is a member, and none below it is
pub lowest_member : (s m : ℕ) → lowest s ≡ Some m → (m < 16) × (has s m ≡ true) × ((k : ℕ) → k < m → has s k ≡ false)
lowest_member s m e =
    ⊎_elim (λ n. absurd (let o = n.0 in let z : ◌≡◌ {A = ℕ} 0 1 = cc in omega arith))
    (λ n. let i = n.2 in
    let q = some_is (has s i.place) i.place n.0 i.offers in
    let same : n.0 ≡ m = let o = n.1 in cc in
    let at : i.place ≡ m = q.1 ∙ same in
    (omega (arith, i.below), ap (has s) (sym at) ∙ q.0, λ k l. none_is (has s k) k (i.earlier k (omega arith))))
    (first_cases (if_member s) 16)

-- a set with a member has a lowest
pub lowest_some : (s r : ℕ) → r < 16 → has s r ≡ true → is_some (lowest s) ≡ true
lowest_some s r l h =
    ⊎_elim (λ n. absurd (both_ways (has s r) (none_is (has s r) r (n.1 r l)) h)) (λ n. ap is_some n.1) (first_cases (if_member s) 16)

-- ---- the same of lists
range_more : (a n j : ℕ) → a + n ≡ j → range_with_len a (suc n) ≡ range_with_len a n ++ j ∷ []
range_more a zero j e = ap (λ k. k ∷ []) (let same : a ≡ j = omega (arith, e) in same)
range_more a (suc n) j e = ap (λ ks. a ∷ ks) (range_more (a + 1) n j (omega (arith, e)))

false_or : (b : Bool) → (b || false) ≡ b
false_or true = refl
false_or false = refl

pub list_any-range : (f : ℕ → Bool) (n : ℕ) → list_any f (range_with_len 0 n) ≡ any f n
unfolding any
list_any-range f zero = refl
list_any-range f (suc n) =
    ap (list_any f) (range_more 0 n n (omega arith)) ∙ list_any-append f (range_with_len 0 n) (n ∷ []) ∙ ap₂ ◌||◌ (list_any-range f n) (false_or (f n))

-- whether some element of a list passes, by its places
pub any_answered : {X : Type 0} (p : X → Bool) (d : X) (xs : List X) (r : Bool) → IsAnyAnswer (λ y b. p y ≡ b) xs r → any (λ k. p (slice_index_or xs k d)) (length xs) ≡ r
any_answered p d xs true h = any_from _ (length xs) h.0 h.1 (h.2 d)
any_answered p d xs false h = any_none_from _ (length xs) (λ k l. h k d (omega arith) l)

pub everybody_at : (k d : ℕ) → k < 16 → slice_index_or everybody k d ≡ k
unfolding everybody
everybody_at k d l = get_or-range_with_len 0 16 k d l ∙ omega arith

pub length-everybody : length everybody ≡ 16
unfolding everybody
length-everybody = refl

pub list_any-everybody : (f : ℕ → Bool) → list_any f everybody ≡ any f 16
unfolding everybody
list_any-everybody f = list_any-range f 16
