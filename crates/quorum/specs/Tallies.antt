-- Weights of the replicas that a test picks. Assumes nothing.
use Rattle.std.specs.Prelude.{◌≡◌, ℕ, zero, suc, ◌+◌, ◌<◌, ◌≤◌, Bool, true, false, cond, ◌&&◌, ◌⊎◌, refl}
use Rattle.std.proofs.Common.{sym, ap, ap₂, ◌∙◌, inl, inr, ⊎_elim, not-suc-le-zero, le_refl, add-one, arith}
use Rattle.std.proofs.lemmas.Bool.{false≢true, cases_eq, cond-true, cond-false}
use Rattle.quorum.specs.Members.{tally}

-- only what is picked below n counts
pub tally_same : (w : ℕ → ℕ) (f g : ℕ → Bool) (n : ℕ) → ((k : ℕ) → k < n → f k ≡ g k) → tally w f n ≡ tally w g n
unfolding tally
tally_same w f g zero h = refl
tally_same w f g (suc n) h = ap₂ ◌+◌ (tally_same w f g n (λ k l. h k (omega arith))) (ap (λ b. cond b (w n) 0) (h n (omega arith)))

-- a loop's start and its step
pub tally_none : (w : ℕ → ℕ) (f : ℕ → Bool) → tally w f 0 ≡ 0
unfolding tally
tally_none w f = refl

pub tally_more_yes : (w : ℕ → ℕ) (f : ℕ → Bool) (n : ℕ) → f n ≡ true → tally w f (n + 1) ≡ tally w f n + w n
unfolding tally
tally_more_yes w f n e = rw (add-one, e)

pub tally_more_no : (w : ℕ → ℕ) (f : ℕ → Bool) (n : ℕ) → f n ≡ false → tally w f (n + 1) ≡ tally w f n
unfolding tally
tally_more_no w f n e = rw (add-one, e) (omega arith)

-- the first, and the others
pub tally_first : (w : ℕ → ℕ) (f : ℕ → Bool) (n : ℕ) → tally w f (suc n) ≡ cond (f 0) (w 0) 0 + tally (λ k. w (suc k)) (λ k. f (suc k)) n
unfolding tally
tally_first w f zero = omega arith
tally_first w f (suc n) = omega (arith, tally_first w f n)

cond_le : (a b : Bool) (x : ℕ) → (a ≡ true → b ≡ true) → cond a x 0 ≤ cond b x 0
cond_le false b x h = omega arith
cond_le true true x h = le_refl x
cond_le true false x h = absurd (false≢true (h refl))

-- who picks more weighs no less
pub tally_le : (w : ℕ → ℕ) (f g : ℕ → Bool) (n : ℕ) → ((k : ℕ) → k < n → f k ≡ true → g k ≡ true) → tally w f n ≤ tally w g n
unfolding tally
tally_le w f g zero h = le_refl 0
tally_le w f g (suc n) h = omega (arith, tally_le w f g n (λ k l. h k (omega arith)), cond_le (f n) (g n) (w n) (h n (omega arith)))

-- one that is picked and weighs something
pub tally_pos : (w : ℕ → ℕ) (f : ℕ → Bool) (n r : ℕ) → r < n → f r ≡ true → 0 < w r → 0 < tally w f n
unfolding tally
tally_pos w f zero r l e p = absurd (not-suc-le-zero l)
tally_pos w f (suc n) r l e p =
    ⊎_elim (λ q. omega (arith, cond-true (f n) (w n) 0 (ap f (sym q) ∙ e), ap w q))
    (λ q. omega (arith, tally_pos w f n r (omega arith) e p)) (cases_eq r n)

-- both of a and b, of what c picks; else the two weigh no more than c alone
meet : (a b c : Bool) (x : ℕ) → ((a ≡ true) × (b ≡ true) × (c ≡ true)) ⊎ (cond (a && c) x 0 + cond (b && c) x 0 ≤ cond c x 0)
meet true true true x = inl (refl, refl, refl)
meet true true false x = inr (omega arith)
meet true false c x = inr (omega arith)
meet false true c x = inr (omega arith)
meet false false c x = inr (omega arith)

-- two parts of s that together weigh more than s share a member of s
pub tally_meet : (w : ℕ → ℕ) (p q s : ℕ → Bool) (n : ℕ) → tally w s n < tally w (λ k. p k && s k) n + tally w (λ k. q k && s k) n
    → (r : ℕ) × (r < n) × (p r ≡ true) × (q r ≡ true) × (s r ≡ true)
unfolding tally
tally_meet w p q s zero h = absurd (omega arith)
tally_meet w p q s (suc n) h =
    ⊎_elim (λ m. (n, omega arith, m.0, m.1, m.2))
    (λ l. let t = tally_meet w p q s n (omega arith) in (t.0, omega (arith, t.1), t.2, t.3, t.4))
    (meet (p n) (q n) (s n) (w n))

-- who leaves one out that weighs something weighs less
pub tally_lt : (w : ℕ → ℕ) (f g : ℕ → Bool) (n r : ℕ) → r < n → ((k : ℕ) → k < n → f k ≡ true → g k ≡ true) → f r ≡ false → g r ≡ true → 0 < w r → tally w f n < tally w g n
unfolding tally
tally_lt w f g zero r l h x y p = absurd (not-suc-le-zero l)
tally_lt w f g (suc n) r l h x y p =
    ⊎_elim
    (λ q. omega (arith, tally_le w f g n (λ k i. h k (omega arith)), cond-false (f n) (w n) 0 (ap f (sym q) ∙ x), cond-true (g n) (w n) 0 (ap g (sym q) ∙ y), ap w q))
    (λ q. omega (arith, tally_lt w f g n r (omega arith) (λ k i. h k (omega arith)) x y p, cond_le (f n) (g n) (w n) (h n (omega arith))))
    (cases_eq r n)
