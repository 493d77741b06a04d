-- Membership in a set of bits. Assumes nothing.
use Rattle.std.proofs.Common.{◌≡◌, ℕ, zero, suc, ◌+◌, ◌-◌, ◌/◌, ◌%◌, ◌^◌, ◌<◌, ◌≤◌, Bool, true, false, cond, not, ◌&&◌, ◌||◌, eqb, sym, refl, ap, ◌∙◌, ap₂, suc-le-suc, lt_of_lt_of_le, le_of_suc-le-suc, not-suc-le-zero, pow-suc, one-add, arith, pow_mono, shr-shr}
use native.Mathlib.Nat.{div-eq_of_lt}
use lib.Arith.{lt-one}
use lib.Count.{ones, ones_step, ones-ones}
use lib.Bits.{bit_and, bit_or, and_shr, or_shr, and_mod, or_mod, and_mask}
use Rattle.std.proofs.lemmas.Bool.{ne_eqb, true≢false, false≢true}
use Rattle.std.proofs.lemmas.Bool.Decides.{nat_tests}
use Rattle.quorum.specs.Members.{has, tally, one}
use Rattle.quorum.specs.Tallies.{tally_same, tally_first}

-- what holds of the digits 0 and 1 holds of each number's lowest digit
below_two : (P : ℕ → Type 0) → P 0 → P 1 → (x : ℕ) → x < 2 → P x
below_two P p q zero h = p
below_two P p q (suc zero) h = q
below_two P p q (suc (suc x)) h = absurd (not-suc-le-zero (le_of_suc-le-suc (le_of_suc-le-suc h)))

digits : (P : ℕ → ℕ → Type 0) → P 0 0 → P 0 1 → P 1 0 → P 1 1 → (a b : ℕ) → P (a % 2) (b % 2)
digits P p q r s a b =
    below_two (λ x. P x (b % 2)) (below_two (P 0) p q (b % 2) (omega arith)) (below_two (P 1) r s (b % 2) (omega arith)) (a % 2) (omega arith)

pub and_true : (b : Bool) → (b && true) ≡ b
and_true true = refl
and_true false = refl

pub has_and : (a b r : ℕ) → has (bit_and a b) r ≡ (has a r && has b r)
unfolding has
has_and a b r =
    ap (λ x. eqb (x % 2) 1) (and_shr a b r) ∙ ap (λ x. eqb x 1) (and_mod (a / 2 ^ r) (b / 2 ^ r) 1) ∙
    digits (λ x y. eqb (bit_and x y) 1 ≡ (eqb x 1 && eqb y 1)) refl refl refl refl (a / 2 ^ r) (b / 2 ^ r)

pub has_or : (a b r : ℕ) → has (bit_or a b) r ≡ (has a r || has b r)
unfolding has
has_or a b r =
    ap (λ x. eqb (x % 2) 1) (or_shr a b r) ∙ ap (λ x. eqb x 1) (or_mod (a / 2 ^ r) (b / 2 ^ r) 1) ∙
    digits (λ x y. eqb (bit_or x y) 1 ≡ (eqb x 1 || eqb y 1)) refl refl refl refl (a / 2 ^ r) (b / 2 ^ r)

-- the lowest member, and the others
pub has_zero : (s : ℕ) → has s 0 ≡ eqb (s % 2) 1
unfolding has
has_zero s = ap (λ x. eqb (x % 2) 1) (omega arith)

pub has_suc : (s r : ℕ) → has s (suc r) ≡ has (s / 2) r
unfolding has
has_suc s r = ap (λ n. eqb (s / 2 ^ n % 2) 1) (sym (one-add r)) ∙ ap (λ n. eqb (n % 2) 1) (sym (shr-shr s 1 r))

half_below : (s k : ℕ) → s < 2 ^ suc k → s / 2 < 2 ^ k
half_below s k h = omega (arith, pow-suc 2 k)

-- a set of k bits has no member from k on
pub has_high : (s k r : ℕ) → s < 2 ^ k → k ≤ r → has s r ≡ false
unfolding has
has_high s k r h l = ap (λ n. eqb (n % 2) 1) (div-eq_of_lt (lt_of_lt_of_le h (pow_mono l)))

-- a set of one
pub has_single : (j r : ℕ) → has (2 ^ j) r ≡ eqb r j
has_single zero zero = has_zero 1
has_single zero (suc r) = has_suc 1 r ∙ has_high 0 0 r (omega arith) (omega arith) ∙ sym (ne_eqb (suc r) 0 (omega arith))
has_single (suc j) zero = has_zero (2 ^ suc j) ∙ ne_eqb (2 ^ suc j % 2) 1 (omega (arith, pow-suc 2 j)) ∙ sym (ne_eqb 0 (suc j) (omega arith))
has_single (suc j) (suc r) = has_suc (2 ^ suc j) r ∙ ap (λ n. has n r) (omega (arith, pow-suc 2 j)) ∙ has_single j r ∙ grind (arith, nat_tests)

-- all but the members of s
pub has_others : (s k r : ℕ) → s < 2 ^ k → r < k → has (2 ^ k - 1 - s) r ≡ not (has s r)
has_others s zero r h l = absurd (not-suc-le-zero l)
has_others s (suc k) zero h l =
    has_zero (2 ^ suc k - 1 - s) ∙
    digits (λ x y. x + y ≡ 1 → eqb x 1 ≡ not (eqb y 1)) (λ e. absurd (omega arith)) (λ e. refl) (λ e. refl) (λ e. absurd (omega arith))
    (2 ^ suc k - 1 - s) s (omega (arith, pow-suc 2 k)) ∙
    ap not (sym (has_zero s))
has_others s (suc k) (suc r) h l =
    has_suc (2 ^ suc k - 1 - s) r ∙ ap (λ n. has n r) (omega (arith, pow-suc 2 k)) ∙
    has_others (s / 2) k r (half_below s k h) (le_of_suc-le-suc l) ∙ ap not (sym (has_suc s r))

-- a set is known by its members
pub same_from_members : (k a b : ℕ) → a < 2 ^ k → b < 2 ^ k → ((r : ℕ) → r < k → has a r ≡ has b r) → a ≡ b
same_from_members zero a b h l e = lt-one h ∙ sym (lt-one l)
same_from_members (suc k) a b h l e =
    let rest : a / 2 ≡ b / 2 =
    same_from_members k (a / 2) (b / 2) (half_below a k h) (half_below b k l)
    (λ r i. sym (has_suc a r) ∙ e (suc r) (suc-le-suc i) ∙ has_suc b r) in
    let lowest : a % 2 ≡ b % 2 =
    digits (λ x y. eqb x 1 ≡ eqb y 1 → x ≡ y) (λ _. refl) (λ f. absurd (false≢true f)) (λ f. absurd (true≢false f)) (λ _. refl) a b
    (sym (has_zero a) ∙ e 0 (omega arith) ∙ has_zero b) in
    omega arith

-- as many digits of s are set as it has members
pub ones_members : (k s : ℕ) → s < 2 ^ k → ones s ≡ tally one (has s) k
unfolding tally
ones_members zero s h = ap ones (lt-one h) ∙ ones-ones 0
ones_members (suc k) s h =
    let first : s % 2 ≡ cond (has s 0) 1 0 =
    digits (λ x y. x ≡ cond (eqb x 1) 1 0) refl refl refl refl s s ∙ ap (λ b. cond b 1 0) (sym (has_zero s)) in
    ones_step s ∙ ap₂ ◌+◌ first (ones_members k (s / 2) (half_below s k h) ∙ tally_same one (has (s / 2)) (λ r. has s (suc r)) k (λ r l. sym (has_suc s r))) ∙
    sym (tally_first one (has s) k)

-- the code's test of one bit
pub test_bit : (s r : ℕ) → eqb (bit_and (s / 2 ^ r) 1) 1 ≡ has s r
unfolding has
test_bit s r = ap (λ n. eqb n 1) (and_mask (s / 2 ^ r) 1)
