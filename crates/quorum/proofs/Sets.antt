-- Who is in a set made from sets. Assumes nothing.
use Rattle.std.proofs.Common.{◌≡◌, ℕ, ◌-◌, ◌*◌, ◌%◌, ◌^◌, ◌<◌, ◌≤◌, Bool, true, false, cond, not, ◌&&◌, ◌||◌, eqb, ltb, Decides, sym, refl, ap, ◌∙◌, subst, ⊎_elim, lt_of_le_of_lt, arith}
use lib.Bits.{bit_and, and_le_l}
use lib.Pow.{pow-lt}
use Rattle.std.proofs.lemmas.Nat.{one_shl}
use Rattle.std.proofs.lemmas.Bool.{eqb-true, eq-eqb, cases_lt, lt-ltb, and_parts, both_ways}
use Rattle.std.proofs.lemmas.Bool.Decides.{nat_tests}
use Rattle.quorum.specs.Members.{has, one, size}
use Rattle.quorum.specs.Sets.{either, both, less, single}
use Rattle.quorum.proofs.Bits.{and_true, has_and, has_or, has_high, has_single, has_others, same_from_members}
use Rattle.quorum.specs.Tallies.{tally_lt}

pub has_either : (a b r : ℕ) → has (either a b) r ≡ (has a r || has b r)
unfolding either
has_either a b r = has_or a b r

pub has_both : (a b r : ℕ) → has (both a b) r ≡ (has a r && has b r)
unfolding both
has_both a b r = has_and a b r

pub has_less : (a b r : ℕ) → a < 2 ^ 16 → b < 2 ^ 16 → has (less a b) r ≡ (has a r && not (has b r))
unfolding less
has_less a b r h l =
    has_and a (65535 - b) r ∙
    ⊎_elim (λ i. ap (λ x. has a r && x) (has_others b 16 r l i))
    (λ i. let none : has a r ≡ false = has_high a 16 r h i in rw none)
    (cases_lt r 16)

-- nobody is in the empty set
pub has_none : (r : ℕ) → has 0 r ≡ false
has_none r = has_high 0 0 r (omega arith) (omega arith)

pub has_alone : (j r : ℕ) → has (single j) r ≡ (eqb r j && ltb r 16)
unfolding single
has_alone j r =
    ⊎_elim (λ i. ap (λ b. has (cond b (2 ^ j) 0) r) (lt-ltb j 16 i) ∙ has_single j r ∙ grind (arith, nat_tests))
    (λ i. let high : ltb j 16 ≡ false = grind (arith, nat_tests) in ap (λ b. has (cond b (2 ^ j) 0) r) high ∙ has_none r ∙ grind (arith, nat_tests))
    (cases_lt j 16)

pub single_lt : (j : ℕ) → single j < 2 ^ 16
unfolding single
single_lt j =
    ⊎_elim (λ i. subst (λ b. cond b (2 ^ j) 0 < 2 ^ 16) (sym (lt-ltb j 16 i)) (pow-lt i))
    (λ i. let high : ltb j 16 ≡ false = grind (arith, nat_tests) in subst (λ b. cond b (2 ^ j) 0 < 2 ^ 16) (sym high) (omega arith))
    (cases_lt j 16)

-- the code's shift makes the set of one
pub shifted_single : (j : ℕ) → j < 16 → 1 * 2 ^ j % 2 ^ 16 ≡ single j
unfolding single
shifted_single j h = one_shl j 16 h ∙ ap (λ b. cond b (2 ^ j) 0) (sym (lt-ltb j 16 h))

pub high_single : (j : ℕ) → 16 ≤ j → 0 ≡ single j
unfolding single
high_single j h = let high : ltb j 16 ≡ false = grind (arith, nat_tests) in ap (λ b. cond b (2 ^ j) 0) (sym high)

pub no_members : (a : ℕ) → a < 2 ^ 16 → Decides (eqb a 0) ((k : ℕ) → has a k ≡ false)
no_members a h = (
  λ e k. ap (λ n. has n k) (eqb-true a 0 e) ∙ has_none k,
  λ e. eq-eqb a 0 (same_from_members 16 a 0 h (omega arith) (λ r _. e r ∙ sym (has_none r))),
)

both_is : (x y : Bool) → (x ≡ true → y ≡ true) → (x && y) ≡ x
both_is false y h = refl
both_is true y h = h refl

pub all_members : (a b : ℕ) → a < 2 ^ 16 → Decides (eqb (bit_and a b) a) ((k : ℕ) → has a k ≡ true → has b k ≡ true)
all_members a b h = (
  λ e k m. (and_parts (has a k) (has b k) (sym (has_and a b k) ∙ ap (λ n. has n k) (eqb-true (bit_and a b) a e) ∙ m)).1,
  λ e. eq-eqb (bit_and a b) a (same_from_members 16 (bit_and a b) a (lt_of_le_of_lt (and_le_l a b) h) h (λ r _. has_and a b r ∙ both_is (has a r) (has b r) (e r))),
)

-- a set without one replica
pub has_without : (a j r : ℕ) → a < 2 ^ 16 → has (less a (single j)) r ≡ (has a r && not (eqb r j))
has_without a j r h =
    has_less a (single j) r h (single_lt j) ∙ ap (λ x. has a r && not x) (has_alone j r) ∙
    ⊎_elim (λ i. let low : ltb r 16 ≡ true = lt-ltb r 16 i in rw (low, and_true (eqb r j)))
    (λ i. let none : has a r ≡ false = has_high a 16 r h i in rw none)
    (cases_lt r 16)

-- a set without one of its members is smaller
pub size_without : (a j : ℕ) → a < 2 ^ 16 → has a j ≡ true → size (less a (single j)) < size a
size_without a j h m =
    let l : j < 16 = ⊎_elim (λ i. i) (λ i. absurd (both_ways (has a j) (has_high a 16 j h i) m)) (cases_lt j 16) in
    tally_lt one (has (less a (single j))) (has a) 16 j l
    (λ k _ e. (and_parts (has a k) (not (eqb k j)) (sym (has_without a j k h) ∙ e)).0)
    (has_without a j j h ∙ ap (λ b. has a j && not b) (eq-eqb j j refl) ∙ grind (arith, nat_tests)) m (omega arith)
