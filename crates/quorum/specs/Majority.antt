-- More than half of a set's weight: the four laws, for weights that are not 0. Assumes nothing.
use Rattle.std.specs.Prelude.{◌≡◌, ℕ, ◌*◌, ◌<◌, Bool, true, false, ◌&&◌, nat_lt, refl}
use Rattle.std.proofs.Common.{ap, arith}
use Rattle.std.proofs.lemmas.Bool.{lt-ltb, ltb-true, and_parts, and_from}
use Rattle.quorum.specs.Members.{has, weight, shared, majority, one}
use Rattle.quorum.specs.Laws.{Local, Whole, Grows, Meets}
use Rattle.quorum.specs.Tallies.{tally_same, tally_le, tally_pos, tally_meet}

and_when : (a b c : Bool) → (c ≡ true → a ≡ b) → (a && c) ≡ (b && c)
and_when true true c h = refl
and_when false false c h = refl
and_when true false true h = h refl
and_when true false false h = refl
and_when false true true h = h refl
and_when false true false h = refl

and_both : (a : Bool) → (a && a) ≡ a
and_both true = refl
and_both false = refl

-- each replica weighs something where each weighs the same
pub one_positive : (r : ℕ) → r < 16 → 0 < one r
one_positive r l = omega arith

module _ (w : ℕ → ℕ) where
  pub majority_local : Local (majority w)
  majority_local p q s h =
      ap (λ n. nat_lt (weight w s) (2 * n)) (tally_same w _ _ 16 (λ r l. and_when (has p r) (has q r) (has s r) (h r l)))

  pub majority_whole : ((r : ℕ) → r < 16 → 0 < w r) → Whole (majority w)
  majority_whole pos s r l m =
      let all : shared w s s ≡ weight w s = tally_same w _ _ 16 (λ k _. and_both (has s k)) in
      let some : 0 < weight w s = tally_pos w (has s) 16 r l m (pos r l) in
      lt-ltb (weight w s) (2 * shared w s s) (omega arith)

  pub majority_grows : Grows (majority w)
  majority_grows p q s h c =
      let more = tally_le w (λ r. has p r && has s r) (λ r. has q r && has s r) 16
      (λ r l m. let b = and_parts (has p r) (has s r) m in and_from (has q r) (has s r) (h r l b.1 b.0) b.1) in
      lt-ltb (weight w s) (2 * shared w q s) (omega (arith, ltb-true (weight w s) (2 * shared w p s) c))

  pub majority_meets : Meets (majority w)
  majority_meets p q s c d =
      tally_meet w (has p) (has q) (has s) 16
      (omega (arith, ltb-true (weight w s) (2 * shared w p s) c, ltb-true (weight w s) (2 * shared w q s) d))
