-- Sets within sets. Assumes nothing.
use Rattle.std.proofs.Common.{◌≡◌, ℕ, ◌-◌, true, eqb, ltb, sym, ap, ◌∙◌, ⊎_elim}
use Rattle.std.proofs.lemmas.Bool.{and_from, and_parts, or_cases, eqb-true, both_ways}
use Rattle.quorum.proofs.Below.{within_members, within_from}
use Rattle.quorum.proofs.Bits.{has_and}
use Rattle.quorum.proofs.Sets.{has_either, has_both, has_alone, has_none}
use Rattle.quorum.specs.Below.{within}
use Rattle.quorum.specs.Members.{has}
use Rattle.quorum.specs.Sets.{either, both, less, single}
use Rattle.rows.specs.Recorders.{no_recorders, recorders_within, recorders_with}
use Rattle.rows.specs.declared.message.Part.{Part}
use Rattle.rows.specs.declared.message.Part.TheVariants.{Member, Newcomer}
use Rattle.rows.specs.declared.row.Recorders.{Recorders}

pub within_itself : (a : ℕ) → within a a ≡ true
within_itself a = within_from a a (λ k l h. h)

-- nobody is within every set
pub within_none : (b : ℕ) → within 0 b ≡ true
within_none b = within_from 0 b (λ k l h. absurd (both_ways (has 0 k) (has_none k) h))

-- one member
pub within_alone : (b q : ℕ) → has b q ≡ true → within (single q) b ≡ true
within_alone b q h = within_from (single q) b (λ k l m. let e = eqb-true k q (and_parts (eqb k q) (ltb k 16) (sym (has_alone q k) ∙ m)).0 in ap (has b) e ∙ h)

-- one member more
pub within_added : (a b q : ℕ) → within a b ≡ true → has b q ≡ true → within (either a (single q)) b ≡ true
within_added a b q i h =
    within_from (either a (single q)) b (λ k l m.
    ⊎_elim (λ x. within_members a b i k l x) (λ x. within_members (single q) b (within_alone b q h) k l x) (or_cases (has a k) (has (single q) k) (sym (has_either a (single q) k) ∙ m)))

-- members taken away, whoever they are
pub within_less : (a c b : ℕ) → within a b ≡ true → within (less a c) b ≡ true
unfolding less
within_less a c b i = within_from (less a c) b (λ k l m. within_members a b i k l (and_parts (has a k) (has (65535 - c) k) (sym (has_and a (65535 - c) k) ∙ m)).0)

-- what two sets share lies in each
pub within_first : (a c b : ℕ) → within a b ≡ true → within (both a c) b ≡ true
within_first a c b i = within_from (both a c) b (λ k l m. within_members a b i k l (and_parts (has a k) (has c k) (sym (has_both a c k) ∙ m)).0)

pub within_second : (a c : ℕ) → within (both a c) c ≡ true
within_second a c = within_from (both a c) c (λ k l m. (and_parts (has a k) (has c k) (sym (has_both a c k) ∙ m)).1)

-- ---- who recorded
pub recorders_none : (b : ℕ) → recorders_within no_recorders b ≡ true
recorders_none b = and_from _ _ (within_none b) (within_none b)

-- one that recorded more, in either part
pub recorders_added : (x : Recorders) (b q : ℕ) (part : Part) → recorders_within x b ≡ true → has b q ≡ true → recorders_within (recorders_with x q part) b ≡ true
recorders_added x b q Member i h = let a = and_parts (within x.members.0 b) (within x.newcomers.0 b) i in and_from _ _ (within_added x.members.0 b q a.0 h) a.1
recorders_added x b q Newcomer i h = let a = and_parts (within x.members.0 b) (within x.newcomers.0 b) i in and_from _ _ a.0 (within_added x.newcomers.0 b q a.1 h)
