-- Who is in the sets that a call makes, as the moves want it. Assumes nothing.
use Rattle.std.proofs.Common.{ℕ, eqb, ltb, sym, ◌∙◌, inl, inr, ⊎_elim}
use Rattle.std.proofs.lemmas.Bool.{and_parts, or_cases, eqb-true, both_ways}
use Rattle.quorum.specs.Members.{has}
use Rattle.quorum.specs.Sets.{either, both, single}
use Rattle.quorum.proofs.Sets.{has_either, has_both, has_alone, has_none}
use Rattle.safety.specs.Moves.{Empty, Part, Adds}

pub nobody_there : Empty 0
nobody_there p h = both_ways (has 0 p) (has_none p) h

-- a set with q is that set and at most q
pub adds_one : (s q : ℕ) → Adds s q (either s (single q))
adds_one s q p h =
    ⊎_elim (λ a. inl a) (λ a. inr (eqb-true p q (and_parts (eqb p q) (ltb p 16) (sym (has_alone q p) ∙ a)).0))
    (or_cases (has s p) (has (single q) p) (sym (has_either s (single q) p) ∙ h))

-- those of a that are in b are of a
pub part_of : (a b : ℕ) → Part (both a b) a
part_of a b p h = (and_parts (has a p) (has b p) (sym (has_both a b p) ∙ h)).0
