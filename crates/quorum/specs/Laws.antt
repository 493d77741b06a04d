-- What is asked of a quorum rule. `f p s` says whether the part p carries the set s. Assumes nothing.
use Rattle.std.specs.Prelude.{◌≡◌, ℕ, ◌<◌, Bool, true}
use Rattle.quorum.specs.Members.{has}

-- each member of s that is in p is in q
abbrev pub Within : ℕ → ℕ → ℕ → Type 0
Within s p q = (r : ℕ) → r < 16 → has s r ≡ true → has p r ≡ true → has q r ≡ true

-- only the set's members in the part matter
abbrev pub Local : (ℕ → ℕ → Bool) → Type 0
Local f = (p q s : ℕ) → ((r : ℕ) → r < 16 → has s r ≡ true → has p r ≡ has q r) → f p s ≡ f q s

-- a nonempty set carries itself
abbrev pub Whole : (ℕ → ℕ → Bool) → Type 0
Whole f = (s r : ℕ) → r < 16 → has s r ≡ true → f s s ≡ true

-- a part that holds all of one that carries also carries
abbrev pub Grows : (ℕ → ℕ → Bool) → Type 0
Grows f = (p q s : ℕ) → Within s p q → f p s ≡ true → f q s ≡ true

-- two parts that carry one set share a member of it
abbrev pub Meets : (ℕ → ℕ → Bool) → Type 0
Meets f = (p q s : ℕ) → f p s ≡ true → f q s ≡ true → (r : ℕ) × (r < 16) × (has p r ≡ true) × (has q r ≡ true) × (has s r ≡ true)
