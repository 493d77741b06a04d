-- Which replicas a set of bits holds, and what a set weighs. Bit r of a set stands for replica r. Assumes nothing.
use Rattle.std.specs.Prelude.{ℕ, zero, suc, ◌+◌, ◌*◌, ◌/◌, ◌%◌, ◌^◌, Bool, if◌then◌else◌, ◌&&◌, List, ◌==◌, nat_lt, slice_index}
use Rattle.std.specs.List.{range_with_len}

-- all sixteen replicas, lowest first
unfoldable pub everybody : List ℕ
everybody = range_with_len 0 16

-- replica r is in the set s: the one membership test
unfoldable pub has : ℕ → ℕ → Bool
has s r = s / 2 ^ r % 2 == 1

-- the weights w of those replicas below n that f picks, together
unfoldable pub tally : (ℕ → ℕ) → (ℕ → Bool) → ℕ → ℕ
tally w f zero = 0
tally w f (suc n) = tally w f n + (if f n then w n else 0)

-- what a set weighs
abbrev pub weight : (ℕ → ℕ) → ℕ → ℕ
weight w s = tally w (has s) 16

-- what the members of s that are in p weigh
abbrev pub shared : (ℕ → ℕ) → ℕ → ℕ → ℕ
shared w p s = tally w (λ r. has p r && has s r) 16

-- more than half of the weight of s is in p
abbrev pub majority : (ℕ → ℕ) → ℕ → ℕ → Bool
majority w p s = nat_lt (weight w s) (2 * shared w p s)

-- each replica weighs the same
abbrev pub one : ℕ → ℕ
one r = 1

-- how many members a set has
abbrev pub size : ℕ → ℕ
size s = weight one s

-- the replicas' weights as a list has them
abbrev pub listed : List ℕ → ℕ → ℕ
listed ws r = slice_index ws r
