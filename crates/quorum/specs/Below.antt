-- Of the replicas below n: whether a test picks any, which one is the first to offer something, and the set of those that it picks.
-- Each is read by its law in proofs/Below. Assumes nothing.
use Rattle.std.specs.Prelude.{◌≡◌, ℕ, zero, suc, ◌+◌, ◌^◌, ◌<◌, Bool, false, if◌then◌else◌, not, ◌&&◌, ◌||◌, Some, None, Option}
use Rattle.std.specs.Option.{option_or}
use Rattle.quorum.specs.Members.{has}

-- some replica below n is picked
unfoldable pub any : (ℕ → Bool) → ℕ → Bool
any f zero = false
any f (suc n) = any f n || f n

-- what the lowest replica below n that offers something offers
unfoldable pub first : {A : Type 0} → (ℕ → Option A) → ℕ → Option A
first g zero = None
first g (suc n) = option_or (first g n) (g n)

-- a is what the first offers: from whom, and that none before offers anything
pub record First {A : Type 0} (g : ℕ → Option A) (n : ℕ) (a : A) : Type 0 where
  pub place : ℕ
  pub below : place < n
  pub offers : g place ≡ Some a
  pub earlier : (j : ℕ) → j < place → g j ≡ None

-- the set of the replicas below n that are picked
unfoldable pub select : (ℕ → Bool) → ℕ → ℕ
select f zero = 0
select f (suc n) = select f n + (if f n then 2 ^ n else 0)

-- each member of a is one of b
abbrev pub within : ℕ → ℕ → Bool
within a b = not (any (λ r. has a r && not (has b r)) 16)

-- r, if it is in s
abbrev pub if_member : ℕ → ℕ → Option ℕ
if_member s r = if has s r then Some r else None

-- the lowest member of s
abbrev pub lowest : ℕ → Option ℕ
lowest s = first (if_member s) 16
