-- Sets made from sets. Who is in each is said by its law in proofs/Sets; proofs use the laws. Assumes nothing.
use Rattle.std.specs.Prelude.{ℕ, ◌-◌, ◌^◌, if◌then◌else◌, bit_and, bit_or, nat_lt}
use Rattle.quorum.specs.declared.set.ReplicaSet.{ReplicaSet}

-- nobody
abbrev pub nobody_set : ReplicaSet
nobody_set = record { 0 = 0 }

-- the members of a and those of b
unfoldable pub either : ℕ → ℕ → ℕ
either a b = bit_or a b

-- the members of a that are in b
unfoldable pub both : ℕ → ℕ → ℕ
both a b = bit_and a b

-- the members of a that are not in b
unfoldable pub less : ℕ → ℕ → ℕ
less a b = bit_and a (65535 - b)

-- replica r alone; nobody where there is no such replica
unfoldable pub single : ℕ → ℕ
single r = if nat_lt r 16 then 2 ^ r else 0
