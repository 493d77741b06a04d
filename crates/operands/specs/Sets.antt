-- The set that a word names: {} or {1,2,3}. Assumes nothing.
use Rattle.std.specs.Prelude.{ℕ, ◌-◌, Bool, if◌then◌else◌, ◌&&◌, List, length, take, drop, Some, None, Option, ◌==◌, nat_le, nat_lt, slice_index, fold}
use Rattle.std.specs.List.{slice_split}
use Rattle.quorum.specs.Sets.{nobody_set, either, single}
use Rattle.quorum.specs.declared.set.ReplicaSet.{ReplicaSet}
use Rattle.operands.specs.Numerals.{reads}

-- a set with the replica of this number, where there is a number and it is at most 15
abbrev pub with_replica : ReplicaSet → Option ℕ → Option ReplicaSet
with_replica s None = None
with_replica s (Some n) = if nat_lt n 16 then Some (record { 0 = either s.0 (single n) }) else None

-- a set with the replica that a word names; absent where a word before named none
abbrev pub joined : Option ReplicaSet → List ℕ → Option ReplicaSet
joined None w = None
joined (Some s) w = with_replica s (reads w)

-- the words of a text between its commas
abbrev pub words : List ℕ → List (List ℕ)
words bs = slice_split (λ b. b == 44) bs

-- the set that a text without braces names: nobody, or those that its words name
abbrev pub listed : List ℕ → Option ReplicaSet
listed w = if length w == 0 then Some nobody_set else fold joined (Some nobody_set) (words w)

-- a word in braces
abbrev pub braced : List ℕ → Bool
braced w = nat_le 2 (length w) && slice_index w 0 == 123 && slice_index w (length w - 1) == 125

-- what stands between them
abbrev pub inner : List ℕ → List ℕ
inner w = take (length w - 2) (drop 1 w)

abbrev pub set_of : List ℕ → Option ReplicaSet
set_of w = if braced w then listed (inner w) else None
