-- A store that counts its places down. Assumes nothing.
use Rattle.std.specs.Prelude.{ℕ, if◌then◌else◌, ◌==◌}

-- the byte-writes of a whole write where so many places are left: one fewer where it uses the last
abbrev pub byte_writes : ℕ → ℕ
byte_writes left = if left == 1 then 7 else 8
