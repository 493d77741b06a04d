-- What a word of decimal digits reads as. Assumes nothing.
use Rattle.std.specs.Prelude.{ℕ, ◌+◌, ◌-◌, ◌*◌, ◌^◌, if◌then◌else◌, ◌&&◌, List, length, Some, None, Option, nat_le, nat_lt}
use Rattle.std.specs.Char.{is_ascii_digit}
use Rattle.std.specs.List.{list_all}
use Rattle.std.specs.Str.Parse.{digits_value}

-- a word of decimal digits, at least one, whose number 64 bits hold
abbrev pub reads : List ℕ → Option ℕ
reads w = if nat_le 1 (length w) && list_all is_ascii_digit w && nat_lt (digits_value 10 w) (2 ^ 64) then Some (digits_value 10 w) else None

-- a number with one more digit: absent where the byte is no digit or 64 bits do not hold the number
abbrev pub one_more : ℕ → ℕ → Option ℕ
one_more n b = if is_ascii_digit b && nat_lt (n * 10 + (b - 48)) (2 ^ 64) then Some (n * 10 + (b - 48)) else None

-- a number where it is below a limit
abbrev pub below : ℕ → Option ℕ → Option ℕ
below limit None = None
below limit (Some n) = if nat_lt n limit then Some n else None
