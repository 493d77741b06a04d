-- A word of digits, read from the left. Assumes nothing.
use Rattle.std.proofs.Common.{◌≡◌, ◌<◌, ◌≤◌, ◌+◌, ◌-◌, ◌*◌, ◌^◌, ℕ, true, List, length, get_or, take, None, Some, rules, tests}
use Rattle.std.proofs.lemmas.Int.Digits.{digits_value_more}
use Rattle.std.proofs.lemmas.List.{take_all}
use Rattle.std.proofs.lemmas.List.Folds.{list_all_at, list_all_more}
use Rattle.std.proofs.lemmas.Str.{digit_value_digit}
use Rattle.std.proofs.lemmas.Str.Parse.{digits_value-take-le}
use Rattle.std.specs.Char.{digit_value, is_ascii_digit}
use Rattle.std.specs.List.{list_all}
use Rattle.std.specs.Str.Parse.{digits_value}
use Rattle.operands.specs.Numerals.{one_more, reads}

-- the first bytes of a word are digits, and 64 bits hold the number that they write
pub record Reading (w : List ℕ) (i n : ℕ) : Type 0 where
  pub digits : list_all is_ascii_digit (take i w) ≡ true
  pub value : n ≡ digits_value 10 (take i w)
  pub fits : n < 2 ^ 64

value_of : (b : ℕ) → is_ascii_digit b ≡ true → digit_value b ≡ b - 48
value_of b d = search (rules, tests, digit_value_digit b)

record More (n b m : ℕ) : Type 0 where
  digit : is_ascii_digit b ≡ true
  value : m ≡ n * 10 + (b - 48)
  fits : m < 2 ^ 64

added : (n b m : ℕ) → Some m ≡ one_more n b → More n b m
added n b m e = search (rules, tests)

pub goes_on : (w : List ℕ) (i n m : ℕ) → i < length w → Reading w i n → Some m ≡ one_more n (get_or w i 0) → Reading w (i + 1) m
goes_on w i n m h so_far e =
    let more = added n (get_or w i 0) m e in
    let all = list_all_more is_ascii_digit w i 0 h in
    let value = digits_value_more 10 w i h in
    record { digits = rw (so_far.digits, more.digit) at all; value = search (rules, value, more.value, so_far.value, value_of (get_or w i 0) more.digit); fits = more.fits }

pub stops : (w : List ℕ) (i n : ℕ) → i < length w → Reading w i n → None ≡ one_more n (get_or w i 0) → reads w ≡ None
stops w i n h so_far e = search (rules, tests, list_all_at is_ascii_digit w i 0 h, digits_value-take-le 10 w (i + 1), digits_value_more 10 w i h, value_of (get_or w i 0))

pub ends : (w : List ℕ) (i n : ℕ) → length w ≤ i → 1 ≤ length w → Reading w i n → reads w ≡ Some n
ends w i n h some so_far =
    let all = take_all i w h in
    search (rules, tests, all, so_far.digits, so_far.value, so_far.fits)
