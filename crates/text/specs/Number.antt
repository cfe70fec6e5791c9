-- Whole numbers in decimal digits.
use Rattle.std.specs.Prelude.{ℕ, ◌+◌, ◌-◌, ◌*◌, ◌^◌, Bool, cond, ◌&&◌, List, [], ◌∷◌, length, Some, None, Option, nat_lt}
use Rattle.std.specs.Char.{is_ascii_digit}
use Rattle.std.specs.Str.{all_ascii_digits}

-- n, if it fits 64 bits
abbrev pub fitting : ℕ → Option ℕ
fitting n = cond (nat_lt n (2 ^ 64)) (Some n) None

-- n with the digit c behind it, if c is a digit and the number fits
abbrev pub appended_to : ℕ → ℕ → Option ℕ
appended_to n c = cond (is_ascii_digit c) (fitting (n * 10 + (c - 48))) None

-- the number that the digits write, behind those of n
abbrev pub number_after : ℕ → List ℕ → ℕ
number_after n [] = n
number_after n (c ∷ cs) = number_after (n * 10 + (c - 48)) cs

-- the number that the digits write
abbrev pub number_of : List ℕ → ℕ
number_of ds = number_after 0 ds

-- one digit or more, and nothing else
abbrev pub is_numeral : List ℕ → Bool
is_numeral ds = nat_lt 0 (length ds) && all_ascii_digits ds

-- the number of a numeral, if it fits 64 bits
unfoldable pub whole_of : List ℕ → Option ℕ
whole_of ds = cond (is_numeral ds) (fitting (number_of ds)) None
