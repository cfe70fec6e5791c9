-- Prices in ten-thousandths of a dollar, and their text.
use Rattle.std.specs.Prelude.{◌≡◌, ℕ, ◌+◌, ◌-◌, ◌*◌, ◌/◌, ◌%◌, ◌^◌, ◌<◌, Bool, cond, not, ◌&&◌, ◌||◌, List, [], ◌∷◌, ◌++◌, length, drop, Some, None, decimal, Option, ◌==◌, nat_lt}
use Rattle.text.specs.Number.{fitting, number_of, is_numeral}
use Rattle.text.specs.Word.{before, is_byte}

-- the bytes before the first point, or all
abbrev pub before_point : List ℕ → List ℕ
before_point word = before (is_byte 46) word

-- a point stands in the word
abbrev pub has_point : List ℕ → Bool
has_point word = nat_lt (length (before_point word)) (length word)

-- the bytes behind the first point
abbrev pub after_point : List ℕ → List ℕ
after_point word = drop (length (before_point word) + 1) word

-- one to four digits
abbrev pub is_decimals : List ℕ → Bool
is_decimals ds = is_numeral ds && nat_lt (length ds) 5

-- the ten-thousandths that the digits behind the point write
abbrev pub ten_thousandths : List ℕ → ℕ
ten_thousandths ds = number_of ds * 10 ^ (4 - length ds)

-- the ten-thousandths of one to four digits
abbrev pub decimals_of : List ℕ → Option ℕ
decimals_of ds = cond (is_decimals ds) (Some (ten_thousandths ds)) None

-- digits, or digits, a point and one to four digits
abbrev pub is_dollars : List ℕ → Bool
is_dollars word = is_numeral (before_point word) && (not (has_point word) || is_decimals (after_point word))

-- the price of such a word
abbrev pub price_of : List ℕ → ℕ
price_of word = number_of (before_point word) * 10000 + ten_thousandths (after_point word)

-- the price of such a word, if it fits 64 bits
unfoldable pub dollars_of : List ℕ → Option ℕ
dollars_of word = cond (is_dollars word) (fitting (price_of word)) None

-- a number below 100 in two digits
abbrev pub two_digits : ℕ → List ℕ
two_digits d = (48 + d / 10) ∷ ((48 + d % 10) ∷ [])

-- dollars and cents, and two more decimals where they are not zero
unfoldable pub price_text : ℕ → List ℕ
price_text n = decimal (n / 10000) ++ (46 ∷ (two_digits (n / 100 % 100) ++ cond (n % 100 == 0) [] (two_digits (n % 100))))

-- the text of a price is read as that price
abbrev pub PriceReadsBack : Type 0
PriceReadsBack = (n : ℕ) → n < 2 ^ 64 → dollars_of (price_text n) ≡ Some n
