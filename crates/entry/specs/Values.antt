-- What one word writes.
use Rattle.std.specs.Prelude.{ℕ, ◌+◌, ◌*◌, ◌^◌, Bool, cond, ◌&&◌, List, length, Some, None, codes, Option, ◌==◌, nat_lt, slice_index}
use Rattle.std.specs.Char.{is_ascii_graphic}
use Rattle.std.specs.Str.{bytes_eq}
use Rattle.feed.specs.Layouts.{letter_fit}
use Rattle.text.specs.Hex.{is_hex_digit, hex_digit}
use Rattle.text.specs.Number.{whole_of}

-- the verb that a line begins with
pub data Verb : Type 0 where
  Update : Verb
  Summary : Verb
  Send : Verb

-- the verb of an entry
abbrev pub verb_of : List ℕ → Option Verb
verb_of word =
    cond (bytes_eq word (codes "update")) (Some Update)
    (cond (bytes_eq word (codes "summary")) (Some Summary) (cond (bytes_eq word (codes "send")) (Some Send) None))

-- an auction letter: G, O, H or V
abbrev pub letter_of : List ℕ → Option ℕ
letter_of word = cond (length word == 1 && letter_fit (slice_index word 0)) (Some (slice_index word 0)) None

-- n, if it fits 32 bits
abbrev pub small : Option ℕ → Option ℕ
small (Some n) = cond (nat_lt n (2 ^ 32)) (Some n) None
small None = None

-- a whole number up to 4294967295
abbrev pub number_of : List ℕ → Option ℕ
number_of word = small (whole_of word)

-- one byte from 0x21 to 0x7E
abbrev pub is_character : List ℕ → Bool
is_character word = length word == 1 && is_ascii_graphic (slice_index word 0)

-- 0xNN with two hex digits of either case
abbrev pub is_hex_byte : List ℕ → Bool
is_hex_byte word = (length word == 4 && (slice_index word 0 == 48 && slice_index word 1 == 120)) && (is_hex_digit (slice_index word 2) && is_hex_digit (slice_index word 3))

-- a condition: one character, or a byte as 0xNN
abbrev pub condition_of : List ℕ → Option ℕ
condition_of word =
    cond (is_character word) (Some (slice_index word 0))
    (cond (is_hex_byte word) (Some (hex_digit (slice_index word 2) * 16 + hex_digit (slice_index word 3))) None)
