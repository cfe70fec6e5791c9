-- The bytes of each line of the board.
use Rattle.std.specs.Prelude.{ℕ, ◌+◌, ◌/◌, ◌%◌, cond, List, [], ◌∷◌, ◌++◌, length, codes, decimal, nat_lt}
use Rattle.std.specs.Int.{is_in_range}
use Rattle.std.specs.Char.{is_ascii_graphic}
use Rattle.std.specs.List.{flat_map}
use Rattle.feed.specs.Faults.{number_of, layer_of, reason_text, layer_text}
use Rattle.feed.specs.Layouts.{Notice, update, summary, unknown, type_of}
use Rattle.feed.specs.declared.fault.Fault.{Fault}
use Rattle.feed.specs.declared.message.Summary.{Summary}
use Rattle.feed.specs.declared.message.Update.{Update}
use Rattle.text.specs.Price.{price_text}
use Rattle.text.specs.Symbol.{trimmed_of}

-- an upper-case hex digit
abbrev pub capital_digit : ℕ → ℕ
capital_digit d = cond (nat_lt d 10) (48 + d) (55 + d)

-- a byte in two such digits
abbrev pub capital_pair : ℕ → List ℕ
capital_pair b = capital_digit (b / 16) ∷ (capital_digit (b % 16) ∷ [])

-- a byte from 0x20 to 0x7E as it is, any other as \xNN
abbrev pub letter_text : ℕ → List ℕ
letter_text b = cond (is_in_range 0x20 0x7e b) (b ∷ []) (codes "\\x" ++ capital_pair b)

-- bytes as text
unfoldable pub word_text : List ℕ → List ℕ
word_text bs = flat_map letter_text bs

-- a byte from 0x21 to 0x7E as it is, any other as 0xNN
unfoldable pub condition_text : ℕ → List ℕ
condition_text b = cond (is_ascii_graphic b) (b ∷ []) (codes "0x" ++ capital_pair b)

-- a symbol without its trailing blanks, and an auction letter
unfoldable pub series_text : List ℕ → ℕ → List ℕ
series_text symbol auction = word_text (trimmed_of symbol) ++ codes " " ++ letter_text auction

-- how a series would open now
unfoldable pub update_line : Update → List ℕ
update_line u =
    codes "update " ++ series_text u.symbol u.auction ++ codes " reference " ++ price_text u.reference
    ++ codes " buy " ++ decimal u.buy ++ codes " sell " ++ decimal u.sell
    ++ codes " indicative " ++ price_text u.indicative ++ codes " auction-only " ++ price_text u.auction_only
    ++ codes " condition " ++ condition_text u.condition
    ++ codes " bid " ++ price_text u.bid ++ codes " offer " ++ price_text u.offer ++ codes " offset " ++ decimal u.offset

-- how a series opened
unfoldable pub summary_line : Summary → List ℕ
summary_line s =
    codes "summary " ++ series_text s.symbol s.auction ++ codes " price " ++ price_text s.price
    ++ codes " contracts " ++ decimal s.contracts ++ codes " offset " ++ decimal s.offset

-- a message of an unknown type: the type, and the number of its bytes
unfoldable pub unknown_line : List ℕ → List ℕ
unknown_line m = codes "unknown 0x" ++ capital_pair (type_of m) ++ codes ", " ++ decimal (length m) ++ codes " bytes"

-- a message by what it tells
abbrev pub message_line : Notice → List ℕ
message_line (update u) = update_line u
message_line (summary s) = summary_line s
message_line (unknown m) = unknown_line m

-- a fault: its number, its reason, the layer and the byte that it lies in
unfoldable pub fault_line : Fault → List ℕ
fault_line x =
    codes "fault " ++ decimal (number_of x.reason) ++ codes " (" ++ reason_text x.reason
    ++ codes ") in " ++ layer_text (layer_of x.reason) ++ codes " at byte " ++ decimal x.place
