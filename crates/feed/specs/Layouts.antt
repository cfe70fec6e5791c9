-- What the bytes of one message tell.
use Rattle.std.specs.Prelude.{ℕ, ◌+◌, Bool, true, cond, ◌&&◌, ◌||◌, List, [], ◌∷◌, length, Some, None, Ok, Err, Option, Result, ◌==◌, nat_le, nat_lt, slice_index}
use Rattle.feed.specs.Bytes.{cells, le}
use Rattle.feed.specs.Faults.{fault_at}
use Rattle.feed.specs.declared.message.Update.{Update}
use Rattle.feed.specs.declared.message.Summary.{Summary}
use Rattle.feed.specs.declared.fault.Fault.{Fault}
use Rattle.feed.specs.declared.fault.Reason.TheVariants.{Short, Symbol, Letter}

-- a byte of a symbol: 0x20 to 0x7E
abbrev pub printable : ℕ → Bool
printable b = nat_le 0x20 b && nat_le b 0x7e

-- a symbol: such bytes alone
abbrev pub symbol_fit : List ℕ → Bool
symbol_fit [] = true
symbol_fit (b ∷ bs) = printable b && symbol_fit bs

-- an auction letter: G, O, H or V
abbrev pub letter_fit : ℕ → Bool
letter_fit b = b == 71 || (b == 79 || (b == 72 || b == 86))

-- what a message tells
pub data Notice : Type 0 where
  update : Update → Notice
  summary : Summary → Notice
  unknown : List ℕ → Notice

-- a message's type is its second byte
abbrev pub type_of : List ℕ → ℕ
type_of m = slice_index m 1

-- the fields of an update, at their offsets
abbrev pub update_of : List ℕ → Update
update_of m = record {
  offset = le (cells 4 2 m);
  symbol = cells 8 6 m;
  auction = slice_index m 14;
  reference = le (cells 8 15 m);
  buy = le (cells 4 23 m);
  sell = le (cells 4 27 m);
  indicative = le (cells 8 31 m);
  auction_only = le (cells 8 39 m);
  condition = slice_index m 47;
  bid = le (cells 8 48 m);
  offer = le (cells 8 56 m);
}

-- the fields of a summary
abbrev pub summary_of : List ℕ → Summary
summary_of m = record {
  offset = le (cells 4 2 m);
  symbol = cells 8 6 m;
  auction = slice_index m 14;
  price = le (cells 8 15 m);
  contracts = le (cells 4 23 m);
}

-- what is wrong with a message that is published with n bytes and lies at a place of its frame
unfoldable pub flaw : ℕ → List ℕ → ℕ → Option Fault
flaw n m place =
    cond (nat_lt (length m) n) (Some (fault_at Short place))
    (cond (symbol_fit (cells 8 6 m)) (cond (letter_fit (slice_index m 14)) None (Some (fault_at Letter (place + 14)))) (Some (fault_at Symbol (place + 6))))

-- what is told, unless there is a flaw
abbrev pub checked : {A : Type 0} → Option Fault → A → Result A Fault
checked None told = Ok told
checked (Some fault) told = Err fault

-- a message at a place, by the published layouts: updates have type 0xD1, summaries 0x96
abbrev pub published : List ℕ → ℕ → Result Notice Fault
published m place =
    cond (type_of m == 0xd1) (checked (flaw 64 m place) (update (update_of m)))
    (cond (type_of m == 0x96) (checked (flaw 27 m place) (summary (summary_of m))) (Ok (unknown m)))

-- the types of message that a reader knows
abbrev pub Types : Type 0
Types = ℕ → Bool

-- the types of this version
abbrev pub every_type : Types
every_type type = true

-- a message at a place, to a reader that knows some of the types
abbrev pub understood : Types → List ℕ → ℕ → Result Notice Fault
understood knows m place = cond (knows (type_of m)) (published m place) (Ok (unknown m))
