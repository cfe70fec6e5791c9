-- The bytes that are written.
use Rattle.std.specs.Prelude.{◌≡◌, ℕ, ◌+◌, ◌^◌, ◌<◌, Bool, true, ◌&&◌, List, [], ◌∷◌, ◌++◌, map, length, take, drop}
use Rattle.feed.specs.Bytes.{cells, bytes}
use Rattle.feed.specs.Layouts.{Notice, update, summary, symbol_fit, letter_fit}
use Rattle.feed.specs.declared.message.Update.{Update}
use Rattle.feed.specs.declared.message.Summary.{Summary}

-- a message that can be written
pub data Sent : Type 0 where
  sent_update : Update → Sent
  sent_summary : Summary → Sent

-- what it tells
abbrev pub meant : Sent → Notice
meant (sent_update u) = update u
meant (sent_summary s) = summary s

-- an update, field by field
unfoldable pub update_bytes : Update → List ℕ
update_bytes u =
    64 ∷ 0xd1 ∷ (bytes 4 u.offset ++ (cells 8 0 u.symbol ++ (u.auction ∷ (bytes 8 u.reference ++ (bytes 4 u.buy ++ (bytes 4 u.sell ++ (bytes 8 u.indicative ++ (bytes 8 u.auction_only ++ (u.condition ∷ (bytes 8 u.bid ++ bytes 8 u.offer))))))))))

-- a summary, field by field
unfoldable pub summary_bytes : Summary → List ℕ
summary_bytes s = 27 ∷ 0x96 ∷ (bytes 4 s.offset ++ (cells 8 0 s.symbol ++ (s.auction ∷ (bytes 8 s.price ++ bytes 4 s.contracts))))

-- the bytes of a message
abbrev pub encoded : Sent → List ℕ
encoded (sent_update u) = update_bytes u
encoded (sent_summary s) = summary_bytes s

-- the number of its bytes
abbrev pub size_of : Sent → ℕ
size_of (sent_update u) = 64
size_of (sent_summary s) = 27

-- its symbol and its auction letter
abbrev pub symbol_of : Sent → List ℕ
symbol_of (sent_update u) = u.symbol
symbol_of (sent_summary s) = s.symbol

abbrev pub letter_of : Sent → ℕ
letter_of (sent_update u) = u.auction
letter_of (sent_summary s) = s.auction

-- each field within its width: the types of the code see to that
pub record UpdateWidths (u : Update) : Type 0 where
  pub offset : u.offset < 2 ^ 32
  pub symbol : length u.symbol ≡ 8
  pub reference : u.reference < 2 ^ 64
  pub buy : u.buy < 2 ^ 32
  pub sell : u.sell < 2 ^ 32
  pub indicative : u.indicative < 2 ^ 64
  pub auction_only : u.auction_only < 2 ^ 64
  pub bid : u.bid < 2 ^ 64
  pub offer : u.offer < 2 ^ 64

pub record SummaryWidths (s : Summary) : Type 0 where
  pub offset : s.offset < 2 ^ 32
  pub symbol : length s.symbol ≡ 8
  pub price : s.price < 2 ^ 64
  pub contracts : s.contracts < 2 ^ 32

abbrev pub InWidths : Sent → Type 0
InWidths (sent_update u) = UpdateWidths u
InWidths (sent_summary s) = SummaryWidths s

-- whether its symbol and its auction letter are fit
abbrev pub fit : Sent → Bool
fit (sent_update u) = symbol_fit u.symbol && letter_fit u.auction
fit (sent_summary s) = symbol_fit s.symbol && letter_fit s.auction

-- fit, and each field within its width
pub record Fit (m : Sent) : Type 0 where
  pub fields : fit m ≡ true
  pub widths : InWidths m

abbrev pub AllFit : List Sent → Type 0
AllFit [] = Unit {0}
AllFit (m ∷ ms) = Fit m × AllFit ms

-- messages' bytes, one behind the other
abbrev pub behind : List (List ℕ) → List ℕ
behind [] = []
behind (m ∷ ms) = m ++ behind ms

-- a frame: its length, a count of messages, unit and sequence as five bytes, and a body
abbrev pub framed : ℕ → List ℕ → List ℕ → List ℕ
framed count five body = bytes 2 (8 + length body) ++ (count ∷ (five ++ body))

-- the frame of some messages: unit and sequence are 0
unfoldable pub frame_of : List Sent → List ℕ
frame_of ms = framed (length ms) (0 ∷ 0 ∷ 0 ∷ 0 ∷ 0 ∷ []) (behind (map encoded ms))

-- a buffer with bytes laid over it from a place on
unfoldable pub laid : List ℕ → ℕ → List ℕ → List ℕ
laid b place m = take place b ++ (m ++ drop (place + length m) b)
