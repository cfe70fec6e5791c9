-- What the formats of the lines write, piece by piece, is the line.
use Rattle.std.proofs.Common.{◌≡◌, ℕ, List, ◌++◌, length, codes, decimal, append_assoc}
use Rattle.feed.specs.Faults.{number_of, layer_of, reason_text, layer_text}
use Rattle.feed.specs.Layouts.{type_of}
use Rattle.feed.specs.declared.fault.Fault.{Fault}
use Rattle.feed.specs.declared.fault.Layer.{Layer}
use Rattle.feed.specs.declared.message.Summary.{Summary}
use Rattle.feed.specs.declared.message.Update.{Update}
use Rattle.text.specs.Price.{price_text}
use Rattle.text.specs.Symbol.{trimmed_of}
use Rattle.board.specs.Lines.{capital_pair, letter_text, word_text, condition_text, series_text, update_line, summary_line, unknown_line, fault_line}

pub series : (symbol w : List ℕ) (a : ℕ) → w ≡ trimmed_of symbol → word_text w ++ (codes " " ++ letter_text a) ≡ series_text symbol a
unfolding series_text
series symbol w a e = rw (e, append_assoc)

-- the three parts of an update's line
abbrev pub opening : Update → List ℕ
opening u = codes "update " ++ (series_text u.symbol u.auction ++ (codes " reference " ++ (price_text u.reference ++ (codes " buy " ++ (decimal u.buy ++ (codes " sell " ++ decimal u.sell))))))

abbrev pub middle : Update → List ℕ
middle u = codes " indicative " ++ (price_text u.indicative ++ (codes " auction-only " ++ (price_text u.auction_only ++ (codes " condition " ++ condition_text u.condition))))

abbrev pub closing : Update → List ℕ
closing u = codes " bid " ++ (price_text u.bid ++ (codes " offer " ++ (price_text u.offer ++ (codes " offset " ++ decimal u.offset))))

pub update_line_lem : (u : Update) → (opening u ++ middle u) ++ closing u ≡ update_line u
unfolding update_line
update_line_lem u = simp append_assoc

pub summary_line_lem : (s : Summary) →
    codes "summary " ++ (series_text s.symbol s.auction ++ (codes " price " ++ (price_text s.price ++ (codes " contracts " ++ (decimal s.contracts ++ (codes " offset " ++ decimal s.offset))))))
    ≡ summary_line s
unfolding summary_line
summary_line_lem s = simp append_assoc

pub unknown_line_lem : (m : List ℕ) (k : ℕ) → k ≡ type_of m → codes "unknown 0x" ++ (capital_pair k ++ (codes ", " ++ (decimal (length m) ++ codes " bytes"))) ≡ unknown_line m
unfolding unknown_line
unknown_line_lem m k e = rw e

pub fault_line_lem : (x : Fault) (n : ℕ) (layer : Layer) → n ≡ number_of x.reason → layer ≡ layer_of x.reason →
    codes "fault " ++ (decimal n ++ (codes " (" ++ (reason_text x.reason ++ (codes ") in " ++ (layer_text layer ++ (codes " at byte " ++ decimal x.place)))))) ≡ fault_line x
unfolding fault_line
fault_line_lem x n layer p q = rw (q, p) (simp append_assoc)
