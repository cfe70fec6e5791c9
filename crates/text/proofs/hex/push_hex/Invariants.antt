use Rattle.std.proofs.Common.{◌≡◌, ◌++◌, get_or, take, string_bytes}
use Rattle.text.specs.Hex.{hex_pair, blank_pairs}
use Rattle.text.proofs.hex.push_hex.Given as goal

-- the first byte and those so far are put behind the text
abbrev pub invariant-loop-b : goal.invariant-loop-b
invariant-loop-b l = string_bytes l.out ≡ string_bytes l.fn.out ++ (hex_pair (get_or l.bytes 0 0) ++ blank_pairs (take l.b-index l.others))
