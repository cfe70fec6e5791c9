use Rattle.std.proofs.Common.{◌++◌, get_or, take}
use Rattle.std.specs.Fmt.{IsPlainFormatter, HasWritten}
use Rattle.text.specs.Hex.{hex_pair, blank_pairs}
use Rattle.text.proofs.hex.HexDisplay.fmt.Given as goal

-- the first byte and those so far are written
abbrev pub invariant-loop-b : goal.invariant-loop-b
invariant-loop-b g l = IsPlainFormatter l.fn.f → HasWritten g.W.Write.write_str_gives l.fn.f (hex_pair (get_or l.self.0.now 0 0) ++ blank_pairs (take l.b-index l.others)) l.f
