use Rattle.std.proofs.Common.{◌≡◌, length}
use Rattle.text.specs.Symbol.{trimmed_of}
use Rattle.text.proofs.symbol.trimmed.Given as goal

abbrev pub invariant-loop-rest : goal.invariant-loop-rest
invariant-loop-rest l = trimmed_of l.rest ≡ trimmed_of l.symbol

abbrev pub decreases-loop-rest : goal.decreases-loop-rest
decreases-loop-rest l = length l.rest
