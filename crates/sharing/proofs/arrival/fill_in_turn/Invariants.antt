use Rattle.std.proofs.Common.{◌≡◌, ◌++◌, take, drop}
use Rattle.sharing.specs.Asking.{sizes}
use Rattle.sharing.specs.Shares.{arrival}
use Rattle.sharing.proofs.arrival.fill_in_turn.Given as goal

-- the shares written, then those still to come, are all the shares
abbrev pub invariant-loop-i : goal.invariant-loop-i
invariant-loop-i l = take l.i l.shares ++ arrival l.left (sizes (drop l.i l.claims)) ≡ arrival l.n (sizes l.claims)
