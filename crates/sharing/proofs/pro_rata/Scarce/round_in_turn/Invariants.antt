use Rattle.std.proofs.Common.{◌≡◌, ◌++◌, take, drop}
use Rattle.sharing.specs.Asking.{sizes}
use Rattle.sharing.specs.Shares.{rounded, pro_rata}
use Rattle.sharing.proofs.pro_rata.Scarce.round_in_turn.Given as goal

-- the shares written, then those still to come, are all the shares
abbrev pub invariant-loop-i : goal.invariant-loop-i
invariant-loop-i l =
    take l.i l.shares ++ rounded l.self.n l.self.whole l.left (sizes (drop l.i l.self.claims.now))
    ≡ pro_rata l.self.n (sizes l.self.claims.now)
