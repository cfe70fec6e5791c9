use Rattle.std.proofs.Common.{◌≡◌, ◌+◌, ◌≤◌, ◌++◌, length, map, take, vec_items, vec_len, vec_capacity}
use Rattle.text.proofs.Pairing.{byte_of}
use Rattle.text.proofs.hex.push_word.Given as goal

-- the bytes of the pairs so far are put behind, and those of the others have room
abbrev pub invariant-loop-high : goal.invariant-loop-high
invariant-loop-high l = (vec_items l.out ≡ vec_items l.initial.out ++ map byte_of (take l.high-index l.high-items))
    × (vec_len l.out + length l.high-items ≤ vec_capacity l.out + l.high-index)
