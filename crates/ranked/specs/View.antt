-- A ranked list as a plain list. What a place behind the entries holds is said nowhere.
use Rattle.std.specs.Prelude.{ℕ, min, Bool, List, length, take, nat_lt}
use Rattle.ranked.specs.declared.list.RankedList.{RankedList}

-- how many entries there may be: all places lent, 512 at most
abbrev pub room : {X : Type 0} {r : _} → RankedList X r → ℕ
room l = min 512 (length l.places.now)

-- how many there are
abbrev pub count : {X : Type 0} {r : _} → RankedList X r → ℕ
count l = l.len

-- whether a place is free
abbrev pub free : {X : Type 0} {r : _} → RankedList X r → Bool
free l = nat_lt (count l) (room l)

-- the entries, the best first
abbrev pub entries : {X : Type 0} {r : _} → RankedList X r → List X
entries l = take (count l) l.places.now
