-- That each make and each layer keeps what every market keeps.
use Rattle.std.specs.Prelude.{◌≡◌, ℕ, ◌%◌, ◌≤◌, Bool, true, false, ◌&&◌, Some, None, Option, ◌==◌, nat_le}
use Rattle.std.proofs.Common.{inl, inr, arith}
use Rattle.std.proofs.Math.Nat.{max-eq_left, max-eq_right, min-eq_left, min-eq_right}
use Rattle.std.proofs.lemmas.Bool.{and_parts, eqb-true, leb-true, cases_lt}
use Rattle.market.specs.Market.{Pair, Side, side_fit, sides_fit, higher, lower, tighter, until}

pub fit_side : (o : Option ℕ) → side_fit o ≡ true → Side o
fit_side None e = tt
fit_side (Some p) e =
    let a = and_parts (p % 100 == 0) (nat_le 100 p && nat_le p 500000000) e in
    let b = and_parts (nat_le 100 p) (nat_le p 500000000) a.1 in
    (eqb-true (p % 100) 0 a.0, leb-true 100 p b.0, leb-true p 500000000 b.1)

pub fit_sides : (m : Pair) → sides_fit m ≡ true → Side m.0 × Side m.1
fit_sides m e = let p = and_parts (side_fit m.0) (side_fit m.1) e in (fit_side m.0 p.0, fit_side m.1 p.1)

pub fit-higher : (a b : Option ℕ) → Side a → Side b → Side (higher a b)
fit-higher None b p q = q
fit-higher (Some x) None p q = p
fit-higher (Some x) (Some y) p q =
    elim (cases_lt x y) [ inl h ↦ let l : x ≤ y = omega arith in rw max-eq_right q | inr h ↦ rw max-eq_left p ]

pub fit-lower : (a b : Option ℕ) → Side a → Side b → Side (lower a b)
fit-lower None b p q = q
fit-lower (Some x) None p q = p
fit-lower (Some x) (Some y) p q =
    elim (cases_lt x y) [ inl h ↦ let l : x ≤ y = omega arith in rw min-eq_left p | inr h ↦ rw min-eq_right q ]

pub fit-tighter : (m n : Pair) → Side m.0 × Side m.1 → Side n.0 × Side n.1 → Side (tighter m n).0 × Side (tighter m n).1
fit-tighter m n p q = (fit-higher m.0 n.0 p.0 q.0, fit-lower m.1 n.1 p.1 q.1)

pub fit-until : (closed : Bool) (m : Pair) → Side m.0 × Side m.1 → Side (until closed m).0 × Side (until closed m).1
fit-until true m p = (tt, tt)
fit-until false m p = p
