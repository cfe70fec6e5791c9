-- Text that grows at its end.
use Rattle.std.proofs.Common.{◌≡◌, ℕ, ◌≤◌, Bool, true, false, cond, List, ◌++◌, length, take, sym, refl, ap, ◌∙◌, arith, length-take}
use Rattle.std.proofs.lemmas.List.{take_all, take_at, take-take}
use Rattle.text.specs.Hex.{Keeps}

pub keeps_same : (xs : List ℕ) → Keeps xs xs
keeps_same xs = take_all (length xs) xs (omega arith)

pub keeps_more : (xs ys : List ℕ) → Keeps xs (xs ++ ys)
keeps_more xs ys = take_at xs ys (length xs) refl

pub keeps_then : (xs ys zs : List ℕ) → Keeps xs ys → Keeps ys zs → Keeps xs zs
keeps_then xs ys zs p q =
    let h : length xs ≤ length ys = omega (arith, ap length p, length-take (length xs) ys) in
    sym (take-take (length xs) (length ys) zs h) ∙ ap (λ (l : List ℕ). take (length xs) l) q ∙ p

-- after a push that may fail
pub keeps_if : (xs ys zs : List ℕ) (b : Bool) → zs ≡ cond b (xs ++ ys) xs → Keeps xs zs
keeps_if xs ys zs true e = rw e (keeps_more xs ys)
keeps_if xs ys zs false e = rw e (keeps_same xs)
