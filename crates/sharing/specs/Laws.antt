-- That arrival and pro rata are sharing rules.
use Rattle.std.specs.Prelude.{◌≡◌, ℕ, zero, suc, ◌+◌, ◌-◌, ◌*◌, ◌/◌, ◌<◌, ◌≤◌, min, Bool, true, false, cond, List, [], ◌∷◌, length, nat_le, nat_lt, slice_index, refl}
use Rattle.std.proofs.Common.{ap, ◌∙◌, arith, mul-add, mul_comm, mod-lt, mul-le-mul_right}
use Rattle.std.proofs.Math.Nat.{mul-div-le, div-add-mod, div-le_of_le-mul, le_of_mul-le-mul_left}
use Rattle.std.proofs.lemmas.Bool.{cond_both, ltb-true, ltb-false, leb-true, leb-false}
use Rattle.std.proofs.lemmas.Nat.{mul-le}
use Rattle.sharing.specs.Shares.{sum, arrival, floors, extra, rounded, pro_rata, Shared}

arrival-length : (n : ℕ) (xs : List ℕ) → length (arrival n xs) ≡ length xs
arrival-length n [] = refl
arrival-length n (x ∷ xs) = ap suc (arrival-length (n - min n x) xs)

arrival_within : (n : ℕ) (xs : List ℕ) (k : ℕ) → slice_index (arrival n xs) k ≤ slice_index xs k
arrival_within n [] k = omega arith
arrival_within n (x ∷ xs) zero = omega arith
arrival_within n (x ∷ xs) (suc k) = arrival_within (n - min n x) xs k

arrival_whole : (n : ℕ) (xs : List ℕ) → sum (arrival n xs) ≡ min n (sum xs)
arrival_whole n [] = omega arith
arrival_whole n (x ∷ xs) = omega (arith, arrival_whole (n - min n x) xs)

pub arrival_shared : (n : ℕ) (xs : List ℕ) → Shared n xs (arrival n xs)
arrival_shared n xs = record { same = arrival-length n xs; within = arrival_within n xs; whole = arrival_whole n xs }

-- how many shares, rounded down, are not full
abbrev unfull : ℕ → ℕ → List ℕ → ℕ
unfull n t [] = 0
unfull n t (x ∷ xs) = cond (nat_lt (n * x / t) x) 1 0 + unfull n t xs

-- t times the parts rounded down is at most n times the sizes ..
floors_low : (n t : ℕ) (xs : List ℕ) → t * sum (floors n t xs) ≤ n * sum xs
floors_low n t [] = omega arith
floors_low n t (x ∷ xs) =
    omega (arith, mul-add t (n * x / t) (sum (floors n t xs)), mul-add n x (sum xs), mul-div-le (n * x) t, floors_low n t xs)

-- one part rounded down, and one more where it is not full, is at least the exact part
one_high : (n t x : ℕ) → 0 < t → n ≤ t → n * x ≤ t * (n * x / t + cond (nat_lt (n * x / t) x) 1 0)
one_high n t x pos le =
    cond_both (nat_lt (n * x / t) x) 1 0 (λ z. n * x ≤ t * (n * x / t + z))
    (λ e. omega (arith, mul-add t (n * x / t) 1, div-add-mod (n * x) t, mod-lt (n * x) pos))
    (λ e. omega (arith, mul-add t (n * x / t) 0, mul-le n x t (n * x / t) le (ltb-false (n * x / t) x e)))

split : (t q z f u : ℕ) → t * ((q + f) + (z + u)) ≡ t * (q + z) + t * (f + u)
split t q z f u = let e : (q + f) + (z + u) ≡ (q + z) + (f + u) = omega arith in ap (λ m. t * m) e ∙ mul-add t (q + z) (f + u)

-- .. which is at most that and t for each part that is not full
floors_high : (n t : ℕ) (xs : List ℕ) → 0 < t → n ≤ t → n * sum xs ≤ t * (sum (floors n t xs) + unfull n t xs)
floors_high n t [] pos le = omega arith
floors_high n t (x ∷ xs) pos le =
    let q = n * x / t in
    let z : ℕ = cond (nat_lt (n * x / t) x) 1 0 in
    let f = sum (floors n t xs) in
    let u = unfull n t xs in
    omega (arith, mul-add n x (sum xs), split t q z f u, one_high n t x pos le, floors_high n t xs pos le)

bump : (b : Bool) (q f left u r : ℕ) → r ≡ f + min (left - cond b (min left 1) 0) u
    → (q + cond b (min left 1) 0) + r ≡ (q + f) + min left (cond b 1 0 + u)
bump true q f left u r e = omega arith
bump false q f left u r e = omega arith

-- one round hands out what is left, or one to each that is not full
rounded_whole : (n t left : ℕ) (xs : List ℕ) → sum (rounded n t left xs) ≡ sum (floors n t xs) + min left (unfull n t xs)
rounded_whole n t left [] = omega arith
rounded_whole n t left (x ∷ xs) =
    bump (nat_lt (n * x / t) x) (n * x / t) (sum (floors n t xs)) left (unfull n t xs) _
    (rounded_whole n t (left - extra left (n * x / t) x) xs)

rounded-length : (n t left : ℕ) (xs : List ℕ) → length (rounded n t left xs) ≡ length xs
rounded-length n t left [] = refl
rounded-length n t left (x ∷ xs) = ap suc (rounded-length n t (left - extra left (n * x / t) x) xs)

pub floor_le : (n t x : ℕ) → n ≤ t → n * x / t ≤ x
floor_le n t x le = div-le_of_le-mul t (mul-le-mul_right x le)

pub one_within : (n t left x : ℕ) → n ≤ t → n * x / t + extra left (n * x / t) x ≤ x
one_within n t left x le =
    cond_both (nat_lt (n * x / t) x) (min left 1) 0 (λ z. n * x / t + z ≤ x)
    (λ e. omega (arith, ltb-true (n * x / t) x e))
    (λ e. omega (arith, floor_le n t x le))

rounded_within : (n t left : ℕ) (xs : List ℕ) → n ≤ t → (k : ℕ) → slice_index (rounded n t left xs) k ≤ slice_index xs k
rounded_within n t left [] le k = omega arith
rounded_within n t left (x ∷ xs) le zero = one_within n t left x le
rounded_within n t left (x ∷ xs) le (suc k) = rounded_within n t (left - extra left (n * x / t) x) xs le k

-- rounded down, the parts sum to at most n, and what is left of n is gone after one round
pub given_low : (n t : ℕ) (xs : List ℕ) → sum xs ≡ t → n < t → sum (floors n t xs) ≤ n
given_low n t xs e h =
    le_of_mul-le-mul_left {k = t} (omega (arith, floors_low n t xs, ap (λ m. n * m) e, mul_comm n t)) (omega arith)

given_high : (n t : ℕ) (xs : List ℕ) → sum xs ≡ t → n < t → n ≤ sum (floors n t xs) + unfull n t xs
given_high n t xs e h =
    le_of_mul-le-mul_left {k = t} (omega (arith, floors_high n t xs (omega arith) (omega arith), ap (λ m. n * m) e, mul_comm n t)) (omega arith)

short : (n t : ℕ) (xs : List ℕ) → sum xs ≡ t → n < t → Shared n xs (rounded n t (n - sum (floors n t xs)) xs)
short n t xs e h = record {
  same = rounded-length n t _ xs;
  within = rounded_within n t _ xs (omega arith);
  whole = omega (arith, rounded_whole n t (n - sum (floors n t xs)) xs, given_low n t xs e h, given_high n t xs e h);
}

pub pro_rata_shared : (n : ℕ) (xs : List ℕ) → Shared n xs (pro_rata n xs)
pro_rata_shared n xs =
    cond_both (nat_le (sum xs) n) xs (rounded n (sum xs) (n - sum (floors n (sum xs) xs)) xs) (λ ys. Shared n xs ys)
    (λ e. let l = leb-true (sum xs) n e in record { same = refl; within = λ k. omega arith; whole = omega arith })
    (λ e. short n (sum xs) xs refl (leb-false (sum xs) n e))
