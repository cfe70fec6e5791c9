-- Asks that are fit, and those in which n is enough for everyone.
use Rattle.std.proofs.Common.{◌≡◌, ℕ, ◌-◌, ◌*◌, ◌/◌, ◌≤◌, min, Bool, true, false, cond, ◌&&◌, eqb, leb, List, [], ◌∷◌, length, Some, None, sym, refl, ap, ◌∙◌, arith}
use Rattle.std.specs.List.{list_all, sum_by}
use Rattle.std.proofs.lemmas.List.Recursion.{is_sum_by}
use Rattle.std.proofs.lemmas.List.{length-map}
use Rattle.std.proofs.lemmas.Bool.{and_parts, leb-true, eqb-true, le-leb, cond-true}
use Rattle.sharing.specs.declared.claim.Claim.{Claim}
use Rattle.sharing.specs.declared.refusal.Refusal.TheVariants.{Unfit}
use Rattle.sharing.specs.Asking.{sizes, sizes_fit, fits, ask_refusal, places_after}
use Rattle.sharing.specs.Shares.{sum, arrival, floors, pro_rata}

pub sizes_fit_is : (claims : List Claim) → sizes_fit (sizes claims) ≡ list_all (λ claim. leb claim.size 100000) claims
sizes_fit_is [] = refl
sizes_fit_is (claim ∷ claims) = ap (λ b. leb claim.size 100000 && b) (sizes_fit_is claims)

pub sum_of_sizes : (claims : List Claim) → sum (sizes claims) ≡ sum_by (λ claim. claim.size) claims
sum_of_sizes claims = is_sum_by (λ claims. sum (sizes claims)) (λ claim. claim.size) refl (λ _ _. refl) claims

pub sum_of_floors : (n t : ℕ) (claims : List Claim) → sum (floors n t (sizes claims)) ≡ sum_by (λ claim. n * claim.size / t) claims
sum_of_floors n t claims = is_sum_by (λ claims. sum (floors n t (sizes claims))) (λ claim. n * claim.size / t) refl (λ _ _. refl) claims

sum-fit : (xs : List ℕ) → sizes_fit xs ≡ true → sum xs ≤ 100000 * length xs
sum-fit [] e = omega arith
sum-fit (x ∷ xs) e =
    let p = and_parts (leb x 100000) (sizes_fit xs) e in
    omega (arith, leb-true x 100000 p.0, sum-fit xs p.1)

-- what a fit ask bounds
pub record Fit (claims : List Claim) (places : ℕ) : Type 0 where
  pub few : length claims ≤ 512
  pub placed : length claims ≡ places
  pub small : sum (sizes claims) ≤ 51200000

unrefused : (fine : Bool) → None ≡ cond fine None (Some Unfit) → fine ≡ true
unrefused true e = refl
unrefused false e = cc

pub fit : (claims : List Claim) (places : ℕ) → None ≡ ask_refusal claims places → Fit claims places
fit claims places h =
    let e = unrefused (fits claims places) h in
    let p = and_parts (leb (length claims) 512) (eqb (length claims) places && sizes_fit (sizes claims)) e in
    let q = and_parts (eqb (length claims) places) (sizes_fit (sizes claims)) p.1 in
    let l = leb-true (length claims) 512 p.0 in
    record {
      few = l;
      placed = eqb-true (length claims) places q.0;
      small = omega (arith, sum-fit (sizes claims) q.1, length-map claims (λ claim. claim.size));
    }

arrival_all : (n : ℕ) (xs : List ℕ) → sum xs ≤ n → arrival n xs ≡ xs
arrival_all n [] h = refl
arrival_all n (x ∷ xs) h =
    let e : min n x ≡ x = omega arith in
    ap (λ z. z ∷ arrival (n - z) xs) e ∙ ap (λ ys. x ∷ ys) (arrival_all (n - x) xs (omega arith))

-- where n is enough, pro rata writes what arrival writes
pub same_places : (n : ℕ) (claims : List Claim) (places after : List ℕ) → sum (sizes claims) ≤ n
    → after ≡ places_after claims (arrival n (sizes claims)) places → after ≡ places_after claims (pro_rata n (sizes claims)) places
same_places n claims places after h e =
    let xs = sizes claims in
    let same : arrival n xs ≡ pro_rata n xs = arrival_all n xs h ∙ sym (cond-true _ _ _ (le-leb (sum xs) n h)) in
    e ∙ ap (λ meant. places_after claims meant places) same
