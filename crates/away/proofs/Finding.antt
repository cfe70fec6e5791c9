-- Lists of away prices: where an exchange stands, and what taking it out leaves.
use Rattle.std.proofs.Common.{◌≡◌, ℕ, suc, ◌+◌, ◌-◌, ◌<◌, ◌≤◌, Bool, true, false, cond, not, ◌||◌, ◌==◌, eqb, ltb, List, [], ◌∷◌, length, is_some, Some, None, Option, sym, refl, ap, ◌∙◌, inl, inr, one-add, arith}
use Rattle.std.specs.List.{remove, position, prefix_len}
use Rattle.std.proofs.lemmas.Bool.{cases_lt, lt-ltb, le-ltb, ltb-true, or_parts, cond-false}
use Rattle.away.specs.Board.{quoted, without}

ltb_suc : (m n : ℕ) → ltb (suc m) (suc n) ≡ ltb m n
ltb_suc m n =
    elim (cases_lt m n) [
      | inl h ↦ lt-ltb (suc m) (suc n) (omega arith) ∙ sym (lt-ltb m n h)
      | inr h ↦ le-ltb (suc m) (suc n) (omega arith) ∙ sym (le-ltb m n h)
    ]

tests_some : (t : Bool) (n : ℕ) → is_some (cond t (Some n) None) ≡ t
tests_some true n = refl
tests_some false n = refl

some_of : (t : Bool) (n at : ℕ) → Some at ≡ cond t (Some n) None → (t ≡ true) × (at ≡ n)
some_of true n at e = (refl, cc)
some_of false n at e = absurd cc

module _ {X : Type 0} (exchange : X → ℕ) (e : ℕ) where
  abbrev place : List X → ℕ
  place xs = prefix_len (λ x. not (exchange x == e)) xs

  removed_is : (xs : List X) → remove xs (place xs) ≡ without exchange e xs
  removed_is [] = refl
  removed_is (x ∷ xs) = by (eqb (exchange x) e) (removed_is xs)
    where
      by : (t : Bool) → remove xs (place xs) ≡ without exchange e xs → remove (x ∷ xs) (cond (not t) (1 + place xs) 0) ≡ cond t xs (x ∷ without exchange e xs)
      by true h = refl
      by false h = ap (remove (x ∷ xs)) (one-add (place xs)) ∙ ap (λ ys. x ∷ ys) h

  place_within : (xs : List X) → ltb (place xs) (length xs) ≡ quoted exchange e xs
  place_within [] = refl
  place_within (x ∷ xs) = by (eqb (exchange x) e) (place_within xs)
    where
      by : (t : Bool) → ltb (place xs) (length xs) ≡ quoted exchange e xs → ltb (cond (not t) (1 + place xs) 0) (length (x ∷ xs)) ≡ (t || quoted exchange e xs)
      by true h = lt-ltb 0 (suc (length xs)) (omega arith)
      by false h = ap (λ n. ltb n (suc (length xs))) (one-add (place xs)) ∙ ltb_suc (place xs) (length xs) ∙ h

  -- an exchange is found where it has a price
  found : (xs : List X) → is_some (position (λ x. exchange x == e) xs) ≡ quoted exchange e xs
  found xs = tests_some (ltb (place xs) (length xs)) (place xs) ∙ place_within xs

  pub found_by : (o : Option ℕ) (xs : List X) → o ≡ position (λ x. exchange x == e) xs → quoted exchange e xs ≡ is_some o
  found_by o xs h = sym (found xs) ∙ sym (ap is_some h)

  -- its price is taken out at that place
  pub found_at : (xs : List X) (at : ℕ) → Some at ≡ position (λ x. exchange x == e) xs → (at < length xs) × (quoted exchange e xs ≡ true) × (remove xs at ≡ without exchange e xs)
  found_at xs at h =
      let s = some_of (ltb (place xs) (length xs)) (place xs) at h in
      (omega (arith, ltb-true (place xs) (length xs) s.0, s.1), found_by (Some at) xs h, ap (remove xs) s.1 ∙ removed_is xs)

  -- so that what is left there is the list without it
  pub taken_out_at : (xs new : List X) (at : ℕ) → new ≡ remove xs at → Some at ≡ position (λ x. exchange x == e) xs → new ≡ without exchange e xs
  taken_out_at xs new at n h = n ∙ (found_at xs at h).2

  unquoted_without : (xs : List X) → quoted exchange e xs ≡ false → without exchange e xs ≡ xs
  unquoted_without [] h = refl
  unquoted_without (x ∷ xs) h =
      let a = or_parts (eqb (exchange x) e) (quoted exchange e xs) h in
      cond-false (eqb (exchange x) e) xs (x ∷ without exchange e xs) a.0 ∙ ap (λ ys. x ∷ ys) (unquoted_without xs a.1)

  -- where it has none, there is nothing to take out
  pub found_none : (xs : List X) → None ≡ position (λ x. exchange x == e) xs → (quoted exchange e xs ≡ false) × (without exchange e xs ≡ xs)
  found_none xs h = let q = found_by None xs h in (q, unquoted_without xs q)

-- a list that lost an entry has a free place
pub place_after : (at n room m : ℕ) → at < n → n ≤ room → m ≡ cond (ltb at n) (n - 1) n → ltb m room ≡ true
place_after at n room m lt le e = lt-ltb m room (omega (arith, e ∙ ap (λ t. cond t (n - 1) n) (lt-ltb at n lt)))
