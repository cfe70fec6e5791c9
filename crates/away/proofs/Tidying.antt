-- What an exchange's new price, and its absence, leave of a list of away prices.
use Rattle.std.proofs.Common.{◌≡◌, ℕ, Bool, true, false, cond, not, ◌&&◌, eqb, List, [], ◌∷◌, Some, None, Option, sym, refl, ap, ◌∙◌, subst, ⊎_elim}
use Rattle.std.specs.List.{list_all}
use Rattle.std.proofs.lemmas.Bool.{cases_Bool, cond-true, cond-false, and_parts, and_from, or_parts, or_from, eqb-true, eqb-false, ne_eqb, not-true, not_from_false}
use Rattle.ranked.specs.Order.{entered}
use Rattle.ranked.proofs.Kept.{pass_entered}
use Rattle.away.specs.Board.{is_exchange, quoted, without, posted, price_at, once, fit_quotes}
use Rattle.market.specs.Market.{is_price}
use Rattle.market.specs.Refusals.{unless}
use Rattle.market.specs.declared.refusal.Refusal.{Refusal}

module _ {X : Type 0} (exchange : X → ℕ) where
  -- what the list lacks, it lacks without another exchange too
  quoted_less : (e f : ℕ) (xs : List X) → quoted exchange f xs ≡ false → quoted exchange f (without exchange e xs) ≡ false
  quoted_less e f [] h = refl
  quoted_less e f (x ∷ xs) h =
      let a = or_parts (eqb (exchange x) f) (quoted exchange f xs) h in
      ⊎_elim
      (λ t. ap (quoted exchange f) (cond-true (eqb (exchange x) e) xs (x ∷ without exchange e xs) t) ∙ a.1)
      (λ n. ap (quoted exchange f) (cond-false (eqb (exchange x) e) xs (x ∷ without exchange e xs) n) ∙ or_from (eqb (exchange x) f) (quoted exchange f (without exchange e xs)) a.0 (quoted_less e f xs a.1))
      (cases_Bool (eqb (exchange x) e))

  pub taken_out : (e : ℕ) (xs : List X) → once exchange xs ≡ true → quoted exchange e (without exchange e xs) ≡ false
  taken_out e [] h = refl
  taken_out e (x ∷ xs) h =
      let a = and_parts (not (quoted exchange (exchange x) xs)) (once exchange xs) h in
      ⊎_elim
      (λ t. ap (quoted exchange e) (cond-true (eqb (exchange x) e) xs (x ∷ without exchange e xs) t) ∙ subst (λ k. quoted exchange k xs ≡ false) (eqb-true (exchange x) e t) (not-true (quoted exchange (exchange x) xs) a.0))
      (λ n. ap (quoted exchange e) (cond-false (eqb (exchange x) e) xs (x ∷ without exchange e xs) n) ∙ or_from (eqb (exchange x) e) (quoted exchange e (without exchange e xs)) n (taken_out e xs a.1))
      (cases_Bool (eqb (exchange x) e))

  pub once-without : (e : ℕ) (xs : List X) → once exchange xs ≡ true → once exchange (without exchange e xs) ≡ true
  once-without e [] h = refl
  once-without e (x ∷ xs) h =
      let a = and_parts (not (quoted exchange (exchange x) xs)) (once exchange xs) h in
      ⊎_elim
      (λ t. ap (once exchange) (cond-true (eqb (exchange x) e) xs (x ∷ without exchange e xs) t) ∙ a.1)
      (λ n. ap (once exchange) (cond-false (eqb (exchange x) e) xs (x ∷ without exchange e xs) n)
      ∙ and_from (not (quoted exchange (exchange x) (without exchange e xs))) (once exchange (without exchange e xs))
      (not_from_false (quoted exchange (exchange x) (without exchange e xs)) (quoted_less e (exchange x) xs (not-true (quoted exchange (exchange x) xs) a.0))) (once-without e xs a.1))
      (cases_Bool (eqb (exchange x) e))

  pass_without : (p : X → Bool) (e : ℕ) (xs : List X) → list_all p xs ≡ true → list_all p (without exchange e xs) ≡ true
  pass_without p e [] h = refl
  pass_without p e (x ∷ xs) h =
      let a = and_parts (p x) (list_all p xs) h in
      ⊎_elim
      (λ t. ap (list_all p) (cond-true (eqb (exchange x) e) xs (x ∷ without exchange e xs) t) ∙ a.1)
      (λ n. ap (list_all p) (cond-false (eqb (exchange x) e) xs (x ∷ without exchange e xs) n) ∙ and_from (p x) (list_all p (without exchange e xs)) a.0 (pass_without p e xs a.1))
      (cases_Bool (eqb (exchange x) e))

  -- an exchange that is neither the new one's nor in the list is not there afterwards
  quoted-entered : (b : X → X → Bool) (f : ℕ) (x : X) (xs : List X) → eqb (exchange x) f ≡ false → quoted exchange f xs ≡ false → quoted exchange f (entered b x xs) ≡ false
  quoted-entered b f x [] n h = or_from (eqb (exchange x) f) false n refl
  quoted-entered b f x (y ∷ ys) n h =
      let a = or_parts (eqb (exchange y) f) (quoted exchange f ys) h in
      ⊎_elim
      (λ t. ap (quoted exchange f) (cond-true (b x y) (x ∷ y ∷ ys) (y ∷ entered b x ys) t) ∙ or_from (eqb (exchange x) f) (quoted exchange f (y ∷ ys)) n h)
      (λ u. ap (quoted exchange f) (cond-false (b x y) (x ∷ y ∷ ys) (y ∷ entered b x ys) u) ∙ or_from (eqb (exchange y) f) (quoted exchange f (entered b x ys)) a.0 (quoted-entered b f x ys n a.1))
      (cases_Bool (b x y))

  flipped : (e f : ℕ) → eqb e f ≡ false → eqb f e ≡ false
  flipped e f n = ne_eqb f e (λ q. eqb-false e f n (sym q))

  once-entered : (b : X → X → Bool) (x : X) (xs : List X) → quoted exchange (exchange x) xs ≡ false → once exchange xs ≡ true → once exchange (entered b x xs) ≡ true
  once-entered b x [] n h = refl
  once-entered b x (y ∷ ys) n h =
      let a = and_parts (not (quoted exchange (exchange y) ys)) (once exchange ys) h in
      let m = or_parts (eqb (exchange y) (exchange x)) (quoted exchange (exchange x) ys) n in
      ⊎_elim
      (λ t. ap (once exchange) (cond-true (b x y) (x ∷ y ∷ ys) (y ∷ entered b x ys) t) ∙ and_from (not (quoted exchange (exchange x) (y ∷ ys))) (once exchange (y ∷ ys)) (not_from_false (quoted exchange (exchange x) (y ∷ ys)) n) h)
      (λ u. ap (once exchange) (cond-false (b x y) (x ∷ y ∷ ys) (y ∷ entered b x ys) u)
      ∙ and_from (not (quoted exchange (exchange y) (entered b x ys))) (once exchange (entered b x ys))
      (not_from_false (quoted exchange (exchange y) (entered b x ys)) (quoted-entered b (exchange y) x ys (flipped (exchange y) (exchange x) m.0) (not-true (quoted exchange (exchange y) ys) a.0)))
      (once-entered b x ys m.1 a.1))
      (cases_Bool (b x y))

-- The price of each exchange.
module _ {X : Type 0} (exchange price : X → ℕ) where
  unquoted : (f : ℕ) (xs : List X) → quoted exchange f xs ≡ false → price_at exchange price f xs ≡ None
  unquoted f [] h = refl
  unquoted f (x ∷ xs) h =
      let a = or_parts (eqb (exchange x) f) (quoted exchange f xs) h in
      cond-false (eqb (exchange x) f) (Some (price x)) (price_at exchange price f xs) a.0 ∙ unquoted f xs a.1

  price_without : (e f : ℕ) (xs : List X) → once exchange xs ≡ true → price_at exchange price f (without exchange e xs) ≡ cond (eqb e f) None (price_at exchange price f xs)
  price_without e f xs h = ⊎_elim here there (cases_Bool (eqb e f))
    where
      here : eqb e f ≡ true → price_at exchange price f (without exchange e xs) ≡ cond (eqb e f) None (price_at exchange price f xs)
      here t =
          unquoted f (without exchange e xs) (subst (λ k. quoted exchange k (without exchange e xs) ≡ false) (eqb-true e f t) (taken_out exchange e xs h))
          ∙ sym (cond-true (eqb e f) None (price_at exchange price f xs) t)

      others : eqb e f ≡ false → (ys : List X) → price_at exchange price f (without exchange e ys) ≡ price_at exchange price f ys
      others n [] = refl
      others n (y ∷ ys) =
          ⊎_elim
          (λ t. ap (price_at exchange price f) (cond-true (eqb (exchange y) e) ys (y ∷ without exchange e ys) t)
          ∙ sym (cond-false (eqb (exchange y) f) (Some (price y)) (price_at exchange price f ys) (ap (λ k. eqb k f) (eqb-true (exchange y) e t) ∙ n)))
          (λ u. ap (price_at exchange price f) (cond-false (eqb (exchange y) e) ys (y ∷ without exchange e ys) u) ∙ ap (cond (eqb (exchange y) f) (Some (price y))) (others n ys))
          (cases_Bool (eqb (exchange y) e))

      there : eqb e f ≡ false → price_at exchange price f (without exchange e xs) ≡ cond (eqb e f) None (price_at exchange price f xs)
      there n = others n xs ∙ sym (cond-false (eqb e f) None (price_at exchange price f xs) n)

  -- of two exchanges that differ, either may be asked for first
  swap : (s t : Bool) (p q r : Option ℕ) → (s ≡ true → t ≡ true → ⊥) → cond s p (cond t q r) ≡ cond t q (cond s p r)
  swap true true p q r n = absurd (n refl refl)
  swap true false p q r n = refl
  swap false true p q r n = refl
  swap false false p q r n = refl

  price_entered : (b : X → X → Bool) (f : ℕ) (x : X) (xs : List X) → quoted exchange (exchange x) xs ≡ false → price_at exchange price f (entered b x xs) ≡ cond (eqb (exchange x) f) (Some (price x)) (price_at exchange price f xs)
  price_entered b f x [] n = refl
  price_entered b f x (y ∷ ys) n =
      let m = or_parts (eqb (exchange y) (exchange x)) (quoted exchange (exchange x) ys) n in
      ⊎_elim
      (λ t. ap (price_at exchange price f) (cond-true (b x y) (x ∷ y ∷ ys) (y ∷ entered b x ys) t))
      (λ u. ap (price_at exchange price f) (cond-false (b x y) (x ∷ y ∷ ys) (y ∷ entered b x ys) u)
      ∙ ap (cond (eqb (exchange y) f) (Some (price y))) (price_entered b f x ys m.1)
      ∙ swap (eqb (exchange y) f) (eqb (exchange x) f) (Some (price y)) (Some (price x)) (price_at exchange price f ys)
      (λ s t. eqb-false (exchange y) (exchange x) m.0 (eqb-true (exchange y) f s ∙ sym (eqb-true (exchange x) f t))))
      (cases_Bool (b x y))

  twice : (t : Bool) (p q r : Option ℕ) → cond t p (cond t q r) ≡ cond t p r
  twice true p q r = refl
  twice false p q r = refl

  posted_price :
      (b : X → X → Bool) (e p f : ℕ) (x : X) (xs : List X) → exchange x ≡ e → price x ≡ p → once exchange xs ≡ true →
      price_at exchange price f (posted b exchange e x xs) ≡ cond (eqb e f) (Some p) (price_at exchange price f xs)
  posted_price b e p f x xs ex px o =
      price_entered b f x (without exchange e xs) (subst (λ k. quoted exchange k (without exchange e xs) ≡ false) (sym ex) (taken_out exchange e xs o))
      ∙ (λ i. cond (eqb (ex i) f) (Some (px i)) (price_without e f xs o i))
      ∙ twice (eqb e f) (Some p) None (price_at exchange price f xs)

pub fit_without : {X : Type 0} (exchange price : X → ℕ) (e : ℕ) (xs : List X) → fit_quotes exchange price xs ≡ true → fit_quotes exchange price (without exchange e xs) ≡ true
fit_without exchange price e xs f = pass_without exchange (λ y. is_exchange (exchange y) && is_price (price y)) e xs f

module _ {X : Type 0} (b : X → X → Bool) (exchange price : X → ℕ) where
  module _ (free : Bool) (e : ℕ) (x : X) (old between new : List X) (ex : exchange x ≡ e) (t : free ≡ true) (out : between ≡ without exchange e old) (into : new ≡ cond free (entered b x between) between) where
    -- a price enters where a place is free
    posted_in : new ≡ posted b exchange e x old
    posted_in = into ∙ cond-true free (entered b x between) between t ∙ ap (entered b x) out

    -- what is posted leaves each exchange once
    pub posted_once : once exchange old ≡ true → once exchange new ≡ true
    posted_once o =
        ap (once exchange) posted_in
        ∙ once-entered exchange b x (without exchange e old) (subst (λ k. quoted exchange k (without exchange e old) ≡ false) (sym ex) (taken_out exchange e old o)) (once-without exchange e old o)

    -- and all fit
    pub posted_fit : (is_exchange (exchange x) && is_price (price x)) ≡ true → fit_quotes exchange price old ≡ true → fit_quotes exchange price new ≡ true
    posted_fit fit f =
        ap (fit_quotes exchange price) posted_in
        ∙ pass_entered b (λ y. is_exchange (exchange y) && is_price (price y)) x (without exchange e old) fit (fit_without exchange price e old f)

  -- what is posted moves the price of its exchange alone
  pub posted_moves :
      (r : Option Refusal) (x : X) (old new : List X) → new ≡ unless r (posted b exchange (exchange x) x old) old → once exchange old ≡ true →
      (f : ℕ) → price_at exchange price f new ≡ unless r (cond (eqb (exchange x) f) (Some (price x)) (price_at exchange price f old)) (price_at exchange price f old)
  posted_moves None x old new q o f = ap (price_at exchange price f) q ∙ posted_price exchange price b (exchange x) (price x) f x old refl refl o
  posted_moves (Some why) x old new q o f = ap (price_at exchange price f) q

-- and so does what is cleared
pub cleared_moves :
    {X : Type 0} (exchange price : X → ℕ) (r : Option Refusal) (e : ℕ) (old new : List X) → new ≡ unless r (without exchange e old) old → once exchange old ≡ true →
    (f : ℕ) → price_at exchange price f new ≡ unless r (cond (eqb e f) None (price_at exchange price f old)) (price_at exchange price f old)
cleared_moves exchange price None e old new q o f = ap (price_at exchange price f) q ∙ price_without exchange price e f old o
cleared_moves exchange price (Some why) e old new q o f = ap (price_at exchange price f) q
