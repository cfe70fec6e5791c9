-- The order of rank is kept by an entry and by a removal.
use Rattle.std.proofs.Common.{◌≡◌, ℕ, zero, suc, Bool, true, false, cond, not, List, [], ◌∷◌, set, is_some, Some, None, Option, sym, refl, ap, ◌∙◌, ⊎_elim}
use Rattle.std.specs.List.{list_all, remove, slice_get}
use Rattle.std.proofs.lemmas.Bool.{cond-true, cond-false, cases_Bool, and_parts, and_from, not-true, not_from_false, both_ways}
use Rattle.ranked.specs.Order.{level, if_level, entered, in_rank, replaced}

pub pass_weaker :
    {X : Type 0} (p q : X → Bool) → ((z : X) → p z ≡ true → q z ≡ true) → (xs : List X) → list_all p xs ≡ true → list_all q xs ≡ true
pass_weaker p q w [] h = refl
pass_weaker p q w (x ∷ xs) h =
    let a = and_parts (p x) (list_all p xs) h in
    and_from (q x) (list_all q xs) (w x a.0) (pass_weaker p q w xs a.1)

pub pass_entered :
    {X : Type 0} (b : X → X → Bool) (p : X → Bool) (x : X) (xs : List X) → p x ≡ true → list_all p xs ≡ true → list_all p (entered b x xs) ≡ true
pass_entered b p x [] hx h = and_from (p x) true hx refl
pass_entered b p x (y ∷ ys) hx h =
    let a = and_parts (p y) (list_all p ys) h in
    ⊎_elim
    (λ t. ap (list_all p) (cond-true (b x y) (x ∷ y ∷ ys) (y ∷ entered b x ys) t) ∙ and_from (p x) (list_all p (y ∷ ys)) hx h)
    (λ f. ap (list_all p) (cond-false (b x y) (x ∷ y ∷ ys) (y ∷ entered b x ys) f) ∙ and_from (p y) (list_all p (entered b x ys)) a.0 (pass_entered b p x ys hx a.1))
    (cases_Bool (b x y))

pub entered_in_rank :
    {X : Type 0} (b : X → X → Bool) → ((x y : X) → b x y ≡ true → b y x ≡ false) → ((x y z : X) → b x y ≡ true → b y z ≡ true → b x z ≡ true) →
    (x : X) (xs : List X) → in_rank b xs ≡ true → in_rank b (entered b x xs) ≡ true
entered_in_rank b apart carries x [] h = refl
entered_in_rank b apart carries x (y ∷ ys) h =
    let a = and_parts (list_all (λ z. not (b z y)) ys) (in_rank b ys) h in
    ⊎_elim
    (λ t. ap (in_rank b) (cond-true (b x y) (x ∷ y ∷ ys) (y ∷ entered b x ys) t)
    ∙ and_from (list_all (λ z. not (b z x)) (y ∷ ys)) (in_rank b (y ∷ ys))
    (and_from (not (b y x)) (list_all (λ z. not (b z x)) ys) (not_from_false (b y x) (apart x y t))
    (pass_weaker (λ z. not (b z y)) (λ z. not (b z x))
    (λ z n. not_from_false (b z x) (⊎_elim (λ u. absurd (both_ways (b z y) (not-true (b z y) n) (carries z x y u t))) (λ e. e) (cases_Bool (b z x))))
    ys a.0))
    h)
    (λ f. ap (in_rank b) (cond-false (b x y) (x ∷ y ∷ ys) (y ∷ entered b x ys) f)
    ∙ and_from (list_all (λ z. not (b z y)) (entered b x ys)) (in_rank b (entered b x ys))
    (pass_entered b (λ z. not (b z y)) x ys (not_from_false (b x y) f) a.0)
    (entered_in_rank b apart carries x ys a.1))
    (cases_Bool (b x y))

pub pass_removed :
    {X : Type 0} (p : X → Bool) (xs : List X) (i : ℕ) → list_all p xs ≡ true → list_all p (remove xs i) ≡ true
pass_removed p [] zero h = refl
pass_removed p [] (suc i) h = refl
pass_removed p (x ∷ xs) zero h = (and_parts (p x) (list_all p xs) h).1
pass_removed p (x ∷ xs) (suc i) h =
    let a = and_parts (p x) (list_all p xs) h in
    and_from (p x) (list_all p (remove xs i)) a.0 (pass_removed p xs i a.1)

pub removed_in_rank :
    {X : Type 0} (b : X → X → Bool) (xs : List X) (i : ℕ) → in_rank b xs ≡ true → in_rank b (remove xs i) ≡ true
removed_in_rank b [] zero h = refl
removed_in_rank b [] (suc i) h = refl
removed_in_rank b (x ∷ xs) zero h = (and_parts (list_all (λ z. not (b z x)) xs) (in_rank b xs) h).1
removed_in_rank b (x ∷ xs) (suc i) h =
    let a = and_parts (list_all (λ z. not (b z x)) xs) (in_rank b xs) h in
    and_from (list_all (λ z. not (b z x)) (remove xs i)) (in_rank b (remove xs i)) (pass_removed (λ z. not (b z x)) xs i a.0) (removed_in_rank b xs i a.1)

pub pass_set :
    {X : Type 0} (p : X → Bool) (x y : X) → p y ≡ p x → (xs : List X) (i : ℕ) → slice_get xs i ≡ Some x → list_all p xs ≡ true → list_all p (set xs i y) ≡ true
pass_set p x y e [] i s h = refl
pass_set p x y e (z ∷ xs) zero s h =
    let a = and_parts (p z) (list_all p xs) h in
    let q : z ≡ x = cc in
    and_from (p y) (list_all p xs) (e ∙ (ap p (sym q) ∙ a.0)) a.1
pass_set p x y e (z ∷ xs) (suc i) s h =
    let a = and_parts (p z) (list_all p xs) h in
    and_from (p z) (list_all p (set xs i y)) a.0 (pass_set p x y e xs i s a.1)

-- an entry that another of its rank takes the place of
pub set_in_rank :
    {X : Type 0} (b : X → X → Bool) (x y : X) → ((z : X) → b y z ≡ b x z) → ((z : X) → b z y ≡ b z x) →
    (xs : List X) (i : ℕ) → slice_get xs i ≡ Some x → in_rank b xs ≡ true → in_rank b (set xs i y) ≡ true
set_in_rank b x y l r [] i s h = refl
set_in_rank b x y l r (z ∷ xs) zero s h =
    let a = and_parts (list_all (λ w. not (b w z)) xs) (in_rank b xs) h in
    let q : z ≡ x = cc in
    and_from (list_all (λ w. not (b w y)) xs) (in_rank b xs)
    (pass_weaker (λ w. not (b w z)) (λ w. not (b w y)) (λ w n. ap not (r w ∙ ap (b w) (sym q)) ∙ n) xs a.0) a.1
set_in_rank b x y l r (z ∷ xs) (suc i) s h =
    let a = and_parts (list_all (λ w. not (b w z)) xs) (in_rank b xs) h in
    and_from (list_all (λ w. not (b w z)) (set xs i y)) (in_rank b (set xs i y))
    (pass_set (λ w. not (b w z)) x y (ap not (l z)) xs i s a.0) (set_in_rank b x y l r xs i s a.1)

-- level both ways, and back
pub level_from : {X : Type 0} (b : X → X → Bool) (x y : X) → b x y ≡ false → b y x ≡ false → level b x y ≡ true
level_from b x y p q = and_from (not (b x y)) (not (b y x)) (not_from_false (b x y) p) (not_from_false (b y x) q)

pub level_parts : {X : Type 0} (b : X → X → Bool) (x y : X) → level b x y ≡ true → (b x y ≡ false) × (b y x ≡ false)
level_parts b x y h = let a = and_parts (not (b x y)) (not (b y x)) h in (not-true (b x y) a.0, not-true (b y x) a.1)

-- The facts of a rank.
module _ {X : Type 0} (b : X → X → Bool) (apart : (x y : X) → b x y ≡ true → b y x ≡ false) (carries : (x y z : X) → b x y ≡ true → b y z ≡ true → b x z ≡ true)
    (levels : (x y z : X) → level b x y ≡ true → level b y z ≡ true → level b x z ≡ true) where
  -- what is better than one of two that are level is better than the other
  pub better_through : (x y z : X) → level b x y ≡ true → b z x ≡ true → b z y ≡ true
  better_through x y z l t =
      ⊎_elim (λ e. e)
      (λ f. absurd (⊎_elim
      (λ u. both_ways (b y x) (level_parts b x y l).1 (carries y z x u t))
      (λ u. both_ways (b z x) (level_parts b z x (levels z y x (level_from b z y f u) (level_from b y x (level_parts b x y l).1 (level_parts b x y l).0))).0 t)
      (cases_Bool (b y z))))
      (cases_Bool (b z y))

  pub worse_through : (x y z : X) → level b x y ≡ true → b x z ≡ true → b y z ≡ true
  worse_through x y z l t =
      ⊎_elim (λ e. e)
      (λ f. absurd (⊎_elim
      (λ u. both_ways (b x y) (level_parts b x y l).0 (carries x z y t u))
      (λ u. both_ways (b x z) (level_parts b x z (levels x y z l (level_from b y z f u))).0 t)
      (cases_Bool (b z y))))
      (cases_Bool (b y z))

  level_back : (x y : X) → level b x y ≡ true → level b y x ≡ true
  level_back x y l = let p = level_parts b x y l in level_from b y x p.1 p.0

  same_test : (s t : Bool) → (s ≡ true → t ≡ true) → (t ≡ true → s ≡ true) → t ≡ s
  same_test true t p q = p refl
  same_test false true p q = sym (q refl)
  same_test false false p q = refl

  -- an entry that one level with it takes the place of
  pub replaced_in_rank : (xs : List X) (at : ℕ) (y : X) → in_rank b xs ≡ true → in_rank b (replaced b xs at y) ≡ true
  replaced_in_rank xs at y h = go (slice_get xs at) refl
    where
      put : (x : X) (t : Bool) → slice_get xs at ≡ Some x → level b x y ≡ t → in_rank b (cond (is_some (cond t (Some x) None)) (set xs at y) xs) ≡ true
      put x true e l =
          set_in_rank b x y
          (λ z. same_test (b x z) (b y z) (worse_through x y z l) (worse_through y x z (level_back x y l)))
          (λ z. same_test (b z x) (b z y) (better_through x y z l) (better_through y x z (level_back x y l))) xs at e h
      put x false e l = h

      go : (o : Option X) → slice_get xs at ≡ o → in_rank b (cond (is_some (if_level b y o)) (set xs at y) xs) ≡ true
      go None e = h
      go (Some x) e = put x (level b x y) e refl
