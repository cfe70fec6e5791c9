-- The levels of a list, entry by entry, and that in the order of rank a level is all that is level.
use Rattle.std.proofs.Common.{◌≡◌, ℕ, zero, suc, ◌+◌, ◌-◌, ◌<◌, ◌≤◌, Bool, true, false, cond, not, List, [], ◌∷◌, ◌++◌, length, get_or, take, drop, filter, Some, sym, refl, ap, ◌∙◌, ⊎_elim, one-add, arith}
use Rattle.std.specs.List.{list_all, prefix_len, slice_get, sum_by, between}
use Rattle.std.specs.List.Sorted.{IsPartitionedBy, IsPartitionPoint}
use Rattle.std.proofs.lemmas.List.{at_drop_all}
use Rattle.std.proofs.lemmas.List.Recursion.{is_sum_by}
use Rattle.std.proofs.lemmas.List.Sums.{prefix_len_is, prefix_len_passes, prefix_len_stops, AllPass-from_list_all}
use Rattle.std.proofs.lemmas.List.Edits.{get_or-between, length-between}
use Rattle.std.proofs.Math.Nat.{lt_of_not-le}
use Rattle.std.proofs.lemmas.Bool.{cond-true, cond-false, cond_both, cases_Bool, and_parts, and_left, not-true, not_from_true, not_from_false, both_ways}
use Rattle.ranked.specs.Level.{not_worse, first_level, level_at, level_with}
use Rattle.ranked.specs.Order.{level, entered, in_its_place, in_rank}
use Rattle.ranked.specs.Totals.{total}
use Rattle.ranked.proofs.Kept.{level_from, level_parts}

-- what x does not beat at the front of a list
front_not_worse : {X : Type 0} (b : X → X → Bool) (x : X) (xs : List X) → take (prefix_len (λ y. not (b x y)) xs) xs ≡ not_worse b x xs
front_not_worse b x [] = refl
front_not_worse b x (y ∷ ys) = by (b x y) (front_not_worse b x ys)
  where
    by :
        (t : Bool) → take (prefix_len (λ z. not (b x z)) ys) ys ≡ not_worse b x ys →
        take (cond (not t) (1 + prefix_len (λ z. not (b x z)) ys) 0) (y ∷ ys) ≡ cond t [] (y ∷ not_worse b x ys)
    by true h = refl
    by false h = ap (λ i. take i (y ∷ ys)) (one-add (prefix_len (λ z. not (b x z)) ys)) ∙ ap (λ zs. y ∷ zs) h

pub level_none : {X : Type 0} (b : X → X → Bool) (xs : List X) (at : ℕ) → length xs ≤ at → [] ≡ level_at b at xs
level_none b xs at le = sym (at_drop_all (first_level b) xs at le)

length_not_worse : {X : Type 0} (b : X → X → Bool) (x : X) (xs : List X) → length (not_worse b x xs) ≤ length xs
length_not_worse b x [] = omega arith
length_not_worse b x (y ∷ ys) =
    cond_both (b x y) [] (y ∷ not_worse b x ys) (λ zs. length zs ≤ length (y ∷ ys)) (λ t. omega arith) (λ f. omega (arith, length_not_worse b x ys))

length-first : {X : Type 0} (b : X → X → Bool) (xs : List X) → length (first_level b xs) ≤ length xs
length-first b [] = omega arith
length-first b (x ∷ xs) = omega (arith, length_not_worse b x xs)

pub length-level : {X : Type 0} (b : X → X → Bool) (at : ℕ) (xs : List X) → length (level_at b at xs) ≤ length (drop at xs)
length-level b at xs = length-first b (drop at xs)

pub prefix_from_point :
    {X : Type 0} (p : X → Bool) (xs : List X) (n : ℕ) (d : X) → n ≤ length xs → IsPartitionPoint (λ y. p y ≡ true) (λ y. p y ≡ false) xs n → n ≡ prefix_len p xs
prefix_from_point p xs n d le point = sym (prefix_len_is p xs n d le (λ k l. point.0 k d (omega arith) l) (λ l. point.1 n d (omega arith) l))

-- In the order of rank, what is not worse at the front is all that is level.
module _ {X : Type 0} (b : X → X → Bool) (apart : (x y : X) → b x y ≡ true → b y x ≡ false) (carries : (x y z : X) → b x y ≡ true → b y z ≡ true → b x z ≡ true)
    (levels : (x y z : X) → level b x y ≡ true → level b y z ≡ true → level b x z ≡ true) where
  -- what is not better than one that is worse than x is worse than x
  worse : (x y z : X) → b x y ≡ true → b z y ≡ false → b z x ≡ false → b x z ≡ true
  worse x y z t zy zx =
      ⊎_elim (λ e. e)
      (λ xz. absurd (⊎_elim
      (λ yz. both_ways (b x z) xz (carries x y z t yz))
      (λ yz. both_ways (b x y) (level_parts b x y (levels x z y (level_from b x z xz zx) (level_from b z y zy yz))).0 t)
      (cases_Bool (b y z))))
      (cases_Bool (b x z))

  -- behind one that is worse than x all are worse
  worse_behind : (x y z : X) → b x y ≡ true → b z y ≡ false → b x z ≡ true
  worse_behind x y z t zy = worse x y z t zy (⊎_elim (λ u. absurd (both_ways (b z y) zy (carries z x y u t))) (λ f. f) (cases_Bool (b z x)))

  all_worse : (x y : X) (zs : List X) → b x y ≡ true → list_all (λ z. not (b z y)) zs ≡ true → (filter (λ z. not (b x z)) zs ≡ []) × (filter (b x) zs ≡ zs)
  all_worse x y [] t h = (refl, refl)
  all_worse x y (z ∷ zs) t h =
      let p = and_parts (not (b z y)) (list_all (λ w. not (b w y)) zs) h in
      let w = worse_behind x y z t (not-true (b z y) p.0) in
      let r = all_worse x y zs t p.1 in (
        cond-false (not (b x z)) (z ∷ filter (λ v. not (b x v)) zs) (filter (λ v. not (b x v)) zs) (not_from_true (b x z) w) ∙ r.0,
        cond-true (b x z) (z ∷ filter (b x) zs) (filter (b x) zs) w ∙ ap (λ l. z ∷ l) r.1,
      )

  -- in the order of rank, what x does not beat comes before all that it beats
  pub parted : (x : X) (xs : List X) → in_rank b xs ≡ true → IsPartitionedBy (λ y. not (b x y)) xs
  parted x [] h i j d le lt p = absurd (omega arith)
  parted x (y ∷ ys) h zero zero d le lt p = p
  parted x (y ∷ ys) h zero (suc j) d le lt p =
      let a = and_parts (list_all (λ z. not (b z y)) ys) (in_rank b ys) h in
      let zy = not-true (b (get_or ys j d) y) (AllPass-from_list_all (λ z. not (b z y)) ys a.0 j d (omega arith)) in
      ⊎_elim (λ t. absurd (both_ways (b x (get_or ys j d)) (not-true (b x (get_or ys j d)) p) (worse_behind x y (get_or ys j d) t zy))) (λ f. not_from_false (b x y) f) (cases_Bool (b x y))
  parted x (y ∷ ys) h (suc i) zero d le lt p = absurd (omega arith)
  parted x (y ∷ ys) h (suc i) (suc j) d le lt p = parted x ys (and_parts (list_all (λ z. not (b z y)) ys) (in_rank b ys) h).1 i j d (omega arith) (omega arith) p

  -- a new entry goes behind all that are better or level, and before all that are worse
  pub entered_splits : (x : X) (xs : List X) → in_rank b xs ≡ true → entered b x xs ≡ in_its_place b x xs
  entered_splits x [] h = refl
  entered_splits x (y ∷ ys) h =
      let p = and_parts (list_all (λ z. not (b z y)) ys) (in_rank b ys) h in
      ⊎_elim
      (λ t. let r = all_worse x y ys t p.0 in
      cond-true (b x y) (x ∷ y ∷ ys) (y ∷ entered b x ys) t
      ∙ sym (λ i. (cond-false (not (b x y)) (y ∷ filter (λ z. not (b x z)) ys) (filter (λ z. not (b x z)) ys) (not_from_true (b x y) t) ∙ r.0) i
      ++ x ∷ (cond-true (b x y) (y ∷ filter (b x) ys) (filter (b x) ys) t ∙ ap (λ l. y ∷ l) r.1) i))
      (λ f. cond-false (b x y) (x ∷ y ∷ ys) (y ∷ entered b x ys) f
      ∙ ap (λ l. y ∷ l) (entered_splits x ys p.1)
      ∙ sym (λ i. cond-true (not (b x y)) (y ∷ filter (λ z. not (b x z)) ys) (filter (λ z. not (b x z)) ys) (not_from_false (b x y) f) i
      ++ x ∷ cond-false (b x y) (y ∷ filter (b x) ys) (filter (b x) ys) f i))
      (cases_Bool (b x y))

  -- behind one that is worse than x nothing is level with x
  none_level : (x y : X) (zs : List X) → b x y ≡ true → list_all (λ z. not (b z y)) zs ≡ true → list_all (λ z. not (b z x)) zs ≡ true → filter (level b x) zs ≡ []
  none_level x y [] t h k = refl
  none_level x y (z ∷ zs) t h k =
      let p = and_parts (not (b z y)) (list_all (λ w. not (b w y)) zs) h in
      let q = and_parts (not (b z x)) (list_all (λ w. not (b w x)) zs) k in
      let w = worse x y z t (not-true (b z y) p.0) (not-true (b z x) q.0) in
      cond-false (level b x z) (z ∷ filter (level b x) zs) (filter (level b x) zs) (and_left (not (b x z)) (not (b z x)) (not_from_true (b x z) w))
      ∙ none_level x y zs t p.1 q.1

  all_level : (x : X) (xs : List X) → list_all (λ z. not (b z x)) xs ≡ true → in_rank b xs ≡ true → not_worse b x xs ≡ filter (level b x) xs
  all_level x [] h r = refl
  all_level x (y ∷ ys) h r =
      let p = and_parts (not (b y x)) (list_all (λ z. not (b z x)) ys) h in
      let q = and_parts (list_all (λ z. not (b z y)) ys) (in_rank b ys) r in
      let yx = not-true (b y x) p.0 in
      ⊎_elim
      (λ t. cond-true (b x y) [] (y ∷ not_worse b x ys) t
      ∙ sym (cond-false (level b x y) (y ∷ filter (level b x) ys) (filter (level b x) ys) (and_left (not (b x y)) (not (b y x)) (not_from_true (b x y) t))
      ∙ none_level x y ys t q.0 p.1))
      (λ f. cond-false (b x y) [] (y ∷ not_worse b x ys) f
      ∙ ap (λ l. y ∷ l) (all_level x ys p.1 q.1)
      ∙ sym (cond-true (level b x y) (y ∷ filter (level b x) ys) (filter (level b x) ys) (level_from b x y f yx)))
      (cases_Bool (b x y))

  alone : (x : X) → b x x ≡ false
  alone x = ⊎_elim (λ t. apart x x t) (λ f. f) (cases_Bool (b x x))

  -- what stands before a place is not worse than what stands there
  not_beaten : (x y : X) (ys : List X) (at : ℕ) → list_all (λ z. not (b z y)) ys ≡ true → Some x ≡ slice_get ys at → not (b x y) ≡ true
  not_beaten x y [] at h e = absurd cc
  not_beaten x y (z ∷ zs) zero h e = let q : z ≡ x = cc in ap (λ v. not (b v y)) (sym q) ∙ (and_parts (not (b z y)) (list_all (λ w. not (b w y)) zs) h).0
  not_beaten x y (z ∷ zs) (suc at) h e = not_beaten x y zs at (and_parts (not (b z y)) (list_all (λ w. not (b w y)) zs) h).1 e

  -- the level of what stands at a place ends where another such entry would go
  level_is :
      (at : ℕ) (x : X) (xs : List X) → in_rank b xs ≡ true → Some x ≡ slice_get xs at →
      (at < prefix_len (λ y. not (b x y)) xs) × (between at (prefix_len (λ y. not (b x y)) xs) xs ≡ level_at b at xs)
  level_is zero x [] h e = absurd cc
  level_is zero x (y ∷ ys) h e =
      let k = prefix_len (λ z. not (b x z)) ys in
      let q : x ≡ y = cc in
      let n : prefix_len (λ z. not (b x z)) (y ∷ ys) ≡ 1 + k = cond-true (not (b x y)) (1 + k) 0 (not_from_false (b x y) (ap (b x) (sym q) ∙ alone x)) in
      let m : prefix_len (λ z. not (b x z)) (y ∷ ys) - 0 ≡ suc k = omega (arith, n) in
      (omega (arith, n), ap (λ j. take j (y ∷ ys)) m ∙ ap (λ l. y ∷ l) (front_not_worse b x ys) ∙ ap (λ v. y ∷ not_worse b v ys) q)
  level_is (suc at) x [] h e = absurd cc
  level_is (suc at) x (y ∷ ys) h e =
      let k = prefix_len (λ z. not (b x z)) ys in
      let p = and_parts (list_all (λ z. not (b z y)) ys) (in_rank b ys) h in
      let n : prefix_len (λ z. not (b x z)) (y ∷ ys) ≡ 1 + k = cond-true (not (b x y)) (1 + k) 0 (not_beaten x y ys at p.0 e) in
      let r = level_is at x ys p.1 e in
      let m : prefix_len (λ z. not (b x z)) (y ∷ ys) - suc at ≡ k - at = omega (arith, n) in
      (omega (arith, n, r.0), ap (λ j. take j (drop at ys)) m ∙ r.1)

  -- the same where the end is so known
  pub level_there :
      (at end : ℕ) (x : X) (xs : List X) → in_rank b xs ≡ true → Some x ≡ slice_get xs at → end ≡ prefix_len (λ y. not (b x y)) xs →
      (at < end) × (between at end xs ≡ level_at b at xs)
  level_there at end x xs h e p =
      let r = level_is at x xs h e in
      (omega (arith, p, r.0), (λ i. between at (p i) xs) ∙ r.1)

  -- what stands at a place and is not beaten comes before the end of all that is not
  pub before_end : (x : X) (xs : List X) (i : ℕ) (y : X) → in_rank b xs ≡ true → i < length xs → y ≡ get_or xs i y → false ≡ b x y → i < prefix_len (λ z. not (b x z)) xs
  before_end x xs i y h lt is f = lt_of_not-le
      (λ le. both_ways (not (b x (get_or xs (prefix_len (λ z. not (b x z)) xs) y))) (prefix_len_stops (λ z. not (b x z)) xs y (omega (arith, le)))
      (parted x xs h (prefix_len (λ z. not (b x z)) xs) i y le lt (not_from_false (b x (get_or xs i y)) (sym (f ∙ ap (b x) is)))))

  -- and what is beaten does not
  pub end_before : (x : X) (xs : List X) (i : ℕ) (y : X) → y ≡ get_or xs i y → true ≡ b x y → prefix_len (λ z. not (b x z)) xs ≤ i
  end_before x xs i y is t =
      let l : prefix_len (λ z. not (b x z)) xs < suc i = lt_of_not-le
      (λ lt. both_ways (not (b x (get_or xs i y))) (not_from_true (b x (get_or xs i y)) (sym (t ∙ ap (b x) is))) (prefix_len_passes (λ z. not (b x z)) xs i y (omega (arith, lt)))) in
      omega (arith, l)

  -- the end of what is not beaten, looked for in a part that it lies in
  pub end_in_part :
      (x : X) (xs : List X) (i j k : ℕ) → in_rank b xs ≡ true → i ≤ prefix_len (λ y. not (b x y)) xs → prefix_len (λ y. not (b x y)) xs ≤ j → j ≤ length xs →
      k ≤ length (between i j xs) →
      (IsPartitionedBy (λ y. not (b x y)) (between i j xs) → IsPartitionPoint (λ y. not (b x y) ≡ true) (λ y. not (b x y) ≡ false) (between i j xs) k) →
      i + k ≡ prefix_len (λ y. not (b x y)) xs
  end_in_part x xs i j k h low high le short found =
      let n = prefix_len (λ y. not (b x y)) xs in
      let l : length (between i j xs) ≡ j - i = length-between xs i j le in
      let here : (m : ℕ) (d : X) → i + m < j → not (b x (get_or (between i j xs) m d)) ≡ not (b x (get_or xs (i + m) d)) = λ m d lt. ap (λ y. not (b x y)) (get_or-between xs i j m d lt) in
      let point = found (λ m o d lm lo t. here m d (omega (arith, lm, lo, l)) ∙ parted x xs h (i + m) (i + o) d (omega (arith, lm)) (omega (arith, lo, l)) (sym (here o d (omega (arith, lo, l))) ∙ t)) in
      let not_past : i + k < suc n = lt_of_not-le
      (λ lt. let m : i + (n - i) ≡ n = omega (arith, low) in
      both_ways (not (b x (get_or xs n x))) (prefix_len_stops (λ y. not (b x y)) xs x (omega (arith, lt, short, l)))
      (ap (λ o. not (b x (get_or xs o x))) (sym m) ∙ sym (here (n - i) x (omega (arith, lt, short, l))) ∙ point.0 (n - i) x (omega arith) (omega (arith, lt)))) in
      let not_before : n < suc (i + k) = lt_of_not-le
      (λ lt. both_ways (not (b x (get_or xs (i + k) x))) (sym (here k x (omega (arith, lt, high))) ∙ point.1 k x (omega arith) (omega (arith, lt, high, l)))
      (prefix_len_passes (λ y. not (b x y)) xs (i + k) x (omega (arith, lt)))) in
      omega (arith, not_past, not_before)

  pub level_whole : (at : ℕ) (xs : List X) → in_rank b xs ≡ true → level_at b at xs ≡ level_with b at xs
  level_whole zero [] h = refl
  level_whole zero (x ∷ xs) h =
      let p = and_parts (list_all (λ z. not (b z x)) xs) (in_rank b xs) h in
      ap (λ l. x ∷ l) (all_level x xs p.0 p.1)
      ∙ sym (cond-true (level b x x) (x ∷ filter (level b x) xs) (filter (level b x) xs) (level_from b x x (alone x) (alone x)))
  level_whole (suc at) [] h = refl
  level_whole (suc at) (x ∷ xs) h = level_whole at xs (and_parts (list_all (λ z. not (b z x)) xs) (in_rank b xs) h).1

pub total_is : {X : Type 0} (f : X → ℕ) (xs : List X) → total f xs ≡ sum_by f xs
total_is f xs = is_sum_by (total f) f refl (λ _ _. refl) xs
