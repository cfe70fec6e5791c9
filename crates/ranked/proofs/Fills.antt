-- Fills from a place on, share by share, and that they keep the order of rank.
use Rattle.std.proofs.Common.{◌≡◌, ℕ, zero, suc, ◌-◌, ◌<◌, ◌≤◌, Bool, not, ◌&&◌, List, [], ◌∷◌, ◌++◌, length, get_or, take, drop, set, None, ⊎_elim, sym, refl, ap, ◌∙◌, arith}
use borrow.Rule.Slice.PartMut.{put_mid}
use Rattle.std.specs.List.{list_all, between, slice_get}
use Rattle.std.proofs.lemmas.Option.{slice_get_cases}
use Rattle.std.proofs.lemmas.List.{take-append-drop, take_at}
use Rattle.std.proofs.lemmas.List.Edits.{length-between}
use Rattle.ranked.specs.Level.{level_at, fills, filled_from, filled_level}
use Rattle.ranked.specs.Order.{in_rank}
use Rattle.ranked.proofs.Levels.{level_none}

pub fills_none : {X : Type 0} (f : X → ℕ → X) (xs : List X) → fills f xs [] ≡ xs
fills_none f [] = refl
fills_none f (x ∷ xs) = refl

-- one share more
pub fills_more :
    {X : Type 0} (f : X → ℕ → X) (xs : List X) (ns : List ℕ) (j : ℕ) (x : X) → j < length ns → j < length xs → x ≡ get_or (fills f xs (take j ns)) j x →
    set (fills f xs (take j ns)) j (f x (get_or ns j 0)) ≡ fills f xs (take (suc j) ns)
fills_more f [] ns j x lt lx e = absurd (omega arith)
fills_more f (y ∷ xs) [] j x lt lx e = absurd (omega arith)
fills_more f (y ∷ xs) (n ∷ ns) zero x lt lx e = let z = fills_none f xs in cc
fills_more f (y ∷ xs) (n ∷ ns) (suc j) x lt lx e = ap (λ l. f y n ∷ l) (fills_more f xs ns j x (omega arith) (omega arith) e)

-- shares past the end fill nothing
pub fills_all : {X : Type 0} (f : X → ℕ → X) (xs : List X) (k : ℕ) (ns : List ℕ) → length xs ≤ k → fills f xs (take k ns) ≡ fills f xs ns
fills_all f [] k ns le = refl
fills_all f (x ∷ xs) zero ns le = absurd (omega arith)
fills_all f (x ∷ xs) (suc k) [] le = refl
fills_all f (x ∷ xs) (suc k) (n ∷ ns) le = ap (λ ys. f x n ∷ ys) (fills_all f xs k ns (omega arith))

-- what is filled at the front of a list, and what stands behind it
pub fills_front : {X : Type 0} (f : X → ℕ → X) (xs : List X) (k : ℕ) (ns : List ℕ) → fills f xs (take k ns) ≡ fills f (take k xs) ns ++ drop k xs
fills_front f xs zero ns = fills_none f xs
fills_front f [] (suc k) ns = refl
fills_front f (x ∷ xs) (suc k) [] = ap (λ ys. x ∷ ys) (sym (take-append-drop k xs))
fills_front f (x ∷ xs) (suc k) (n ∷ ns) = ap (λ ys. f x n ∷ ys) (fills_front f xs k ns)

-- a part from a place on, filled
pub filled_part : {X : Type 0} (f : X → ℕ → X) (at size : ℕ) (xs : List X) (ns : List ℕ) (p : List X) → p ≡ fills f (take size (drop at xs)) ns → put_mid at size xs p ≡ filled_from f at (take size ns) xs
filled_part f at size xs ns p e = ap (λ ys. take at xs ++ (ys ++ drop size (drop at xs))) e ∙ ap (λ ys. take at xs ++ ys) (sym (fills_front f (drop at xs) size ns))

-- where nothing stands at the place nothing is filled
pub filled_past : {X : Type 0} (b : X → X → Bool) (f : X → ℕ → X) (at : ℕ) (xs : List X) (ns : List ℕ) → None ≡ slice_get xs at → xs ≡ filled_level b f at ns xs
filled_past b f at xs ns none =
    let le : length xs ≤ at = ⊎_elim (λ p. absurd (let q = none ∙ p.2 in cc)) (λ p. p.0) (slice_get_cases xs at).1 in
    sym (ap (λ l. filled_from f at (take (length l) ns) xs) (sym (level_none b xs at le)) ∙ ap (λ ys. take at xs ++ ys) (fills_none f (drop at xs)) ∙ take-append-drop at xs)

length-fills : {X : Type 0} (f : X → ℕ → X) (xs : List X) (ns : List ℕ) → length (fills f xs ns) ≡ length xs
length-fills f [] ns = refl
length-fills f (x ∷ xs) [] = refl
length-fills f (x ∷ xs) (n ∷ ns) = ap suc (length-fills f xs ns)

length-filled : {X : Type 0} (f : X → ℕ → X) (at : ℕ) (ns : List ℕ) (xs : List X) → length (filled_from f at ns xs) ≡ length xs
length-filled f zero ns xs = length-fills f xs ns
length-filled f (suc at) ns [] = length-fills f [] ns
length-filled f (suc at) ns (x ∷ xs) = ap suc (length-filled f at ns xs)

-- entries of which the part that is a place's level was filled are the list whose level is filled
pub filled_front :
    {X : Type 0} (b : X → X → Bool) (f : X → ℕ → X) (at from end n : ℕ) (xs rest new : List X) (ns : List ℕ) → length xs ≡ n → new ≡ filled_from f from (take (end - from) ns) xs →
    between from end xs ≡ level_at b from xs → end ≤ n → from ≡ at → take n (new ++ rest) ≡ filled_level b f at ns xs
filled_front b f at from end n xs rest new ns l e part le here =
    let size : end - from ≡ length (level_at b from xs) = omega (arith, ap length part, length-between xs from end (omega arith)) in
    let q : new ≡ filled_level b f from ns xs = e ∙ ap (λ k. filled_from f from (take k ns) xs) size in
    take_at new rest n (ap length q ∙ length-filled f from (take (length (level_at b from xs)) ns) xs ∙ l) ∙ q ∙ ap (λ i. filled_level b f i ns xs) here

module _ {X : Type 0} (b : X → X → Bool) (f : X → ℕ → X) (keeps : (x y : X) (n : ℕ) → (b (f x n) y ≡ b x y) × (b y (f x n) ≡ b y x)) where
  pass_fills : (z : X) (xs : List X) (ns : List ℕ) → list_all (λ y. not (b y z)) (fills f xs ns) ≡ list_all (λ y. not (b y z)) xs
  pass_fills z [] ns = refl
  pass_fills z (x ∷ xs) [] = refl
  pass_fills z (x ∷ xs) (n ∷ ns) = λ i. not ((keeps x z n).0 i) && pass_fills z xs ns i

  pass_filler : (x : X) (n : ℕ) (xs : List X) → list_all (λ y. not (b y (f x n))) xs ≡ list_all (λ y. not (b y x)) xs
  pass_filler x n [] = refl
  pass_filler x n (y ∷ ys) = λ i. not ((keeps x y n).1 i) && pass_filler x n ys i

  fills_in_rank : (xs : List X) (ns : List ℕ) → in_rank b (fills f xs ns) ≡ in_rank b xs
  fills_in_rank [] ns = refl
  fills_in_rank (x ∷ xs) [] = refl
  fills_in_rank (x ∷ xs) (n ∷ ns) = λ i. (pass_filler x n (fills f xs ns) ∙ pass_fills x xs ns) i && fills_in_rank xs ns i

  pass_filled : (z : X) (at : ℕ) (ns : List ℕ) (xs : List X) → list_all (λ y. not (b y z)) (filled_from f at ns xs) ≡ list_all (λ y. not (b y z)) xs
  pass_filled z zero ns xs = pass_fills z xs ns
  pass_filled z (suc at) ns [] = refl
  pass_filled z (suc at) ns (x ∷ xs) = ap (λ t. not (b x z) && t) (pass_filled z at ns xs)

  pub filled_in_rank : (at : ℕ) (ns : List ℕ) (xs : List X) → in_rank b (filled_from f at ns xs) ≡ in_rank b xs
  filled_in_rank zero ns xs = fills_in_rank xs ns
  filled_in_rank (suc at) ns [] = refl
  filled_in_rank (suc at) ns (x ∷ xs) = λ i. pass_filled x at ns xs i && filled_in_rank at ns xs i
