-- Digits behind a point, and the price that a word writes.
use Rattle.std.proofs.Common.{◌≡◌, ℕ, ◌+◌, ◌-◌, ◌*◌, ◌^◌, ◌<◌, ◌≤◌, Bool, true, false, cond, ltb, List, [], length, Some, None, Option, sym, refl, ap, ◌∙◌, mul-le-mul, arith, rules}
use Rattle.std.proofs.lemmas.List.{drop_all}
use Rattle.std.proofs.lemmas.Str.Parse.{IsNumeralModel, numerals_by_fold, digits_value_short}
use Rattle.std.proofs.lemmas.Bool.{and_parts, and_from, and_right, lt-ltb, ltb-true, le-ltb, cond-true, cond-false}
use Rattle.std.proofs.lemmas.Bool.Decides.{nat_tests}
use Rattle.std.specs.Option.{SomeIff}
use Rattle.std.specs.Str.{all_ascii_digits}
use Rattle.text.specs.Number.{fitting, number_after, number_of, is_numeral, whole_of}
use Rattle.text.specs.Price.{before_point, has_point, after_point, is_decimals, ten_thousandths, decimals_of, is_dollars, price_of, dollars_of}

pub own : IsNumeralModel (λ ds. all_ascii_digits ds ≡ true) number_of
own = numerals_by_fold _ (search rules) number_after (search rules)

-- four digits write less than ten thousand
four : (ds : List ℕ) → is_numeral ds ≡ true → length ds ≤ 4 → number_of ds < 10000
four ds p h = digits_value_short own ds 4 (and_parts (ltb 0 (length ds)) (all_ascii_digits ds) p).1 h

-- where the number is read, it is that of a numeral
pub numeral_from : (ds : List ℕ) (n : ℕ) → Some n ≡ whole_of ds → (is_numeral ds ≡ true) × (n ≡ number_of ds) × (n < 2 ^ 64)
unfolding whole_of
numeral_from ds n e = go (is_numeral ds) (ltb (number_of ds) (2 ^ 64)) refl refl e
  where
    go : (s t : Bool) → is_numeral ds ≡ s → ltb (number_of ds) (2 ^ 64) ≡ t → Some n ≡ cond s (cond t (Some (number_of ds)) None) None → (is_numeral ds ≡ true) × (n ≡ number_of ds) × (n < 2 ^ 64)
    go true true p q f = let g : n ≡ number_of ds = cc in (p, g, omega (arith, ltb-true (number_of ds) (2 ^ 64) q))
    go true false p q f = absurd cc
    go false t p q f = absurd cc

-- where it is not, there is no numeral, or its number is too large
pub numeral_not : (ds : List ℕ) → None ≡ whole_of ds → is_numeral ds ≡ true → 2 ^ 64 ≤ number_of ds
unfolding whole_of
numeral_not ds e p = go (ltb (number_of ds) (2 ^ 64)) refl (e ∙ cond-true (is_numeral ds) (fitting (number_of ds)) None p)
  where
    go : (t : Bool) → ltb (number_of ds) (2 ^ 64) ≡ t → None ≡ cond t (Some (number_of ds)) None → 2 ^ 64 ≤ number_of ds
    go true q f = absurd cc
    go false q f = grind (arith, nat_tests)

pub decimals_none : (ds : List ℕ) → length ds ≤ 4 → None ≡ whole_of ds → None ≡ decimals_of ds
decimals_none ds h e = go (is_numeral ds) refl
  where
    go : (s : Bool) → is_numeral ds ≡ s → None ≡ decimals_of ds
    go true p = absurd (omega (arith, numeral_not ds e p, four ds p h))
    go false p = rw p

-- what the last of k digits behind the point counts
abbrev pub Unit_of : ℕ → ℕ → Type 0
Unit_of k unit = (k ≤ 4) × (unit ≤ 1000) × (unit ≡ 10 ^ (4 - k))

pub decimals_some : (ds : List ℕ) (n unit : ℕ) (r : Option ℕ) → Unit_of (length ds) unit → Some n ≡ whole_of ds → SomeIff r (n * unit < 2 ^ 64) (n * unit) → r ≡ decimals_of ds
decimals_some ds n unit r u e k =
    let p = numeral_from ds n e in
    let l = lt-ltb (length ds) 5 (omega arith) in
    let d : decimals_of ds ≡ Some (ten_thousandths ds) = cond-true (is_decimals ds) (Some (ten_thousandths ds)) None (and_from (is_numeral ds) (ltb (length ds) 5) p.0 l) in
    let t : n * unit ≡ ten_thousandths ds = cc (p.1, u.2) in
    let f : n * unit < 2 ^ 64 = omega (arith, mul-le-mul {n₁ = n} {m₁ = unit} {n₂ = 9999} {m₂ = 1000} (omega (arith, four ds p.0 u.0, p.1)) u.1) in
    go r k f ∙ ap (λ (x : ℕ). Some x) t ∙ sym d
  where
    go : (o : Option ℕ) → SomeIff o (n * unit < 2 ^ 64) (n * unit) → n * unit < 2 ^ 64 → o ≡ Some (n * unit)
    go None x f = absurd (x f)
    go (Some y) x f = ap (λ (z : ℕ). Some z) x.1

too_large : (word : List ℕ) → 2 ^ 64 ≤ price_of word → None ≡ dollars_of word
unfolding dollars_of
too_large word h = go (is_dollars word)
  where
    e : fitting (price_of word) ≡ None
    e = let l = le-ltb (price_of word) (2 ^ 64) h in rw l

    go : (s : Bool) → None ≡ cond s (fitting (price_of word)) None
    go true = sym e
    go false = refl

-- the digits before the point are none, or too large
pub dollars_no_whole : (word : List ℕ) → None ≡ whole_of (before_point word) → None ≡ dollars_of word
unfolding dollars_of
dollars_no_whole word e = go (is_numeral (before_point word)) refl
  where
    go : (s : Bool) → is_numeral (before_point word) ≡ s → None ≡ dollars_of word
    go true p = too_large word (omega (arith, numeral_not (before_point word) e p))
    go false p = rw p

pub dollars_large : (word : List ℕ) (n : ℕ) → Some n ≡ whole_of (before_point word) → (n * 10000 < 2 ^ 64 → ⊥) → None ≡ dollars_of word
dollars_large word n e h = let p = numeral_from (before_point word) n e in too_large word (omega (arith, p.1, h))

-- what is written is a price, and it fits
pub is_price_lem : (word : List ℕ) (n : ℕ) → is_dollars word ≡ true → n ≡ price_of word → n < 2 ^ 64 → Some n ≡ dollars_of word
unfolding dollars_of
is_price_lem word n p e h = let l = lt-ltb (price_of word) (2 ^ 64) (omega (arith, e)) in rw (p, l) (ap (λ (x : ℕ). Some x) e)

-- no point follows
dollars_plain : (word : List ℕ) (n : ℕ) → Some n ≡ whole_of (before_point word) → length word ≤ length (before_point word) → n * 10000 < 2 ^ 64 → Some (n * 10000) ≡ dollars_of word
dollars_plain word n e h small =
    let p = numeral_from (before_point word) n e in
    let point : has_point word ≡ false = le-ltb (length (before_point word)) (length word) h in
    let after : after_point word ≡ [] = drop_all (length (before_point word) + 1) word (omega arith) in
    let rest : ten_thousandths (after_point word) ≡ 0 = ap ten_thousandths after in
    let is : is_dollars word ≡ true = rw (p.0, point) in
    is_price_lem word (n * 10000) is (omega (arith, p.1, rest)) small

pub dollars_only : (word : List ℕ) (n : ℕ) (r : Option ℕ) → Some n ≡ whole_of (before_point word) → length word ≤ length (before_point word) → SomeIff r (n * 10000 < 2 ^ 64) (n * 10000) → r ≡ dollars_of word
dollars_only word n None e h k = dollars_large word n e k
dollars_only word n (Some y) e h k = ap (λ (x : ℕ). Some x) k.1 ∙ dollars_plain word n e h k.0

-- no decimals follow the point
pub dollars_no_decimals : (word : List ℕ) → length (before_point word) < length word → None ≡ decimals_of (after_point word) → None ≡ dollars_of word
unfolding dollars_of
dollars_no_decimals word h e = go (is_decimals (after_point word)) refl
  where
    point : has_point word ≡ true
    point = lt-ltb (length (before_point word)) (length word) h

    go : (s : Bool) → is_decimals (after_point word) ≡ s → None ≡ dollars_of word
    go true p = absurd (let f = cond-true (is_decimals (after_point word)) (Some (ten_thousandths (after_point word))) None p in cc)
    go false p = let f : is_dollars word ≡ false = rw (point, p) (and_right (is_numeral (before_point word)) false refl) in rw f

-- decimals follow the point
pub dollars_full : (word : List ℕ) (n d : ℕ) (r : Option ℕ) → Some n ≡ whole_of (before_point word) → length (before_point word) < length word → Some d ≡ decimals_of (after_point word) → SomeIff r (n * 10000 + d < 2 ^ 64) (n * 10000 + d) → r ≡ dollars_of word
dollars_full word n d r e h f k = go (is_decimals (after_point word)) refl
  where
    p : (is_numeral (before_point word) ≡ true) × (n ≡ number_of (before_point word)) × (n < 2 ^ 64)
    p = numeral_from (before_point word) n e

    point : has_point word ≡ true
    point = lt-ltb (length (before_point word)) (length word) h

    fits : is_dollars word ≡ true → n * 10000 + d ≡ price_of word → (o : Option ℕ) → SomeIff o (n * 10000 + d < 2 ^ 64) (n * 10000 + d) → o ≡ dollars_of word
    fits is same None x = too_large word (omega (arith, same, x))
    fits is same (Some y) x = ap (λ (z : ℕ). Some z) x.1 ∙ is_price_lem word (n * 10000 + d) is same x.0

    go : (s : Bool) → is_decimals (after_point word) ≡ s → r ≡ dollars_of word
    go true q =
        let g = cond-true (is_decimals (after_point word)) (Some (ten_thousandths (after_point word))) None q in
        let t : d ≡ ten_thousandths (after_point word) = cc in
        let is : is_dollars word ≡ true = rw (p.0, point, q) in
        fits is (omega (arith, p.1, t)) r k
    go false q = absurd (let g = cond-false (is_decimals (after_point word)) (Some (ten_thousandths (after_point word))) None q in cc)
