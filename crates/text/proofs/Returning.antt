-- A price's text, read back.
use Rattle.std.proofs.Common.{◌≡◌, ℕ, ◌+◌, ◌*◌, ◌/◌, ◌%◌, ◌^◌, ◌<◌, Bool, true, false, cond, eqb, ltb, List, [], ◌∷◌, ◌++◌, length, drop, Some, decimal, sym, refl, ap, ◌∙◌, arith, length-append}
use Rattle.std.proofs.lemmas.Fmt.{digits_decimal, digits_value-decimal, decimal_nonempty}
use Rattle.std.proofs.lemmas.List.{drop_at, drop-drop}
use Rattle.std.proofs.lemmas.Bool.{and_parts, and_from, lt-ltb}
use Rattle.std.proofs.lemmas.Bool.Decides.{nat_tests}
use Rattle.std.specs.Char.{is_ascii_digit}
use Rattle.std.specs.Str.{all_ascii_digits}
use Rattle.text.specs.Number.{number_of, is_numeral}
use Rattle.text.specs.Price.{before_point, has_point, after_point, is_decimals, ten_thousandths, is_dollars, price_of, dollars_of, two_digits, price_text, PriceReadsBack}
use Rattle.text.proofs.Pricing.{own, is_price_lem}

not_point : (c : ℕ) → is_ascii_digit c ≡ true → eqb c 46 ≡ false
not_point c h = grind (arith, nat_tests)

before_digits : (ds xs : List ℕ) → all_ascii_digits ds ≡ true → before_point (ds ++ (46 ∷ xs)) ≡ ds
before_digits [] xs h = refl
before_digits (c ∷ cs) xs h =
    let p = and_parts (is_ascii_digit c) (all_ascii_digits cs) h in
    let q = not_point c p.0 in
    rw q (ap (λ (l : List ℕ). c ∷ l) (before_digits cs xs p.1))

-- digits, a point and decimals
parted : (ds xs : List ℕ) (n : ℕ) → is_numeral ds ≡ true → is_decimals xs ≡ true → n ≡ number_of ds * 10000 + ten_thousandths xs → n < 2 ^ 64 → dollars_of (ds ++ (46 ∷ xs)) ≡ Some n
parted ds xs n p q e small =
    let b : before_point (ds ++ (46 ∷ xs)) ≡ ds = before_digits ds xs (and_parts (ltb 0 (length ds)) (all_ascii_digits ds) p).1 in
    let long : length (ds ++ (46 ∷ xs)) ≡ length ds + length (46 ∷ xs) = length-append ds (46 ∷ xs) in
    let short : length (before_point (ds ++ (46 ∷ xs))) ≡ length ds = ap length b in
    let a : after_point (ds ++ (46 ∷ xs)) ≡ xs =
    ap (λ (k : ℕ). drop (k + 1) (ds ++ (46 ∷ xs))) short ∙ sym (drop-drop 1 (length ds) (ds ++ (46 ∷ xs))) ∙ ap (λ (l : List ℕ). drop 1 l) (drop_at ds (46 ∷ xs) (length ds) refl) in
    let numeral : is_numeral (before_point (ds ++ (46 ∷ xs))) ≡ true = ap is_numeral b ∙ p in
    let decimals : is_decimals (after_point (ds ++ (46 ∷ xs))) ≡ true = ap is_decimals a ∙ q in
    let point : has_point (ds ++ (46 ∷ xs)) ≡ true = lt-ltb (length (before_point (ds ++ (46 ∷ xs)))) (length (ds ++ (46 ∷ xs))) (omega (arith, long, short)) in
    let is : is_dollars (ds ++ (46 ∷ xs)) ≡ true = rw (numeral, point, decimals) in
    let same : price_of (ds ++ (46 ∷ xs)) ≡ n = (λ i. number_of (b i) * 10000 + ten_thousandths (a i)) ∙ sym e in
    sym (is_price_lem (ds ++ (46 ∷ xs)) n is (sym same) small)

numeral_decimal : (n : ℕ) → n < 2 ^ 64 → is_numeral (decimal n) ≡ true
numeral_decimal n h = and_from (ltb 0 (length (decimal n))) (all_ascii_digits (decimal n)) (lt-ltb 0 (length (decimal n)) (decimal_nonempty n h)) (digits_decimal own n h)

digit : (d : ℕ) → d < 10 → is_ascii_digit (48 + d) ≡ true
digit d h = grind (arith, nat_tests)

cents : (c : ℕ) → c < 100 → (is_decimals (two_digits c) ≡ true) × (ten_thousandths (two_digits c) ≡ c * 100)
cents c h =
    let p = digit (c / 10) (omega arith) in
    let q = digit (c % 10) (omega arith) in
    (rw (p, q), omega arith)

all_four : (c r : ℕ) → c < 100 → r < 100 → (is_decimals (two_digits c ++ two_digits r) ≡ true) × (ten_thousandths (two_digits c ++ two_digits r) ≡ c * 100 + r)
all_four c r h k =
    let p = digit (c / 10) (omega arith) in
    let q = digit (c % 10) (omega arith) in
    let s = digit (r / 10) (omega arith) in
    let t = digit (r % 10) (omega arith) in
    (rw (p, q, s, t), omega arith)

pub price_back : PriceReadsBack
unfolding price_text
price_back n small = go (eqb (n % 100) 0) refl
  where
    whole : number_of (decimal (n / 10000)) ≡ n / 10000
    whole = digits_value-decimal own (n / 10000) (omega arith)

    numeral : is_numeral (decimal (n / 10000)) ≡ true
    numeral = numeral_decimal (n / 10000) (omega arith)

    go : (s : Bool) → eqb (n % 100) 0 ≡ s → dollars_of (decimal (n / 10000) ++ (46 ∷ (two_digits (n / 100 % 100) ++ cond s [] (two_digits (n % 100))))) ≡ Some n
    go true e =
        let zero : n % 100 ≡ 0 = grind (arith, nat_tests) in
        let d = cents (n / 100 % 100) (omega arith) in
        parted (decimal (n / 10000)) (two_digits (n / 100 % 100)) n numeral d.0 (omega (arith, whole, d.1, zero)) small
    go false e =
        let d = all_four (n / 100 % 100) (n % 100) (omega arith) (omega arith) in
        parted (decimal (n / 10000)) (two_digits (n / 100 % 100) ++ two_digits (n % 100)) n numeral d.0 (omega (arith, whole, d.1)) small
