-- What the pieces of a format write.
use Rattle.std.proofs.Common.{◌≡◌, ℕ, ◌+◌, ◌-◌, ◌/◌, ◌%◌, ◌^◌, ◌<◌, ◌≤◌, Bool, true, false, ltb, List, [], ◌∷◌, ◌++◌, length, get_or, take, drop, Some, decimal, refl, ap, ◌∙◌, append_assoc, arith}
use Rattle.std.proofs.lemmas.Fmt.{decimal_digit, decimal_step, hex_byte}
use Rattle.std.proofs.lemmas.Bool.{eq-eqb, ne_eqb, ltb-true, ltb-false}
use Rattle.std.proofs.lemmas.List.{take_all, take_more, take_rest}
use Rattle.std.specs.Fmt.{format_spec, padded_integral, shown_prefix, radix_prefix, char_count, styled_decimal, digit_glyph, digits, digits_output, styled_digits_output}
use Rattle.std.specs.Option.{option_map}
use Rattle.text.specs.Hex.{hex_pair, blank_pairs, hex_text}
use Rattle.text.specs.Price.{two_digits, price_text}

-- two digits of a number
two : (d : ℕ) → d < 100 → styled_decimal (format_spec 32 0 4 2 (2 ^ 64 - 1)) d ≡ two_digits d
unfolding padded_integral char_count
two d h = go (ltb d 10) refl
  where
    go : (t : Bool) → ltb d 10 ≡ t → styled_decimal (format_spec 32 0 4 2 (2 ^ 64 - 1)) d ≡ two_digits d
    go true e =
        let small : d < 10 = omega (arith, ltb-true d 10 e) in
        let high : d / 10 ≡ 0 = omega arith in
        let low : d % 10 ≡ d = omega arith in
        let p = decimal_digit d small in
        rw (p, high, low)
    go false e =
        let p = decimal_step d (ltb-false d 10 e) (omega arith) in
        let q = decimal_digit (d / 10) (omega arith) in
        rw (p, q)

pub with_cents : (n : ℕ) → n % 100 ≡ 0 → decimal (n / 10000) ++ (46 ∷ styled_decimal (format_spec 32 0 4 2 (2 ^ 64 - 1)) (n / 100 % 100)) ≡ price_text n
unfolding price_text
with_cents n e =
    let t = eq-eqb (n % 100) 0 e in
    let d = two (n / 100 % 100) (omega arith) in
    rw (t, d)

pub with_rest : (n : ℕ) → (n % 100 ≡ 0 → ⊥) → decimal (n / 10000) ++ (46 ∷ (styled_decimal (format_spec 32 0 4 2 (2 ^ 64 - 1)) (n / 100 % 100) ++ styled_decimal (format_spec 32 0 4 2 (2 ^ 64 - 1)) (n % 100))) ≡ price_text n
unfolding price_text
with_rest n e =
    let t = ne_eqb (n % 100) 0 e in
    let c = two (n / 100 % 100) (omega arith) in
    let r = two (n % 100) (omega arith) in
    rw (t, c, r)

-- a byte in hex, as a hole with options writes it
pub pair : (upper : Bool) (b : ℕ) (digits_of_b : _) (options : _) → b < 256 → digits_output digits_of_b ≡ Some (digits 16 upper b) → options ≡ format_spec 32 0 4 2 (2 ^ 64 - 1)
    → styled_digits_output digits_of_b options ≡ Some (digit_glyph upper (b / 16) ∷ (digit_glyph upper (b % 16) ∷ []))
pair upper b d s small e f =
    (λ i. option_map (padded_integral (f i) false (shown_prefix (f i) (radix_prefix d.base))) (e i))
    ∙ ap (λ (l : List ℕ). Some l) (hex_byte upper b small)

pub none_shown : (bs : List ℕ) → length bs < 1 → [] ≡ hex_text bs
unfolding hex_text
none_shown [] h = refl
none_shown (b ∷ bs) h = absurd (omega arith)

-- the first byte and the others, as the code parts them
pub all_shown : (bs : List ℕ) (i : ℕ) → 1 ≤ length bs → length (take (length bs - 1) (drop 1 bs)) ≤ i → hex_pair (get_or bs 0 0) ++ blank_pairs (take i (take (length bs - 1) (drop 1 bs))) ≡ hex_text bs
unfolding hex_text
all_shown [] i h k = absurd (omega arith)
all_shown (b ∷ bs) i h k = ap (λ (l : List ℕ). hex_pair b ++ blank_pairs l) (take_all i (take (length (b ∷ bs) - 1) (drop 1 (b ∷ bs))) k ∙ take_rest (b ∷ bs) 1)

blank_pairs-push : (xs : List ℕ) (b : ℕ) → blank_pairs (xs ++ (b ∷ [])) ≡ blank_pairs xs ++ (32 ∷ hex_pair b)
blank_pairs-push [] b = refl
blank_pairs-push (x ∷ xs) b = ap (λ (l : List ℕ). 32 ∷ (hex_pair x ++ l)) (blank_pairs-push xs b)

-- one more byte is written
pub more_shown : (first bs : List ℕ) (i : ℕ) → i < length bs → (first ++ blank_pairs (take i bs)) ++ (32 ∷ hex_pair (get_or bs i 0)) ≡ first ++ blank_pairs (take (i + 1) bs)
more_shown first bs i h =
    let more : blank_pairs (take (i + 1) bs) ≡ blank_pairs (take i bs) ++ (32 ∷ hex_pair (get_or bs i 0)) = ap blank_pairs (take_more bs i 0 h) ∙ blank_pairs-push (take i bs) (get_or bs i 0) in
    rw more (append_assoc first (blank_pairs (take i bs)) (32 ∷ hex_pair (get_or bs i 0)))
