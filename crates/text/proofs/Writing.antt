-- Hex digits pushed one by one.
use Rattle.std.proofs.Common.{◌≡◌, ℕ, ◌+◌, ◌/◌, ◌%◌, ◌<◌, cond, List, [], ◌∷◌, ◌++◌, length, get_or, take, is_ok, Ok, Err, Result, refl, ap, ◌∙◌, append_assoc, MatchResult}
use lib.Utf8.{encode}
use Rattle.std.proofs.lemmas.Slice.{pushed}
use Rattle.std.specs.Char.{digit_char}
use Rattle.text.specs.Hex.{hex_pair, blank_pairs, Keeps}
use Rattle.text.proofs.Keeping.{keeps_more}
use Rattle.text.proofs.Showing.{more_shown}

-- the first digit x was pushed, and the second, y, may have been
pub byte_pushed : {E : Type 0} (old bs cs : List ℕ) (x y b : ℕ) (q r : Result (Unit {0}) E) (u : Unit {0}) → q ≡ Ok u → x ≡ digit_char (b / 16) → y ≡ digit_char (b % 16) → encode x ≡ x ∷ [] → encode y ≡ y ∷ [] → bs ≡ cond (is_ok q) (old ++ encode x) old → cs ≡ cond (is_ok r) (bs ++ encode y) bs → MatchResult r (λ _. cs ≡ old ++ hex_pair b) (λ _. Keeps old cs)
byte_pushed old bs cs x y b q (Ok v) u ok dx dy ex ey p g =
    let first : bs ≡ old ++ (x ∷ []) = pushed (encode x) refl ok p ∙ ap (λ (l : List ℕ). old ++ l) ex in
    let second : cs ≡ old ++ (x ∷ (y ∷ [])) = g ∙ ap (λ (l : List ℕ). bs ++ l) ey ∙ ap (λ (l : List ℕ). l ++ (y ∷ [])) first ∙ append_assoc old (x ∷ []) (y ∷ []) in
    second ∙ cc (dx, dy)
byte_pushed old bs cs x y b q (Err e) u ok dx dy ex ey p g =
    let first : bs ≡ old ++ encode x = pushed (encode x) refl ok p in
    rw (g, first) (keeps_more old (encode x))

-- one more byte is put behind the first and those so far
pub more_behind : (start before mid after first bs : List ℕ) (i : ℕ) → i < length bs → before ≡ start ++ (first ++ blank_pairs (take i bs)) → mid ≡ before ++ (32 ∷ []) → after ≡ mid ++ hex_pair (get_or bs i 0) → after ≡ start ++ (first ++ blank_pairs (take (i + 1) bs))
more_behind start before mid after first bs i h p q r =
    let shown = first ++ blank_pairs (take i bs) in
    let pair = hex_pair (get_or bs i 0) in
    rw (r, q, p) (append_assoc (start ++ shown) (32 ∷ []) pair ∙ append_assoc start shown (32 ∷ pair) ∙ ap (λ (l : List ℕ). start ++ l) (more_shown first bs i h))
