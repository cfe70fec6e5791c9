-- A buffer with one message more.
use Rattle.std.proofs.Common.{◌≡◌, ℕ, ◌+◌, ◌<◌, ◌≤◌, true, ltb, leb, List, [], ◌∷◌, ◌++◌, length, Some, None, sym, ap, ◌∙◌, arith}
use Rattle.std.proofs.lemmas.Bool.{cond-true, leb-true, ltb-true, le-leb, and_parts}
use Rattle.feed.specs.Bytes.{bytes}
use Rattle.feed.specs.Sending.{Sent, encoded, size_of, fit, laid}
use Rattle.feed.proofs.Lays.{encoded_size}
use Rattle.writer.specs.Writing.{length_in, count_in, has_room, refusal, extended, written}

pub record Room (b : List ℕ) (n : ℕ) : Type 0 where
  pub head : 8 ≤ length_in b
  pub count : count_in b < 255
  pub most : length_in b + n ≤ 1500
  pub within : length_in b + n ≤ length b

pub room : (b : List ℕ) (n : ℕ) → has_room b n ≡ true → Room b n
room b n e =
    let a = and_parts (leb 8 (length_in b)) _ e in
    let c = and_parts (ltb (count_in b) 255) _ a.1 in
    let d = and_parts (leb (length_in b + n) 1500) (leb (length_in b + n) (length b)) c.1 in
    record { head = leb-true 8 (length_in b) a.0; count = ltb-true (count_in b) 255 c.0; most = leb-true (length_in b + n) 1500 d.0; within = leb-true (length_in b + n) (length b) d.1 }

pub taken : (b : List ℕ) (m : Sent) → has_room b (size_of m) ≡ true → fit m ≡ true → None ≡ refusal b m
taken b m roomy fits = sym (cond-true _ _ _ roomy ∙ cond-true _ _ _ fits)

-- there is room for a message of the size that it says
pub room_for : (b : List ℕ) (size : ℕ) (m : Sent) → size ≡ size_of m → true ≡ has_room b size → has_room b (size_of m) ≡ true
room_for b size m same roomy = ap (has_room b) (sym same) ∙ sym roomy

-- where there is room, the message fits the buffer
pub fits_within : (b : List ℕ) (m : Sent) (at : ℕ) → at ≡ length_in b → has_room b (size_of m) ≡ true → leb (at + length (encoded m)) (length b) ≡ true
fits_within b m at begins roomy =
    let same = encoded_size m in
    let within = (room b (size_of m) roomy).within in
    le-leb (at + length (encoded m)) (length b) (omega arith)

-- the message behind the frame, and then the header
pub extends : (b w b' : List ℕ) (m : Sent) (size at count : ℕ) → size ≡ length (encoded m) → at ≡ length_in b → count ≡ count_in b → has_room b (size_of m) ≡ true → fit m ≡ true → w ≡ laid b at (encoded m) → b' ≡ laid w 0 (bytes 2 (at + size) ++ ((count + 1) ∷ [])) → b' ≡ written b m
unfolding extended
extends b w b' m size at count long begins number roomy fits laid_on headed =
    let body : w ≡ laid b (length_in b) (encoded m) = laid_on ∙ ap (λ k. laid b k (encoded m)) begins in
    headed
    ∙ (λ i. laid (body i) 0 (bytes 2 (begins i + long i) ++ ((number i + 1) ∷ [])))
    ∙ ap (λ o. elim o [ None ↦ extended b (encoded m) | Some why ↦ b ]) (taken b m roomy fits)
