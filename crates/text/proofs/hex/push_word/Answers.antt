use Rattle.std.proofs.Common.{◌≡◌, ◌/◌, ◌++◌, true, get_or, length, map, [], refl, ap, ◌∙◌, arith, rules}
use Rattle.std.proofs.lemmas.List.{take_all}
use Rattle.text.specs.Hex.{is_hex_digit, is_hex_pairs, hex_bytes}
use Rattle.text.proofs.Pairing.{byte_of, chunk_digits, chunk_bytes}
use Rattle.text.proofs.hex.push_word.Goals as goal

pub unwrap-requires : goal.unwrap-requires
unwrap-requires c =
    let is : is_hex_pairs c.args.word.now ≡ true = search rules in
    let low = chunk_digits (length c.args.word.now / 2) c.args.word.now c.loop-high.high-index is refl (omega (arith, c.loop-high-test.true, c.as_chunks.ensures.front_len)) in
    let digit : is_hex_digit (get_or (get_or c.as_chunks.result.0.now c.loop-high.high-index []) 0 0) ≡ true = ap (λ l. is_hex_digit (get_or (get_or l c.loop-high.high-index []) 0 0)) c.as_chunks.ensures.front ∙ low.0 in
    search rules

pub unwrap-requires-in-loop-high : goal.unwrap-requires-in-loop-high
unwrap-requires-in-loop-high c =
    let is : is_hex_pairs c.args.word.now ≡ true = search rules in
    let low = chunk_digits (length c.args.word.now / 2) c.args.word.now c.loop-high.high-index is refl (omega (arith, c.loop-high-test.true, c.as_chunks.ensures.front_len)) in
    let digit : is_hex_digit (get_or (get_or c.as_chunks.result.0.now c.loop-high.high-index []) 1 0) ≡ true = ap (λ l. is_hex_digit (get_or (get_or l c.loop-high.high-index []) 1 0)) c.as_chunks.ensures.front ∙ low.1 in
    search rules

pub returns-clause-items : goal.returns-clause-items
returns-clause-items c =
    let is : is_hex_pairs c.args.word.now ≡ true = search rules in
    let bytes : map byte_of c.as_chunks.result.0.now ≡ hex_bytes c.args.word.now = ap (λ l. map byte_of l) c.as_chunks.ensures.front ∙ chunk_bytes (length c.args.word.now / 2) c.args.word.now is refl in
    let all = take_all c.loop-high.high-index c.as_chunks.result.0.now (omega (arith, c.loop-high-test.false)) in
    c.loop-high.invariant.0 ∙ ap (λ l. c.reserve.new.self.items ++ l) (ap (λ l. map byte_of l) all ∙ bytes) ∙ ap (λ l. l ++ hex_bytes c.args.word.now) (search rules)
