-- The parts of a word before and behind its point, as the code cuts them.
use Rattle.std.proofs.Common.{◌≡◌, ℕ, ◌+◌, ◌-◌, ◌<◌, List, length, take, drop, Some, ap, ◌∙◌, arith}
use Rattle.std.proofs.lemmas.List.{take_rest}
use Rattle.std.specs.List.{position}
use Rattle.text.specs.Price.{before_point, after_point}
use Rattle.text.specs.Word.{is_byte}
use Rattle.text.proofs.Wording as words

pub front_is : (word : List ℕ) (i : ℕ) → Some i ≡ position (is_byte 46) word → take i word ≡ before_point word
front_is word i e = words.front_is (is_byte 46) word i (words.at_some (is_byte 46) word i e).0

pub back_is : (word : List ℕ) (i : ℕ) → Some i ≡ position (is_byte 46) word → take (length word - (i + 1)) (drop (i + 1) word) ≡ after_point word
back_is word i e = take_rest word (i + 1) ∙ ap (λ (n : ℕ). drop (n + 1) word) (words.at_some (is_byte 46) word i e).0

pub point_below : (word : List ℕ) (i : ℕ) → Some i ≡ position (is_byte 46) word → length (before_point word) < length word
point_below word i e = let p = words.at_some (is_byte 46) word i e in omega (arith, p.0, p.1)
