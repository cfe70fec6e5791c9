use Rattle.std.proofs.Common.{◌≡◌, ◌++◌, vec_items}
use Rattle.text.specs.Word.{word_list}
use Rattle.display.specs.Hexes.{words_in, bad_word, bytes_in}
use Rattle.display.proofs.read_hex.Given as goal

-- the words so far were hex, and their bytes are put behind
abbrev pub invariant-loop-word : goal.invariant-loop-word
invariant-loop-word l = record {
  bad : bad_word (word_list l.word-iterator.0.now) ≡ bad_word (words_in l.line);
  bytes : vec_items l.frame ++ bytes_in (word_list l.word-iterator.0.now) ≡ vec_items l.initial.frame ++ bytes_in (words_in l.line);
}
