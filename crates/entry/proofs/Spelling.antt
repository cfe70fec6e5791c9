-- A word by its bytes.
use Rattle.std.proofs.Common.{◌≡◌, ℕ, ◌+◌, ◌<◌, ◌≤◌, List, [], ◌∷◌, length, get_or, drop, Some, codes, sym, ap, ◌∙◌, arith}
use Rattle.std.proofs.lemmas.List.{at_drop_more, drop_all}
use Rattle.entry.specs.Values.{Update, Summary, Send, verb_of}

-- the bytes from i on are those
Spelled : ℕ → List ℕ → List ℕ → Type 0
Spelled i word [] = Unit {0}
Spelled i word (c ∷ cs) = (get_or word i 0 ≡ c) × Spelled (i + 1) word cs

spelled : (word text : List ℕ) (i : ℕ) → length word ≡ i + length text → Spelled i word text → drop i word ≡ text
unfolding Spelled
spelled word [] i n h = drop_all i word (omega (arith, n))
spelled word (c ∷ cs) i n h = at_drop_more (λ l. l) word i 0 (omega (arith, n)) ∙ (λ j. h.0 j ∷ spelled word cs (i + 1) (omega (arith, n)) h.1 j)

pub is_send : (word : List ℕ) → 4 ≤ length word → length word < 5 → get_or word 0 0 ≡ 115 → get_or word 1 0 ≡ 101 → get_or word 2 0 ≡ 110 → get_or word 3 0 ≡ 100 → Some Send ≡ verb_of word
unfolding Spelled
is_send word low high a b c d = ap verb_of (sym (spelled word (codes "send") 0 (omega (arith, low, high)) (a, (b, (c, (d, tt))))))

pub is_update : (word : List ℕ) → 6 ≤ length word → length word < 7 → get_or word 0 0 ≡ 117 → get_or word 1 0 ≡ 112 → get_or word 2 0 ≡ 100 → get_or word 3 0 ≡ 97 → get_or word 4 0 ≡ 116 → get_or word 5 0 ≡ 101 → Some Update ≡ verb_of word
unfolding Spelled
is_update word low high a b c d e f = ap verb_of (sym (spelled word (codes "update") 0 (omega (arith, low, high)) (a, (b, (c, (d, (e, (f, tt))))))))

pub is_summary : (word : List ℕ) → 7 ≤ length word → length word < 8 → get_or word 0 0 ≡ 115 → get_or word 1 0 ≡ 117 → get_or word 2 0 ≡ 109 → get_or word 3 0 ≡ 109 → get_or word 4 0 ≡ 97 → get_or word 5 0 ≡ 114 → get_or word 6 0 ≡ 121 → Some Summary ≡ verb_of word
unfolding Spelled
is_summary word low high a b c d e f g = ap verb_of (sym (spelled word (codes "summary") 0 (omega (arith, low, high)) (a, (b, (c, (d, (e, (f, (g, tt)))))))))
