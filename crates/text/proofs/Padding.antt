-- Words with blanks behind them.
use Rattle.std.proofs.Common.{◌≡◌, ℕ, zero, suc, ◌+◌, ◌-◌, ◌<◌, ◌≤◌, Bool, true, false, cond, ◌&&◌, eqb, ltb, List, [], ◌∷◌, ◌++◌, length, get_or, take, drop, replicate, Some, None, sym, refl, ap, ◌∙◌, arith}
use Rattle.std.proofs.lemmas.List.{take_all, take_more, drop-replicate}
use Rattle.std.proofs.lemmas.Bool.{and_parts, lt-ltb, ne_eqb}
use Rattle.std.proofs.lemmas.Bool.Decides.{nat_tests}
use Rattle.std.specs.Char.{is_ascii_graphic}
use Rattle.std.specs.List.{list_all}
use Rattle.text.specs.Symbol.{all_graphic, is_symbol, padded_of, before_rest, trimmed_of, SymbolReadsBack}

-- one to eight bytes, each of which is graphic
all_same : (word : List ℕ) → list_all is_ascii_graphic word ≡ all_graphic word
all_same [] = refl
all_same (c ∷ cs) = ap (λ (b : Bool). is_ascii_graphic c && b) (all_same cs)

pub symbol_all : (word : List ℕ) → 0 < length word → length word ≤ 8 → list_all is_ascii_graphic word ≡ is_symbol word
symbol_all word some few =
    let l = lt-ltb 0 (length word) some in
    let m = lt-ltb (length word) 9 (omega arith) in
    rw (l, m) (all_same word)

pub not_symbol : (word : List ℕ) → is_symbol word ≡ false → None ≡ padded_of word
unfolding padded_of
not_symbol word e = rw e

-- the word takes the place of as many blanks
pub padded_some : (word front : List ℕ) → is_symbol word ≡ true → front ≡ word → Some (front ++ drop (length word) (replicate 8 32)) ≡ padded_of word
unfolding padded_of
padded_some word front e f = rw (e, f) (ap (λ (blanks : List ℕ). Some (word ++ blanks)) (drop-replicate (length word) 8 32))

-- the last byte of a list
last_split : (xs : List ℕ) → 0 < length xs → xs ≡ take (length xs - 1) xs ++ (get_or xs (length xs - 1) 0 ∷ [])
last_split xs h =
    let n : length xs - 1 + 1 ≡ length xs = omega arith in
    sym (take_all (length xs) xs (omega arith)) ∙ ap (λ (k : ℕ). take k xs) (sym n) ∙ take_more xs (length xs - 1) 0 (omega arith)

trim_blank : (xs : List ℕ) → trimmed_of (xs ++ (32 ∷ [])) ≡ trimmed_of xs
trim_blank [] = refl
trim_blank (c ∷ cs) = ap (before_rest c) (trim_blank cs)

before-some : (x c : ℕ) (xs : List ℕ) → before_rest x (xs ++ (c ∷ [])) ≡ x ∷ (xs ++ (c ∷ []))
before-some x c [] = refl
before-some x c (y ∷ ys) = refl

trim_none : (xs : List ℕ) (c : ℕ) → (c ≡ 32 → ⊥) → trimmed_of (xs ++ (c ∷ [])) ≡ xs ++ (c ∷ [])
trim_none [] c h = let e = ne_eqb c 32 h in rw e
trim_none (x ∷ xs) c h = ap (before_rest x) (trim_none xs c h) ∙ before-some x c xs

-- a trailing blank is taken off
pub trim_more : (xs : List ℕ) → 0 < length xs → get_or xs (length xs - 1) 0 ≡ 32 → trimmed_of (take (length xs - 1) xs) ≡ trimmed_of xs
trim_more xs h e =
    sym (ap trimmed_of (last_split xs h) ∙ ap (λ (c : ℕ). trimmed_of (take (length xs - 1) xs ++ (c ∷ []))) e ∙ trim_blank (take (length xs - 1) xs))

-- no blank is at the end
pub trim_done : (xs : List ℕ) → 0 < length xs → (get_or xs (length xs - 1) 0 ≡ 32 → ⊥) → xs ≡ trimmed_of xs
trim_done xs h e =
    let s = last_split xs h in
    s ∙ sym (ap trimmed_of s ∙ trim_none (take (length xs - 1) xs) (get_or xs (length xs - 1) 0) e)

trim_blanks : (k : ℕ) → trimmed_of (replicate k 32) ≡ []
trim_blanks zero = refl
trim_blanks (suc k) = ap (before_rest 32) (trim_blanks k)

not_blank : (c : ℕ) → is_ascii_graphic c ≡ true → eqb c 32 ≡ false
not_blank c h = grind (arith, nat_tests)

before_graphic : (c : ℕ) (cs : List ℕ) → is_ascii_graphic c ≡ true → before_rest c cs ≡ c ∷ cs
before_graphic c [] h = let e = not_blank c h in rw e
before_graphic c (d ∷ ds) h = refl

trim_padded : (word : List ℕ) (k : ℕ) → all_graphic word ≡ true → trimmed_of (word ++ replicate k 32) ≡ word
trim_padded [] k h = trim_blanks k
trim_padded (c ∷ cs) k h =
    let p = and_parts (is_ascii_graphic c) (all_graphic cs) h in
    ap (before_rest c) (trim_padded cs k p.1) ∙ before_graphic c cs p.0

pub symbol_back : SymbolReadsBack
unfolding padded_of
symbol_back word symbol e = go (is_symbol word) refl e
  where
    go : (s : Bool) → is_symbol word ≡ s → cond s (Some (word ++ replicate (8 - length word) 32)) None ≡ Some symbol → trimmed_of symbol ≡ word
    go true p f =
        let g : symbol ≡ word ++ replicate (8 - length word) 32 = cc in
        let all = and_parts (ltb 0 (length word) && ltb (length word) 9) (all_graphic word) p in
        ap trimmed_of g ∙ trim_padded word (8 - length word) all.1
    go false p f = absurd cc
