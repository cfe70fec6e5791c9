-- The first word of a line, and the words behind it.
use Rattle.std.proofs.Common.{◌≡◌, ℕ, ◌+◌, ◌<◌, ◌≤◌, Bool, true, false, cond, not, ltb, List, [], ◌∷◌, length, take, drop, Some, None, Option, sym, refl, ap, ◌∙◌, arith, length-drop}
use Rattle.std.proofs.lemmas.Bool.{ltb-true, ltb-false}
use Rattle.std.proofs.lemmas.List.{take_all, drop_all}
use Rattle.std.specs.List.{position, position_or_len}
use Rattle.std.specs.Option.{unwrap_or}
use Rattle.text.specs.Word.{is_blank, is_ink, before, onward, word_of, behind_word, on_first, pieces_of, inked, word_list, leading}

-- how many bytes stand before the first that the test takes
abbrev pub span : (ℕ → Bool) → List ℕ → ℕ
span test cs = length (before test cs)

pub take-span : (test : ℕ → Bool) (line : List ℕ) → take (span test line) line ≡ before test line
take-span test [] = refl
take-span test (c ∷ cs) = elim (test c) as (λ t. take (length (cond t [] (c ∷ before test cs))) (c ∷ cs) ≡ cond t [] (c ∷ before test cs)) [ true ↦ refl | false ↦ ap (λ (l : List ℕ). c ∷ l) (take-span test cs) ]

pub drop-span : (test : ℕ → Bool) (line : List ℕ) → drop (span test line) line ≡ onward test line
drop-span test [] = refl
drop-span test (c ∷ cs) = elim (test c) as (λ t. drop (length (cond t [] (c ∷ before test cs))) (c ∷ cs) ≡ cond t (c ∷ cs) (onward test cs)) [ true ↦ refl | false ↦ drop-span test cs ]

-- the part before byte i, and the part from it on, as the code cuts them
pub front_is : (test : ℕ → Bool) (line : List ℕ) (i : ℕ) → i ≡ span test line → take i line ≡ before test line
front_is test line i e = ap (λ (n : ℕ). take n line) e ∙ take-span test line

pub back_is : (test : ℕ → Bool) (line : List ℕ) (i : ℕ) → i ≡ span test line → drop i line ≡ onward test line
back_is test line i e = ap (λ (n : ℕ). drop n line) e ∙ drop-span test line

-- the pieces behind the first
pieces_behind : List ℕ → List (List ℕ)
pieces_behind [] = []
pieces_behind (c ∷ cs) = pieces_of cs

first_piece : (line : List ℕ) → pieces_of line ≡ before is_blank line ∷ pieces_behind (onward is_blank line)
unfolding pieces_behind
first_piece [] = refl
first_piece (c ∷ cs) = go (is_blank c) (first_piece cs)
  where
    go : (t : Bool) → pieces_of cs ≡ before is_blank cs ∷ pieces_behind (onward is_blank cs) → cond t ([] ∷ pieces_of cs) (on_first c (pieces_of cs)) ≡ cond t [] (c ∷ before is_blank cs) ∷ pieces_behind (cond t (c ∷ cs) (onward is_blank cs))
    go true h = refl
    go false h = ap (on_first c) h

words_behind : (line : List ℕ) → inked (pieces_behind (onward is_blank line)) ≡ word_list (onward is_blank line)
unfolding pieces_behind word_list
words_behind [] = refl
words_behind (c ∷ cs) = go (is_blank c) refl (words_behind cs)
  where
    go : (t : Bool) → is_blank c ≡ t → inked (pieces_behind (onward is_blank cs)) ≡ word_list (onward is_blank cs) → inked (pieces_behind (cond t (c ∷ cs) (onward is_blank cs))) ≡ word_list (cond t (c ∷ cs) (onward is_blank cs))
    go true e h = rw e
    go false e h = h

-- the words of a line are its first word and the words behind that
pub words_lead : (line : List ℕ) → word_list line ≡ leading (word_of line) (word_list (behind_word line))
unfolding word_list
words_lead [] = refl
words_lead (c ∷ cs) = go (is_blank c) refl (words_lead cs)
  where
    go : (t : Bool) → is_blank c ≡ t → word_list cs ≡ leading (word_of cs) (word_list (behind_word cs)) → word_list (c ∷ cs) ≡ leading (word_of (c ∷ cs)) (word_list (behind_word (c ∷ cs)))
    go true e h = rw e h
    go false e h =
        let text : onward is_ink (c ∷ cs) ≡ c ∷ cs = rw e in
        let word : word_of (c ∷ cs) ≡ c ∷ before is_blank cs = ap (before is_blank) text ∙ rw e in
        let rest : behind_word (c ∷ cs) ≡ onward is_blank cs = ap (onward is_blank) text ∙ rw e in
        let first : word_list (c ∷ cs) ≡ inked (on_first c (pieces_of cs)) = rw e in
        first ∙ ap (λ (l : List (List ℕ)). inked (on_first c l)) (first_piece cs) ∙ ap (λ (l : List (List ℕ)). (c ∷ before is_blank cs) ∷ l) (words_behind cs) ∙ sym (λ i. leading (word i) (word_list (rest i)))

-- where the first byte stands that the test takes
span_is : (test : ℕ → Bool) (line : List ℕ) → position_or_len test line ≡ span test line
span_is test [] = refl
span_is test (c ∷ cs) = go (test c) (span_is test cs)
  where
    go : (t : Bool) → position_or_len test cs ≡ span test cs → cond (not t) (1 + position_or_len test cs) 0 ≡ length (cond t [] (c ∷ before test cs))
    go true h = refl
    go false h = omega (arith, h)

pub at_some : (test : ℕ → Bool) (line : List ℕ) (i : ℕ) → Some i ≡ position test line → (i ≡ span test line) × (i < length line)
at_some test line i e = go (ltb (position_or_len test line) (length line)) refl e
  where
    go : (t : Bool) → ltb (position_or_len test line) (length line) ≡ t → Some i ≡ cond t (Some (position_or_len test line)) None → (i ≡ span test line) × (i < length line)
    go true p f = let g : i ≡ position_or_len test line = cc in (g ∙ span_is test line, omega (arith, ltb-true (position_or_len test line) (length line) p, g))
    go false p f = absurd cc

pub at_none : (test : ℕ → Bool) (line : List ℕ) → None ≡ position test line → length line ≤ span test line
at_none test line e = go (ltb (position_or_len test line) (length line)) refl e
  where
    go : (t : Bool) → ltb (position_or_len test line) (length line) ≡ t → None ≡ cond t (Some (position_or_len test line)) None → length line ≤ span test line
    go true p f = absurd cc
    go false p f = omega (arith, ltb-false (position_or_len test line) (length line) p, span_is test line)

-- all of the line, where no byte passes the test
pub all_before : (test : ℕ → Bool) (line : List ℕ) → None ≡ position test line → line ≡ before test line
all_before test line e = sym (take_all (span test line) line (at_none test line e)) ∙ take-span test line

pub none_onward : (test : ℕ → Bool) (line : List ℕ) → None ≡ position test line → onward test line ≡ []
none_onward test line e = sym (drop-span test line) ∙ drop_all (span test line) line (at_none test line e)

-- the end of what stands before
pub end_is : (test : ℕ → Bool) (line : List ℕ) → unwrap_or (position test line) (length line) ≡ span test line
end_is test line = go (position test line) refl
  where
    go : (o : Option ℕ) → o ≡ position test line → unwrap_or o (length line) ≡ span test line
    go (Some i) e = (at_some test line i e).0
    go None e = ap length (all_before test line e)

-- no ink, no word
pub no_word : (line : List ℕ) → None ≡ position is_ink line → word_list line ≡ []
no_word line e =
    let text : onward is_ink line ≡ [] = none_onward is_ink line e in
    let word : word_of line ≡ [] = ap (before is_blank) text in
    words_lead line ∙ ap (λ (w : List ℕ). leading w (word_list (behind_word line))) word

-- the first word begins at ink, so it is not empty
inked_word : (line : List ℕ) (ws : List (List ℕ)) → 0 < length (onward is_ink line) → leading (word_of line) ws ≡ word_of line ∷ ws
inked_word [] ws h = absurd (omega arith)
inked_word (c ∷ cs) ws h = go (is_blank c) refl h (inked_word cs ws)
  where
    go : (t : Bool) → is_blank c ≡ t → 0 < length (onward is_ink (c ∷ cs)) → (0 < length (onward is_ink cs) → leading (word_of cs) ws ≡ word_of cs ∷ ws) → leading (word_of (c ∷ cs)) ws ≡ word_of (c ∷ cs) ∷ ws
    go true e some more =
        let text : onward is_ink (c ∷ cs) ≡ onward is_ink cs = rw e in
        let left : 0 < length (onward is_ink cs) = omega (arith, ap length text) in
        rw text (more left)
    go false e some more = let text : onward is_ink (c ∷ cs) ≡ c ∷ cs = rw e in rw text (rw e)

-- the first word and what stands behind it, as the code cuts them
pub record Cut (line front behind : List ℕ) : Type 0 where
  pub word : front ≡ word_of line
  pub rest : behind ≡ behind_word line
  pub words : word_list line ≡ front ∷ word_list behind

pub cut : (line word rest : List ℕ) (start end : ℕ) → Some start ≡ position is_ink line → end ≡ unwrap_or (position is_blank (drop start line)) (length (drop start line)) → word ≡ take end (drop start line) → rest ≡ drop end (drop start line) → Cut line word rest
cut line word rest start end e f p q =
    let s = at_some is_ink line start e in
    let text : drop start line ≡ onward is_ink line = back_is is_ink line start s.0 in
    let stop : end ≡ span is_blank (drop start line) = f ∙ end_is is_blank (drop start line) in
    let w : word ≡ word_of line = p ∙ front_is is_blank (drop start line) end stop ∙ ap (before is_blank) text in
    let r : rest ≡ behind_word line = q ∙ back_is is_blank (drop start line) end stop ∙ ap (onward is_blank) text in
    let some : 0 < length (onward is_ink line) = omega (arith, ap length text, length-drop start line, s.1) in
    record { word = w; rest = r; words = words_lead line ∙ inked_word line (word_list (behind_word line)) some ∙ sym (λ i. w i ∷ word_list (r i)) }
