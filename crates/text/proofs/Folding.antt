-- Digits that are appended one by one give the number that `whole_of` gives.
use Rattle.std.proofs.Common.{◌≡◌, ℕ, ◌+◌, ◌-◌, ◌*◌, ◌^◌, ◌<◌, ◌≤◌, Bool, true, false, cond, ◌&&◌, ltb, List, [], ◌∷◌, ◌++◌, length, map, Some, None, Option, MatchOption, Bor, Iter, sym, refl, ap, ◌∙◌, arith}
use Rattle.std.proofs.lemmas.List.{nil_from_length}
use Rattle.std.specs.Iterator.{Yields}
use Rattle.std.specs.List.{FoldsTo}
use Rattle.std.specs.Slice.Iter.{iter_rest, iter_steps}
use Rattle.std.proofs.lemmas.Bool.Decides.{nat_tests}
use Rattle.std.proofs.lemmas.Bool.{ltb-false, le-ltb, lt-ltb}
use Rattle.std.specs.Char.{is_ascii_digit}
use Rattle.std.specs.Str.{all_ascii_digits}
use Rattle.text.specs.Number.{fitting, appended_to, number_after, whole_of}

-- what the digits that are left give, behind those of n
abbrev pub read_on : ℕ → List ℕ → Option ℕ
read_on n ds = cond (all_ascii_digits ds) (fitting (number_after n ds)) None

pub number_after_ge : (n : ℕ) (ds : List ℕ) → n ≤ number_after n ds
number_after_ge n [] = omega arith
number_after_ge n (c ∷ cs) = omega (arith, number_after_ge (n * 10 + (c - 48)) cs)

-- a number that does not fit stays too large
past : (n : ℕ) (ds : List ℕ) (b : Bool) → 2 ^ 64 ≤ n → cond b (fitting (number_after n ds)) None ≡ None
past n ds true h = let e = le-ltb (number_after n ds) (2 ^ 64) (omega (arith, number_after_ge n ds)) in rw e
past n ds false h = refl

step : (d f : Bool) (m : ℕ) (cs : List ℕ) → ltb m (2 ^ 64) ≡ f → (x : Option ℕ) → x ≡ cond d (cond f (Some m) None) None →
    (x ≡ None → cond (d && all_ascii_digits cs) (fitting (number_after m cs)) None ≡ None)
    × ((k : ℕ) → x ≡ Some k → cond (d && all_ascii_digits cs) (fitting (number_after m cs)) None ≡ read_on k cs)
step false f m cs e x h = ((λ _. refl), λ k g. absurd cc)
step true false m cs e x h = ((λ _. past m cs (all_ascii_digits cs) (ltb-false m (2 ^ 64) e)), λ k g. absurd cc)
step true true m cs e x h = ((λ g. absurd cc), λ k g. let s : m ≡ k = cc in ap (λ n. read_on n cs) s)

-- the loop ends where a digit cannot be appended
pub read_on_none : (n c : ℕ) (cs : List ℕ) → appended_to n c ≡ None → read_on n (c ∷ cs) ≡ None
read_on_none n c cs h = (step (is_ascii_digit c) (ltb (n * 10 + (c - 48)) (2 ^ 64)) (n * 10 + (c - 48)) cs refl (appended_to n c) refl).0 h

-- and goes on with the number where it can
pub read_on_some : (n c k : ℕ) (cs : List ℕ) → appended_to n c ≡ Some k → read_on n (c ∷ cs) ≡ read_on k cs
read_on_some n c k cs h = (step (is_ascii_digit c) (ltb (n * 10 + (c - 48)) (2 ^ 64)) (n * 10 + (c - 48)) cs refl (appended_to n c) refl).1 k h

-- a word that is not empty
pub whole_of_some : (ds : List ℕ) → 0 < length ds → whole_of ds ≡ read_on 0 ds
unfolding whole_of
whole_of_some ds h = let e = lt-ltb 0 (length ds) h in rw e

-- what was appended fits
pub appended_fits : (n c k : ℕ) → Some k ≡ appended_to n c → k < 2 ^ 64
appended_fits n c k e = grind (arith, nat_tests)

-- each turn that goes on appends a digit
pub reads_on : {F : Type 0} (turn : F × ℕ → Bor ℕ → F × ℕ → Type 0) → ((p : F × ℕ) (x : Bor ℕ) (q : F × ℕ) → turn p x q → Some q.1 ≡ appended_to p.1 x.now) → (xs : List (Bor ℕ)) (ds : List ℕ) (p q : F × ℕ) → FoldsTo turn p xs q → p.1 < 2 ^ 64 → (read_on p.1 (map (λ x. x.now) xs ++ ds) ≡ read_on q.1 ds) × (q.1 < 2 ^ 64)
reads_on turn goes [] ds p q h small = let e : p.1 ≡ q.1 = ap (λ r. r.1) h in (ap (λ (n : ℕ). read_on n ds) e, omega (arith, e))
reads_on turn goes (x ∷ xs) ds p q h small =
    let e = goes p x h.0 h.1 in
    let more = reads_on turn goes xs ds h.0 q h.2 (appended_fits p.1 x.now h.0.1 e) in
    (read_on_some p.1 x.now h.0.1 (map (λ x. x.now) xs ++ ds) (sym e) ∙ more.0, more.1)

-- the bytes that the calls gave, and those that are left
rests : (xs : List (Bor ℕ)) (s t : Iter ℕ) → Yields iter_steps s xs t → iter_rest s ≡ map (λ x. x.now) xs ++ iter_rest t
rests [] s t h = ap iter_rest h
rests (x ∷ xs) s t h = h.1 ∙ ap (λ (l : List ℕ). x.now ∷ l) (rests xs h.0 t h.2)

-- the last call found no byte, or one that cannot be appended
ended : (a : ℕ) (r : Option ℕ) (o : Option (Bor ℕ)) (t u : Iter ℕ) (Stop : Bor ℕ → Type 0) → ((x : Bor ℕ) → Stop x → (None ≡ appended_to a x.now) × (r ≡ None)) → a < 2 ^ 64 → iter_steps t o u → MatchOption o (r ≡ Some a) Stop → r ≡ read_on a (iter_rest t)
ended a r None t u Stop stops small h k =
    let none : iter_rest t ≡ [] = nil_from_length (iter_rest t) h.0 in
    let l = lt-ltb a (2 ^ 64) small in
    let f : read_on a [] ≡ Some a = rw l in
    k ∙ sym (ap (read_on a) none ∙ f)
ended a r (Some x) t u Stop stops small h k =
    let e = stops x k in
    e.1 ∙ sym (ap (read_on a) h ∙ read_on_none a x.now (iter_rest u) (sym e.0))

-- a fold over the bytes of a word, from its calls
pub folded : (word : List ℕ) (r : Option ℕ) {F : Type 0} (turn : F × ℕ → Bor ℕ → F × ℕ → Type 0)
    → ((p : F × ℕ) (x : Bor ℕ) (q : F × ℕ) → turn p x q → Some q.1 ≡ appended_to p.1 x.now)
    → (xs : List (Bor ℕ)) (o : Option (Bor ℕ)) (s t u : Iter ℕ) (p q : F × ℕ) (Last : Bor ℕ → Type 0) → ((x : Bor ℕ) → Last x → (None ≡ appended_to q.1 x.now) × (r ≡ None))
    → 0 < length word → iter_rest s ≡ word → p.1 ≡ 0 → Yields iter_steps s xs t → iter_steps t o u → FoldsTo turn p xs q → MatchOption o (r ≡ Some q.1) Last → r ≡ whole_of word
folded word r turn goes xs o s t u p q Last stops some is zero gave step folds end =
    let run = reads_on turn goes xs (iter_rest t) p q folds (omega (arith, zero)) in
    let all : word ≡ map (λ x. x.now) xs ++ iter_rest t = sym is ∙ rests xs s t gave in
    ended q.1 r o t u Last stops run.1 step end ∙ sym run.0 ∙ (λ i. read_on (zero i) (sym all i)) ∙ sym (whole_of_some word some)
