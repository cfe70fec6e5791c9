-- What a message is that reads as an update or a summary.
use Rattle.std.proofs.Common.{◌≡◌, ℕ, ◌≤◌, Bool, true, false, cond, eqb, ltb, List, length, get_or, Some, None, Ok, Result, refl, ap, ◌∙◌, arith}
use Rattle.std.proofs.lemmas.Bool.{eqb-true, ltb-false, cond-true, cond-false, eq-eqb, ne_eqb, le-ltb}
use Rattle.feed.specs.Bytes.{cells}
use Rattle.feed.specs.Layouts.{Notice, update, summary, unknown, Types, type_of, symbol_fit, letter_fit, update_of, summary_of, flaw, checked, published, understood}
use Rattle.feed.specs.Sending.{Sent, sent_update, sent_summary, meant}
use Rattle.feed.specs.declared.fault.Fault.{Fault}

-- a message of a type with n bytes at least, a fit symbol and a fit letter
pub record Passed (type n : ℕ) (m : List ℕ) : Type 0 where
  pub kind : type_of m ≡ type
  pub long : n ≤ length m
  pub symbol : symbol_fit (cells 8 6 m) ≡ true
  pub letter : letter_fit (get_or m 14 0) ≡ true

-- a message that passed, by its type, and what it then tells
abbrev pub Tells : List ℕ → Sent → Type 0
Tells m (sent_update u) = Passed 0xd1 64 m × (update_of m ≡ u)
Tells m (sent_summary s) = Passed 0x96 27 m × (summary_of m ≡ s)

-- the three tests of a known message
tests : (short fits letter : Bool) (f g h : Fault) (told a : Notice) → checked (cond short (Some f) (cond fits (cond letter None (Some g)) (Some h))) told ≡ Ok a → (short ≡ false) × (fits ≡ true) × (letter ≡ true) × (told ≡ a)
tests true fits letter f g h told a e = cc
tests false true true f g h told a e = (refl, refl, refl, cc)
tests false true false f g h told a e = cc
tests false false letter f g h told a e = cc

passes : (type n : ℕ) (m : List ℕ) (place : ℕ) (told a : Notice) → type_of m ≡ type → checked (flaw n m place) told ≡ Ok a → Passed type n m × (told ≡ a)
unfolding flaw
passes type n m place told a kind e =
    let t = tests (ltb (length m) n) (symbol_fit (cells 8 6 m)) (letter_fit (get_or m 14 0)) _ _ _ told a e in
    (record { kind = kind; long = ltb-false (length m) n t.0; symbol = t.1; letter = t.2 }, t.3)

stands : (type n : ℕ) (m : List ℕ) (place : ℕ) (told : Notice) → Passed type n m → checked (flaw n m place) told ≡ Ok told
unfolding flaw
stands type n m place told p = ap (λ o. checked o told) (cond-false _ _ _ (le-ltb (length m) n p.long) ∙ cond-true _ _ _ p.symbol ∙ cond-true _ _ _ p.letter)

-- the test of a type, either way
by_type : {X : Type 0} (b : Bool) (x y z : X) (P : Type 0) → cond b x y ≡ z → (b ≡ true → x ≡ z → P) → (b ≡ false → y ≡ z → P) → P
by_type true x y z P e here there = here refl e
by_type false x y z P e here there = there refl e

published_tells : (m : List ℕ) (place : ℕ) (x : Sent) → published m place ≡ Ok (meant x) → Tells m x
published_tells m place (sent_update u) e =
    by_type (eqb (type_of m) 0xd1) _ _ _ (Tells m (sent_update u)) e
    (λ is told. let p = passes 0xd1 64 m place _ (update u) (eqb-true (type_of m) 0xd1 is) told in let q = p.1 in (p.0, cc))
    (λ _ rest. by_type (eqb (type_of m) 0x96) _ _ _ (Tells m (sent_update u)) rest
    (λ is told. let p = passes 0x96 27 m place _ (update u) (eqb-true (type_of m) 0x96 is) told in let q = p.1 in cc)
    (λ _ other. cc))
published_tells m place (sent_summary s) e =
    by_type (eqb (type_of m) 0xd1) _ _ _ (Tells m (sent_summary s)) e
    (λ is told. let p = passes 0xd1 64 m place _ (summary s) (eqb-true (type_of m) 0xd1 is) told in let q = p.1 in cc)
    (λ _ rest. by_type (eqb (type_of m) 0x96) _ _ _ (Tells m (sent_summary s)) rest
    (λ is told. let p = passes 0x96 27 m place _ (summary s) (eqb-true (type_of m) 0x96 is) told in let q = p.1 in (p.0, cc))
    (λ _ other. cc))

-- an unknown message is nothing that was sent
no_sent : (m : List ℕ) (x : Sent) → ◌≡◌ {A = Result Notice Fault} (Ok (unknown m)) (Ok (meant x)) → ⊥
no_sent m (sent_update u) e = cc
no_sent m (sent_summary s) e = cc

-- what reads as an update or a summary is known, and tells it
pub understood_tells : (knows : Types) (m : List ℕ) (place : ℕ) (x : Sent) → understood knows m place ≡ Ok (meant x) → (knows (type_of m) ≡ true) × Tells m x
understood_tells knows m place x e =
    by_type (knows (type_of m)) _ _ _ ((knows (type_of m) ≡ true) × Tells m x) e
    (λ is told. (is, published_tells m place x told))
    (λ _ other. absurd (no_sent m x other))

pub tells_understood : (knows : Types) (m : List ℕ) (place : ℕ) (x : Sent) → knows (type_of m) ≡ true → Tells m x → understood knows m place ≡ Ok (meant x)
tells_understood knows m place (sent_update u) known t =
    cond-true _ _ _ known
    ∙ cond-true _ _ _ (eq-eqb (type_of m) 0xd1 t.0.kind)
    ∙ stands 0xd1 64 m place (update (update_of m)) t.0
    ∙ ap (λ u. Ok (update u)) t.1
tells_understood knows m place (sent_summary s) known t =
    let kind = t.0.kind in
    let other : eqb (type_of m) 0xd1 ≡ false = ne_eqb (type_of m) 0xd1 (λ e. omega arith) in
    cond-true _ _ _ known
    ∙ cond-false _ _ _ other
    ∙ cond-true _ _ _ (eq-eqb (type_of m) 0x96 kind)
    ∙ stands 0x96 27 m place (summary (summary_of m)) t.0
    ∙ ap (λ s. Ok (summary s)) t.1
