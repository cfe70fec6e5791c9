-- A message at another place: only its fault moves.
use Rattle.std.proofs.Common.{◌≡◌, ℕ, suc, ◌+◌, Bool, true, false, cond, eqb, ltb, List, length, get_or, Some, None, Ok, Err, Option, Result, refl, ap, ◌∙◌, arith}
use Rattle.feed.specs.Bytes.{cells}
use Rattle.feed.specs.Faults.{fault_at}
use Rattle.feed.specs.Layouts.{Notice, update, summary, Types, type_of, symbol_fit, letter_fit, update_of, summary_of, flaw, checked, understood}
use Rattle.feed.specs.Frames.{Said, followed}
use Rattle.feed.specs.declared.fault.Fault.{Fault}
use Rattle.feed.specs.declared.fault.Reason.TheVariants.{Short, Symbol, Letter}
use Rattle.feed_laws.specs.Laws.{moved_by, moved_after}

abbrev further : ℕ → Fault → Fault
further n fault = fault_at fault.reason (fault.place + n)

abbrev flaw_moved : ℕ → Option Fault → Option Fault
flaw_moved n None = None
flaw_moved n (Some fault) = Some (further n fault)

abbrev pub read_moved : {A : Type 0} → ℕ → Result A Fault → Result A Fault
read_moved n (Ok a) = Ok a
read_moved n (Err fault) = Err (further n fault)

-- one fault after another, each some bytes behind the place
tests_move : (short fits letter : Bool) (place n : ℕ) → cond short (Some (fault_at Short (place + n))) (cond fits (cond letter None (Some (fault_at Letter (place + n + 14)))) (Some (fault_at Symbol (place + n + 6)))) ≡ flaw_moved n (cond short (Some (fault_at Short place)) (cond fits (cond letter None (Some (fault_at Letter (place + 14)))) (Some (fault_at Symbol (place + 6)))))
tests_move true fits letter place n = refl
tests_move false true true place n = refl
tests_move false true false place n = let e : place + n + 14 ≡ place + 14 + n = omega arith in ap (λ k. Some (fault_at Letter k)) e
tests_move false false letter place n = let e : place + n + 6 ≡ place + 6 + n = omega arith in ap (λ k. Some (fault_at Symbol k)) e

flaw_moves : (size : ℕ) (m : List ℕ) (place n : ℕ) → flaw size m (place + n) ≡ flaw_moved n (flaw size m place)
unfolding flaw
flaw_moves size m place n = tests_move (ltb (length m) size) (symbol_fit (cells 8 6 m)) (letter_fit (get_or m 14 0)) place n

checked_moves : (n : ℕ) (o : Option Fault) (told : Notice) → checked (flaw_moved n o) told ≡ read_moved n (checked o told)
checked_moves n None told = refl
checked_moves n (Some fault) told = refl

cond_moves : (b : Bool) (n : ℕ) (x x' y y' : Result Notice Fault) → x' ≡ read_moved n x → y' ≡ read_moved n y → cond b x' y' ≡ read_moved n (cond b x y)
cond_moves true n x x' y y' e f = e
cond_moves false n x x' y y' e f = f

pub understood_moves : (knows : Types) (m : List ℕ) (place n : ℕ) → understood knows m (place + n) ≡ read_moved n (understood knows m place)
understood_moves knows m place n =
    let one : (size : ℕ) (told : Notice) → checked (flaw size m (place + n)) told ≡ read_moved n (checked (flaw size m place) told) = λ size told. ap (λ o. checked o told) (flaw_moves size m place n) ∙ checked_moves n (flaw size m place) told in
    cond_moves (knows (type_of m)) n _ _ _ _ (cond_moves (eqb (type_of m) 0xd1) n _ _ _ _ (one 64 (update (update_of m))) (cond_moves (eqb (type_of m) 0x96) n _ _ _ _ (one 27 (summary (summary_of m))) refl)) refl

pub followed_moves : {A : Type 0} (n : ℕ) (r : Result A Fault) (s : Said A) → followed (read_moved n r) (moved_by n s) ≡ moved_by n (followed r s)
followed_moves n (Ok a) s = refl
followed_moves n (Err fault) s = refl

pub followed-after : {A : Type 0} (k n : ℕ) (r : Result A Fault) (s : Said A) → followed r (moved_after k n s) ≡ moved_after (suc k) n (followed r s)
followed-after k n (Ok a) s = refl
followed-after k n (Err fault) s = refl
