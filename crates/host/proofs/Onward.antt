-- Where a message lies that a reader answers, and how a call goes on behind it.
use Rattle.std.proofs.Common.{◌≡◌, ℕ, zero, suc, ◌+◌, ◌-◌, ◌≤◌, Bool, true, false, cond, eqb, ltb, leb, ◌≢◌, List, length, get_or, Some, None, Ok, Err, Option, Result, sym, refl, ap, ◌∙◌, subst, arith, Bor}
use Rattle.std.proofs.lemmas.Bool.{and_parts, leb-true, ne_eqb}
use Rattle.feed.specs.Faults.{fault_at}
use Rattle.feed.specs.Frames.{Said, says, ends, breaks, followed, Part, cut_from, count_of, told as toldTo, first, later, frame_says}
use Rattle.feed.specs.Layouts.{Notice, update, summary, unknown, every_type}
use Rattle.feed.specs.declared.fault.Fault.{Fault}
use Rattle.feed.specs.declared.fault.Reason.TheVariants.{Leftover}
use Rattle.reader.specs.Reading.{ahead, opened, resumed, onward, after, moved}
use Rattle.reader.specs.declared.Reader.{Reader}
use Rattle.reader.proofs.Steps.{moved_says}
use Rattle.host.specs.Reads.{reader_for, ahead_for, stand_of, answer_told, next_of, left_of, GoesOn}

-- a message has two bytes at least, and ends within its frame
pub record Lies (f : List ℕ) (place : ℕ) : Type 0 where
  pub two : 2 ≤ get_or f place 0
  pub within : place + get_or f place 0 ≤ length f

cut_off : (b : Bool) (part : Part) (fault : Fault) (s : Said Part) (a : Notice) → Ok (Some a) ≡ first (toldTo every_type (followed (cond b (Ok part) (Err fault)) s)) → b ≡ true
cut_off true part fault s a e = refl
cut_off false part fault s a e = cc

end_silent : (b : Bool) (fault : Fault) (a : Notice) → Ok (Some a) ≡ first (toldTo every_type (cond b (breaks fault) ends)) → ⊥
end_silent true fault a e = cc
end_silent false fault a e = cc

counted_lies : (n place : ℕ) (f : List ℕ) (a : Notice) → Ok (Some a) ≡ first (toldTo every_type (cut_from n place f)) → Lies f place
counted_lies zero place f a e = absurd (end_silent (ltb place (length f)) (fault_at Leftover place) a e)
counted_lies (suc n) place f a e =
    let long = leb 2 (get_or f place 0) in
    let short = leb (place + get_or f place 0) (length f) in
    let both = and_parts long short (cut_off _ _ _ _ a e) in
    record { two = leb-true 2 (get_or f place 0) both.0; within = leb-true (place + get_or f place 0) (length f) both.1 }

unbroken_lies : (fault : Option Fault) (n place : ℕ) (f : List ℕ) (a : Notice) → Ok (Some a) ≡ first (elim fault [ None ↦ toldTo every_type (cut_from n place f) | Some why ↦ breaks why ]) → Lies f place
unbroken_lies None n place f a e = counted_lies n place f a e
unbroken_lies (Some why) n place f a e = cc

opened_frame : (f : Bor (List ℕ)) (count : Result ℕ Fault) → (let r : Reader = elim count [ Ok n ↦ record { frame = f; place = 8; left = n; fault = None } | Err fault ↦ record { frame = f; place = 8; left = 0; fault = Some fault } ] in r).frame ≡ f
opened_frame f (Ok n) = refl
opened_frame f (Err fault) = refl

chosen_frame : (f : Bor (List ℕ)) (b : Bool) (r s : Reader) → r.frame ≡ f → s.frame ≡ f → (cond b r s).frame ≡ f
chosen_frame f true r s is is' = is
chosen_frame f false r s is is' = is'

frame_for : (f : Bor (List ℕ)) (place left : ℕ) → (reader_for f place left).frame ≡ f
frame_for f place left = chosen_frame f (eqb place 0) (opened f) (resumed f place left) (opened_frame f (count_of f.now)) refl

-- a message that a call is told lies in its frame
pub said_lies : (f : Bor (List ℕ)) (place left : ℕ) (a : Notice) → Ok (Some a) ≡ first (ahead_for f place left) → Lies f.now (reader_for f place left).place
said_lies f place left a e =
    let r = reader_for f place left in
    subst (λ (x : Bor (List ℕ)). Lies x.now r.place) (frame_for f place left) (unbroken_lies r.fault r.left r.place r.frame.now a e)

resumed_for : (f : Bor (List ℕ)) (place left : ℕ) (b : Bool) → b ≡ false → cond b (opened f) (resumed f place left) ≡ resumed f place left
resumed_for f place left true e = cc
resumed_for f place left false e = refl

-- behind a message, the place and the count to pass next give the reader that has moved
onward_for : (f : Bor (List ℕ)) (place left : ℕ) (a : Notice) → Ok (Some a) ≡ first (ahead_for f place left) → reader_for f (moved (reader_for f place left)).place (moved (reader_for f place left)).left ≡ moved (reader_for f place left)
onward_for f place left a e =
    let r = reader_for f place left in
    let P : Reader → Type 0 = λ m. reader_for f m.place m.left ≡ m in
    let same = frame_for f place left in
    let lies = unbroken_lies r.fault r.left r.place r.frame.now a e in
    let next = r.place + get_or r.frame.now r.place 0 in
    let ne : next ≢ 0 = omega (arith, lies.two) in
    let on : P (onward r) = resumed_for f next (r.left - 1) (eqb next 0) (ne_eqb next 0 ne) ∙ (λ i. record { frame = sym same i; place = next; left = r.left - 1; fault = None }) in
    subst P (ap (after r) e) on

-- after the end and after a fault nothing changes
end_stays : (s : Said Notice) → first s ≡ Ok None → s ≡ later s
end_stays (says a s) e = cc
end_stays ends e = refl
end_stays (breaks fault) e = refl

fault_stays : (s : Said Notice) (fault : Fault) → first s ≡ Err fault → s ≡ later s
fault_stays (says a s) fault e = cc
fault_stays ends fault e = refl
fault_stays (breaks why) fault e = refl

told_goes : (f : Bor (List ℕ)) (place left : ℕ) (x : Result (Option Notice) Fault) → first (ahead_for f place left) ≡ x → ahead_for f (next_of (answer_told place left (stand_of f.now (reader_for f place left)) x)) (left_of (answer_told place left (stand_of f.now (reader_for f place left)) x)) ≡ later (ahead_for f place left)
told_goes f place left (Ok (Some (update u))) e = ap ahead (onward_for f place left (update u) (sym e)) ∙ moved_says (reader_for f place left)
told_goes f place left (Ok (Some (summary s))) e = ap ahead (onward_for f place left (summary s) (sym e)) ∙ moved_says (reader_for f place left)
told_goes f place left (Ok (Some (unknown m))) e = ap ahead (onward_for f place left (unknown m) (sym e)) ∙ moved_says (reader_for f place left)
told_goes f place left (Ok None) e = end_stays (ahead_for f place left) e
told_goes f place left (Err fault) e = fault_stays (ahead_for f place left) fault e

-- a call that passes what the one before it was told goes on with the rest
pub goes_on : (f : Bor (List ℕ)) (place left : ℕ) → GoesOn f place left
goes_on f place left = told_goes f place left (first (ahead_for f place left)) refl

opened_says : (f : Bor (List ℕ)) (count : Result ℕ Fault) → ahead (elim count [ Ok n ↦ record { frame = f; place = 8; left = n; fault = None } | Err fault ↦ record { frame = f; place = 8; left = 0; fault = Some fault } ]) ≡ toldTo every_type (elim count [ Ok n ↦ cut_from n 8 f.now | Err fault ↦ breaks fault ])
opened_says f (Ok n) = refl
opened_says f (Err fault) = refl

-- place 0 starts the frame
pub starts : (f : Bor (List ℕ)) (left : ℕ) → ahead_for f 0 left ≡ frame_says every_type f.now
starts f left = opened_says f (count_of f.now)
