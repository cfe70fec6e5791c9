-- One step of a reader.
use Rattle.std.proofs.Common.{◌≡◌, ℕ, zero, suc, ◌+◌, ◌-◌, ◌<◌, Bool, true, false, cond, ltb, List, length, get_or, Some, None, Ok, Err, Option, Result, refl, ap, ◌∙◌, arith, Bor}
use Rattle.feed.specs.Faults.{fault_at}
use Rattle.feed.specs.Layouts.{Notice, Types, every_type, understood}
use Rattle.feed.specs.Frames.{Said, says, ends, breaks, followed, Part, part_at, cut_from, told, first, later, message_at}
use Rattle.feed.specs.declared.fault.Fault.{Fault}
use Rattle.feed.specs.declared.fault.Reason.TheVariants.{Leftover}
use Rattle.reader.specs.Reading.{ahead, onward, after, moved}
use Rattle.reader.specs.declared.Reader.{Reader}

-- one thing, if it is no fault
abbrev pub some : {A : Type 0} → Result A Fault → Result (Option A) Fault
some (Ok a) = Ok (Some a)
some (Err fault) = Err fault

first-followed : {A : Type 0} (r : Result A Fault) (s : Said A) → first (followed r s) ≡ some r
first-followed (Ok a) s = refl
first-followed (Err fault) s = refl

first_part : (knows : Types) (r : Result Part Fault) (s : Said Part) → first (told knows (followed r s)) ≡ some (elim r [ Ok part ↦ understood knows part.bytes part.place | Err fault ↦ Err fault ])
first_part knows (Ok part) s = first-followed (understood knows part.bytes part.place) (told knows s)
first_part knows (Err fault) s = refl

-- where messages are counted, the next answer is the message at the place
pub first_more : (knows : Types) (n : ℕ) (place : ℕ) (f : List ℕ) → 0 < n → first (told knows (cut_from n place f)) ≡ some (message_at knows f place)
first_more knows zero place f h = absurd (omega arith)
first_more knows (suc n) place f h = first_part knows (part_at f place) (cut_from n (place + get_or f place 0) f)

-- a message that was said is cut off
later-followed : {A : Type 0} (r : Result A Fault) (s : Said A) (a : A) (t : Said A) → followed r s ≡ says a t → s ≡ t
later-followed (Ok b) s a t e = cc
later-followed (Err fault) s a t e = cc

later_part : (knows : Types) (r : Result Part Fault) (s : Said Part) (a : Notice) (t : Said Notice) → told knows (followed r s) ≡ says a t → told knows s ≡ t
later_part knows (Ok part) s a t e = later-followed (understood knows part.bytes part.place) (told knows s) a t e
later_part knows (Err fault) s a t e = cc

end_silent : (knows : Types) (b : Bool) (fault : Fault) (a : Notice) (t : Said Notice) → told knows (cond b (breaks fault) ends) ≡ says a t → ⊥
end_silent knows true fault a t e = cc
end_silent knows false fault a t e = cc

behind_said : (knows : Types) (n place : ℕ) (f : List ℕ) (a : Notice) (t : Said Notice) → told knows (cut_from n place f) ≡ says a t → told knows (cut_from (n - 1) (place + get_or f place 0) f) ≡ t
behind_said knows zero place f a t e = absurd (end_silent knows (ltb place (length f)) (fault_at Leftover place) a t e)
behind_said knows (suc n) place f a t e =
    let less : suc n - 1 ≡ n = omega arith in
    ap (λ k. told knows (cut_from k (place + get_or f place 0) f)) less ∙ later_part knows (part_at f place) (cut_from n (place + get_or f place 0) f) a t e

onward_says : (fault : Option Fault) (frame : Bor (List ℕ)) (place left : ℕ) (a : Notice) (t : Said Notice) → ahead (record { frame = frame; place = place; left = left; fault = fault }) ≡ says a t → ahead (onward (record { frame = frame; place = place; left = left; fault = fault })) ≡ t
onward_says None frame place left a t e = behind_said every_type left place frame.now a t e
onward_says (Some fault) frame place left a t e = cc

after_says : (r : Reader) (s : Said Notice) → ahead r ≡ s → ahead (after r (first s)) ≡ later s
after_says r (says a t) e = onward_says r.fault r.frame r.place r.left a t e
after_says r ends e = e
after_says r (breaks fault) e = refl

-- after a call, a reader has the rest to say
pub moved_says : (r : Reader) → ahead (moved r) ≡ later (ahead r)
moved_says r = after_says r (ahead r) refl

-- without a fault, what is ahead is the rest of the frame
pub unfaulted : (r : Reader) → r.fault ≡ None → ahead r ≡ told every_type (cut_from r.left r.place r.frame.now)
unfaulted r none = ap (λ o. elim o [ None ↦ told every_type (cut_from r.left r.place r.frame.now) | Some fault ↦ breaks fault ]) none
