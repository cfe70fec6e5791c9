-- Whole frames.
use Rattle.std.proofs.Common.{◌≡◌, ℕ, zero, suc, ◌+◌, ◌^◌, ◌<◌, ◌≤◌, eqb, leb, ◌⊎◌, List, [], ◌∷◌, ◌++◌, map, length, get_or, take, drop, Ok, Err, sym, refl, ap, ◌∙◌, subst, inl, inr, ⊎_elim, append_assoc, arith, length-append}
use Rattle.std.proofs.lemmas.Bool.{cond-true, cond-false, le-ltb, lt-ltb, le-leb, eq-eqb, lt-leb, and_from, and_left, and_right, cases_lt}
use Rattle.std.proofs.lemmas.List.{get_or-append-add, drop_at, take_at, take-append-drop, length-map, length-take-le, get_or-take}
use Rattle.feed.specs.Bytes.{cells, le, bytes}
use Rattle.feed.specs.Faults.{fault_at}
use Rattle.feed.specs.Layouts.{unknown, Types, every_type, published, understood}
use Rattle.feed.specs.Frames.{says, ends, breaks, saying, followed, part_at, cut_from, count_of, cut, told, frame_says}
use Rattle.feed.specs.Sending.{Sent, meant, encoded, AllFit, behind, framed, frame_of}
use Rattle.feed.specs.declared.fault.Reason.TheVariants.{Length, Leftover}
use Rattle.feed_laws.specs.Laws.{OwnLength, AllOwn, AllUnknown, placed, grown, moved_by, moved_after, ReadingReturnsWhatWasWritten, EveryReaderFindsEveryMessage, UnknownTypesAreSteppedOver, GrownAtItsEndReadsAsBefore}
use Rattle.feed_laws.proofs.Numbers.{le_bytes}
use Rattle.feed_laws.proofs.Trips.{written_read, written_own, grown_read, read_anywhere, grown_own, grown-length}
use Rattle.feed_laws.proofs.Moves.{understood_moves, followed_moves, followed-after}

-- a message that lies whole in its frame
whole_part : (f : List ℕ) (place : ℕ) → 2 ≤ get_or f place 0 → place + get_or f place 0 ≤ length f → part_at f place ≡ Ok (record { place = place; bytes = take (get_or f place 0) (drop place f) })
whole_part f place two fits = cond-true _ _ _ (and_from (leb 2 (get_or f place 0)) (leb (place + get_or f place 0) (length f)) (le-leb 2 (get_or f place 0) two) (le-leb (place + get_or f place 0) (length f) fits))

-- the byte behind p
here : (p r : List ℕ) → get_or (p ++ r) (length p) 0 ≡ get_or r 0 0
here p r = let e : length p ≡ length p + 0 = omega arith in ap (λ k. get_or (p ++ r) k 0) e ∙ get_or-append-add p r 0 0

-- a message with its own length, behind p
own_here : (p m r : List ℕ) → OwnLength m → get_or (p ++ (m ++ r)) (length p) 0 ≡ length m
own_here p [] r own = absurd (omega (arith, own.two))
own_here p (n ∷ body) r own = here p ((n ∷ body) ++ r) ∙ own.own

part_here : (p m r : List ℕ) → OwnLength m → part_at (p ++ (m ++ r)) (length p) ≡ Ok (record { place = length p; bytes = m })
part_here p m r own =
    let f = p ++ (m ++ r) in
    let size = own_here p m r own in
    let rest = drop_at p (m ++ r) (length p) refl in
    let n = length-append p (m ++ r) in
    let k = length-append m r in
    let two = own.two in
    whole_part f (length p) (omega arith) (omega arith)
    ∙ ap (λ bs. Ok (record { place = length p; bytes = bs })) ((λ i. take (size i) (rest i)) ∙ take_at m r (length m) refl)

-- one message is cut off, and the rest is behind it
cut_step : (n : ℕ) (p m r : List ℕ) → OwnLength m → cut_from (suc n) (length p) (p ++ (m ++ r)) ≡ says (record { place = length p; bytes = m }) (cut_from n (length (p ++ m)) ((p ++ m) ++ r))
cut_step n p m r own =
    let next : length p + get_or (p ++ (m ++ r)) (length p) 0 ≡ length (p ++ m) = omega (arith, own_here p m r own, length-append p m) in
    λ i. followed (part_here p m r own i) (cut_from n (next i) (sym (append_assoc p m r) i))

-- the end: nothing behind p, or something
cut_end : (p : List ℕ) → cut_from 0 (length p) (p ++ []) ≡ ends
cut_end p = cond-false _ _ _ (le-ltb (length p) (length (p ++ [])) (omega (arith, length-append p [])))

all_places : (ms : List (List ℕ)) (p : List ℕ) → AllOwn ms → cut_from (length ms) (length p) (p ++ behind ms) ≡ placed (length p) ms
all_places [] p own = cut_end p
all_places (m ∷ ms) p own =
    cut_step (length ms) p m (behind ms) own.0
    ∙ ap (says (record { place = length p; bytes = m })) (all_places ms (p ++ m) own.1 ∙ ap (λ k. placed k ms) (length-append p m))

abbrev head_of : ℕ → List ℕ → ℕ → List ℕ
head_of count five n = bytes 2 (8 + n) ++ (count ∷ five)

open_frame : (count : ℕ) (five body : List ℕ) → length five ≡ 5 → 8 + length body < 2 ^ 16 → cut (framed count five body) ≡ cut_from count (length (head_of count five (length body))) (head_of count five (length body) ++ body)
open_frame count five body long short =
    let f = framed count five body in
    let n : length f ≡ 8 + length body = omega (arith, length-append five body) in
    let says-it : le (cells 2 0 f) ≡ length f = le_bytes 2 (8 + length body) (omega arith) ∙ sym n in
    let fits = and_from (leb 8 (length f)) (eqb (le (cells 2 0 f)) (length f)) (le-leb 8 (length f) (omega arith)) (eq-eqb (le (cells 2 0 f)) (length f) says-it) in
    let counted : count_of f ≡ Ok count = cond-true _ _ _ fits in
    let eight : 8 ≡ length (head_of count five (length body)) = omega arith in
    ap (λ r. elim r [ Ok k ↦ cut_from k 8 f | Err fault ↦ breaks fault ]) counted
    ∙ (λ i. cut_from count (eight i) f)

pub every_place : EveryReaderFindsEveryMessage
every_place knows five ms long own short =
    let p = head_of (length ms) five (length (behind ms)) in
    let eight : length p ≡ 8 = omega arith in
    ap (told knows) (open_frame (length ms) five (behind ms) long short ∙ all_places ms p own ∙ ap (λ k. placed k ms) eight)

told_unknown : (knows : Types) (ms : List (List ℕ)) (place : ℕ) → AllUnknown knows ms → told knows (placed place ms) ≡ saying (map unknown ms)
told_unknown knows [] place none = refl
told_unknown knows (m ∷ ms) place none = λ i. followed (cond-false _ (published m place) (Ok (unknown m)) none.0 i) (told_unknown knows ms (place + length m) none.1 i)

pub stepped_over : UnknownTypesAreSteppedOver
stepped_over knows five ms long own none short = every_place knows five ms long own short ∙ told_unknown knows ms 8 none

written_own_all : (ms : List Sent) → AllOwn (map encoded ms)
written_own_all [] = tt
written_own_all (m ∷ ms) = (written_own m, written_own_all ms)

told-written : (ms : List Sent) (place : ℕ) → AllFit ms → told every_type (placed place (map encoded ms)) ≡ saying (map meant ms)
told-written [] place fit = refl
told-written (m ∷ ms) place fit = λ i. followed (written_read m place fit.0 i) (told-written ms (place + length (encoded m)) fit.1 i)

pub written_trip : ReadingReturnsWhatWasWritten
unfolding frame_of
written_trip ms fit short =
    let body = behind (map encoded ms) in
    ap (λ k. frame_says every_type (framed k (0 ∷ 0 ∷ 0 ∷ 0 ∷ 0 ∷ []) body)) (sym (length-map ms encoded))
    ∙ every_place every_type (0 ∷ 0 ∷ 0 ∷ 0 ∷ 0 ∷ []) (map encoded ms) refl (written_own_all ms) (omega arith)
    ∙ told-written ms 8 fit

-- a message with its own length begins here, or none does
whole_or_not : (r : List ℕ) → ((m : List ℕ) × ((rest : List ℕ) × ((r ≡ m ++ rest) × OwnLength m))) ⊎ ((p : List ℕ) → part_at (p ++ r) (length p) ≡ Err (fault_at Length (length p)))
whole_or_not r =
    ⊎_elim
    (λ (small : get_or r 0 0 < 2). inr (λ p. let same = here p r in cond-false _ _ _ (and_left (leb 2 (get_or (p ++ r) (length p) 0)) _ (lt-leb 2 (get_or (p ++ r) (length p) 0) (omega arith)))))
    (λ (two : 2 ≤ get_or r 0 0).
    ⊎_elim
    (λ (past : length r < get_or r 0 0). inr (λ p. let same = here p r in cond-false _ _ _ (and_right _ (leb (length p + get_or (p ++ r) (length p) 0) (length (p ++ r))) (lt-leb (length p + get_or (p ++ r) (length p) 0) (length (p ++ r)) (omega (arith, length-append p r))))))
    (λ (within : get_or r 0 0 ≤ length r).
    let n = get_or r 0 0 in
    let size = length-take-le n r within in
    inl (take n r, (drop n r, (sym (take-append-drop n r), record { two = omega arith; own = get_or-take n r 0 0 (omega arith) ∙ sym size }))))
    (cases_lt (length r) (get_or r 0 0)))
    (cases_lt (get_or r 0 0) 2)

-- bytes left over
cut_left : (p r : List ℕ) → 0 < length r → cut_from 0 (length p) (p ++ r) ≡ breaks (fault_at Leftover (length p))
cut_left p r some = cond-true _ _ _ (lt-ltb (length p) (length (p ++ r)) (omega (arith, length-append p r)))

-- no message
cut_bad : (n : ℕ) (p r : List ℕ) → part_at (p ++ r) (length p) ≡ Err (fault_at Length (length p)) → cut_from (suc n) (length p) (p ++ r) ≡ breaks (fault_at Length (length p))
cut_bad n p r bad = ap (λ part. followed part (cut_from n (length p + get_or (p ++ r) (length p) 0) (p ++ r))) bad

-- what lies behind a message reads the same, some bytes further on
tail_moves : (knows : Types) (n : ℕ) (p q r : List ℕ) (d : ℕ) → length q ≡ length p + d → told knows (cut_from n (length q) (q ++ r)) ≡ moved_by d (told knows (cut_from n (length p) (p ++ r)))
tail_moves knows zero p q [] d e = ap (told knows) (cut_end q) ∙ sym (ap (λ s. moved_by d (told knows s)) (cut_end p))
tail_moves knows zero p q (b ∷ r) d e =
    ap (told knows) (cut_left q (b ∷ r) (omega arith))
    ∙ ap (λ k. breaks (fault_at Leftover k)) e
    ∙ sym (ap (λ s. moved_by d (told knows s)) (cut_left p (b ∷ r) (omega arith)))
tail_moves knows (suc n) p q r d e =
    ⊎_elim
    (λ w.
    let m = w.0 in
    let rest = w.1.0 in
    let own = w.1.1.1 in
    let goal : List ℕ → Type 0 = λ t. told knows (cut_from (suc n) (length q) (q ++ t)) ≡ moved_by d (told knows (cut_from (suc n) (length p) (p ++ t))) in
    let long : length (q ++ m) ≡ length (p ++ m) + d = omega (arith, length-append q m, length-append p m) in
    let first = ap (understood knows m) e ∙ understood_moves knows m (length p) d in
    let later = tail_moves knows n (p ++ m) (q ++ m) rest d long in
    subst goal (sym w.1.1.0)
    (ap (told knows) (cut_step n q m rest own)
    ∙ (λ i. followed (first i) (later i))
    ∙ followed_moves d (understood knows m (length p)) (told knows (cut_from n (length (p ++ m)) ((p ++ m) ++ rest)))
    ∙ sym (ap (λ s. moved_by d (told knows s)) (cut_step n p m rest own))))
    (λ bad. ap (told knows) (cut_bad n q r (bad q)) ∙ ap (λ k. breaks (fault_at Length k)) e ∙ sym (ap (λ s. moved_by d (told knows s)) (cut_bad n p r (bad p))))
    (whole_or_not r)

grown_from : (knows : Types) (count : ℕ) (before : List (List ℕ)) (p p' m more after : List ℕ) (x : Sent) → length p' ≡ length p → AllOwn before → OwnLength m → understood knows m 0 ≡ Ok (meant x) → told knows (cut_from count (length p') (p' ++ (behind before ++ (grown m more ++ after)))) ≡ moved_after (suc (length before)) (length more) (told knows (cut_from count (length p) (p ++ (behind before ++ (m ++ after)))))
grown_from knows zero before p p' m more after x same all own e =
    let g = grown_own m more own in
    let long = length-append (behind before) (m ++ after) in
    let long' = length-append (behind before) (grown m more ++ after) in
    ap (told knows) (cut_left p' (behind before ++ (grown m more ++ after)) (omega (arith, length-append (grown m more) after, g.two)))
    ∙ ap (λ k. breaks (fault_at Leftover k)) same
    ∙ sym (ap (λ s. moved_after (suc (length before)) (length more) (told knows s)) (cut_left p (behind before ++ (m ++ after)) (omega (arith, length-append m after, own.two))))
grown_from knows (suc n) [] p p' m more after x same all own e =
    let g = grown m more in
    let d = length more in
    let long : length (p' ++ g) ≡ length (p ++ m) + d = omega (arith, length-append p' g, length-append p m, grown-length m more own) in
    ap (told knows) (cut_step n p' g after (grown_own m more own))
    ∙ (λ i. followed (grown_read knows m more (length p') x own e i) (tail_moves knows n (p ++ m) (p' ++ g) after d long i))
    ∙ sym (ap (λ s. moved_after 1 d (told knows s)) (cut_step n p m after own) ∙ ap (λ r. moved_after 1 d (followed r (told knows (cut_from n (length (p ++ m)) ((p ++ m) ++ after))))) (read_anywhere knows m (length p) x e))
grown_from knows (suc n) (b ∷ bs) p p' m more after x same all own e =
    let g = grown m more in
    let d = length more in
    let k = suc (length bs) in
    let next : length (p' ++ b) ≡ length (p ++ b) = omega (arith, length-append p' b, length-append p b) in
    let later = grown_from knows n bs (p ++ b) (p' ++ b) m more after x next all.1 own e in
    ap (λ t. told knows (cut_from (suc n) (length p') (p' ++ t))) (append_assoc b (behind bs) (g ++ after))
    ∙ ap (told knows) (cut_step n p' b (behind bs ++ (g ++ after)) all.0)
    ∙ (λ i. followed (understood knows b (same i)) (later i))
    ∙ followed-after k d (understood knows b (length p)) (told knows (cut_from n (length (p ++ b)) ((p ++ b) ++ (behind bs ++ (m ++ after)))))
    ∙ sym (ap (λ s. moved_after (suc k) d (told knows s)) (cut_step n p b (behind bs ++ (m ++ after)) all.0))
    ∙ sym (ap (λ t. moved_after (suc k) d (told knows (cut_from (suc n) (length p) (p ++ t)))) (append_assoc b (behind bs) (m ++ after)))

pub grown_frame : GrownAtItsEndReadsAsBefore
grown_frame knows count five before m more after x five-long all own e short =
    let g = grown m more in
    let old = behind before ++ (m ++ after) in
    let new = behind before ++ (g ++ after) in
    let more-long : length old ≤ length new = omega (arith, length-append (behind before) (m ++ after), length-append (behind before) (g ++ after), length-append m after, length-append g after, grown-length m more own) in
    let p = head_of count five (length old) in
    let p' = head_of count five (length new) in
    ap (told knows) (open_frame count five new five-long short)
    ∙ grown_from knows count before p p' m more after x refl all own e
    ∙ sym (ap (λ s. moved_after (suc (length before)) (length more) (told knows s)) (open_frame count five old five-long (omega arith)))
