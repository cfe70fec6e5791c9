-- A buffer's frame, read and grown.
use Rattle.std.proofs.Common.{◌≡◌, ℕ, suc, ◌+◌, ◌*◌, ◌^◌, ◌<◌, ◌≤◌, Bool, true, false, cond, ltb, leb, List, [], ◌∷◌, ◌++◌, map, length, take, drop, Some, None, Option, sym, refl, ap, ◌∙◌, subst, append_assoc, append-nil, arith, length-append}
use Rattle.std.proofs.lemmas.List.{take-append-drop, take_at, length_push, length-take-le, length-drop}
use Rattle.std.proofs.lemmas.Bool.{cond-true, le-leb, lt-ltb, and_from}
use Rattle.feed.specs.Bytes.{bytes}
use Rattle.feed.specs.Layouts.{every_type}
use Rattle.feed.specs.Frames.{saying, frame_says}
use Rattle.feed.specs.Sending.{Sent, sent_update, sent_summary, meant, encoded, size_of, fit, Fit, InWidths, AllFit, behind, frame_of, laid}
use Rattle.feed.proofs.Lays.{encoded_size}
use Rattle.feed_laws.proofs.Numbers.{le_bytes}
use Rattle.feed_laws.proofs.Walks.{written_trip}
use Rattle.writer.specs.Writing.{length_in, count_in, frame_in, has_room, refusal, extended, written, written_all, empty_frame, begun, Holds, sent_after}
use Rattle.writer.specs.declared.refusal.Refusal.{Refusal}
use Rattle.writer.specs.declared.refusal.Refusal.TheVariants.{NoRoom, Unfit}
use Rattle.writer.proofs.Extends.{room, taken}

abbrev zeros : List ℕ
zeros = 0 ∷ 0 ∷ 0 ∷ 0 ∷ 0 ∷ []

behind-append : (xs ys : List Sent) → behind (map encoded (xs ++ ys)) ≡ behind (map encoded xs) ++ behind (map encoded ys)
behind-append [] ys = refl
behind-append (x ∷ xs) ys = ap (λ t. encoded x ++ t) (behind-append xs ys) ∙ sym (append_assoc (encoded x) (behind (map encoded xs)) (behind (map encoded ys)))

body_push : (ms : List Sent) (m : Sent) → behind (map encoded (ms ++ m ∷ [])) ≡ behind (map encoded ms) ++ encoded m
body_push ms m = behind-append ms (m ∷ []) ∙ ap (λ t. behind (map encoded ms) ++ t) (append-nil (encoded m))

frame_length : (ms : List Sent) → length (frame_of ms) ≡ 8 + length (behind (map encoded ms))
unfolding frame_of
frame_length ms = omega arith

-- a buffer that begins with a frame of messages says its length and its count
says_length : (ms : List Sent) (r : List ℕ) → length (frame_of ms) < 2 ^ 16 → length_in (frame_of ms ++ r) ≡ length (frame_of ms)
unfolding frame_of
says_length ms r short = le_bytes 2 (8 + length (behind (map encoded ms))) (omega arith) ∙ sym (frame_length ms)

says_count : (ms : List Sent) (r : List ℕ) → count_in (frame_of ms ++ r) ≡ length ms
unfolding frame_of
says_count ms r = refl

begins_frame : (ms : List Sent) (r : List ℕ) → length (frame_of ms) < 2 ^ 16 → frame_in (frame_of ms ++ r) ≡ frame_of ms
begins_frame ms r short = ap (λ k. take k (frame_of ms ++ r)) (says_length ms r short) ∙ take_at (frame_of ms) r (length (frame_of ms)) refl

-- a buffer whose frame is that of ms begins with it
splits : (ms : List Sent) (b : List ℕ) → frame_in b ≡ frame_of ms → b ≡ frame_of ms ++ drop (length_in b) b
splits ms b is = sym (take-append-drop (length_in b) b) ∙ ap (λ t. t ++ drop (length_in b) b) is

-- bytes behind p, over what was there
lays_behind : (p r m : List ℕ) → laid (p ++ r) (length p) m ≡ p ++ (m ++ drop (length p + length m) (p ++ r))
unfolding laid
lays_behind p r m = ap (λ t. t ++ (m ++ drop (length p + length m) (p ++ r))) (take_at p r (length p) refl)

-- a new length and a new count, over those of a frame
lays_head : (ms : List Sent) (n count : ℕ) (r : List ℕ) → laid (frame_of ms ++ r) 0 (bytes 2 n ++ (count ∷ [])) ≡ bytes 2 n ++ (count ∷ (zeros ++ (behind (map encoded ms) ++ r)))
unfolding frame_of laid
lays_head ms n count r = refl

grows : (ms : List Sent) (m : Sent) (r : List ℕ) → bytes 2 (length (frame_of ms) + length (encoded m)) ++ ((length ms + 1) ∷ (zeros ++ (behind (map encoded ms) ++ (encoded m ++ r)))) ≡ frame_of (ms ++ m ∷ []) ++ r
unfolding frame_of
grows ms m r =
    let body = behind (map encoded ms) in
    let new = body_push ms m in
    let long : length (frame_of ms) + length (encoded m) ≡ 8 + length (behind (map encoded (ms ++ m ∷ []))) = omega (arith, frame_length ms, ap length new, length-append body (encoded m)) in
    let count = sym (length_push ms m) in
    ap (λ t. bytes 2 (length (frame_of ms) + length (encoded m)) ++ ((length ms + 1) ∷ (zeros ++ t))) (sym (append_assoc body (encoded m) r))
    ∙ (λ i. bytes 2 (long i) ++ (count i ∷ (zeros ++ (sym new i ++ r))))

-- one message more behind the frame of ms
extends_frame : (ms : List Sent) (m : Sent) (r : List ℕ) → length (frame_of ms) < 2 ^ 16 → extended (frame_of ms ++ r) (encoded m) ≡ frame_of (ms ++ m ∷ []) ++ drop (length (frame_of ms) + length (encoded m)) (frame_of ms ++ r)
unfolding extended
extends_frame ms m r short =
    let f = frame_of ms in
    let e = encoded m in
    let rest = drop (length f + length e) (f ++ r) in
    let long = says_length ms r short in
    let count = says_count ms r in
    (λ i. laid (laid (f ++ r) (long i) e) 0 (bytes 2 (long i + length e) ++ ((count i + 1) ∷ [])))
    ∙ ap (λ t. laid t 0 (bytes 2 (length f + length e) ++ ((length ms + 1) ∷ []))) (lays_behind f r e)
    ∙ lays_head ms (length f + length e) (length ms + 1) (e ++ rest)
    ∙ grows ms m rest

frame_push : (ms : List Sent) (m : Sent) → length (frame_of (ms ++ m ∷ [])) ≡ length (frame_of ms) + length (encoded m)
frame_push ms m =
    let long = ap length (body_push ms m) ∙ length-append (behind (map encoded ms)) (encoded m) in
    let old = frame_length ms in
    let new = frame_length (ms ++ m ∷ []) in
    omega arith

all_push : (ms : List Sent) (m : Sent) → AllFit ms → Fit m → AllFit (ms ++ m ∷ [])
all_push [] m all one = (one, tt)
all_push (x ∷ ms) m all one = (all.0, all_push ms m all.1 one)

holds_more : (ms : List Sent) (m : Sent) (b : List ℕ) → Holds ms b → has_room b (size_of m) ≡ true → Fit m → Holds (ms ++ m ∷ []) (extended b (encoded m))
holds_more ms m b h roomy one =
    let r = drop (length_in b) b in
    let e = encoded m in
    let is = splits ms b h.frame in
    let small = h.short in
    let says : length_in b ≡ length (frame_of ms) = ap length_in is ∙ says_length ms r (omega arith) in
    let most = (room b (size_of m) roomy).most in
    let same = encoded_size m in
    let long = frame_push ms m in
    let new = ap (λ t. extended t e) is ∙ extends_frame ms m r (omega arith) in
    let rest = drop (length (frame_of ms) + length e) (frame_of ms ++ r) in
    record {
      frame = ap frame_in new ∙ begins_frame (ms ++ m ∷ []) rest (omega arith);
      fits = all_push ms m h.fits one;
      short = omega arith;
    }

-- what is not refused has room and is fit
unrefused : (roomy fits : Bool) → None ≡ cond roomy (cond fits None (Some Unfit)) (Some NoRoom) → (roomy ≡ true) × (fits ≡ true)
unrefused true true e = (refl, refl)
unrefused true false e = cc
unrefused false fits e = cc

pub held : (ms : List Sent) (m : Sent) (b b' : List ℕ) (why : Option Refusal) → why ≡ refusal b m → b' ≡ written b m → (why ≡ None → InWidths m) → Holds ms b → Holds (sent_after why ms m) b'
held ms m b b' None is after widths h =
    let t = unrefused (has_room b (size_of m)) (fit m) is in
    let new = after ∙ ap (λ o. elim o [ None ↦ extended b (encoded m) | Some w ↦ b ]) (sym is) in
    subst (Holds (ms ++ m ∷ [])) (sym new) (holds_more ms m b h t.0 (record { fields = t.1; widths = widths refl }))
held ms m b b' (Some why) is after widths h = subst (Holds ms) (sym (after ∙ ap (λ o. elim o [ None ↦ extended b (encoded m) | Some w ↦ b ]) (sym is))) h

lays_first : (b : List ℕ) → laid b 0 empty_frame ≡ frame_of [] ++ drop 8 b
unfolding laid frame_of
lays_first b = refl

eight_long : length (frame_of []) ≡ 8
unfolding frame_of
eight_long = refl

-- a frame that was begun holds nothing
pub starts : (b : List ℕ) → 8 ≤ length b → Holds [] (laid b 0 empty_frame)
starts b able =
    let begins = lays_first b in
    let eight = eight_long in
    record { frame = ap frame_in begins ∙ begins_frame [] (drop 8 b) (omega arith); fits = tt; short = omega arith }

-- what a buffer holds is what its frame says
pub reads : (ms : List Sent) (b : List ℕ) → Holds ms b → frame_says every_type (frame_in b) ≡ saying (map meant ms)
reads ms b h = ap (frame_says every_type) h.frame ∙ written_trip ms h.fits h.short

longer : (xs ys : List Sent) → length (frame_of xs) ≤ length (frame_of (xs ++ ys))
longer xs ys =
    let all = ap length (behind-append xs ys) ∙ length-append (behind (map encoded xs)) (behind (map encoded ys)) in
    let old = frame_length xs in
    let new = frame_length (xs ++ ys) in
    omega arith

-- each message has 27 bytes at least, so that a frame's count stays small
message_long : (m : Sent) → 27 ≤ size_of m
message_long (sent_update u) = omega arith
message_long (sent_summary s) = omega arith

messages_long : (ms : List Sent) → 27 * length ms ≤ length (behind (map encoded ms))
messages_long [] = omega arith
messages_long (m ∷ ms) =
    let one = message_long m in
    let same = encoded_size m in
    let others = messages_long ms in
    let all = length-append (encoded m) (behind (map encoded ms)) in
    let more : 27 * suc (length ms) ≡ 27 * length ms + 27 = omega arith in
    omega arith

-- where the longer frame fits, there is room
has_room_lem : (ms : List Sent) (m : Sent) (b : List ℕ) → Holds ms b → length (frame_of ms) + length (encoded m) ≤ 1500 → length (frame_of ms) + length (encoded m) ≤ length b → has_room b (size_of m) ≡ true
has_room_lem ms m b h most within =
    let r = drop (length_in b) b in
    let n = size_of m in
    let same = encoded_size m in
    let is = splits ms b h.frame in
    let small = h.short in
    let says : length_in b ≡ length (frame_of ms) = ap length_in is ∙ says_length ms r (omega arith) in
    let counts : count_in b ≡ length ms = ap count_in is ∙ says_count ms r in
    let eight = frame_length ms in
    let few = messages_long ms in
    and_from (leb 8 (length_in b)) _ (le-leb 8 (length_in b) (omega arith))
    (and_from (ltb (count_in b) 255) _ (lt-ltb (count_in b) 255 (omega arith))
    (and_from (leb (length_in b + n) 1500) (leb (length_in b + n) (length b)) (le-leb (length_in b + n) 1500 (omega arith)) (le-leb (length_in b + n) (length b) (omega arith))))

-- writing into a buffer does not change its length
length-laid : (b : List ℕ) (place : ℕ) (m : List ℕ) → place + length m ≤ length b → length (laid b place m) ≡ length b
unfolding laid
length-laid b place m within =
    let front = length-take-le place b (omega arith) in
    let back = length-drop (place + length m) b in
    omega (arith, length-append (take place b) (m ++ drop (place + length m) b), length-append m (drop (place + length m) b))

length-extended : (b m : List ℕ) → 8 ≤ length b → length_in b + length m ≤ length b → length (extended b m) ≡ length b
unfolding extended
length-extended b m eight within =
    let one = length-laid b (length_in b) m within in
    length-laid (laid b (length_in b) m) 0 _ (omega arith) ∙ one

takes_all : (ms done : List Sent) (b : List ℕ) → Holds done b → AllFit ms → length (frame_of (done ++ ms)) ≤ 1500 → length (frame_of (done ++ ms)) ≤ length b → Holds (done ++ ms) (written_all b ms)
takes_all [] done b h fits most within = subst (λ t. Holds t b) (sym (append-nil done)) h
takes_all (m ∷ ms) done b h fits most within =
    let e = encoded m in
    let parts = append_assoc done (m ∷ []) ms in
    let one = longer (done ++ m ∷ []) ms in
    let same = ap (λ t. length (frame_of t)) parts in
    let long = frame_push done m in
    let eight = frame_length done in
    let roomy = has_room_lem done m b h (omega arith) (omega arith) in
    let r = room b (size_of m) roomy in
    let within' = r.within in
    let type_size = encoded_size m in
    let next : written b m ≡ extended b e = ap (λ o. elim o [ None ↦ extended b e | Some w ↦ b ]) (sym (taken b m roomy fits.0.fields)) in
    let size = length-extended b e (omega arith) (omega arith) in
    let held_on = holds_more done m b h roomy fits.0 in
    subst (λ t. Holds t (written_all (written b m) ms)) parts
    (subst (λ t. Holds ((done ++ m ∷ []) ++ ms) (written_all t ms)) (sym next)
    (takes_all ms (done ++ m ∷ []) (extended b e) held_on fits.1 (omega arith) (omega arith)))

-- from the start, all messages whose frame fits are written
pub starts_all : (b : List ℕ) (ms : List Sent) → AllFit ms → length (frame_of ms) ≤ 1500 → length (frame_of ms) ≤ length b → Holds ms (written_all (begun b) ms)
starts_all b ms fits most within =
    let eight = frame_length ms in
    let able : 8 ≤ length b = omega arith in
    let head = eight_long in
    let size : length (laid b 0 empty_frame) ≡ length b = length-laid b 0 empty_frame able in
    subst (λ t. Holds ms (written_all t ms)) (sym (cond-true _ _ _ (le-leb 8 (length b) able)))
    (takes_all ms [] (laid b 0 empty_frame) (starts b able) fits most (omega arith))
