-- One message: written and read, read and written, grown.
use Rattle.std.proofs.Common.{◌≡◌, ℕ, ◌+◌, List, [], ◌∷◌, ◌++◌, length, get_or, Ok, sym, refl, ap, ◌∙◌, arith, length-append}
use Rattle.std.proofs.lemmas.List.{get_or_append_left}
use Rattle.std.proofs.lemmas.Bool.{and_parts}
use Rattle.feed.specs.Bytes.{cells, AreBytes}
use Rattle.feed.specs.Layouts.{Types, type_of, every_type, understood, symbol_fit, letter_fit, update_of, summary_of}
use Rattle.feed.specs.Sending.{Sent, sent_update, sent_summary, meant, encoded, size_of, update_bytes, summary_bytes, Fit}
use Rattle.feed.proofs.Lays.{cells_whole}
use Rattle.feed_laws.specs.Laws.{OwnLength, grown, WritingWhatWasReadGivesTheSameBytes}
use Rattle.feed_laws.proofs.Numbers.{le_bytes, cells_again, cells_front}
use Rattle.feed_laws.proofs.Forms.{Tells, understood_tells, tells_understood}

-- what was written tells what was meant
pub written_tells : (x : Sent) → Fit x → Tells (encoded x) x
unfolding update_bytes summary_bytes
written_tells (sent_update u) h =
    let w = h.widths in
    let symbol = cells_whole u.symbol 8 w.symbol in
    let fits = and_parts (symbol_fit u.symbol) (letter_fit u.auction) h.fields in
    let offset = le_bytes 4 u.offset w.offset in
    let reference = le_bytes 8 u.reference w.reference in
    let buy = le_bytes 4 u.buy w.buy in
    let sell = le_bytes 4 u.sell w.sell in
    let indicative = le_bytes 8 u.indicative w.indicative in
    let only = le_bytes 8 u.auction_only w.auction_only in
    let bid = le_bytes 8 u.bid w.bid in
    let offer = le_bytes 8 u.offer w.offer in (
      record { kind = refl; long = omega arith; symbol = ap symbol_fit symbol ∙ fits.0; letter = fits.1 },
      (λ i. record { offset = offset i; symbol = symbol i; auction = u.auction; reference = reference i; buy = buy i; sell = sell i; indicative = indicative i; auction_only = only i; condition = u.condition; bid = bid i; offer = offer i }),
    )
written_tells (sent_summary s) h =
    let w = h.widths in
    let symbol = cells_whole s.symbol 8 w.symbol in
    let fits = and_parts (symbol_fit s.symbol) (letter_fit s.auction) h.fields in
    let offset = le_bytes 4 s.offset w.offset in
    let price = le_bytes 8 s.price w.price in
    let contracts = le_bytes 4 s.contracts w.contracts in (
      record { kind = refl; long = omega arith; symbol = ap symbol_fit symbol ∙ fits.0; letter = fits.1 },
      (λ i. record { offset = offset i; symbol = symbol i; auction = s.auction; price = price i; contracts = contracts i }),
    )

pub written_read : (x : Sent) (place : ℕ) → Fit x → understood every_type (encoded x) place ≡ Ok (meant x)
written_read x place h = tells_understood every_type (encoded x) place x refl (written_tells x h)

-- what was written begins with its own length
pub written_own : (x : Sent) → OwnLength (encoded x)
unfolding update_bytes summary_bytes
written_own (sent_update u) = record { two = omega arith; own = refl }
written_own (sent_summary s) = record { two = omega arith; own = refl }

rewritten : (m : List ℕ) (x : Sent) → AreBytes m → length m ≡ size_of x → get_or m 0 0 ≡ length m → Tells m x → encoded x ≡ m
unfolding update_bytes summary_bytes
rewritten m (sent_update u) all long own t =
    let offset = cells_again m 4 2 all in
    let reference = cells_again m 8 15 all in
    let buy = cells_again m 4 23 all in
    let sell = cells_again m 4 27 all in
    let indicative = cells_again m 8 31 all in
    let only = cells_again m 8 39 all in
    let bid = cells_again m 8 48 all in
    let offer = cells_again m 8 56 all in
    let first : get_or m 0 0 ≡ 64 = own ∙ long in
    ap update_bytes (sym t.1)
    ∙ (λ i. sym first i ∷ sym t.0.kind i ∷ (offset i ++ (cells 8 6 m ++ (get_or m 14 0 ∷ (reference i ++ (buy i ++ (sell i ++ (indicative i ++ (only i ++ (get_or m 47 0 ∷ (bid i ++ offer i)))))))))))
    ∙ cells_whole m 64 long
rewritten m (sent_summary s) all long own t =
    let offset = cells_again m 4 2 all in
    let price = cells_again m 8 15 all in
    let contracts = cells_again m 4 23 all in
    let first : get_or m 0 0 ≡ 27 = own ∙ long in
    ap summary_bytes (sym t.1)
    ∙ (λ i. sym first i ∷ sym t.0.kind i ∷ (offset i ++ (cells 8 6 m ++ (get_or m 14 0 ∷ (price i ++ contracts i)))))
    ∙ cells_whole m 27 long

pub same_bytes : WritingWhatWasReadGivesTheSameBytes
same_bytes m place x all long own e = rewritten m x all long own (understood_tells every_type m place x e).1

-- a message grown at its end tells the same
grown_tells : (n : ℕ) (body more : List ℕ) (k : ℕ) (x : Sent) → Tells (n ∷ body) x → Tells (k ∷ (body ++ more)) x
grown_tells n body more k (sent_update u) t =
    let p = t.0 in
    let same = cells_front body more 63 0 (omega (arith, p.long)) in (
      record { kind = ap (λ c. get_or c 0 0) same ∙ p.kind; long = omega (arith, length-append body more, p.long); symbol = ap (λ c. symbol_fit (cells 8 5 c)) same ∙ p.symbol; letter = ap (λ c. letter_fit (get_or c 13 0)) same ∙ p.letter },
      ap (λ c. update_of (0 ∷ c)) same ∙ t.1,
    )
grown_tells n body more k (sent_summary s) t =
    let p = t.0 in
    let same = cells_front body more 26 0 (omega (arith, p.long)) in (
      record { kind = ap (λ c. get_or c 0 0) same ∙ p.kind; long = omega (arith, length-append body more, p.long); symbol = ap (λ c. symbol_fit (cells 8 5 c)) same ∙ p.symbol; letter = ap (λ c. letter_fit (get_or c 13 0)) same ∙ p.letter },
      ap (λ c. summary_of (0 ∷ c)) same ∙ t.1,
    )

same_type : (n : ℕ) (body more : List ℕ) (x : Sent) → Tells (n ∷ body) x → type_of ((n + length more) ∷ (body ++ more)) ≡ type_of (n ∷ body)
same_type n body more (sent_update u) t = get_or_append_left body more 0 0 (omega (arith, t.0.long))
same_type n body more (sent_summary s) t = get_or_append_left body more 0 0 (omega (arith, t.0.long))

pub grown_read : (knows : Types) (m more : List ℕ) (place : ℕ) (x : Sent) → OwnLength m → understood knows m 0 ≡ Ok (meant x) → understood knows (grown m more) place ≡ Ok (meant x)
grown_read knows [] more place x own e = absurd (omega (arith, own.two))
grown_read knows (n ∷ body) more place x own e =
    let t = understood_tells knows (n ∷ body) 0 x e in
    let g = grown_tells n body more (n + length more) x t.1 in
    tells_understood knows (grown (n ∷ body) more) place x (ap knows (same_type n body more x t.1) ∙ t.0) g

pub read_anywhere : (knows : Types) (m : List ℕ) (place : ℕ) (x : Sent) → understood knows m 0 ≡ Ok (meant x) → understood knows m place ≡ Ok (meant x)
read_anywhere knows m place x e =
    let t = understood_tells knows m 0 x e in
    tells_understood knows m place x t.0 t.1

pub grown_own : (m more : List ℕ) → OwnLength m → OwnLength (grown m more)
grown_own [] more own = absurd (omega (arith, own.two))
grown_own (n ∷ body) more own = record { two = omega (arith, length-append body more, own.two); own = omega (arith, length-append body more, own.own) }

pub grown-length : (m more : List ℕ) → OwnLength m → length (grown m more) ≡ length m + length more
grown-length [] more own = absurd (omega (arith, own.two))
grown-length (n ∷ body) more own = omega (arith, length-append body more)
