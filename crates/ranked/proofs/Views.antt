-- How many entries a ranked list has, and where they stand.
use Rattle.std.proofs.Common.{◌≡◌, ℕ, ◌<◌, ◌≤◌, length, Some, None, sym, ◌∙◌, ⊎_elim, arith}
use Rattle.std.specs.List.{slice_get}
use Rattle.std.proofs.lemmas.List.{length-take-le}
use Rattle.std.proofs.lemmas.Option.{slice_get_within, slice_get_cases}
use Rattle.ranked.specs.declared.list.RankedList.{RankedList}
use Rattle.ranked.specs.View.{entries, count}

module _ {X : Type 0} {r : _} (l : RankedList X r) where
  pub length-entries : length (entries l) ≡ count l
  length-entries = length-take-le l.len l.places.now (omega (arith, l.fits))

  pub stands : (at : ℕ) (x : X) → Some x ≡ slice_get (entries l) at → at < count l
  stands at x e = omega (arith, slice_get_within (entries l) at x (sym e), length-entries)

  -- also among the places
  pub stands_in : (at : ℕ) (x : X) → Some x ≡ slice_get (entries l) at → at < length l.places.now
  stands_in at x e = omega (arith, stands at x e, l.fits)

  pub stands_not : (at : ℕ) → None ≡ slice_get (entries l) at → count l ≤ at
  stands_not at e = ⊎_elim (λ p. absurd (let q = e ∙ p.2 in cc)) (λ p. omega (arith, p.0, length-entries)) (slice_get_cases (entries l) at).1
