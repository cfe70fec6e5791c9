-- What stands at a place of a list, and what a replacement there does.
use Rattle.std.proofs.Common.{◌≡◌, ℕ, zero, suc, ◌<◌, Bool, true, cond, List, [], ◌∷◌, take, set, is_some, Some, None, Option, sym, refl, ap, ◌∙◌}
use lib.Seq.{take-set-lt}
use Rattle.std.specs.List.{remove, slice_get}
use Rattle.std.proofs.lemmas.Bool.{cond-true}
use Rattle.ranked.specs.Order.{level, if_level, replaceable, replaced}

-- past the end a removal takes nothing out
pub removed_none : {X : Type 0} (xs : List X) (i : ℕ) → None ≡ slice_get xs i → remove xs i ≡ xs
removed_none [] zero e = refl
removed_none [] (suc i) e = refl
removed_none (x ∷ xs) zero e = absurd cc
removed_none (x ∷ xs) (suc i) e = ap (λ ys. x ∷ ys) (removed_none xs i e)

module _ {X : Type 0} (b : X → X → Bool) (n : ℕ) (s : List X) (at : ℕ) (x y : X) where
  level_there : Some y ≡ slice_get (take n s) at → level b y x ≡ true → replaceable b (take n s) at x ≡ Some y
  level_there e t = sym (ap (if_level b x) e) ∙ cond-true (level b y x) (Some y) None t

  -- x takes the place of an entry that is level with it
  pub replaced_there : at < n → Some y ≡ slice_get (take n s) at → level b y x ≡ true → take n (set s at x) ≡ replaced b (take n s) at x
  replaced_there lt e t =
      take-set-lt n s at x lt ∙ sym (ap (λ (o : Option X). cond (is_some o) (set (take n s) at x) (take n s)) (level_there e t))
