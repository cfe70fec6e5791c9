-- What is read on after a field.
use Rattle.std.proofs.Common.{◌≡◌, refl}
use Rattle.entry.specs.Fields.{Line, Reader, ◌then◌, on_ok}

-- one reader and then the next
pub then_is : {A B : Type 0} (first : Reader A) (next : A → Reader B) (line : Line) → (first then next) line ≡ on_ok (first line) next
unfolding ◌then◌
then_is first next line = refl
