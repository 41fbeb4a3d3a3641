-- Small facts on options, lists and tests.
use Rattle.std.proofs.Common.{◌≡◌, ℕ, zero, suc, Option, Some, None, List, [], ◌∷◌}
use Rattle.std.specs.Prelude.{slice_get, IfSome}
use Rattle.std.specs.Option.{option_map}
use Rattle.std.specs.List.{AllByRecursion as Each}

-- what holds of the value that an option is seen as
pub if-some : {B X : Type 0} (now : B → X) (P : X → Type 0) (o : Option B) (seen : Option X) → option_map now o ≡ seen → ((x : X) → seen ≡ Some x → P x) → IfSome o (λ b. P (now b))
if-some now P None seen e h = tt
if-some now P (Some b) seen e h = h (now b) cc

pub each-at : {X : Type 0} (P : X → Type 0) (xs : List X) (i : ℕ) (x : X) → Each P xs → slice_get xs i ≡ Some x → P x
each-at P [] i x h e = cc
each-at P (y ∷ ys) zero x h e = let same : y ≡ x = cc in rw (same) at h.0
each-at P (y ∷ ys) (suc i) x h e = each-at P ys i x h.1 e
