-- What is given for a soup with mail.
use Rattle.std.proofs.Common.{◌≡◌, ℤ, pos, [], ◌∷◌, false, refl, sym, subst, arith}
use Rattle.std.proofs.lemmas.List.Elements.{All-cons, All-nil}
use Rattle.std.specs.List.{All}
use Rattle.dl_term.specs.Syntax.{opened}
use Rattle.dl_model.specs.declared.protocol.Instances.{Instances}
use Rattle.dl_model.specs.declared.history.Call.TheVariants as call
use Rattle.dl_model.specs.Examples.{mail}
use Rattle.dl_model.specs.Formed.{InstancesAreFormed}
use Rattle.dl_model.proofs.Examples.{mail-formed}
use Rattle.dl_state.specs.declared.shape.Shape.{Shape}
use Rattle.dl_state.specs.Shapes.{IsFilled}
use Rattle.dl_proto.proofs.FirstShape.{first-shaped}
use Rattle.dl_soup.specs.Given.{CallIsGiven, ShapeIsGiven}

abbrev pub mail_shape : Shape
mail_shape = record { nodes = 2; labels = (record { row = false; first = pos 0 ∷ pos 0 ∷ [] } ∷ []) ∷ [] }

pub inst-formed : (inst : Instances) → inst ≡ (mail (pos 0)).inst → InstancesAreFormed inst
inst-formed inst e = subst InstancesAreFormed (sym e) mail-formed.inst

shape-filled : All (All (IsFilled 2)) mail_shape.labels
shape-filled =
    All-cons (All (IsFilled 2)) (record { row = false; first = pos 0 ∷ pos 0 ∷ [] } ∷ []) []
    (All-cons (IsFilled 2) (record { row = false; first = pos 0 ∷ pos 0 ∷ [] }) [] refl (All-nil (IsFilled 2)))
    (All-nil (All (IsFilled 2)))

mail-given : ShapeIsGiven (mail (pos 0)).inst mail_shape
unfolding opened
mail-given = record { filled = shape-filled; shaped = first-shaped (mail (pos 0)).inst }

pub shape-given : (inst : Instances) (shape : Shape) → inst ≡ (mail (pos 0)).inst → shape ≡ mail_shape → ShapeIsGiven inst shape
shape-given inst shape e f =
    subst (λ (i : Instances). ShapeIsGiven i shape) (sym e) (subst (λ (s : Shape). ShapeIsGiven (mail (pos 0)).inst s) (sym f) mail-given)

send-given : (number : ℤ)
    → CallIsGiven (mail (pos 0)).inst 0 (call.Send 0 0 (pos 1) (record { count = 1; values = number ∷ pos 0 ∷ pos 0 ∷ pos 0 ∷ pos 0 ∷ pos 0 ∷ pos 0 ∷ pos 0 ∷ [] }))
send-given number = record { label = omega arith; tag = omega arith; node = omega arith; args = refl }

pub sent-given : (inst : Instances) (number : ℤ) → inst ≡ (mail (pos 0)).inst
    → CallIsGiven inst 0 (call.Send 0 0 (pos 1) (record { count = 1; values = number ∷ pos 0 ∷ pos 0 ∷ pos 0 ∷ pos 0 ∷ pos 0 ∷ pos 0 ∷ pos 0 ∷ [] }))
sent-given inst number e =
    subst (λ (i : Instances). CallIsGiven i 0 (call.Send 0 0 (pos 1) (record { count = 1; values = number ∷ pos 0 ∷ pos 0 ∷ pos 0 ∷ pos 0 ∷ pos 0 ∷ pos 0 ∷ pos 0 ∷ [] }))) (sym e)
    (send-given number)
