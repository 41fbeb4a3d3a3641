use Rattle.std.proofs.Common.{◌≡◌, ◌++◌, List, ℕ, inl, inr, sym, ◌∙◌, ap}
use Rattle.dl_term.specs.Syntax.{opened}
use Rattle.dl_term.specs.declared.syntax.Formula.{Formula}
use Rattle.dl_model.specs.Spoken.{labels_of}
use Rattle.dl_world.specs.Framed.{labels_apart}
use Rattle.dl_world.proofs.Framing.{both-apart}
use Rattle.dl_world.proofs.frame.+check_formula.Goals as goal

pub returns-in-And : goal.returns-in-And
unfolding opened
returns-in-And t c =
    let labels : List ℕ = c.args.labels.now in
    let left = c.check_formula-in-And.ensures ∙ ap (λ (f : Formula). labels_apart labels (labels_of f)) c.get-in-And.ensures in
    let right = c.check_formula-in-And-2.ensures ∙ ap (λ (f : Formula). labels_apart labels (labels_of f)) c.get-in-And-2.ensures in
    let out : c.and-in-And.result ≡ labels_apart labels (labels_of c.in-And.left ++ labels_of c.in-And.right) =
    both-apart labels (labels_of c.in-And.left) (labels_of c.in-And.right) _ _ c.and-in-And.result left right c.and-in-And.ensures in
    elim c.in-And.is [
      | inl e ↦ out ∙ sym (ap (λ (f : Formula). labels_apart labels (labels_of f)) e)
      | inr k ↦ elim k [
        | inl e ↦ out ∙ sym (ap (λ (f : Formula). labels_apart labels (labels_of f)) e)
        | inr e ↦ out ∙ sym (ap (λ (f : Formula). labels_apart labels (labels_of f)) e)
      ]
    ]
