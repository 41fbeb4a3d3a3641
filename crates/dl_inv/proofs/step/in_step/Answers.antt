use Rattle.std.proofs.Common.{◌≡◌, ◌∷◌, ap, ◌∙◌}
use Rattle.dl_model.specs.Words.{me_word}
use Rattle.dl_subst.specs.Substitution.{terms_put}
use Rattle.dl_inv.proofs.Building.{where-ok}
use Rattle.dl_inv.proofs.step.in_step.Goals as goal

pub returns : goal.returns
returns c =
    where-ok c.put_terms.result (λ made. made ≡ terms_put c.args.formula.now c.as_slice.result.now c.args.terms.now c.args.label)
    (λ made. made ≡ terms_put c.args.formula.now (me_word ∷ c.args.word ∷ c.args.args.now) c.args.terms.now c.args.label) c.put_terms.ensures
    (λ made e. e ∙ ap (λ xs. terms_put c.args.formula.now xs c.args.terms.now c.args.label) (c.as_slice.ensures ∙ c.in_ok-names.ensures))
