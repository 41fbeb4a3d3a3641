use Rattle.std.proofs.Common.{◌≡◌, ◌∷◌, ap, ◌∙◌}
use Rattle.dl_term.specs.declared.syntax.Lab.TheVariants.{At}
use Rattle.dl_model.specs.Words.{me_word, to_word}
use Rattle.dl_subst.specs.Substitution.{terms_put}
use Rattle.dl_inv.specs.Code.{hook_put}
use Rattle.dl_inv.proofs.Building.{where-ok}
use Rattle.dl_inv.proofs.hooks.in_send.Goals as goal

pub returns : goal.returns
returns c =
    let send = c.args.send.now in
    let hook = c.args.hook.now in
    where-ok c.in_step.result (λ made. made ≡ terms_put hook.formula (me_word ∷ to_word ∷ c.as_slice.result.now) send.terms.now (At send.label))
    (λ made. made ≡ hook_put (At send.label) send.terms.now hook) c.in_step.ensures
    (λ made e. e ∙ ap (λ xs. terms_put hook.formula (me_word ∷ to_word ∷ xs) send.terms.now (At send.label)) c.as_slice.ensures)
