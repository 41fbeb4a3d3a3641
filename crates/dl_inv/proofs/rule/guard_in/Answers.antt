use Rattle.std.proofs.Common.{◌≡◌, ◌∷◌, ap, ◌∙◌}
use Rattle.std.specs.Prelude.{unwrap_or}
use Rattle.std.specs.Option.{option_copied}
use Rattle.dl_term.specs.declared.syntax.Formula.{False}
use Rattle.dl_model.specs.Lookup.{arg_names}
use Rattle.dl_model.specs.Words.{me_word}
use Rattle.dl_subst.specs.Substitution.{terms_put}
use Rattle.dl_inv.specs.Code.{guard_put}
use Rattle.dl_inv.proofs.Building.{where-ok}
use Rattle.dl_inv.proofs.rule.guard_in.Goals as goal

pub returns : goal.returns
returns c =
    let sight = c.args.sight.now in
    let guard : c.in-Some.guard.now ≡ unwrap_or (option_copied c.args.guard) False = cc (ap option_copied c.in-Some.is) in
    let names : c.as_slice.result.now ≡ arg_names sight.params.now = c.as_slice.ensures ∙ c.in_ok-names.ensures in
    let terms : c.as_slice-2.result.now ≡ sight.node.now ∷ sight.other.now ∷ sight.args.now = c.as_slice-2.ensures ∙ c.in_ok-terms.ensures in
    where-ok c.in_step.result (λ made. made ≡ terms_put c.in-Some.guard.now (me_word ∷ sight.word ∷ c.as_slice.result.now) c.as_slice-2.result.now sight.label)
    (λ made. made ≡ guard_put sight (unwrap_or (option_copied c.args.guard) False)) c.in_step.ensures
    (λ made e. e ∙ (λ i. terms_put (guard i) (me_word ∷ sight.word ∷ names i) (terms i) sight.label))
