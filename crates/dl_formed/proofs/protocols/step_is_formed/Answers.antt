use Rattle.std.proofs.Common.{◌≡◌, ◌∷◌, IfOk, List, ℕ, ◌∙◌, ap, subst}
use Rattle.dl_model.specs.Lookup.{Parameter, arg_names}
use Rattle.dl_model.specs.Words.{me_word}
use Rattle.dl_formed.specs.Decided.{own_scope, transition_is_formed}
use Rattle.dl_formed.proofs.protocols.step_is_formed.Goals as goal

pub returns : goal.returns
returns c =
    let are : c.as_slice-2.result.now ≡ me_word ∷ c.args.other ∷ arg_names c.args.tag.now.args =
    c.as_slice-2.ensures ∙ (c.in_ok-variables.ensures ∙ ap (λ (args : List Parameter). me_word ∷ c.args.other ∷ arg_names args) c.as_slice.ensures) in
    subst (λ (variables : List ℕ). IfOk c.transition_is_formed-formed.result (λ formed. formed ≡ transition_is_formed (own_scope c.args.protocol.now variables) c.args.step.now)) are
    c.transition_is_formed-formed.ensures
