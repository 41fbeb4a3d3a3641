use Rattle.std.proofs.Common.{◌≡◌, ◌∷◌, [], List, ℕ, ◌∙◌, ap}
use Rattle.dl_model.specs.Words.{me_word, to_word}
use Rattle.dl_model.specs.Scopes.{hook_label}
use Rattle.dl_formed.specs.Known.{is_formula_of_step}
use Rattle.dl_formed.proofs.worlds.condition_is_formed.Goals as goal

pub returns : goal.returns
returns c =
    let are : c.as_slice-2.result.now ≡ me_word ∷ to_word ∷ c.args.hook.now.args =
    c.as_slice-2.ensures ∙ (c.in_ok-variables.ensures ∙ ap (λ (args : List ℕ). me_word ∷ to_word ∷ args) c.as_slice.ensures) in
    c.is_formula_of_step-formed.ensures
    ∙ ap (λ (variables : List ℕ). is_formula_of_step (record { protocol = hook_label c.args.inst.now c.args.hook.now; variables = variables; messages = [] }) c.args.hook.now.formula) are
