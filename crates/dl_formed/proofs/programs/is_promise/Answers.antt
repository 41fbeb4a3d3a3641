use Rattle.std.proofs.Common.{◌≡◌, ◌++◌, List, ℕ, ◌∙◌, ap}
use Rattle.dl_model.specs.Lookup.{Parameter, arg_names}
use Rattle.dl_formed.specs.Known.{is_formula}
use Rattle.dl_formed.specs.Programs.{note_scope}
use Rattle.dl_formed.proofs.programs.is_promise.Goals as goal

pub returns : goal.returns
returns c =
    let are : c.as_slice-2.result.now ≡ c.args.words.now ++ arg_names c.args.proc.now.params =
    c.as_slice-2.ensures ∙ (c.in_ok-seen.ensures ∙ ap (λ (args : List Parameter). c.args.words.now ++ arg_names args) c.as_slice.ensures) in
    c.is_contract-formed.ensures ∙ ap (λ (variables : List ℕ). is_formula (note_scope c.args.decls.now variables) c.args.formula.now) are
