use Rattle.std.proofs.Common.{◌≡◌, ℕ, List, ◌∙◌, ap}
use Rattle.dl_model.specs.Formed.{proc_variables}
use Rattle.dl_formed.specs.Programs.{Sight, has_body}
use Rattle.dl_formed.proofs.programs.has_body.Goals as goal

pub returns : goal.returns
returns c =
    let are : c.as_slice-2.result.now ≡ proc_variables c.args.proc.now = c.as_slice-2.ensures ∙ c.in_ok-variables.ensures in
    let seen : List ℕ → List ℕ → Sight = λ locals variables. record { decls = c.args.decls.now; number = c.args.number; locals = locals; variables = variables } in
    c.body_is_formed-formed.ensures
    ∙ (ap (λ (locals : List ℕ). has_body (seen locals c.as_slice-2.result.now) c.args.proc.now) c.as_slice.ensures
    ∙ ap (λ (variables : List ℕ). has_body (seen c.args.proc.now.locals variables) c.args.proc.now) are)
