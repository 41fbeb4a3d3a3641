use Rattle.std.proofs.Common.{◌≡◌, ◌∙◌, ap, List, ℕ, FitsSigned, rules}
use Rattle.std.specs.List.{list_all}
use Rattle.std.proofs.lemmas.Int.{to_z-of_z}
use mir.Syntax.{w64}
use Rattle.dl_history.specs.Taken.{hook_met}
use Rattle.dl_history.proofs.Hooks.{meets-all}
use Rattle.dl_history.proofs.free.meets_hooks.Goals as goal

pub returns : goal.returns
returns c =
    let fits : FitsSigned w64 c.args.to = search rules in
    let met = hook_met c.args.decls.now c.args.state.now.state c.args.node c.args.label c.args.tag c.args.to c.args.args.now in
    let all : c.meets_each.result ≡ list_all met c.hooks_of.result.now = simp to_z-of_z at c.meets_each.ensures in
    meets-all c.args.decls.now c.args.state.now.state c.args.node c.args.label c.args.tag c.args.to c.args.args.now c.meets_each.result
    (all ∙ ap (λ (hooks : List ℕ). list_all met hooks) c.hooks_of.ensures)
