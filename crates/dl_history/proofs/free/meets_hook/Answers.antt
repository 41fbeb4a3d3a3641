use Rattle.std.proofs.Common.{◌≡◌, Some, None, sym, FitsSigned, rules}
use Rattle.std.specs.Prelude.{slice_get}
use Rattle.std.proofs.lemmas.Int.{to_z-of_z}
use mir.Syntax.{w64}
use Rattle.dl_history.proofs.Hooks.{hook-narrow, hook-met, no-hook-met}
use Rattle.dl_history.proofs.free.meets_hook.Goals as goal

pub meets_found-requires : goal.meets_found-requires
meets_found-requires c =
    let found : slice_get c.args.decls.now.hooks c.args.hook ≡ Some c.in-Some.found.now = search (rules, c.in-Some.ensures) in
    hook-narrow c.args.decls.now c.args.hook c.in-Some.found.now c.requires found

pub returns-in-Some : goal.returns-in-Some
returns-in-Some c =
    let fits : FitsSigned w64 c.args.to = search rules in
    let found : slice_get c.args.decls.now.hooks c.args.hook ≡ Some c.in-Some.found.now = search (rules, c.in-Some.ensures) in
    hook-met c.args.decls.now c.args.state.now.state c.args.node c.args.label c.args.tag c.args.to c.args.args.now c.args.hook c.in-Some.found.now c.meets_found.result found (simp to_z-of_z at c.meets_found.ensures)

pub returns-in-None : goal.returns-in-None
returns-in-None c =
    let none : slice_get c.args.decls.now.hooks c.args.hook ≡ None = search (rules, c.in-None.ensures) in
    sym (no-hook-met c.args.decls.now c.args.state.now.state c.args.node c.args.label c.args.tag c.args.to c.args.args.now c.args.hook none)
