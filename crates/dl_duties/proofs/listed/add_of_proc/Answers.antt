use Rattle.std.proofs.Common.{◌≡◌, ◌++◌, ◌∷◌, [], List, sym, ◌∙◌, ap, arith}
use Rattle.dl_model.specs.declared.program.Command.{Command}
use Rattle.dl_model.specs.declared.program.Proc.{Proc}
use Rattle.dl_model.specs.Block.{block_of}
use Rattle.dl_sequent.specs.declared.duty.Duty.{Duty}
use Rattle.dl_sequent.specs.declared.duty.Duty.TheVariants.{Start}
use Rattle.dl_triples.specs.Commands.{points_of_commands, duties_of_commands}
use Rattle.dl_triples.specs.Duties.{duties_of_block, duties_of_proc, stability}
use Rattle.dl_inv.proofs.Listing.{joined, where-done}
use Rattle.dl_triples.proofs.Running.{commands-points, commands-duties}
use Rattle.dl_duties.proofs.listed.add_of_proc.Goals as goal

pub add_of_commands-requires-clause-few : goal.add_of_commands-requires-clause-few
add_of_commands-requires-clause-few c =
    let are = ap points_of_commands c.as_slice.ensures ∙ commands-points c.args.proc.now.body in
    omega (arith, are, c.requires.few)

pub returns : goal.returns
returns c =
    let decls = c.args.decls.now in
    let number = c.args.number in
    let proc = c.args.proc.now in
    let body : List Duty = duties_of_commands decls number 1 c.as_slice.result.now in
    let post : List Duty = stability decls number 0 proc.post in
    let first : c.add_of_commands.new.list ≡ c.args.list.now ++ (Start number ∷ body) =
    joined c.args.list.now (Start number ∷ []) body c.push.new.self c.add_of_commands.new.list c.in_ok-push.ensures.ok c.in_ok-add_of_commands.ensures.added in
    let same : body ≡ duties_of_block decls number 1 (block_of proc.body) =
    ap (λ (cs : List Command). duties_of_commands decls number 1 cs) c.as_slice.ensures ∙ commands-duties decls number 1 proc.body in
    let is : Start number ∷ (body ++ post) ≡ duties_of_proc decls number =
    ap (λ (xs : List Duty). Start number ∷ (xs ++ post)) same
    ∙ ap (λ (p : Proc). Start number ∷ (duties_of_block decls number 1 (block_of p.body) ++ stability decls number 0 p.post)) (sym c.requires.here) in
    where-done c.add_stability.result (c.add_stability.new.list ≡ c.add_of_commands.new.list ++ post) (c.add_stability.new.list ≡ c.args.list.now ++ duties_of_proc decls number) c.add_stability.ensures
    (λ e. joined c.args.list.now (Start number ∷ body) post c.add_of_commands.new.list c.add_stability.new.list first e ∙ ap (λ (xs : List Duty). c.args.list.now ++ xs) is)
