use Rattle.std.proofs.Common.{◌≡◌, ◌≤◌, List, length, sym, subst, arith}
use Rattle.std.specs.List.{All}
use Rattle.std.proofs.lemmas.Grind.{common_steps}
use Rattle.dl_model.specs.declared.program.Proc.{Proc}
use Rattle.dl_model.specs.declared.protocol.Instances.{Instances}
use Rattle.dl_prog.specs.Ready.{ProcsCanRun}
use Rattle.dl_prog.proofs.FormedLemmas.{formed-run}
use Rattle.dl_nodes.specs.declared.bare.Bare.{Bare}
use Rattle.dl_nodes.specs.Given.{ProcsAreGiven}
use Rattle.dl_nodes.specs.Players.{BareIsReady, left_to}
use Rattle.dl_nodes.proofs.BeginLemmas.{begun-budget, left-at-most, run-played}
use Rattle.dl_nodes.proofs.FormedLemmas.{procs-given}
use Rattle.dl_nodes.proofs.begin.play_out.Goals as goal

pub finish-requires-clause-can_run : goal.finish-requires-clause-can_run
finish-requires-clause-can_run c = subst ProcsCanRun (sym c.as_slice.ensures) (formed-run c.args.decls.now c.requires.formed)

pub finish-requires-clause-given : goal.finish-requires-clause-given
finish-requires-clause-given c =
    subst (λ (ps : List Proc). ProcsAreGiven c.args.soup.inst ps) (sym c.as_slice.ensures)
    (subst (λ (inst : Instances). ProcsAreGiven inst c.args.decls.now.procs) (sym c.requires.first.same_inst) (procs-given c.args.decls.now c.requires.formed))

pub finish-requires-clause-ready : goal.finish-requires-clause-ready
finish-requires-clause-ready c =
    subst (λ (ps : List Proc). All (BareIsReady ps c.args.soup.inst c.args.budget) c.as_mut_slice.result.now) (sym c.as_slice.ensures)
    (subst (λ (bs : List Bare). All (BareIsReady c.args.decls.now.procs c.args.soup.inst c.args.budget) bs) (sym c.as_mut_slice.ensures.value)
    (begun-budget c.args.decls.now c.args.soup.inst c.args.budget c.args.nodes.items c.requires.first.same_inst c.requires.ready))

pub finish-requires-clause-room : goal.finish-requires-clause-room
finish-requires-clause-room c =
    subst (λ (bs : List Bare). left_to c.args.budget bs ≤ c.args.soup.spare) (sym c.as_mut_slice.ensures.value) (left-at-most c.args.budget c.args.soup.spare c.args.nodes.items c.requires.room)

pub returns : goal.returns
returns c =
    let count : length c.finish.new.nodes ≡ c.args.nodes.len = grind (arith, common_steps) in
    run-played c.args.decls.now c.args.budget c.args.soup c.finish.new.soup c.args.nodes c.as_slice.result.now c.as_mut_slice.result.now c.finish.new.nodes c.as_slice.ensures c.as_mut_slice.ensures.value count
    c.requires.first c.requires.players c.finish.ensures
