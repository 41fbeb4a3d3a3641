use Rattle.std.proofs.Common.{◌<◌, ℤ, List, length, ap, sym, ◌∙◌, subst}
use Rattle.std.specs.List.{All}
use Rattle.std.proofs.lemmas.List.Elements.{All-push}
use Rattle.dl_model.specs.declared.program.Proc.{Proc}
use Rattle.dl_model.specs.Lookup.{proc_at}
use Rattle.dl_prog.specs.Ready.{ProcsCanRun}
use Rattle.dl_prog.proofs.FormedLemmas.{formed-run}
use Rattle.dl_nodes.specs.Players.{BareIsReady}
use Rattle.dl_nodes.proofs.BeginLemmas.{begun, begun-ready}
use Rattle.dl_nodes.proofs.FormedLemmas.{constants-count, program-formed}
use Rattle.dl_nodes.proofs.begin.begin_node.Goals as goal

pub make-requires-clause-can_run : goal.make-requires-clause-can_run
make-requires-clause-can_run c = subst ProcsCanRun (sym c.as_slice.ensures) (formed-run c.args.decls.now c.requires.formed)

pub make-requires-clause-proc : goal.make-requires-clause-proc
make-requires-clause-proc c =
    let program = c.in-Some.program.now in
    let formed = program-formed c.args.decls.now c.args.node program c.requires.formed (sym c.in-Some.ensures) in
    subst (λ (ps : List Proc). program.proc < length ps) (sym c.as_slice.ensures) formed.proc

pub make-requires-clause-args : goal.make-requires-clause-args
make-requires-clause-args c =
    let program = c.in-Some.program.now in
    let formed = program-formed c.args.decls.now c.args.node program c.requires.formed (sym c.in-Some.ensures) in
    ap (λ (vs : List ℤ). length vs) c.as_slice-2.ensures
    ∙ constants-count c.args.decls.now program formed
    ∙ ap (λ (ps : List Proc). length (proc_at ps program.proc).params) (sym c.as_slice.ensures)

pub returns-clause-ready : goal.returns-clause-ready
returns-clause-ready c =
    let decls = c.args.decls.now in
    let cont = c.in_ok-cont.cont in
    let here : BareIsReady decls.procs decls.inst 0 (begun c.args.node cont) =
    begun-ready decls c.args.node c.in-Some.program.now cont c.as_slice.result.now c.as_slice-2.result.now c.as_slice.ensures c.as_slice-2.ensures c.requires.formed c.requires.node c.in_ok-cont.ensures.ready c.in_ok-cont.ensures.machine in
    subst (All (BareIsReady decls.procs decls.inst 0)) (sym c.in_ok-push.ensures.items) (All-push (BareIsReady decls.procs decls.inst 0) c.args.nodes.now.items (begun c.args.node cont) c.requires.ready here)
