use Rattle.std.proofs.Common.{◌≡◌, ℕ, true, Err, List, ap, sym, subst, ◌∙◌}
use Rattle.dl_model.specs.declared.sequent.Sequent.{Sequent}
use Rattle.dl_sequent.specs.Clean.{IsClean}
use Rattle.dl_sequent.specs.Sizes.{is_too_large}
use Rattle.dl_kernel.specs.Outcome.{fault}
use Rattle.dl_faults.specs.Whole.{sequent_of}
use Rattle.dl_faults.specs.Obligations.{script_wrong}
use Rattle.dl_verdict.proofs.Judged.{found-large, found-small, proof-takes}
use Rattle.dl_verdict.specs.Code.{CanBuild}
use Rattle.dl_verdict.proofs.sequents.fault_with.Goals as goal

pub build-requires-clause-small : goal.build-requires-clause-small
build-requires-clause-small c = c.requires.formed.decls.small

pub build-requires-clause-can : goal.build-requires-clause-can
build-requires-clause-can c =
    let file = c.args.known.now.file.now in
    subst (CanBuild file.decls c.args.duty) (sym c.as_slice.ensures) (c.requires.built c.args.proof.now.names (proof-takes file c.requires.formed c.args.duty c.args.proof.now c.requires.proof))

pub script_fault-requires-clause-formed : goal.script_fault-requires-clause-formed
script_fault-requires-clause-formed c = c.requires.formed.decls.inst

pub script_fault-requires-clause-clean : goal.script_fault-requires-clause-clean
script_fault-requires-clause-clean c =
    let file = c.args.known.now.file.now in
    subst IsClean (sym (c.in-Ok.ensures.made ∙ ap (sequent_of file.decls c.args.duty) c.as_slice.ensures))
    (c.requires.clean c.args.proof.now.names (proof-takes file c.requires.formed c.args.duty c.args.proof.now c.requires.proof))

pub returns-in-Ok : goal.returns-in-Ok
returns-in-Ok c =
    let file = c.args.known.now.file.now in
    let proof = c.args.proof.now in
    found-small file c.args.duty c.in-Ok.sequent (sequent_of file.decls c.args.duty proof.names)
    (λ (s : Sequent). script_wrong (fault file.decls.inst proof.script.rule proof.script.place s)) c.script_fault.result
    (c.in-Ok.ensures.made ∙ ap (sequent_of file.decls c.args.duty) c.as_slice.ensures) c.in-Ok.ensures.small c.script_fault.ensures

pub returns-in-Err : goal.returns-in-Err
returns-in-Err c =
    let file = c.args.known.now.file.now in
    let proof = c.args.proof.now in
    let s = sequent_of file.decls c.args.duty proof.names in
    found-large file c.args.duty s (script_wrong (fault file.decls.inst proof.script.rule proof.script.place s)) c.in-Err.fault c.not_built.result
    (λ e. subst (λ (names : List ℕ). is_too_large (sequent_of file.decls c.args.duty names) ≡ true) c.as_slice.ensures (c.in-Err.ensures.limit (ap Err e))) c.not_built.ensures
