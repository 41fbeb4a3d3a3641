use Rattle.std.proofs.Common.{◌<◌, ◌≤◌, ◌+◌, [], List, length, take, refl, sym, ◌∙◌, subst, arith}
use Rattle.std.specs.List.{AllZip}
use Rattle.std.proofs.lemmas.List.{take_all}
use Rattle.dl_model.specs.declared.file.Program.{Program}
use Rattle.dl_model.specs.Lookup.{deploy_of}
use Rattle.dl_model.specs.Formed.{ProgramIsFormed}
use Rattle.dl_proto.proofs.Options.{each-at}
use Rattle.dl_history.specs.Runners.{Runner}
use Rattle.dl_history.specs.Started.{IsStarted}
use Rattle.dl_history.proofs.Starting.{programs-formed}
use Rattle.dl_history.proofs.Telling.{found-item, zip-more}
use Rattle.dl_history.proofs.start.make_machines.Goals as goal

pub make_machine-requires-clause-program : goal.make_machine-requires-clause-program
make_machine-requires-clause-program c =
    let d = c.args.decls.now in
    let programs = c.programs_of-program-items.result.now in
    let i = c.loop-program.program-index in
    let within : i < length programs = omega arith in
    each-at (ProgramIsFormed d) (deploy_of d).programs i c.program-item.result (programs-formed d c.requires)
    (found-item programs (deploy_of d).programs i c.program-item.result c.programs_of-program-items.ensures within c.program-item.is)

pub loop-program-init : goal.loop-program-init
loop-program-init c = subst (λ (rs : List Runner). AllZip (IsStarted c.args.decls.now) [] rs) (sym c.new-machines.ensures) tt

pub loop-program-preserved : goal.loop-program-preserved
loop-program-preserved c =
    let d = c.args.decls.now in
    let programs = c.programs_of-program-items.result.now in
    let i = c.loop-program.program-index in
    let program = c.program-item.result in
    let within : i < length programs = omega arith in
    let new : Runner = record { 0 = program.node; 1 = c.in_ok-cont.cont } in
    let started : IsStarted d program new = record { node = refl; ready = c.in_ok-cont.ensures.ready; machine = c.in_ok-cont.ensures.machine } in
    subst (λ (rs : List Runner). AllZip (IsStarted d) (take (i + 1) programs) rs) (sym c.in_ok-push.ensures)
    (zip-more (IsStarted d) programs c.loop-program.machines i program new within c.program-item.is c.loop-program.invariant started)

pub returns : goal.returns
returns c =
    let d = c.args.decls.now in
    let programs = c.programs_of-program-items.result.now in
    let i = c.loop-program.program-index in
    let past : length programs ≤ i = omega arith in
    subst (λ (ps : List Program). AllZip (IsStarted d) ps c.loop-program.machines) (take_all i programs past ∙ c.programs_of-program-items.ensures) c.loop-program.invariant
