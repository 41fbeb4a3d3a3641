use Rattle.std.proofs.Common.{◌<◌, length, refl, arith}
use Rattle.std.specs.List.{flat_map}
use Rattle.std.proofs.lemmas.Option.{slice_get-get_or}
use Rattle.dl_faults.specs.Wrong.{earliest}
use Rattle.dl_faults.specs.Obligations.{duty_wrong}
use Rattle.dl_faults.proofs.Earliest.{followed-one}
use Rattle.dl_verdict.proofs.Judged.{built-there, clean-there}
use Rattle.dl_verdict.proofs.duties.each_duty_fault.Goals as goal

pub duty_fault-requires-clause-clean : goal.duty_fault-requires-clause-clean
duty_fault-requires-clause-clean c =
    let duties = c.args.duties.now in
    let i = c.loop-duty.duty-index in
    let within : i < length duties = omega arith in
    clean-there c.args.known.now.file.now.decls c.requires.formed.decls duties i _ c.requires.all (slice_get-get_or duties i _ within)

pub duty_fault-requires-clause-built : goal.duty_fault-requires-clause-built
duty_fault-requires-clause-built c =
    let duties = c.args.duties.now in
    let i = c.loop-duty.duty-index in
    let within : i < length duties = omega arith in
    built-there c.args.known.now.file.now.decls c.requires.formed.decls duties i _ c.requires.all (slice_get-get_or duties i _ within)

pub loop-duty-preserved : goal.loop-duty-preserved
loop-duty-preserved c =
    let f = duty_wrong c.args.known.now.file.now in
    let duties = c.args.duties.now in
    let i = c.loop-duty.duty-index in
    let within : i < length duties = omega arith in
    followed-one f duties duties i _ _ c.loop-duty.found c.in_ok-one.one c.earlier_of-found.result (earliest (flat_map f duties))
    refl within refl c.in_ok-one.ensures c.earlier_of-found.ensures c.loop-duty.invariant
