use Rattle.std.proofs.Common.{◌<◌, length, arith}
use Rattle.std.specs.List.{flat_map, enumerate_from}
use Rattle.dl_model.specs.Lookup.{deploy_of}
use Rattle.dl_faults.specs.Wrong.{earliest}
use Rattle.dl_faults.specs.Programs.{program_wrong}
use Rattle.dl_faults.proofs.Earliest.{seen-one}
use Rattle.dl_faults.proofs.programs.each_program_fault.Goals as goal

pub loop-n-preserved : goal.loop-n-preserved
loop-n-preserved c =
    let items = c.programs_of-program-items.result.now in
    let programs = (deploy_of c.args.file.now.decls).programs in
    let within : c.loop-n.n < length items = omega arith in
    seen-one (program_wrong c.args.file.now) items programs c.loop-n.n c.program-item.result c.program-item.result c.loop-n.found c.program_fault.result
    c.earlier_of-found.result (earliest (flat_map (program_wrong c.args.file.now) (enumerate_from 0 programs)))
    c.programs_of-program-items.ensures within c.program-item.is c.program_fault.ensures c.earlier_of-found.ensures c.loop-n.invariant
