use Rattle.std.proofs.Common.{◌≡◌}
use Rattle.dl_kernel.specs.Outcome.{fault}
use Rattle.dl_faults.specs.Wrong.{earliest}
use Rattle.dl_faults.specs.Obligations.{script_wrong}
use Rattle.dl_verdict.specs.Code.{IsRefusedAs}
use Rattle.dl_verdict.proofs.Judged.{told-so, refusal-told}
use Rattle.dl_verdict.proofs.sequents.script_fault.Goals as goal

pub returns-in-Err : goal.returns-in-Err
returns-in-Err c =
    let first = fault c.args.inst.now c.args.script.now.rule c.args.script.now.place c.args.sequent in
    told-so (IsRefusedAs c.in-Err.fault) (λ found. found ≡ earliest (script_wrong first)) c.refused.result
    (λ found h. refusal-told c.in-Err.fault first found c.in-Err.ensures.refused h) c.refused.ensures
