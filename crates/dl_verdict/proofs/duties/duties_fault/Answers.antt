use Rattle.std.proofs.Common.{◌≡◌, IfOk, ap, sym, subst, ◌∙◌}
use Rattle.std.specs.List.{flat_map}
use Rattle.dl_faults.specs.Whole.{duties_of}
use Rattle.dl_file.specs.declared.file.File.{File}
use Rattle.dl_faults.specs.Wrong.{earliest}
use Rattle.dl_faults.specs.Obligations.{duty_wrong}
use Rattle.dl_faults.specs.Given.{FileIsFormed}
use Rattle.dl_verdict.proofs.duties.duties_fault.Goals as goal

pub each_duty_fault-found-requires-clause-formed : goal.each_duty_fault-found-requires-clause-formed
each_duty_fault-found-requires-clause-formed c = subst FileIsFormed (sym c.in_ok-known.ensures.file) c.requires.formed

pub each_duty_fault-found-requires-clause-all : goal.each_duty_fault-found-requires-clause-all
each_duty_fault-found-requires-clause-all c = c.requires.all ∙ ap (λ (f : File). duties_of f.decls) (sym c.in_ok-known.ensures.file)

pub returns : goal.returns
returns c =
    subst (λ (f : File). IfOk c.each_duty_fault-found.result (λ found. found ≡ earliest (flat_map (duty_wrong f) c.args.duties.now))) c.in_ok-known.ensures.file
    c.each_duty_fault-found.ensures
