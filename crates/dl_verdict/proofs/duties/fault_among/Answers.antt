use Rattle.std.proofs.Common.{List, ap, ◌∙◌}
use Rattle.std.specs.List.{flat_map}
use Rattle.dl_sequent.specs.declared.duty.Duty.{Duty}
use Rattle.dl_faults.specs.Whole.{duties_of}
use Rattle.dl_faults.specs.Wrong.{earliest}
use Rattle.dl_faults.specs.Obligations.{duty_wrong, extra_wrong}
use Rattle.dl_faults.proofs.Stages.{both-parts}
use Rattle.dl_verdict.proofs.duties.fault_among.Goals as goal

pub returns : goal.returns
returns c =
    let file = c.args.file.now in
    both-parts (flat_map (duty_wrong file) (duties_of file.decls)) (flat_map (extra_wrong file) file.proofs)
    c.in_ok-of_duties.of_duties c.in_ok-of_extras.of_extras c.earlier_of.result
    (c.in_ok-of_duties.ensures ∙ ap (λ (duties : List Duty). earliest (flat_map (duty_wrong file) duties)) c.requires.all) c.in_ok-of_extras.ensures c.earlier_of.ensures
