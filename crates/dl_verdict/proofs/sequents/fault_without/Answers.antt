use Rattle.std.proofs.Common.{◌≡◌, Err, List, ℕ, true, ap, sym, subst, ◌∙◌}
use Rattle.dl_model.specs.declared.sequent.Sequent.{Sequent}
use Rattle.dl_sequent.specs.Plain.{is_plain_sequent}
use Rattle.dl_sequent.specs.Sizes.{is_too_large}
use Rattle.dl_faults.specs.declared.wrong.Named.TheVariants.{Obligation}
use Rattle.dl_faults.specs.Wrong.{naming, unless}
use Rattle.dl_faults.specs.Whole.{sequent_of}
use Rattle.dl_faults.specs.Obligations.{duty_place, spare_names}
use Rattle.dl_faults.proofs.Proved.{spare-taken}
use Rattle.dl_verdict.proofs.Judged.{found-large, found-small}
use Rattle.dl_verdict.specs.Code.{CanBuild}
use Rattle.dl_verdict.proofs.sequents.fault_without.Goals as goal

pub build-requires-clause-small : goal.build-requires-clause-small
build-requires-clause-small c = c.requires.formed.decls.small

pub build-requires-clause-can : goal.build-requires-clause-can
build-requires-clause-can c =
    let file = c.args.known.now.file.now in
    subst (CanBuild file.decls c.args.duty) (sym (c.as_slice.ensures ∙ c.in_ok-names.ensures)) (c.requires.built (spare_names file c.args.duty) (spare-taken file c.requires.formed c.args.duty))

pub returns-in-Ok : goal.returns-in-Ok
returns-in-Ok c =
    let file = c.args.known.now.file.now in
    let names = c.as_slice.ensures ∙ c.in_ok-names.ensures in
    found-small file c.args.duty c.in-Ok.sequent (sequent_of file.decls c.args.duty (spare_names file c.args.duty))
    (λ (s : Sequent). unless (is_plain_sequent s) (naming 30 (duty_place file c.args.duty) (Obligation c.args.duty))) c.unproved_fault.result
    (c.in-Ok.ensures.made ∙ ap (sequent_of file.decls c.args.duty) names) c.in-Ok.ensures.small c.unproved_fault.ensures

pub returns : goal.returns
returns c =
    let file = c.args.known.now.file.now in
    let names = c.as_slice.ensures ∙ c.in_ok-names.ensures in
    let s = sequent_of file.decls c.args.duty (spare_names file c.args.duty) in
    found-large file c.args.duty s (unless (is_plain_sequent s) (naming 30 (duty_place file c.args.duty) (Obligation c.args.duty))) c.in-Err.fault c.not_built.result
    (λ e. subst (λ (ns : List ℕ). is_too_large (sequent_of file.decls c.args.duty ns) ≡ true) names (c.in-Err.ensures.limit (ap Err e))) c.not_built.ensures
