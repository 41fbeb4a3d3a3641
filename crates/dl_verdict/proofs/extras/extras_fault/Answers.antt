use Rattle.std.proofs.Common.{List, [], map, ap, ◌∙◌}
use Rattle.std.specs.List.{flat_map}
use Rattle.dl_sequent.specs.declared.duty.Duty.{Duty}
use Rattle.dl_file.specs.declared.file.Proof.{Proof}
use Rattle.dl_faults.specs.Wrong.{earliest}
use Rattle.dl_verdict.specs.Keys.{key_of, with_keys}
use Rattle.dl_verdict.specs.Code.{extra_by_keys}
use Rattle.dl_verdict.proofs.ExtraLemmas.{each-told}
use Rattle.dl_verdict.proofs.extras.extras_fault.Goals as goal

pub returns : goal.returns
returns c =
    let file = c.args.file.now in
    let keys = c.in_ok-keys.keys.keys in
    let all = c.in_ok-keys.ensures ∙ ap (λ (duties : List Duty). with_keys [] (map key_of duties)) c.requires in
    c.each_extra_fault.ensures
    ∙ ap earliest (ap (λ (proofs : List Proof). flat_map (extra_by_keys keys) proofs) c.as_slice.ensures ∙ each-told file keys all file.proofs)
