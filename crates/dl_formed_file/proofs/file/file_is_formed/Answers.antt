use Rattle.std.proofs.Common.{List, ap, sym, ◌∙◌}
use Rattle.dl_file.specs.declared.file.Proof.{Proof}
use Rattle.dl_faults.specs.Given.{are_once}
use Rattle.dl_formed_file.specs.Keys.{duties_in}
use Rattle.dl_formed_file.proofs.FileLemmas.{formed-where}
use Rattle.dl_formed_file.proofs.file.file_is_formed.Goals as goal

pub returns : goal.returns
returns c =
    formed-where c.names_are_right.result c.args.file.now c.names_are_right.ensures
    (sym c.is_deployed.ensures ∙ c.if-not-is_deployed.false)
    (c.in_ok-is_formed.ensures.0 c.if-not-branch.false)
    (ap (λ (proofs : List Proof). are_once (duties_in proofs)) (sym c.as_slice.ensures) ∙ (sym c.in_ok-are_once.ensures ∙ c.if-not-branch-2.false))
