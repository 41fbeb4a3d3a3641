use Rattle.std.proofs.Common.{[], ◌∷◌}
use Rattle.dl_inv.specs.Obligations.{invariant_at}
use Rattle.dl_faults.specs.Shown.{label_and_tag, name}
use Rattle.dl_verdict.proofs.PartLemmas.{parts-done}
use Rattle.dl_verdict.proofs.parts.add_invariant_step.Goals as goal

pub returns : goal.returns
returns c =
    let file = c.args.file.now in
    let step = label_and_tag file c.args.label c.args.tag c.args.receive in
    parts-done c.add_label_and_tag.result c.args.parts.now c.add_name.new.parts c.add_label_and_tag.new.parts (name file c.invariant_sym.result ∷ []) step
    (name file (invariant_at file.decls c.args.invariant).sym ∷ step) (λ j. name file (c.invariant_sym.ensures j) ∷ step) c.in_ok-add_name.ensures c.add_label_and_tag.ensures
