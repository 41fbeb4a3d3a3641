use Rattle.std.proofs.Common.{◌≡◌, [], ◌∷◌, ◌++◌}
use Rattle.dl_faults.specs.Shown.{label_and_tag, name, way}
use Rattle.dl_verdict.proofs.PartLemmas.{parts-done, parts-then}
use Rattle.dl_verdict.proofs.parts.add_label_and_tag.Goals as goal

pub returns : goal.returns
returns c =
    let file = c.args.file.now in
    let old = c.args.parts.now in
    let first = name file c.label_sym.result in
    let second = name file c.tag_sym-sym.result in
    let last = way c.args.receive in
    let two : c.add_name-2.new.parts ≡ old ++ first ∷ second ∷ [] =
    parts-then old c.add_name.new.parts c.add_name-2.new.parts (first ∷ []) (second ∷ []) c.in_ok-add_name.ensures c.in_ok-add_name-2.ensures in
    parts-done c.add_way.result old c.add_name-2.new.parts c.add_way.new.parts (first ∷ second ∷ []) (last ∷ []) (label_and_tag file c.args.label c.args.tag c.args.receive)
    (λ j. name file (c.label_sym.ensures j) ∷ name file (c.tag_sym-sym.ensures j) ∷ last ∷ []) two c.add_way.ensures
