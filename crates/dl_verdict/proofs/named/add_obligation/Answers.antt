use Rattle.std.proofs.Common.{[], ◌∷◌}
use Rattle.dl_faults.specs.Shown.{word}
use Rattle.dl_verdict.specs.Parts.{head_of, rest_of}
use Rattle.dl_verdict.proofs.PartLemmas.{parts-done}
use Rattle.dl_verdict.proofs.named.add_obligation.Goals as goal

pub returns : goal.returns
returns c =
    let rest = rest_of c.args.file.now c.args.duty in
    parts-done c.add_rest.result c.args.parts.now c.add_word.new.parts c.add_rest.new.parts (word c.head_of.result.now ∷ []) rest (word (head_of c.args.duty) ∷ rest)
    (λ j. word (c.head_of.ensures.word j) ∷ rest) c.in_ok-add_word.ensures c.add_rest.ensures
