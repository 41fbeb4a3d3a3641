use Rattle.std.proofs.Common.{◌∙◌, refl}
use Rattle.std.proofs.lemmas.Result.{err_from_is_err_and}
use Rattle.dl_tree.proofs.FaultLemmas.{run_is_plain, plain_token, number_too_big, other_word}
use Rattle.dl_tree.proofs.reader.leaf.Goals as goal

pub returns-in_err-name_of-in-Symbol-clause-fault : goal.returns-in_err-name_of-in-Symbol-clause-fault
returns-in_err-name_of-in-Symbol-clause-fault c =
    let p = err_from_is_err_and c.from_residual.result c.from_residual.ensures.1 in rw (p.1, p.2) (λ depth ts end pos. tt)

pub returns-in-TooBig-clause-fault : goal.returns-in-TooBig-clause-fault
returns-in-TooBig-clause-fault c depth ts end pos =
    plain_token depth c.args.word.now c.args.place ts end (run_is_plain c.args.word.now c.requires)
    ∙ rw (number_too_big depth c.args.word.now pos c.in-TooBig.ensures.0 c.in-TooBig.ensures.1) refl

pub returns-in-Other-clause-fault : goal.returns-in-Other-clause-fault
returns-in-Other-clause-fault c depth ts end pos =
    plain_token depth c.args.word.now c.args.place ts end (run_is_plain c.args.word.now c.requires)
    ∙ rw (other_word depth c.args.word.now c.in-Other.ensures.0 c.in-Other.ensures.1) refl
