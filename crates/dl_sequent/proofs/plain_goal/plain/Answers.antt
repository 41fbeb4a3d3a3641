use Rattle.std.proofs.Common.{◌≡◌, true, sym, ◌∙◌}
use Rattle.dl_sequent.proofs.Follows.{plain-valid}
use Rattle.dl_sequent.proofs.plain_goal.plain.Goals as goal

pub returns-clause-valid : goal.returns-clause-valid
returns-clause-valid c = λ clean h.
    let answer : c.is_plain_goal.result ≡ true = cc in
    plain-valid c.args.inst.now c.args.sequent.now clean (sym c.is_plain_goal.ensures ∙ answer)
