use Rattle.std.proofs.Common.{sym, ◌∙◌}
use Rattle.dl_linear.proofs.Parts.{at-place}
use Rattle.dl_linear.proofs.Reading.{among-found, among-more}
use Rattle.dl_linear.proofs.form.is_among.Goals as goal

pub returns-then-same_term : goal.returns-then-same_term
returns-then-same_term c =
    let at = at-place c.args.terms.now c.loop-other.other-index c.other-item.result c.loop-other-test.true c.other-item.is in
    sym (among-found c.args.term.now c.args.terms.now c.loop-other.other-index c.other-item.result at (sym c.same_term.ensures ∙ c.if-same_term.true))

pub loop-other-preserved : goal.loop-other-preserved
loop-other-preserved c =
    let at = at-place c.args.terms.now c.loop-other.other-index c.other-item.result c.loop-other-test.true c.other-item.is in
    among-more c.args.term.now c.args.terms.now c.loop-other.other-index c.other-item.result c.loop-other.invariant at (sym c.same_term.ensures ∙ c.if-same_term.false)
