use Rattle.std.proofs.Common.{ap, ◌∙◌}
use Rattle.std.proofs.lemmas.List.{take_all}
use Rattle.dl_linear.specs.Forms.{all_sides}
use Rattle.dl_linear.specs.Seen.{all_seen}
use Rattle.dl_linear.proofs.LineLemmas.{formulas-said}
use Rattle.dl_linear.proofs.linearizer.lines_of.Goals as goal

pub returns-clause-meaning : goal.returns-clause-meaning
returns-clause-meaning c =
    let formulas = c.args.formulas.now in
    let whole = take_all c.loop-formula.formula-index formulas c.loop-formula-test.false in
    let same = ap all_seen c.as_slice.ensures.value ∙ c.loop-formula.invariant ∙ ap all_sides whole in
    formulas-said c.lines_of_sides.result (all_seen c.as_slice.result.now) formulas same c.lines_of_sides.ensures.meaning
