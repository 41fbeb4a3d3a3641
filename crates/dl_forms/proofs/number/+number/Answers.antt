use Rattle.std.proofs.Common.{rules, ◌≡◌, ◌<◌, ◌∙◌, length, get_or}
use Rattle.dl_forms.proofs.NamingLemmas.{left_step}
use Rattle.dl_forms.proofs.TableLemmas.{extends-step}
use Rattle.dl_forms.proofs.number.+number.Goals as goal

pub number_parts-returns-in_err-number_names-clause-kept : goal.number_parts-returns-in_err-number_names-clause-kept
number_parts-returns-in_err-number_names-clause-kept t c = extends-step _ _ _ c.loop-i.invariant.1 c.number_names.ensures.kept

pub number_parts-loop-i-preserved : goal.number_parts-loop-i-preserved
number_parts-loop-i-preserved t c =
    let few : c.loop-i.i < length c.args.form.now = search rules in
    let few' : c.loop-i.i < length c.args.parts.now = search rules in
    let is : c.index-parts-i.result ≡ get_or c.args.parts.now c.loop-i.i c.index-parts-i.result = search rules in (
      rw c.in_ok-number_names.ensures.numbered (left_step c.loop-i.names c.args.form.now c.args.parts.now c.loop-i.i _ c.index-parts-i.result few few' is ∙ c.loop-i.invariant.0),
      extends-step _ _ _ c.loop-i.invariant.1 c.number_names.ensures.kept,
    )
