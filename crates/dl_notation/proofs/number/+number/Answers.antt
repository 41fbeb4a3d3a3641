use Rattle.std.proofs.Common.{rules, ◌≡◌, ◌<◌, ◌∙◌, Some, sym, length, get_or}
use Rattle.dl_forms.proofs.TableLemmas.{extends-step}
use Rattle.dl_notation.specs.Parts.{role_at}
use Rattle.dl_notation.proofs.NamingLemmas.{left_step}
use Rattle.dl_notation.proofs.number.+number.Goals as goal

pub number_parts-returns-in_err-number_part-clause-kept : goal.number_parts-returns-in_err-number_part-clause-kept
number_parts-returns-in_err-number_part-clause-kept t c = extends-step _ _ _ c.loop-i.invariant.1 c.number_part.ensures.kept

pub number_parts-loop-i-preserved : goal.number_parts-loop-i-preserved
number_parts-loop-i-preserved t c =
    let few : c.loop-i.i < length c.args.parts.now = search rules in
    let is : c.index-parts-i.result ≡ get_or c.args.parts.now c.loop-i.i c.index-parts-i.result = search rules in
    let role : role_at c.args.fixed.now c.args.rest c.loop-i.i ≡ Some c.in-Some.role = sym c.role_at.ensures ∙ c.in-Some.is in (
      rw c.in_ok-number_part.ensures.numbered (left_step c.loop-i.names c.args.fixed.now c.args.rest c.args.parts.now c.loop-i.i c.in-Some.role c.index-parts-i.result role few is ∙ c.loop-i.invariant.0),
      extends-step _ _ _ c.loop-i.invariant.1 c.number_part.ensures.kept,
    )
