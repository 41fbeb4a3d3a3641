use Rattle.std.proofs.Common.{◌≡◌, ◌∙◌, arith}
use Rattle.dl_trials_report.proofs.BareLemmas.{one_blank, last_name}
use Rattle.dl_trials_report.proofs.read.texts.Goals as goal

pub loop-count-init : goal.loop-count-init
loop-count-init c = record { few = omega arith; empty = c.new-names.ensures }

pub loop-count-preserved : goal.loop-count-preserved
loop-count-preserved c = record {
  few = omega arith;
  empty = c.in_ok-push.ensures.ok ∙ one_blank c.loop-count.names c.in_ok-new.field-0 c.loop-count.count c.loop-count.invariant.empty c.in_ok-new.ensures;
}

pub returns : goal.returns
returns c =
    let all : c.loop-count.count ≡ 18 = omega arith in
    c.in_ok-push-2.ensures.ok ∙ last_name c.loop-count.names c.in_ok-new-2.field-0 c.loop-count.count c.loop-count.invariant.empty all c.in_ok-new-2.ensures
