use Rattle.std.proofs.Common.{◌+◌, ℕ, get_or, refl, ap, ◌∙◌}
use Rattle.dl_model.specs.Delivery.{is_match}
use Rattle.dl_soup.proofs.PickLemmas.{count-all, count-more, few-more}
use Rattle.dl_soup.proofs.pick.count_matches.Goals as goal

pub loop-id-preserved : goal.loop-id-preserved
loop-id-preserved c = record {
  counted =
      ap (λ (n : ℕ). c.loop-id.count + n) c.one_if-count.ensures
      ∙ count-more (is_match c.args.inst.now c.args.state.now.state c.args.wanted.now.node c.args.wanted.now.label c.args.wanted.now.tag) c.args.ids.now c.loop-id.id-index
      (get_or c.args.ids.now c.loop-id.id-index 0) c.loop-id.count c.is_match.result c.loop-id-test.true refl c.is_match.ensures c.loop-id.invariant.counted;
  few = few-more c.loop-id.count c.loop-id.id-index c.one_if-count.result c.is_match.result c.one_if-count.ensures c.loop-id.invariant.few;
}

pub returns : goal.returns
returns c =
    count-all (is_match c.args.inst.now c.args.state.now.state c.args.wanted.now.node c.args.wanted.now.label c.args.wanted.now.tag) c.args.ids.now c.loop-id.id-index c.loop-id.count
    c.loop-id-test.false c.loop-id.invariant.counted
