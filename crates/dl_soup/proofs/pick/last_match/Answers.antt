use Rattle.std.proofs.Common.{length}
use Rattle.dl_model.specs.Delivery.{is_match}
use Rattle.dl_soup.proofs.PickLemmas.{before-within, last-before, last-none, less-before}
use Rattle.dl_soup.proofs.pick.last_match.Goals as goal

pub returns-then-is_match : goal.returns-then-is_match
returns-then-is_match c =
    last-before (is_match c.args.inst.now c.args.state.now.state c.args.wanted.now.node c.args.wanted.now.label c.args.wanted.now.tag) c.args.ids.now c.loop-end.end c.is_match.result
    c.loop-end-test.true c.loop-end.invariant.within c.is_match.ensures c.if-is_match.true c.loop-end.invariant.none

pub loop-end-preserved : goal.loop-end-preserved
loop-end-preserved c = record {
  within = before-within c.loop-end.end (length c.args.ids.now) c.loop-end.invariant.within;
  none =
      less-before (is_match c.args.inst.now c.args.state.now.state c.args.wanted.now.node c.args.wanted.now.label c.args.wanted.now.tag) c.args.ids.now c.loop-end.end c.is_match.result
      c.loop-end-test.true c.loop-end.invariant.within c.is_match.ensures c.if-is_match.false c.loop-end.invariant.none;
}

pub returns : goal.returns
returns c =
    last-none (is_match c.args.inst.now c.args.state.now.state c.args.wanted.now.node c.args.wanted.now.label c.args.wanted.now.tag) c.args.ids.now c.loop-end.end
    c.loop-end-test.false c.loop-end.invariant.none
