use Rattle.std.proofs.Common.{◌≡◌, ◌≤◌, [], length, drop}
use Rattle.std.specs.List.{filter}
use Rattle.dl_model.specs.Delivery.{is_match}
use Rattle.dl_soup.proofs.pick.last_match.Given as goal

abbrev pub invariant-loop-end : goal.invariant-loop-end
invariant-loop-end l = record {
  within : l.end ≤ length l.ids;
  none : filter (is_match l.inst l.state.state l.wanted.node l.wanted.label l.wanted.tag) (drop l.end l.ids) ≡ [];
}

abbrev pub decreases-loop-end : goal.decreases-loop-end
decreases-loop-end l = l.end
