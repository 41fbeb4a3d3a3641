use Rattle.std.proofs.Common.{◌≡◌, ◌≤◌, length, take}
use Rattle.std.specs.List.{filter}
use Rattle.dl_model.specs.Delivery.{is_match}
use Rattle.dl_soup.proofs.pick.count_matches.Given as goal

abbrev pub invariant-loop-id : goal.invariant-loop-id
invariant-loop-id l = record {
  counted : l.count ≡ length (filter (is_match l.inst l.state.state l.wanted.node l.wanted.label l.wanted.tag) (take l.id-index l.ids));
  few : l.count ≤ l.id-index;
}
