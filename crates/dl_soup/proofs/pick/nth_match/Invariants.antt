use Rattle.std.proofs.Common.{◌≡◌, ◌+◌, length, take}
use Rattle.std.specs.List.{filter}
use Rattle.dl_model.specs.Delivery.{is_match}
use Rattle.dl_soup.proofs.pick.nth_match.Given as goal

abbrev pub invariant-loop-id : goal.invariant-loop-id
invariant-loop-id l = length (filter (is_match l.inst l.state.state l.wanted.node l.wanted.label l.wanted.tag) (take l.id-index l.ids)) + l.left ≡ l.number
