use Rattle.std.proofs.Common.{◌≡◌, drop}
use Rattle.dl_means.specs.Stands.{are_numbered}
use Rattle.dl_means.proofs.stands.are_numbered.Given as goal

abbrev pub invariant-loop-item : goal.invariant-loop-item
invariant-loop-item l =
    are_numbered l.kind l.next l.count (drop l.item-index l.items) ≡ are_numbered l.kind 0 l.count l.items
