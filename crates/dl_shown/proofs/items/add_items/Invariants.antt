use Rattle.std.proofs.Common.{◌≡◌, ◌++◌, map, drop}
use Rattle.dl_shown.specs.Whole.{item_of}
use Rattle.dl_shown.proofs.items.add_items.Given as goal

abbrev pub invariant-loop-one : goal.invariant-loop-one
invariant-loop-one l =
    l.parts ++ map (item_of l.names l.file) (drop l.one-index l.items) ≡ l.initial.parts ++ map (item_of l.names l.file) l.items
