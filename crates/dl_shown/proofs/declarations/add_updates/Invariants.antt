use Rattle.std.proofs.Common.{◌≡◌, ◌++◌, map, drop}
use Rattle.dl_shown.specs.Shown.{update_of}
use Rattle.dl_shown.proofs.declarations.add_updates.Given as goal

abbrev pub invariant-loop-one : goal.invariant-loop-one
invariant-loop-one l =
    l.parts ++ map (update_of l.names l.decls l.own l.fields) (drop l.one-index l.updates) ≡ l.initial.parts ++ map (update_of l.names l.decls l.own l.fields) l.updates
