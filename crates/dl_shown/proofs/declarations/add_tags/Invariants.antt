use Rattle.std.proofs.Common.{◌≡◌, ◌++◌, map, drop}
use Rattle.dl_shown.specs.Shown.{tag_of}
use Rattle.dl_shown.proofs.declarations.add_tags.Given as goal

abbrev pub invariant-loop-one : goal.invariant-loop-one
invariant-loop-one l =
    l.parts ++ map (tag_of l.names l.decls l.own l.fields) (drop l.one-index l.tags) ≡ l.initial.parts ++ map (tag_of l.names l.decls l.own l.fields) l.tags
