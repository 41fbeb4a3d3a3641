use Rattle.std.proofs.Common.{◌≡◌, ◌++◌, map, drop}
use Rattle.dl_shown.specs.Shown.{field_of}
use Rattle.dl_shown.proofs.declarations.add_fields.Given as goal

abbrev pub invariant-loop-one : goal.invariant-loop-one
invariant-loop-one l =
    l.parts ++ map (field_of l.names l.decls) (drop l.one-index l.fields) ≡ l.initial.parts ++ map (field_of l.names l.decls) l.fields
