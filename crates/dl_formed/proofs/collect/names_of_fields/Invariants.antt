use Rattle.std.proofs.Common.{◌≡◌, take}
use Rattle.dl_formed.specs.Decided.{field_names}
use Rattle.dl_formed.proofs.collect.names_of_fields.Given as goal

abbrev pub invariant-loop-field : goal.invariant-loop-field
invariant-loop-field l = l.names ≡ field_names (take l.field-index l.fields)
