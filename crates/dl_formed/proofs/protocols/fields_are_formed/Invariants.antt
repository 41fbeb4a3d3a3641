use Rattle.std.proofs.Common.{◌≡◌, drop}
use Rattle.std.specs.List.{list_all}
use Rattle.dl_formed.specs.Decided.{field_is_formed}
use Rattle.dl_formed.proofs.protocols.fields_are_formed.Given as goal

abbrev pub invariant-loop-field : goal.invariant-loop-field
invariant-loop-field l = list_all (field_is_formed l.nodes) (drop l.field-index l.fields) ≡ list_all (field_is_formed l.nodes) l.fields
