use Rattle.std.proofs.Common.{◌≡◌, drop}
use Rattle.std.specs.List.{list_all}
use Rattle.dl_model.specs.declared.protocol.FieldDecl.{FieldDecl}
use Rattle.dl_means.specs.Known.{words_of}
use Rattle.dl_means.specs.Says.{says_term}
use Rattle.dl_means.proofs.says.says_fields.Given as goal

abbrev pub invariant-loop-field : goal.invariant-loop-field
invariant-loop-field l =
    list_all (λ (field : FieldDecl). says_term l.names (words_of l.words) field.first) (drop l.field-index l.fields) ≡ list_all (λ (field : FieldDecl). says_term l.names (words_of l.words) field.first) l.fields
