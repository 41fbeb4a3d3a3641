use Rattle.std.proofs.Common.{◌≡◌, ◌++◌, drop}
use Rattle.dl_scope.proofs.declared.add_fields.Given as goal

abbrev pub invariant-loop-field : goal.invariant-loop-field
invariant-loop-field l = l.fields ++ drop l.field-index l.more ≡ l.initial.fields ++ l.more
