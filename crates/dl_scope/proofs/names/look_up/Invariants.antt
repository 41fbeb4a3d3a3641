use Rattle.std.proofs.Common.{◌≡◌, drop}
use Rattle.dl_forms.specs.Context.{look_up}
use Rattle.dl_scope.proofs.names.look_up.Given as goal

abbrev pub invariant-loop-entry : goal.invariant-loop-entry
invariant-loop-entry g l = look_up l.text (drop l.entry-index l.entries) ≡ look_up l.text l.entries
