use Rattle.std.proofs.Common.{◌≡◌, drop}
use Rattle.std.specs.List.{list_all}
use Rattle.dl_forms.specs.Context.{Text, is_among}
use Rattle.dl_scope.proofs.worlds.all_among.Given as goal

abbrev pub invariant-loop-text : goal.invariant-loop-text
invariant-loop-text l = list_all (λ (text : Text). is_among text l.others.keys) (drop l.text-index l.texts) ≡ list_all (λ (text : Text). is_among text l.others.keys) l.texts
