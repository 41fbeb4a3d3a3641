use Rattle.std.proofs.Common.{◌≡◌, drop, map}
use Rattle.dl_forms.specs.Context.{is_among}
use Rattle.dl_forms.specs.Scope.{text_at}
use Rattle.dl_means.proofs.words.is_local.Given as goal

abbrev pub invariant-loop-local : goal.invariant-loop-local
invariant-loop-local l =
    is_among l.text (map (text_at l.names) (drop l.local-index l.locals)) ≡ is_among l.text (map (text_at l.names) l.locals)
