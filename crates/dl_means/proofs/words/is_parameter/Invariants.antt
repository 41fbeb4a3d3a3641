use Rattle.std.proofs.Common.{◌≡◌, drop, map}
use Rattle.dl_model.specs.Lookup.{arg_names}
use Rattle.dl_forms.specs.Context.{is_among}
use Rattle.dl_forms.specs.Scope.{text_at}
use Rattle.dl_means.proofs.words.is_parameter.Given as goal

abbrev pub invariant-loop-param : goal.invariant-loop-param
invariant-loop-param l =
    is_among l.text (map (text_at l.names) (arg_names (drop l.param-index l.params))) ≡ is_among l.text (map (text_at l.names) (arg_names l.params))
