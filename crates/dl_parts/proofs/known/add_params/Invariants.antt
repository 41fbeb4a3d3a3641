use Rattle.std.proofs.Common.{◌≡◌, ◌++◌, take}
use Rattle.dl_parts.proofs.known.add_params.Given as goal

abbrev pub invariant-loop-param : goal.invariant-loop-param
invariant-loop-param l = l.vars ≡ l.initial.vars ++ take l.param-index l.params
