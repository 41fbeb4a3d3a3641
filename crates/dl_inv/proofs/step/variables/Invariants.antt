use Rattle.std.proofs.Common.{◌≡◌, map, take}
use Rattle.dl_term.specs.declared.syntax.Term.{Var}
use Rattle.dl_inv.proofs.step.variables.Given as goal

abbrev pub invariant-loop-name : goal.invariant-loop-name
invariant-loop-name l = l.terms ≡ map (λ x. Var x) (take l.name-index l.names)
