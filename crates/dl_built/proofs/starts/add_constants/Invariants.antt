use Rattle.std.proofs.Common.{◌≡◌, ◌++◌, map, take}
use Rattle.dl_term.specs.declared.syntax.Term.{Num}
use Rattle.dl_built.proofs.starts.add_constants.Given as goal

abbrev pub invariant-loop-constant : goal.invariant-loop-constant
invariant-loop-constant l = l.terms ≡ l.initial.terms ++ map (λ v. Num v) (take l.constant-index l.constants)
