use Rattle.std.proofs.Common.{◌≡◌, ℕ, drop, map}
use Rattle.dl_term.specs.declared.syntax.Sort.{Sort}
use Rattle.dl_forms.specs.Scope.{first_named}
use Rattle.dl_forms.proofs.names.variable_in.Given as goal

abbrev pub invariant-loop-sym : goal.invariant-loop-sym
invariant-loop-sym l = first_named l.names l.name (map (λ (v : ℕ × Sort). v.0) (drop l.sym-index l.vars)) ≡ first_named l.names l.name (map (λ (v : ℕ × Sort). v.0) l.vars)
