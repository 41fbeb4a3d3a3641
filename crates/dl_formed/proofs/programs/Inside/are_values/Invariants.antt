use Rattle.std.proofs.Common.{◌≡◌, drop}
use Rattle.dl_formed.specs.Sighted.{sight_of}
use Rattle.dl_formed.specs.Programs.{are_values}
use Rattle.dl_formed.proofs.programs.Inside.are_values.Given as goal

abbrev pub invariant-loop-term : goal.invariant-loop-term
invariant-loop-term l = are_values (sight_of l.self) (drop l.term-index l.terms) ≡ are_values (sight_of l.self) l.terms
