use Rattle.std.proofs.Common.{◌≡◌, ◌++◌, map, drop}
use Rattle.dl_shown.specs.Programs.{expression_of}
use Rattle.dl_shown.proofs.programs.add_expressions.Given as goal

abbrev pub invariant-loop-one : goal.invariant-loop-one
invariant-loop-one l =
    l.parts ++ map (expression_of l.names l.decls) (drop l.one-index l.terms) ≡ l.initial.parts ++ map (expression_of l.names l.decls) l.terms
