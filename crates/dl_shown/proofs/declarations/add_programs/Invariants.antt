use Rattle.std.proofs.Common.{◌≡◌, ◌++◌, map, drop}
use Rattle.dl_shown.specs.Shown.{program_of}
use Rattle.dl_shown.proofs.declarations.add_programs.Given as goal

abbrev pub invariant-loop-one : goal.invariant-loop-one
invariant-loop-one l =
    l.parts ++ map (program_of l.names l.decls) (drop l.one-index l.programs) ≡ l.initial.parts ++ map (program_of l.names l.decls) l.programs
