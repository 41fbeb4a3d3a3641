use Rattle.std.proofs.Common.{◌≡◌, drop}
use Rattle.dl_model.specs.Lookup.{program_in}
use Rattle.dl_built.proofs.starts.program_in.Given as goal

abbrev pub invariant-loop-program : goal.invariant-loop-program
invariant-loop-program l = program_in (drop l.program-index l.programs) l.node ≡ program_in l.programs l.node
