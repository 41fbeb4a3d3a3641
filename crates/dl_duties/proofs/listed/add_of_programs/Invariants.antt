use Rattle.std.proofs.Common.{◌≡◌, ◌++◌, drop}
use Rattle.std.specs.Prelude.{map}
use Rattle.dl_model.specs.declared.file.Program.{Program}
use Rattle.dl_sequent.specs.declared.duty.Duty.TheVariants.{Deploy}
use Rattle.dl_duties.proofs.listed.add_of_programs.Given as goal

abbrev pub invariant-loop-program : goal.invariant-loop-program
invariant-loop-program l =
    l.list ++ map (λ (program : Program). Deploy program.node) (drop l.program-index l.programs) ≡ l.initial.list ++ map (λ (program : Program). Deploy program.node) l.programs
