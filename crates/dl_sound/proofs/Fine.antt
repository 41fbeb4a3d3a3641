-- What holds of each machine in every configuration of a run.
use Rattle.std.proofs.Common.{◌≡◌, ℕ, ℤ, true, Some, List, [], ◌∷◌}
use Rattle.dl_term.specs.State.{State}
use Rattle.dl_term.specs.Names.{Names}
use Rattle.dl_model.specs.Block.{Block, Calls}
use Rattle.dl_model.specs.Sorts.{is_i64}
use Rattle.dl_model.specs.Lookup.{composed, program_of, world_of}
use Rattle.dl_model.specs.Worlds.{Injects}
use Rattle.dl_model.specs.Machine.{values_of, Frame, Machine, Working, Over}
use Rattle.dl_model.specs.Runs.{Config}
use Rattle.dl_model.specs.Safe.{post_holds}
use Rattle.dl_sound.proofs.Needed.{BlockNeeds}
use Rattle.dl_sound.specs.Obligations.{BlockObligations, ready, at_end}
use Rattle.dl_term.specs.Meaning.{holds}
use Rattle.dl_model.specs.declared.file.Program.{Program}
use Rattle.dl_model.specs.declared.file.Decls.{Decls}
use Rattle.dl_sound.proofs.Kept.{IsSound}
use Rattle.dl_sound.proofs.Named.{NamesAreFine}

-- A frame of a procedure that was entered with these arguments: what is left of it has its obligations.
pub record FrameIsFine (d : Decls) (node : ℕ) (values : List ℤ) (proc : ℕ) (names : Names) (left : Block) : Type 0 where
  pub world : Injects d (world_of d proc) (composed d)
  pub formed : BlockNeeds d proc left
  pub duties : BlockObligations d proc left (at_end d proc)
  pub fine : NamesAreFine d proc node values names

-- The frame is at a call of the procedure with these arguments, and the call's frame holds.
abbrev pub IsCalling : ℕ → List ℤ → Names → State → Block → Type 0
IsCalling callee values names s (Calls note frame into q args rest) = (q ≡ callee) × (values_of args names ≡ values) × (holds frame names s ≡ true)
IsCalling callee values names s _ = ⊥

-- The callers of a procedure that was entered with these arguments. The last one is what the node was deployed with.
abbrev pub CallersAreFine : Decls → State → ℕ → ℕ → List ℤ → List Frame → Type 0
CallersAreFine d s node callee values [] = (p : Program) × (program_of d node ≡ Some p) × (p.proc ≡ callee) × (p.constants ≡ values)
CallersAreFine d s node callee values (g ∷ gs) =
    (own : List ℤ) × FrameIsFine d node own g.proc g.names g.left × IsCalling callee values g.names s g.left × CallersAreFine d s node g.proc own gs

abbrev pub MachineIsFine : Decls → State → ℕ → Machine → Type 0
MachineIsFine d s node (Over v) = (p : Program) × (program_of d node ≡ Some p) × (is_i64 v ≡ true) × (post_holds d node p v s ≡ true)
MachineIsFine d s node (Working frame callers) =
    (values : List ℤ) × FrameIsFine d node values frame.proc frame.names frame.left × (ready frame.left (at_end d frame.proc) frame.names s ≡ true) ×
    CallersAreFine d s node frame.proc values callers

pub record ConfigIsFine (d : Decls) (c : Config) : Type 0 where
  pub sound : IsSound d c.state
  pub machines : (node : ℕ) (machine : Machine) → c.machines node ≡ Some machine → MachineIsFine d c.state node machine
