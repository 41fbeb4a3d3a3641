-- Worlds: which one can be injected into another, and what it means that a file keeps to its worlds.
use Rattle.std.specs.Prelude.{◌≡◌, ℕ, ◌<◌, Bool, true, false, ◌&&◌, Some, length, slice_get}
use Rattle.std.specs.List.{list_all, list_any}
use Rattle.dl_term.specs.declared.syntax.Lab.{Lab}
use Rattle.dl_term.specs.declared.syntax.Lab.TheVariants.{Own, At}
use Rattle.dl_term.specs.declared.syntax.Formula.{Formula}
use Rattle.dl_model.specs.declared.file.World.{World}
use Rattle.dl_model.specs.declared.file.Invariant.{Invariant}
use Rattle.dl_model.specs.declared.file.Program.{Program}
use Rattle.dl_model.specs.declared.file.Decls.{Decls}
use Rattle.dl_model.specs.Block.{Block, Done, Sends, Awaits, Polls, Reads, Sets, Ifs, Whiles, Calls, block_of}
use Rattle.dl_model.specs.Sorts.{has}
use Rattle.dl_model.specs.Lookup.{world_at, hook_at, proc_at, composed, program_of, world_of}
use Rattle.dl_model.specs.Spoken.{labels_of}

-- The small world can be injected into the large one: its labels are among those of the large one,
-- and the hooks of the large one whose client is one of its labels are exactly its own.
pub record Injects (decls : Decls) (small large : World) : Type 0 where
  pub labels : (label : ℕ) → has small.labels label ≡ true → has large.labels label ≡ true
  pub hooks : (hook : ℕ) → has small.hooks hook ≡ (has large.hooks hook && has small.labels (hook_at decls hook).client)

abbrev pub is_label_of : World → Lab → Bool
is_label_of world Own = false
is_label_of world (At label) = has world.labels label

-- Each label in the formula is one of the world's.
abbrev pub IsAbout : World → Formula → Type 0
IsAbout world f = list_all (is_label_of world) (labels_of f) ≡ true

-- No label in the formula is one of the world's.
abbrev pub IsApart : World → Formula → Type 0
IsApart world f = list_any (is_label_of world) (labels_of f) ≡ false

-- Each label of a procedure is one of its world's. At a call the callee's world can be injected into the caller's, and the frame is apart from it.
abbrev pub BlockKeepsWorlds : Decls → World → Block → Type 0
BlockKeepsWorlds decls world Done = Unit {0}
BlockKeepsWorlds decls world (Sends note label tag to args rest) = IsAbout world note × (has world.labels label ≡ true) × BlockKeepsWorlds decls world rest
BlockKeepsWorlds decls world (Awaits note label tag sender args rest) = IsAbout world note × (has world.labels label ≡ true) × BlockKeepsWorlds decls world rest
BlockKeepsWorlds decls world (Polls note got label tag sender args rest) = IsAbout world note × (has world.labels label ≡ true) × BlockKeepsWorlds decls world rest
BlockKeepsWorlds decls world (Reads note into label field index rest) = IsAbout world note × (has world.labels label ≡ true) × BlockKeepsWorlds decls world rest
BlockKeepsWorlds decls world (Sets target value rest) = BlockKeepsWorlds decls world rest
BlockKeepsWorlds decls world (Ifs test left right rest) = BlockKeepsWorlds decls world left × BlockKeepsWorlds decls world right × BlockKeepsWorlds decls world rest
BlockKeepsWorlds decls world (Whiles test note body rest) = IsAbout world note × BlockKeepsWorlds decls world body × BlockKeepsWorlds decls world rest
BlockKeepsWorlds decls world (Calls note frame into callee args rest) =
    IsAbout world note × (IsAbout world frame × IsApart (world_of decls callee) frame × Injects decls (world_of decls callee) world) × BlockKeepsWorlds decls world rest

pub record ProcKeepsWorlds (decls : Decls) (proc : ℕ) : Type 0 where
  pub pre : IsAbout (world_of decls proc) (proc_at decls.procs proc).pre
  pub post : IsAbout (world_of decls proc) (proc_at decls.procs proc).post
  pub body : BlockKeepsWorlds decls (world_of decls proc) (block_of (proc_at decls.procs proc).body)

-- A file without a fault of its worlds.
pub record KeepsWorlds (decls : Decls) : Type 0 where
  pub cores : (w : ℕ) (world : World) → slice_get decls.worlds w ≡ Some world → (hook : ℕ) → has world.hooks hook ≡ true → has world.labels (hook_at decls hook).core ≡ true
  pub clients : (w : ℕ) (world : World) → slice_get decls.worlds w ≡ Some world → (hook : ℕ) → has world.hooks hook ≡ true → has world.labels (hook_at decls hook).client ≡ true
  pub invariants : (i : ℕ) (invariant : Invariant) → slice_get decls.invariants i ≡ Some invariant → IsAbout (world_at decls invariant.world) invariant.formula
  pub visible : (i : ℕ) (invariant : Invariant) → slice_get decls.invariants i ≡ Some invariant → Injects decls (world_at decls invariant.world) (composed decls)
  pub procs : (proc : ℕ) → proc < length decls.procs → ProcKeepsWorlds decls proc
  pub programs : (node : ℕ) (program : Program) → program_of decls node ≡ Some program → Injects decls (world_of decls program.proc) (composed decls)
