-- What the proofs need of a formed file that keeps to its worlds.
use Rattle.std.proofs.Common.{◌≡◌, ℕ, ◌<◌, ◌^◌, ◌&&◌, pos, Bool, true, false, refl, Some, ◌∙◌, sym}
use Rattle.std.specs.Prelude.{slice_get}
use Rattle.std.specs.List.{AllByRecursion as Each}
use Rattle.dl_term.specs.declared.syntax.Lab.{Lab}
use Rattle.dl_term.specs.declared.syntax.Lab.TheVariants.{Own, At}
use Rattle.dl_term.specs.declared.syntax.Formula.{Formula}
use Rattle.dl_term.specs.Measures.{is_free_variable}
use Rattle.dl_model.specs.declared.file.World.{World}
use Rattle.dl_model.specs.declared.file.Invariant.{Invariant}
use Rattle.dl_model.specs.declared.file.Program.{Program}
use Rattle.dl_model.specs.declared.file.Decls.{Decls}
use Rattle.dl_model.specs.Block.{Block, Done, Sends, Awaits, Polls, Reads, Sets, Ifs, Whiles, Calls, block_of}
use Rattle.dl_model.specs.Sorts.{all_in_sorts, has, IsSort}
use Rattle.dl_model.specs.Lookup.{protocol_at, tag_at, arg_sorts, arg_names, world_at, proc_at, hook_at, composed, program_of, world_of}
use Rattle.dl_model.specs.Words.{me_word, result_word}
use Rattle.dl_model.specs.States.{first_state}
use Rattle.dl_model.specs.Spoken.{labels_of}
use Rattle.dl_model.specs.Worlds.{Injects, is_label_of}
use Rattle.dl_model.specs.Formed.{AreDistinct, InstancesAreFormed}
use Rattle.dl_sound.specs.Obligations.{StateObligations, ProcObligations}
use Rattle.dl_model.specs.Machine.{entry_names}
use Rattle.dl_term.specs.Meaning.{holds}
use Rattle.dl_model.proofs.Small.{and-left, and-both}

abbrev pub IsOwn : Lab → Type 0
IsOwn Own = Unit {0}
IsOwn (At label) = ⊥

abbrev pub IsIn : World → Lab → Type 0
IsIn world lab = is_label_of world lab ≡ true

-- the label is in the first world, and not in the second
abbrev pub IsOnlyIn : World → World → Lab → Type 0
IsOnlyIn world other lab = IsIn world lab × (is_label_of other lab ≡ false)

abbrev pub IsLocal : Decls → ℕ → ℕ → Type 0
IsLocal d proc x = has (proc_at d.procs proc).locals x ≡ true

abbrev pub IsNotLocal : Decls → ℕ → ℕ → Type 0
IsNotLocal d proc x = has (proc_at d.procs proc).locals x ≡ false

abbrev pub IsParameter : Decls → ℕ → ℕ → Type 0
IsParameter d proc x = IsNotLocal d proc x × (x ≡ me_word → ⊥) × (x ≡ result_word → ⊥)

-- Targets are locals, annotations and sent labels are of the world, and a call's world can be injected and its frame is apart from it.
abbrev pub BlockNeeds : Decls → ℕ → Block → Type 0
BlockNeeds d proc Done = Unit {0}
BlockNeeds d proc (Sends note label tag to args rest) =
    Each (IsIn (world_of d proc)) (labels_of note) × (has (world_of d proc).labels label ≡ true) × BlockNeeds d proc rest
BlockNeeds d proc (Awaits note label tag sender args rest) =
    Each (IsIn (world_of d proc)) (labels_of note) × (has (world_of d proc).labels label ≡ true) × IsLocal d proc sender × Each (IsLocal d proc) args × BlockNeeds d proc rest
BlockNeeds d proc (Polls note got label tag sender args rest) =
    Each (IsIn (world_of d proc)) (labels_of note) × (has (world_of d proc).labels label ≡ true) × IsLocal d proc got × IsLocal d proc sender × Each (IsLocal d proc) args × BlockNeeds d proc rest
BlockNeeds d proc (Reads note into label field index rest) = Each (IsIn (world_of d proc)) (labels_of note) × IsLocal d proc into × BlockNeeds d proc rest
BlockNeeds d proc (Sets target value rest) = IsLocal d proc target × BlockNeeds d proc rest
BlockNeeds d proc (Ifs test left right rest) = BlockNeeds d proc left × BlockNeeds d proc right × BlockNeeds d proc rest
BlockNeeds d proc (Whiles test note body rest) = Each (IsIn (world_of d proc)) (labels_of note) × BlockNeeds d proc body × BlockNeeds d proc rest
BlockNeeds d proc (Calls note frame into callee args rest) =
    Each (IsIn (world_of d proc)) (labels_of note) × Each (IsOnlyIn (world_of d proc) (world_of d callee)) (labels_of frame) × IsLocal d proc into ×
    Injects d (world_of d callee) (world_of d proc) × BlockNeeds d proc rest

pub record ProcNeeds (d : Decls) (proc : ℕ) : Type 0 where
  pub me : IsNotLocal d proc me_word
  pub result : IsNotLocal d proc result_word
  pub params : Each (λ a. IsParameter d proc a.0) (proc_at d.procs proc).params
  pub distinct : AreDistinct (arg_names (proc_at d.procs proc).params)
  pub post : Each (IsIn (world_of d proc)) (labels_of (proc_at d.procs proc).post)
  pub post_closed : (x : ℕ) → is_free_variable (proc_at d.procs proc).post x ≡ true → IsNotLocal d proc x
  pub body : BlockNeeds d proc (block_of (proc_at d.procs proc).body)

pub record StateNeeds (d : Decls) : Type 0 where
  pub few : d.inst.nodes < 2 ^ 32
  pub fields : (label : ℕ) → Each (λ f. IsSort f.sort) (protocol_at d.inst label).fields
  pub args : (label tag : ℕ) → Each IsSort (arg_sorts (tag_at d.inst label tag).args)
  pub inst : InstancesAreFormed d.inst
  pub coherences : (label : ℕ) (f : Formula) → (protocol_at d.inst label).coherence ≡ Some f → Each IsOwn (labels_of f)
  pub invariants : (i : ℕ) (invariant : Invariant) → slice_get d.invariants i ≡ Some invariant → Each (IsIn (world_at d invariant.world)) (labels_of invariant.formula)
  pub injected : (i : ℕ) (invariant : Invariant) → slice_get d.invariants i ≡ Some invariant → Injects d (world_at d invariant.world) (composed d)

pub record NodeNeeds (d : Decls) (node : ℕ) (p : Program) : Type 0 where
  pub known : node < d.inst.nodes
  pub constants : all_in_sorts (arg_sorts (proc_at d.procs p.proc).params) p.constants ≡ true
  pub injected : Injects d (world_of d p.proc) (composed d)

pub record ProgramNeeds (d : Decls) : Type 0 where
  pub procs : (proc : ℕ) → ProcNeeds d proc
  pub programs : (node : ℕ) (p : Program) → program_of d node ≡ Some p → NodeNeeds d node p

-- the obligations of a file, also of procedures that are not there
pub record AllObligations (d : Decls) : Type 0 where
  pub states : StateObligations d
  pub procs : (proc : ℕ) → ProcObligations d proc
  pub deployed : (node : ℕ) (p : Program) → program_of d node ≡ Some p →
      holds (proc_at d.procs p.proc).pre (entry_names (proc_at d.procs p.proc) (pos node) p.constants) (first_state d.inst) ≡ true

-- ---- injections

pub injects-owned : (d : Decls) (small large : World) → Injects d small large → (hook : ℕ) → has small.hooks hook ≡ true → has large.hooks hook ≡ true
injects-owned d small large i hook m = and-left (has large.hooks hook) _ (sym (i.hooks hook) ∙ m)

pub injects-covered : (d : Decls) (small large : World) → Injects d small large → (hook : ℕ) → has large.hooks hook ≡ true → has small.labels (hook_at d hook).client ≡ true → has small.hooks hook ≡ true
injects-covered d small large i hook m c = i.hooks hook ∙ and-both (has large.hooks hook) _ m c

-- of injections one after the other
pub injects-through : (d : Decls) (a b c : World) → Injects d a b → Injects d b c → Injects d a c
injects-through d a b c h k = record {
  labels = λ label m. k.labels label (h.labels label m);
  hooks = λ hook. through (has a.hooks hook) (has b.hooks hook) (has c.hooks hook) (has a.labels (hook_at d hook).client) (has b.labels (hook_at d hook).client)
      (h.hooks hook) (k.hooks hook) (h.labels (hook_at d hook).client);
}
  where
    through : (x y z l m : Bool) → x ≡ (y && l) → y ≡ (z && m) → (l ≡ true → m ≡ true) → x ≡ (z && l)
    through x y z false m e f g = e ∙ nothing y ∙ sym (nothing z)
      where
        nothing : (b : Bool) → (b && false) ≡ false
        nothing true = refl
        nothing false = refl
    through x y z true m e f g = cc (e, f, g refl, both y)
      where
        both : (b : Bool) → (b && true) ≡ b
        both true = refl
        both false = refl
