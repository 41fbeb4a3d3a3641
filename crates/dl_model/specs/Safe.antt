-- When a run is safe.
use Rattle.std.specs.Prelude.{◌≡◌, ℕ, ℤ, pos, Bool, true, Option, Some, None, List, [], ◌∷◌, slice_get}
use Rattle.dl_term.specs.declared.syntax.Formula.{Formula}
use Rattle.dl_term.specs.State.{State}
use Rattle.dl_term.specs.Names.{Names, no_names, with_number}
use Rattle.dl_term.specs.Meaning.{holds}
use Rattle.dl_model.specs.declared.history.Entry.{Entry}
use Rattle.dl_model.specs.declared.protocol.Instances.{Instances}
use Rattle.dl_model.specs.declared.file.Invariant.{Invariant}
use Rattle.dl_model.specs.declared.file.Program.{Program}
use Rattle.dl_model.specs.declared.file.Decls.{Decls}
use Rattle.dl_model.specs.Sorts.{has}
use Rattle.dl_model.specs.Lookup.{protocol_at, proc_at, composed, program_of}
use Rattle.dl_model.specs.Words.{result_word}
use Rattle.dl_model.specs.Steps.{Step, Sending, IsEnabled, Meets}
use Rattle.dl_model.specs.Machine.{Machine, Over, Ticked, entry_names}
use Rattle.dl_model.specs.Runs.{Config, Event, initial, IsRun, IsFreeRun, step_of}

-- ---- coherences and invariants

abbrev pub coherence_holds : Option Formula → ℕ → State → Bool
coherence_holds (Some coherence) label state = holds coherence (no_names label) state
coherence_holds None label state = true

-- the coherence of the label's protocol holds
abbrev pub coherent : Instances → ℕ → State → Bool
coherent inst label state = coherence_holds (protocol_at inst label).coherence label state

abbrev pub invariant_holds : Invariant → State → Bool
invariant_holds invariant state = holds invariant.formula (no_names 0) state

-- Each coherence of the composed world and each invariant of the file holds.
pub record MeetsInvariants (decls : Decls) (state : State) : Type 0 where
  pub coherences : (label : ℕ) → has (composed decls).labels label ≡ true → coherent decls.inst label state ≡ true
  pub invariants : (i : ℕ) (invariant : Invariant) → slice_get decls.invariants i ≡ Some invariant → invariant_holds invariant state ≡ true

-- ---- postconditions

-- the names of a postcondition: `me`, the parameters and `result`
abbrev pub post_names : Decls → ℕ → ℕ → List ℤ → ℤ → Names
post_names decls proc node args v = with_number (entry_names (proc_at decls.procs proc) (pos node) args) result_word v

-- the postcondition of a node's program, with its constants and what it returned
abbrev pub post_holds : Decls → ℕ → Program → ℤ → State → Bool
post_holds decls node program v state =
    holds (proc_at decls.procs program.proc).post (post_names decls program.proc node program.constants v) state

-- Wherever ticks alone bring a node's machine to its end, its postcondition holds.
abbrev pub MeetsPostconditions : Decls → Config → Type 0
MeetsPostconditions decls config =
    (node : ℕ) (program : Program) (machine : Machine) (ticks : ℕ) (v : ℤ) → program_of decls node ≡ Some program → config.machines node ≡ Some machine →
    Ticked decls.procs ticks machine (Over v) → post_holds decls node program v config.state ≡ true

-- ---- safe

-- A configuration is safe.
pub record IsSafe (decls : Decls) (config : Config) : Type 0 where
  pub invariants : MeetsInvariants decls config.state
  pub posts : MeetsPostconditions decls config

-- a send is enabled, and meets the hooks of the composed world
abbrev pub IsSafeStep : Decls → State → ℕ → Option Step → Type 0
IsSafeStep decls state node (Some (Sending label tag to args)) =
    IsEnabled decls.inst state node label tag to args × Meets decls (composed decls) state node (Sending label tag to args)
IsSafeStep decls state node _ = Unit {0}

-- An event is safe.
abbrev pub IsSafeEvent : Decls → Config → Entry → Type 0
IsSafeEvent decls before entry = IsSafeStep decls before.state entry.node (step_of entry.call entry.reply)

-- The events lead from the one configuration to the other, and every event and every configuration on the way is safe.
abbrev pub LeadsSafely : Decls → Config → List Entry → Config → Type 0
LeadsSafely decls before [] after = IsSafe decls before × (before ≡ after)
LeadsSafely decls before (entry ∷ entries) after =
    IsSafe decls before × IsSafeEvent decls before entry × ((mid : Config) × Event decls before entry mid × LeadsSafely decls mid entries after)

-- In every run every event and every configuration on the way is safe.
abbrev pub EachRunIsSafe : Decls → Type 0
EachRunIsSafe decls = (entries : List Entry) (after : Config) → IsRun decls entries after → LeadsSafely decls (initial decls) entries after

-- After every run of free nodes, also the one without events, the coherences and invariants hold.
abbrev pub EachFreeRunMeetsInvariants : Decls → Type 0
EachFreeRunMeetsInvariants decls = (entries : List Entry) (after : Config) → IsFreeRun decls entries after → MeetsInvariants decls after.state
