-- What the obligations of a file say where each of them is valid: a fact of all well-sorted states and of all names that fit.
use Rattle.std.specs.Prelude.{◌≡◌, ℕ, ◌<◌, ℤ, pos, Bool, true, false, not, ◌||◌, if◌then◌else◌, Some, List, length, slice_get}
use Rattle.dl_term.specs.declared.syntax.Formula.{Formula}
use Rattle.dl_term.specs.State.{State, field_at}
use Rattle.dl_term.specs.Names.{Names, with_number}
use Rattle.dl_model.specs.Block.{Block, Done, Sends, Awaits, Polls, Reads, Sets, Ifs, Whiles, Calls, block_of}
use Rattle.dl_model.specs.Sorts.{in_sort, all_in_sorts, is_i64, has}
use Rattle.dl_model.specs.Lookup.{world_at, proc_at, program_of, world_of, arg_sorts}
use Rattle.dl_model.specs.Worlds.{Injects}
use Rattle.std.specs.List.{AllByRecursion as Each}
use Rattle.dl_model.specs.States.{IsWellSorted, first_state}
use Rattle.dl_model.specs.Steps.{Step, Sending, Receiving, CanStep, Meets, after_step, message_in, label_of_step}
use Rattle.dl_model.specs.Words.{me_word, result_word}
use Rattle.dl_model.specs.Machine.{value_of, values_of, index_value, passes, entry_names, got_names}
use Rattle.dl_model.specs.Safe.{coherent, invariant_holds, post_names}
use Rattle.dl_model.specs.Runs.{index_or_0}
use Rattle.dl_term.specs.Meaning.{value, holds}
use Rattle.dl_model.specs.declared.file.World.{World}
use Rattle.dl_model.specs.declared.file.Invariant.{Invariant}
use Rattle.dl_model.specs.declared.file.Program.{Program}
use Rattle.dl_model.specs.declared.file.Decls.{Decls}

-- ---- facts

-- the coherences of the world's labels, and the invariants before this one that are visible in the world
pub record FactsBefore (decls : Decls) (n : ℕ) (world : World) (state : State) : Type 0 where
  pub coherences : (label : ℕ) → has world.labels label ≡ true → coherent decls.inst label state ≡ true
  pub invariants : (i : ℕ) (invariant : Invariant) → i < n → slice_get decls.invariants i ≡ Some invariant → Injects decls (world_at decls invariant.world) world → invariant_holds invariant state ≡ true

-- the same with all invariants that are visible in the world
pub record Facts (decls : Decls) (world : World) (state : State) : Type 0 where
  pub coherences : (label : ℕ) → has world.labels label ≡ true → coherent decls.inst label state ≡ true
  pub invariants : (i : ℕ) (invariant : Invariant) → slice_get decls.invariants i ≡ Some invariant → Injects decls (world_at decls invariant.world) world → invariant_holds invariant state ≡ true

-- ---- protocols and invariants. A step is a send or a receive.

pub record ProtocolObligations (decls : Decls) : Type 0 where
  pub init : (label : ℕ) → coherent decls.inst label (first_state decls.inst) ≡ true
  pub step : (state : State) (node : ℕ) (step : Step) → IsWellSorted decls.inst state → node < decls.inst.nodes → coherent decls.inst (label_of_step step) state ≡ true →
      CanStep decls.inst state node step → coherent decls.inst (label_of_step step) (after_step decls.inst state node step) ≡ true

pub record InvariantObligations (decls : Decls) (i : ℕ) (invariant : Invariant) : Type 0 where
  pub init : invariant_holds invariant (first_state decls.inst) ≡ true
  pub step : (state : State) (node : ℕ) (step : Step) → IsWellSorted decls.inst state → node < decls.inst.nodes → FactsBefore decls i (world_at decls invariant.world) state →
      invariant_holds invariant state ≡ true → has (world_at decls invariant.world).labels (label_of_step step) ≡ true → CanStep decls.inst state node step →
      Meets decls (world_at decls invariant.world) state node step → invariant_holds invariant (after_step decls.inst state node step) ≡ true

pub record StateObligations (decls : Decls) : Type 0 where
  pub protocols : ProtocolObligations decls
  pub invariants : (i : ℕ) (invariant : Invariant) → slice_get decls.invariants i ≡ Some invariant → InvariantObligations decls i invariant

-- ---- programs

-- what a program may rely on at a point: a test of names and state
abbrev pub Test : Type 0
Test = Names → State → Bool

abbrev pub truth : Formula → Test
truth f names state = holds f names state

-- Where no tick stops on the way, the annotation of the first point of the block holds, or at its end the test.
abbrev pub ready : Block → Test → Test
ready Done after names state = after names state
ready (Sends note label tag to args rest) after names state = holds note names state
ready (Awaits note label tag sender args rest) after names state = holds note names state
ready (Polls note got label tag sender args rest) after names state = holds note names state
ready (Reads note into label field index rest) after names state = holds note names state
ready (Sets target value rest) after names state =
    not (is_i64 (value_of value names)) || ready rest after (with_number names target (value_of value names)) state
ready (Ifs test left right rest) after names state =
    if passes test names then ready left (ready rest after) names state else ready right (ready rest after) names state
ready (Whiles test note body rest) after names state = holds note names state
ready (Calls note frame into callee args rest) after names state = holds note names state

-- at the end of a procedure: its postcondition with the returned number as result
abbrev pub at_end : Decls → ℕ → Test
at_end decls proc names state =
    not (is_i64 (value_of (proc_at decls.procs proc).result names)) ||
    holds (proc_at decls.procs proc).post (with_number names result_word (value_of (proc_at decls.procs proc).result names)) state

-- `me` is the node, and each parameter and local has a number of its sort.
pub record NamesAreSorted (decls : Decls) (proc node : ℕ) (names : Names) : Type 0 where
  pub known : node < decls.inst.nodes
  pub me : names.number me_word ≡ pos node
  pub params : Each (λ param. in_sort param.1 (names.number param.0) ≡ true) (proc_at decls.procs proc).params
  pub locals : (sym : ℕ) → has (proc_at decls.procs proc).locals sym ≡ true → is_i64 (names.number sym) ≡ true

-- what an obligation of a procedure may take for granted
pub record StandsAt (decls : Decls) (proc node : ℕ) (names : Names) (state : State) (note : Formula) : Type 0 where
  pub sorted : IsWellSorted decls.inst state
  pub named : NamesAreSorted decls proc node names
  pub facts : Facts decls (world_of decls proc) state
  pub true_there : holds note names state ≡ true

-- Where the annotation holds, this holds.
abbrev pub Wherever : Decls → ℕ → Formula → (ℕ → Names → State → Type 0) → Type 0
Wherever decls proc note P = (node : ℕ) (names : Names) (state : State) → StandsAt decls proc node names state note → P node names state

-- No step of another node makes the formula false.
abbrev pub IsKeptAt : Decls → ℕ → Formula → ℕ → Names → State → Type 0
IsKeptAt decls proc note node names state =
    (mover : ℕ) (step : Step) → mover < decls.inst.nodes → (mover ≡ node → ⊥) → has (world_of decls proc).labels (label_of_step step) ≡ true →
    CanStep decls.inst state mover step → Meets decls (world_of decls proc) state mover step → holds note names (after_step decls.inst state mover step) ≡ true

abbrev pub IsStable : Decls → ℕ → Formula → Type 0
IsStable decls proc note = Wherever decls proc note (IsKeptAt decls proc note)

-- the send is allowed, by the hooks of the procedure's world too
abbrev pub IsAllowed : Decls → ℕ → ℕ → State → Step → Type 0
IsAllowed decls proc node state step = CanStep decls.inst state node step × Meets decls (world_of decls proc) state node step

-- the obligations of the points of a block, after which the test is to hold
abbrev pub BlockObligations : Decls → ℕ → Block → Test → Type 0
BlockObligations decls proc Done after = Unit {0}
BlockObligations decls proc (Sends note label tag to args rest) after =
    record {
      guard : Wherever decls proc note (λ node names state. IsAllowed decls proc node state (Sending label tag (value_of to names) (values_of args names)));
      sent : Wherever decls proc note (λ node names state. IsAllowed decls proc node state (Sending label tag (value_of to names) (values_of args names)) →
          ready rest after names (after_step decls.inst state node (Sending label tag (value_of to names) (values_of args names))) ≡ true);
      stable : IsStable decls proc note;
      after_it : BlockObligations decls proc rest after;
    }
BlockObligations decls proc (Awaits note label tag sender args rest) after =
    record {
      taken : Wherever decls proc note (λ node names state. (id : ℕ) → (message_in state label id).tag ≡ tag → CanStep decls.inst state node (Receiving label id) →
          ready rest after (got_names names sender args (message_in state label id).from (message_in state label id).args) (after_step decls.inst state node (Receiving label id)) ≡ true);
      stable : IsStable decls proc note;
      after_it : BlockObligations decls proc rest after;
    }
BlockObligations decls proc (Polls note got label tag sender args rest) after =
    record {
      taken : Wherever decls proc note (λ node names state. (id : ℕ) → (message_in state label id).tag ≡ tag → CanStep decls.inst state node (Receiving label id) →
          ready rest after (got_names (with_number names got (pos 1)) sender args (message_in state label id).from (message_in state label id).args) (after_step decls.inst state node (Receiving label id)) ≡ true);
      missed : Wherever decls proc note (λ node names state. ready rest after (with_number names got (pos 0)) state ≡ true);
      stable : IsStable decls proc note;
      after_it : BlockObligations decls proc rest after;
    }
BlockObligations decls proc (Reads note into label field index rest) after =
    record {
      read : Wherever decls proc note (λ node names state. ready rest after (with_number names into (field_at state label field (pos node) (index_or_0 (index_value index names)))) state ≡ true);
      stable : IsStable decls proc note;
      after_it : BlockObligations decls proc rest after;
    }
BlockObligations decls proc (Sets target value rest) after = BlockObligations decls proc rest after
BlockObligations decls proc (Ifs test left right rest) after =
    record {
      if_true : BlockObligations decls proc left (ready rest after);
      if_false : BlockObligations decls proc right (ready rest after);
      after_it : BlockObligations decls proc rest after;
    }
BlockObligations decls proc (Whiles test note body rest) after =
    record {
      turn : Wherever decls proc note (λ node names state. passes test names ≡ true → ready body (truth note) names state ≡ true);
      exit : Wherever decls proc note (λ node names state. passes test names ≡ false → ready rest after names state ≡ true);
      stable : IsStable decls proc note;
      inside : BlockObligations decls proc body (truth note);
      after_it : BlockObligations decls proc rest after;
    }
BlockObligations decls proc (Calls note frame into callee args rest) after =
    record {
      sorted : Wherever decls proc note (λ node names state. all_in_sorts (arg_sorts (proc_at decls.procs callee).params) (values_of args names) ≡ true);
      entered : Wherever decls proc note (λ node names state. holds (proc_at decls.procs callee).pre (entry_names (proc_at decls.procs callee) (pos node) (values_of args names)) state ≡ true);
      framed : Wherever decls proc note (λ node names state. holds frame names state ≡ true);
      left : Wherever decls proc frame (λ node names state. (v : ℤ) → is_i64 v ≡ true →
          holds (proc_at decls.procs callee).post (post_names decls callee node (values_of args names) v) state ≡ true →
          ready rest after (with_number names into v) state ≡ true);
      stable : IsStable decls proc note;
      keeps : IsStable decls proc frame;
      after_it : BlockObligations decls proc rest after;
    }

pub record ProcObligations (decls : Decls) (proc : ℕ) : Type 0 where
  pub start : (node : ℕ) (args : List ℤ) (state : State) → StandsAt decls proc node (entry_names (proc_at decls.procs proc) (pos node) args) state (proc_at decls.procs proc).pre →
      ready (block_of (proc_at decls.procs proc).body) (at_end decls proc) (entry_names (proc_at decls.procs proc) (pos node) args) state ≡ true
  pub body : BlockObligations decls proc (block_of (proc_at decls.procs proc).body) (at_end decls proc)
  pub post : Wherever decls proc (proc_at decls.procs proc).post (λ node names state. is_i64 (names.number result_word) ≡ true → IsKeptAt decls proc (proc_at decls.procs proc).post node names state)

pub record FileObligations (decls : Decls) : Type 0 where
  pub states : StateObligations decls
  pub procs : (proc : ℕ) → proc < length decls.procs → ProcObligations decls proc
  pub deployed : (node : ℕ) (program : Program) → program_of decls node ≡ Some program →
      holds (proc_at decls.procs program.proc).pre (entry_names (proc_at decls.procs program.proc) (pos node) program.constants) (first_state decls.inst) ≡ true
