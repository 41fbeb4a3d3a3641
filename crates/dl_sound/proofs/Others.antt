-- A move of another node keeps what holds of a machine.
use Rattle.std.proofs.Common.{◌≡◌, ℕ, ◌<◌, ℤ, pos, Bool, true, false, not, ◌||◌, List, [], ◌∷◌, refl, sym, ◌∙◌, cond, arith, inl, inr}
use Rattle.dl_term.specs.declared.syntax.Lab.{Lab}
use Rattle.dl_term.specs.declared.syntax.Lab.TheVariants.{Own, At}
use Rattle.dl_term.specs.declared.syntax.Formula.{Formula}
use Rattle.dl_term.specs.State.{State}
use Rattle.dl_term.specs.Names.{Names, with_number, label_of}
use Rattle.dl_model.specs.Block.{Block, Done, Sends, Awaits, Polls, Reads, Sets, Ifs, Whiles, Calls}
use Rattle.dl_model.specs.Sorts.{is_i64, has}
use Rattle.dl_model.specs.Lookup.{composed, world_of, proc_at}
use Rattle.dl_model.specs.Worlds.{Injects}
use Rattle.dl_model.specs.Steps.{Step, CanStep, Meets, after_step, label_of_step}
use Rattle.dl_model.specs.Words.{result_word}
use Rattle.dl_model.specs.Machine.{value_of, passes, entry_names, Frame, Machine, Working, Over}
use Rattle.dl_sound.proofs.Needed.{AllObligations, IsIn, IsOnlyIn, BlockNeeds, ProgramNeeds}
use Rattle.dl_sound.specs.Obligations.{NamesAreSorted, Test, ready, at_end, BlockObligations, StandsAt, IsStable, IsKeptAt}
use Rattle.dl_term.specs.Meaning.{holds}
use Rattle.dl_model.specs.declared.file.World.{World}
use Rattle.dl_model.specs.declared.file.Decls.{Decls}
use Rattle.dl_sound.proofs.Agree.{holds-same}
use Rattle.std.specs.List.{AllByRecursion as Each}
use Rattle.dl_model.specs.Spoken.{labels_of}
use Rattle.dl_model.proofs.Small.{some-none}
use Rattle.dl_sound.proofs.Kept.{IsSound, apart, meets-small, facts-of, statelet-other, nodes-moved, true-or-false}
use Rattle.dl_sound.proofs.Named.{ArePlain, plain-with, sorted-with, sorted-beside, fine-entry}
use Rattle.dl_sound.proofs.Fine.{FrameIsFine, IsCalling, CallersAreFine, MachineIsFine}

unless : (b p q : Bool) → (b ≡ true → p ≡ true → q ≡ true) → (not b || p) ≡ true → (not b || q) ≡ true
unless true p q h k = h refl k
unless false p q h k = refl

either : (b l r l' r' : Bool) → (l ≡ true → l' ≡ true) → (r ≡ true → r' ≡ true) → cond b l r ≡ true → cond b l' r' ≡ true
either true l r l' r' h k e = h e
either false l r l' r' h k e = k e

-- the label of a step is none that the formula names
pub formula-other : (d : Decls) (s : State) (mover : ℕ) (move : Step) (L : Lab → Type 0) (f : Formula) (names : Names) → Each L (labels_of f) → ArePlain names →
    ((lab : Lab) → L lab → label_of names.own lab ≡ label_of_step move → ⊥) → holds f names s ≡ holds f names (after_step d.inst s mover move)
formula-other d s mover move L f names sp nu out = holds-same L s (after_step d.inst s mover move) f names sp (record {
  nodes = nodes-moved d.inst s mover move;
  labels = λ lab l. statelet-other d.inst s mover move (label_of names.own lab) (out lab l);
  messages = λ m l id e. absurd (some-none (names.message m) _ e (nu.messages m));
})

outside : (world : World) (own label : ℕ) → has world.labels label ≡ false → (lab : Lab) → IsIn world lab → label_of own lab ≡ label → ⊥
outside world own label n Own i = cc
outside world own label n (At l) i = apart world.labels l label i n

outside-apart : (world other : World) (own label : ℕ) → has world.labels label ≡ false → (lab : Lab) → IsOnlyIn world other lab → label_of own lab ≡ label → ⊥
outside-apart world other own label n lab i = outside world own label n lab i.0

pub inside-apart : (world other : World) (own label : ℕ) → has other.labels label ≡ true → (lab : Lab) → IsOnlyIn world other lab → label_of own lab ≡ label → ⊥
inside-apart world other own label m Own i = cc (i.0)
inside-apart world other own label m (At l) i = λ e. apart other.labels label l m i.1 (sym e)

module _ (d : Decls) (programs : ProgramNeeds d) (duties : AllObligations d) (s : State) (sound : IsSound d s) (mover : ℕ) (move : Step)
    (known : mover < d.inst.nodes) (can : CanStep d.inst s mover move) (meets : Meets d (composed d) s mover move) (node : ℕ) (other : mover ≡ node → ⊥) where
  stable-kept : (proc : ℕ) → Injects d (world_of d proc) (composed d) → (L : Lab → Type 0) (note : Formula) (names : Names) → Each L (labels_of note) → ArePlain names →
      (has (world_of d proc).labels (label_of_step move) ≡ false → (lab : Lab) → L lab → label_of names.own lab ≡ label_of_step move → ⊥) →
      IsKeptAt d proc note node names s → holds note names s ≡ true → holds note names (after_step d.inst s mover move) ≡ true
  stable-kept proc i L note names sp nu out kept h = elim (true-or-false (has (world_of d proc).labels (label_of_step move))) [
    | inl m ↦ kept mover move known other m can (meets-small d (world_of d proc) (composed d) s mover move i meets)
    | inr n ↦ sym (formula-other d s mover move L note names sp nu (out n)) ∙ h
  ]

  holds-there : (proc : ℕ) → Injects d (world_of d proc) (composed d) → (note : Formula) (names : Names) → NamesAreSorted d proc node names → holds note names s ≡ true → StandsAt d proc node names s note
  holds-there proc i note names so h = record { sorted = sound.sorted; named = so; facts = facts-of d (world_of d proc) s i sound.good; true_there = h }

  note-kept : (proc : ℕ) → Injects d (world_of d proc) (composed d) → (note : Formula) → Each (IsIn (world_of d proc)) (labels_of note) → IsStable d proc note → (names : Names) → NamesAreSorted d proc node names → ArePlain names →
      holds note names s ≡ true → holds note names (after_step d.inst s mover move) ≡ true
  note-kept proc i note sp st names so nu h = stable-kept proc i (IsIn (world_of d proc)) note names sp nu (outside (world_of d proc) names.own (label_of_step move)) (st node names s (holds-there proc i note names so h)) h

  abbrev IsKept : ℕ → Test → Type 0
  IsKept proc test = (names : Names) → NamesAreSorted d proc node names → ArePlain names → test names s ≡ true → test names (after_step d.inst s mover move) ≡ true

  ready-kept : (proc : ℕ) → Injects d (world_of d proc) (composed d) → (left : Block) (after : Test) → BlockNeeds d proc left → BlockObligations d proc left after → IsKept proc after → IsKept proc (ready left after)
  ready-kept proc i Done after f h k = k
  ready-kept proc i (Sends note label tag to args rest) after f h k = note-kept proc i note f.0 h.stable
  ready-kept proc i (Awaits note label tag sender args rest) after f h k = note-kept proc i note f.0 h.stable
  ready-kept proc i (Polls note got label tag sender args rest) after f h k = note-kept proc i note f.0 h.stable
  ready-kept proc i (Reads note into label field index rest) after f h k = note-kept proc i note f.0 h.stable
  ready-kept proc i (Sets target value rest) after f h k = λ names so nu e.
      unless (is_i64 (value_of value names)) _ _ (λ int. ready-kept proc i rest after f.1 h k (with_number names target (value_of value names))
      (sorted-with d proc node names target (value_of value names) (programs.procs proc) f.0 int so) (plain-with names target (value_of value names) nu)) e
  ready-kept proc i (Ifs test left right rest) after f h k = λ names so nu e.
      either (passes test names) _ _ _ _ (ready-kept proc i left (ready rest after) f.0 h.if_true (ready-kept proc i rest after f.2 h.after_it k) names so nu)
      (ready-kept proc i right (ready rest after) f.1 h.if_false (ready-kept proc i rest after f.2 h.after_it k) names so nu) e
  ready-kept proc i (Whiles test note body rest) after f h k = note-kept proc i note f.0 h.stable
  ready-kept proc i (Calls note frame into callee args rest) after f h k = note-kept proc i note f.0 h.stable

  -- the postcondition with a result
  post-kept : (proc : ℕ) → Injects d (world_of d proc) (composed d) → (names : Names) (v : ℤ) → NamesAreSorted d proc node names → ArePlain names → is_i64 v ≡ true →
      holds (proc_at d.procs proc).post (with_number names result_word v) s ≡ true → holds (proc_at d.procs proc).post (with_number names result_word v) (after_step d.inst s mover move) ≡ true
  post-kept proc i names v so nu int h =
      stable-kept proc i (IsIn (world_of d proc)) (proc_at d.procs proc).post (with_number names result_word v) (programs.procs proc).post (plain-with names result_word v nu)
      (outside (world_of d proc) names.own (label_of_step move))
      ((duties.procs proc).post node (with_number names result_word v) s (holds-there proc i (proc_at d.procs proc).post (with_number names result_word v)
      (sorted-beside d proc node names result_word v (programs.procs proc) so (omega arith) (programs.procs proc).result (λ x p. p.2)) h) int) h

  at_end-kept : (proc : ℕ) → Injects d (world_of d proc) (composed d) → IsKept proc (at_end d proc)
  at_end-kept proc i = λ names so nu e.
      unless (is_i64 (value_of (proc_at d.procs proc).result names)) _ _ (λ int. post-kept proc i names (value_of (proc_at d.procs proc).result names) so nu int) e

  calling-kept : (callee : ℕ) (values own : List ℤ) (proc : ℕ) (names : Names) (left : Block) → FrameIsFine d node own proc names left → IsCalling callee values names s left → IsCalling callee values names (after_step d.inst s mover move) left
  calling-kept callee values own proc names (Calls note frame into q args rest) f c = (
    c.0,
    c.1,
    stable-kept proc f.world (IsOnlyIn (world_of d proc) (world_of d q)) frame names f.formed.1 f.fine.plain
        (outside-apart (world_of d proc) (world_of d q) names.own (label_of_step move))
        (f.duties.keeps node names s (holds-there proc f.world frame names f.fine.sorted c.2)) c.2,
  )
  calling-kept callee values own proc names _ f c = absurd c

  callers-kept : (callee : ℕ) (values : List ℤ) (callers : List Frame) → CallersAreFine d s node callee values callers → CallersAreFine d (after_step d.inst s mover move) node callee values callers
  callers-kept callee values [] h = h
  callers-kept callee values (g ∷ gs) h = (h.0, h.1, calling-kept callee values h.0 g.proc g.names g.left h.1 h.2, callers-kept g.proc h.0 gs h.3)

  pub machine-kept : (machine : Machine) → MachineIsFine d s node machine → MachineIsFine d (after_step d.inst s mover move) node machine
  machine-kept (Over v) h =
      let p = programs.programs node h.0 h.1 in
      let n = fine-entry d h.0.proc node h.0.constants (programs.procs h.0.proc) p.known p.constants in
      (h.0, h.1, h.2, post-kept h.0.proc p.injected (entry_names (proc_at d.procs h.0.proc) (pos node) h.0.constants) v n.sorted n.plain h.2 h.3)
  machine-kept (Working frame callers) h = (
    h.0,
    h.1,
    ready-kept frame.proc h.1.world frame.left (at_end d frame.proc) h.1.formed h.1.duties (at_end-kept frame.proc h.1.world) frame.names h.1.fine.sorted h.1.fine.plain h.2,
    callers-kept frame.proc h.0 callers h.3,
  )
