-- A tick keeps what holds of a machine.
use Rattle.std.proofs.Common.{◌≡◌, ℕ, zero, suc, ◌<◌, ◌==◌, ap, ℤ, pos, Bool, true, false, not, ◌||◌, List, [], ◌∷◌, refl, sym, ◌∙◌, subst, cond}
use Rattle.dl_term.specs.declared.syntax.Formula.{Formula}
use Rattle.dl_term.specs.State.{State}
use Rattle.dl_term.specs.Names.{Names, with_number}
use Rattle.dl_model.specs.Block.{Block, Done, Sends, Awaits, Polls, Reads, Sets, Ifs, Whiles, Calls, joined}
use Rattle.dl_model.specs.Sorts.{is_i64, all_i64}
use Rattle.dl_model.specs.Lookup.{composed, world_of, proc_at}
use Rattle.dl_model.specs.Worlds.{Injects}
use Rattle.dl_model.specs.Words.{result_word}
use Rattle.dl_model.specs.Machine.{value_of, values_of, passes, entry_names, Frame, Machine, Working, Over, Next, Ticks, Asks, Stops, next, next_at, returned, resumed, entered, Ticked}
use Rattle.dl_sound.proofs.Needed.{AllObligations, injects-through, BlockNeeds, StateNeeds, ProgramNeeds}
use Rattle.dl_sound.specs.Obligations.{NamesAreSorted, Test, ready, at_end, BlockObligations, StandsAt}
use Rattle.dl_term.specs.Meaning.{holds}
use Rattle.dl_model.specs.declared.history.Call.{Call}
use Rattle.dl_model.specs.declared.file.Decls.{Decls}
use Rattle.dl_term.proofs.Agree.{holds-agree}
use Rattle.dl_sound.proofs.Kept.{IsSound, facts-of}
use Rattle.dl_sound.proofs.Named.{NamesAreFine, plain-entry, fine-with, fine-entry}
use Rattle.dl_sound.proofs.Blocks.{ready-joined, formed-joined, duties-joined}
use Rattle.dl_sound.proofs.Fine.{FrameIsFine, IsCalling, CallersAreFine, MachineIsFine}

-- ---- what a machine does next

abbrev after_tick : Next → Machine
after_tick (Ticks m) = m
after_tick _ = Over (pos 0)

pub ticks-same : (a b : Machine) → Ticks a ≡ Ticks b → a ≡ b
ticks-same a b e = cc

pub tick-if : (b : Bool) (a m : Machine) → cond b (Ticks a) Stops ≡ Ticks m → (b ≡ true) × (a ≡ m)
tick-if true a m e = (refl, ticks-same a m e)
tick-if false a m e = cc

ask-no_tick : (b : Bool) (c : Call) (m : Machine) → cond b (Asks c) Stops ≡ Ticks m → ⊥
ask-no_tick true c m e = cc
ask-no_tick false c m e = cc

unless-true : (b p : Bool) → b ≡ true → (not b || p) ≡ true → p ≡ true
unless-true true p h k = k
unless-true false p h k = cc

given_with : (b : Bool) (v a a' : ℤ) → a ≡ a' → cond b v a ≡ cond b v a'
given_with b v a a' e = ap (cond b v) e

module _ (d : Decls) (formed : StateNeeds d) (programs : ProgramNeeds d) (duties : AllObligations d) (s : State) (sound : IsSound d s) (node : ℕ) (known : node < d.inst.nodes) where
  pub holds-here : (proc : ℕ) → Injects d (world_of d proc) (composed d) → (note : Formula) (names : Names) → NamesAreSorted d proc node names → holds note names s ≡ true → StandsAt d proc node names s note
  holds-here proc i note names so h = record { sorted = sound.sorted; named = so; facts = facts-of d (world_of d proc) s i sound.good; true_there = h }

  -- a postcondition sees the arguments, and no local
  post-given : (proc : ℕ) (values : List ℤ) (names : Names) (v : ℤ) → NamesAreFine d proc node values names →
      holds (proc_at d.procs proc).post (with_number names result_word v) s ≡ holds (proc_at d.procs proc).post (with_number (entry_names (proc_at d.procs proc) (pos node) values) result_word v) s
  post-given proc values names v f = holds-agree (proc_at d.procs proc).post (with_number names result_word v) (with_number (entry_names (proc_at d.procs proc) (pos node) values) result_word v) s (record {
    own = f.plain.own ∙ sym (plain-entry (proc_at d.procs proc) (pos node) values).own;
    number = λ x free. given_with (x == result_word) v _ _ (f.given x ((programs.procs proc).post_closed x free));
    message = λ m free. f.plain.messages m ∙ sym ((plain-entry (proc_at d.procs proc) (pos node) values).messages m);
  })

  -- ---- a return

  resumed-fine : (callee : ℕ) (values : List ℤ) (v : ℤ) → is_i64 v ≡ true → holds (proc_at d.procs callee).post (with_number (entry_names (proc_at d.procs callee) (pos node) values) result_word v) s ≡ true →
      (proc : ℕ) (own : List ℤ) (names : Names) (left : Block) (callers : List Frame) → FrameIsFine d node own proc names left → IsCalling callee values names s left → CallersAreFine d s node proc own callers →
      MachineIsFine d s node (Working (resumed proc names v left) callers)
  resumed-fine callee values v int post proc own names (Calls note frame into q args rest) callers f c more = (
    own,
    record {
      world = f.world;
      formed = f.formed.4;
      duties = f.duties.after_it;
      fine = fine-with d proc node own names into v (programs.procs proc) f.formed.2 int f.fine;
    },
    f.duties.left node names s (holds-here proc f.world frame names f.fine.sorted c.2) v int
        (subst (λ k. holds (proc_at d.procs k).post (with_number (entry_names (proc_at d.procs k) (pos node) (values_of args names)) result_word v) s ≡ true) (sym c.0)
        (subst (λ vs. holds (proc_at d.procs callee).post (with_number (entry_names (proc_at d.procs callee) (pos node) vs) result_word v) s ≡ true) (sym c.1) post)),
    more,
  )
  resumed-fine callee values v int post proc own names _ callers f c more = absurd c

  returned-fine : (proc : ℕ) (values : List ℤ) (v : ℤ) (callers : List Frame) → is_i64 v ≡ true →
      holds (proc_at d.procs proc).post (with_number (entry_names (proc_at d.procs proc) (pos node) values) result_word v) s ≡ true → CallersAreFine d s node proc values callers →
      MachineIsFine d s node (returned callers v)
  returned-fine proc values v [] int post c = (
    c.0,
    c.1,
    int,
    subst (λ k. holds (proc_at d.procs k).post (with_number (entry_names (proc_at d.procs k) (pos node) c.0.constants) result_word v) s ≡ true) (sym c.2)
        (subst (λ vs. holds (proc_at d.procs proc).post (with_number (entry_names (proc_at d.procs proc) (pos node) vs) result_word v) s ≡ true) (sym c.3) post),
  )
  returned-fine proc values v (g ∷ gs) int post c = resumed-fine proc values v int post g.proc c.0 g.names g.left gs c.1 c.2 c.3

  -- ---- a choice and a loop

  -- a frame, and what holds of it
  abbrev IsReady : ℕ → List ℤ → Names → Block → Type 0
  IsReady proc values names left = FrameIsFine d node values proc names left × (ready left (at_end d proc) names s ≡ true)

  joined-ready : (proc : ℕ) (values : List ℤ) (names : Names) (a b : Block) → Injects d (world_of d proc) (composed d) → NamesAreFine d proc node values names → BlockNeeds d proc a → BlockNeeds d proc b →
      BlockObligations d proc a (ready b (at_end d proc)) → BlockObligations d proc b (at_end d proc) → ready a (ready b (at_end d proc)) names s ≡ true → IsReady proc values names (joined a b)
  joined-ready proc values names a b w n fa fb da db r = (
    record { world = w; formed = formed-joined d proc a b fa fb; duties = duties-joined d proc a b (at_end d proc) da db; fine = n },
    subst (λ (T : Test). T names s ≡ true) (sym (ready-joined a b (at_end d proc))) r,
  )

  chosen-ready : (test : Formula) (left right rest : Block) (proc : ℕ) (values : List ℤ) (names : Names) (b : Bool) → FrameIsFine d node values proc names (Ifs test left right rest) →
      cond b (ready left (ready rest (at_end d proc)) names s) (ready right (ready rest (at_end d proc)) names s) ≡ true →
      IsReady proc values names (cond b (joined left rest) (joined right rest))
  chosen-ready test left right rest proc values names true f r = joined-ready proc values names left rest f.world f.fine f.formed.0 f.formed.2 f.duties.if_true f.duties.after_it r
  chosen-ready test left right rest proc values names false f r = joined-ready proc values names right rest f.world f.fine f.formed.1 f.formed.2 f.duties.if_false f.duties.after_it r

  turned-ready : (test note : Formula) (body rest : Block) (proc : ℕ) (values : List ℤ) (names : Names) (b : Bool) → FrameIsFine d node values proc names (Whiles test note body rest) → holds note names s ≡ true →
      passes test names ≡ b → IsReady proc values names (cond b (joined body (Whiles test note body rest)) rest)
  turned-ready test note body rest proc values names true f r e =
      joined-ready proc values names body (Whiles test note body rest) f.world f.fine f.formed.1 f.formed f.duties.inside f.duties (f.duties.turn node names s (holds-here proc f.world note names f.fine.sorted r) e)
  turned-ready test note body rest proc values names false f r e =
      (record { world = f.world; formed = f.formed.2; duties = f.duties.after_it; fine = f.fine }, f.duties.exit node names s (holds-here proc f.world note names f.fine.sorted r) e)

  -- ---- a tick

  tick-fine_at : (proc : ℕ) (names : Names) (callers : List Frame) (left : Block) (values : List ℤ) (m : Machine) → FrameIsFine d node values proc names left → ready left (at_end d proc) names s ≡ true →
      CallersAreFine d s node proc values callers → next_at d.procs proc names callers left ≡ Ticks m → MachineIsFine d s node m
  tick-fine_at proc names callers Done values m f r c e =
      let t = tick-if (is_i64 (value_of (proc_at d.procs proc).result names)) (returned callers (value_of (proc_at d.procs proc).result names)) m e in
      subst (MachineIsFine d s node) t.1 (returned-fine proc values (value_of (proc_at d.procs proc).result names) callers t.0
      (sym (post-given proc values names (value_of (proc_at d.procs proc).result names) f.fine) ∙ unless-true (is_i64 (value_of (proc_at d.procs proc).result names)) _ t.0 r) c)
  tick-fine_at proc names callers (Sets target value rest) values m f r c e =
      let t = tick-if (is_i64 (value_of value names)) _ m e in
      subst (MachineIsFine d s node) t.1 (
        values,
        record { world = f.world; formed = f.formed.1; duties = f.duties; fine = fine-with d proc node values names target (value_of value names) (programs.procs proc) f.formed.0 t.0 f.fine },
        unless-true (is_i64 (value_of value names)) _ t.0 r,
        c,
      )
  tick-fine_at proc names callers (Ifs test left right rest) values m f r c e =
      let k = chosen-ready test left right rest proc values names (passes test names) f r in
      subst (MachineIsFine d s node) (ticks-same _ m e) (values, k.0, k.1, c)
  tick-fine_at proc names callers (Whiles test note body rest) values m f r c e =
      let k = turned-ready test note body rest proc values names (passes test names) f r refl in
      subst (MachineIsFine d s node) (ticks-same _ m e) (values, k.0, k.1, c)
  tick-fine_at proc names callers (Calls note frame into callee args rest) values m f r c e =
      let t = tick-if (all_i64 (values_of args names)) _ m e in
      let h = holds-here proc f.world note names f.fine.sorted r in
      let w = injects-through d (world_of d callee) (world_of d proc) (composed d) f.formed.3 f.world in
      let n = fine-entry d callee node (values_of args names) (programs.procs callee) known (f.duties.sorted node names s h) in
      subst (MachineIsFine d s node) t.1
      (subst (λ z. MachineIsFine d s node (Working (entered d.procs callee z (values_of args names)) (record { proc = proc; left = Calls note frame into callee args rest; names = names } ∷ callers))) (sym f.fine.sorted.me) (
        values_of args names,
        record { world = w; formed = (programs.procs callee).body; duties = (duties.procs callee).body; fine = n },
        (duties.procs callee).start node (values_of args names) s (holds-here callee w (proc_at d.procs callee).pre (entry_names (proc_at d.procs callee) (pos node) (values_of args names)) n.sorted (f.duties.entered node names s h)),
        (values, f, (refl, refl, f.duties.framed node names s h), c),
      ))
  tick-fine_at proc names callers (Sends note label tag to args rest) values m f r c e = absurd (ask-no_tick _ _ m e)
  tick-fine_at proc names callers (Awaits note label tag sender args rest) values m f r c e = cc
  tick-fine_at proc names callers (Polls note got label tag sender args rest) values m f r c e = cc
  tick-fine_at proc names callers (Reads note into label field index rest) values m f r c e = absurd (ask-no_tick _ _ m e)

  tick-fine : (before after : Machine) → MachineIsFine d s node before → next d.procs before ≡ Ticks after → MachineIsFine d s node after
  tick-fine (Over v) after h e = cc
  tick-fine (Working frame callers) after h e = tick-fine_at frame.proc frame.names callers frame.left h.0 after h.1 h.2 h.3 e

  pub ticked-fine : (k : ℕ) (before after : Machine) → MachineIsFine d s node before → Ticked d.procs k before after → MachineIsFine d s node after
  ticked-fine zero before after h t = subst (MachineIsFine d s node) t h
  ticked-fine (suc k) before after h t = ticked-fine k t.0 after (tick-fine before t.0 h t.1) t.2
