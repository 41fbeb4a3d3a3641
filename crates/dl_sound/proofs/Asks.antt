-- A call of a program is a step of its protocol, and the reply keeps what holds of the machine.
use Rattle.std.proofs.Common.{◌≡◌, ℕ, ◌<◌, ℤ, pos, Bool, true, false, ◌&&◌, Option, Some, List, [], ◌∷◌, refl, sym, ◌∙◌, subst, cond}
use Rattle.dl_term.specs.declared.syntax.Formula.{Formula}
use Rattle.dl_term.specs.declared.syntax.Term.{Term}
use Rattle.dl_term.specs.State.{State}
use Rattle.dl_term.specs.Names.{Names, with_number}
use Rattle.dl_model.specs.Block.{Block, Done, Sends, Awaits, Polls, Reads, Sets, Ifs, Whiles, Calls}
use Rattle.dl_model.specs.Sorts.{is_i64, all_i64, has}
use Rattle.dl_model.specs.Lookup.{composed, world_of, arg_sorts, tag_at}
use Rattle.std.specs.List.{AllByRecursion as Each}
use Rattle.dl_model.specs.Steps.{Step, Sending, Receiving, IsReceivable, after_step, message_in, label_of_step}
use Rattle.dl_model.specs.Machine.{value_of, values_of, index_value, index_is_i64, got_names, packed, listed, Frame, Machine, Working, Over, Ticks, Asks, Stops, next, next_at, after_reply, after_reply_at}
use Rattle.dl_model.specs.Runs.{Replies, step_of, state_after, index_or_0}
use Rattle.dl_sound.proofs.Needed.{AllObligations, IsOnlyIn, IsLocal, StateNeeds, ProgramNeeds}
use Rattle.dl_sound.specs.Obligations.{ready, at_end}
use Rattle.dl_term.specs.Meaning.{holds}
use Rattle.dl_model.specs.declared.history.Call.{Call}
use Rattle.dl_model.specs.declared.history.Call.TheVariants as call
use Rattle.dl_model.specs.declared.history.Reply.{Reply}
use Rattle.dl_model.specs.declared.history.Reply.TheVariants as reply
use Rattle.dl_model.specs.declared.file.Decls.{Decls}
use Rattle.dl_sound.proofs.Kept.{IsSound, IsStep, meets-large}
use Rattle.dl_sound.proofs.Named.{NamesAreFine, fine-with, fine-with-numbers}
use Rattle.dl_sound.proofs.Numbers.{ints-of_sorts, field-int, sender-int, listed-packed}
use Rattle.dl_sound.proofs.Fine.{FrameIsFine, IsCalling, CallersAreFine, MachineIsFine}
use Rattle.dl_sound.proofs.Others.{formula-other, inside-apart}
use Rattle.dl_sound.proofs.Ticks.{holds-here}

asks-same : (a b : Call) → Asks a ≡ Asks b → a ≡ b
asks-same a b e = cc

ask-if : (b : Bool) (a c : Call) → cond b (Asks a) Stops ≡ Asks c → (b ≡ true) × (a ≡ c)
ask-if true a c e = (refl, asks-same a c e)
ask-if false a c e = cc

tick-no_ask : (b : Bool) (m : Machine) (c : Call) → cond b (Ticks m) Stops ≡ Asks c → ⊥
tick-no_ask true m c e = cc
tick-no_ask false m c e = cc

module _ (d : Decls) (formed : StateNeeds d) (programs : ProgramNeeds d) (duties : AllObligations d) (s : State) (sound : IsSound d s) (node : ℕ) (known : node < d.inst.nodes) where
  -- ---- the frames of the callers speak of no label of the world in which the move is made

  calling-own : (move : Step) (callee : ℕ) (values own : List ℤ) (proc : ℕ) (names : Names) (left : Block) → has (world_of d callee).labels (label_of_step move) ≡ true → FrameIsFine d node own proc names left →
      IsCalling callee values names s left → IsCalling callee values names (after_step d.inst s node move) left × (has (world_of d proc).labels (label_of_step move) ≡ true)
  calling-own move callee values own proc names (Calls note frame into q args rest) m f c =
      let here = subst (λ k. has (world_of d k).labels (label_of_step move) ≡ true) (sym c.0) m in (
        (
          c.0,
          c.1,
          sym (formula-other d s node move (IsOnlyIn (world_of d proc) (world_of d q)) frame names f.formed.1 f.fine.plain
              (inside-apart (world_of d proc) (world_of d q) names.own (label_of_step move) here)) ∙ c.2,
        ),
        f.formed.3.labels (label_of_step move) here,
      )
  calling-own move callee values own proc names _ m f c = absurd c

  callers-own : (move : Step) (callee : ℕ) (values : List ℤ) (callers : List Frame) → has (world_of d callee).labels (label_of_step move) ≡ true → CallersAreFine d s node callee values callers →
      CallersAreFine d (after_step d.inst s node move) node callee values callers
  callers-own move callee values [] m h = h
  callers-own move callee values (g ∷ gs) m h =
      let k = calling-own move callee values h.0 g.proc g.names g.left m h.1 h.2 in
      (h.0, h.1, k.0, callers-own move g.proc h.0 gs k.1 h.3)

  -- ---- replies

  abbrev IsAnswered : ℕ → Names → List Frame → Block → Call → Reply → Type 0
  IsAnswered proc names callers left c r =
      IsStep d s node (step_of c r) × MachineIsFine d (state_after d.inst s node (step_of c r)) node (after_reply_at proc names callers r left)

  got-fine : (proc label id : ℕ) (values : List ℤ) (names : Names) (sender : ℕ) (syms : List ℕ) (from : ℕ) (vs : List ℤ) → NamesAreFine d proc node values names → IsLocal d proc sender → Each (IsLocal d proc) syms →
      IsReceivable d.inst s node label id → (message_in s label id).from ≡ from → (message_in s label id).args ≡ vs → NamesAreFine d proc node values (got_names names sender syms from vs)
  got-fine proc label id values names sender syms from vs n l ls c f a =
      fine-with-numbers d proc node values (with_number names sender (pos from)) syms vs (programs.procs proc) ls
      (subst (λ ws. all_i64 ws ≡ true) a (ints-of_sorts (arg_sorts (tag_at d.inst label (message_in s label id).tag).args) (message_in s label id).args (formed.args label (message_in s label id).tag) c.arguments))
      (fine-with d proc node values names sender (pos from) (programs.procs proc) l (subst (λ k. is_i64 (pos k) ≡ true) f (sender-int d s label id formed sound.sorted)) n)

  sent-fine : (proc : ℕ) (names : Names) (callers : List Frame) (values : List ℤ) (note : Formula) (label tag : ℕ) (to : Term) (args : List Term) (rest : Block) (r : Reply) →
      FrameIsFine d node values proc names (Sends note label tag to args rest) → holds note names s ≡ true → CallersAreFine d s node proc values callers →
      IsAnswered proc names callers (Sends note label tag to args rest) (call.Send label tag (value_of to names) (packed (values_of args names))) r
  sent-fine proc names callers values note label tag to args rest r f h c =
      let there = holds-here d formed programs duties s sound node known proc f.world note names f.fine.sorted h in
      let allowed = f.duties.guard node names s there in
      subst (λ vs. IsStep d s node (Some (Sending label tag (value_of to names) vs)) ×
      MachineIsFine d (after_step d.inst s node (Sending label tag (value_of to names) vs)) node (Working (record { proc = proc; left = rest; names = names }) callers)) (sym (listed-packed (values_of args names))) (
        (allowed.0, meets-large d (world_of d proc) (composed d) s node (Sending label tag (value_of to names) (values_of args names)) f.world f.formed.1 allowed.1),
        (
          values,
          record { world = f.world; formed = f.formed.2; duties = f.duties.after_it; fine = f.fine },
          f.duties.sent node names s there allowed,
          callers-own (Sending label tag (value_of to names) (values_of args names)) proc values callers f.formed.1 c,
        ),
      )

  awaited-fine : (proc : ℕ) (names : Names) (callers : List Frame) (values : List ℤ) (note : Formula) (label tag sender : ℕ) (syms : List ℕ) (rest : Block) (r : Reply) →
      FrameIsFine d node values proc names (Awaits note label tag sender syms rest) → holds note names s ≡ true → CallersAreFine d s node proc values callers → Replies d.inst s node (call.Await label tag) r →
      IsAnswered proc names callers (Awaits note label tag sender syms rest) (call.Await label tag) r
  awaited-fine proc names callers values note label tag sender syms rest (reply.Got id from args) f h c g = (
    (g.match.receivable, tt),
    (
      values,
      record {
        world = f.world;
        formed = f.formed.4;
        duties = f.duties.after_it;
        fine = got-fine proc label id values names sender syms from (listed args) f.fine f.formed.2 f.formed.3 g.match.receivable g.sender g.values;
      },
      subst (λ k. ready rest (at_end d proc) (got_names names sender syms k (listed args)) (after_step d.inst s node (Receiving label id)) ≡ true) g.sender
          (subst (λ vs. ready rest (at_end d proc) (got_names names sender syms (message_in s label id).from vs) (after_step d.inst s node (Receiving label id)) ≡ true) g.values
          (f.duties.taken node names s (holds-here d formed programs duties s sound node known proc f.world note names f.fine.sorted h) id g.match.tagged g.match.receivable)),
      callers-own (Receiving label id) proc values callers f.formed.1 c,
    ),
  )
  awaited-fine proc names callers values note label tag sender syms rest reply.Miss f h c g = (tt, (values, f, h, c))
  awaited-fine proc names callers values note label tag sender syms rest (reply.Sent id) f h c g = absurd g
  awaited-fine proc names callers values note label tag sender syms rest (reply.Value v) f h c g = absurd g

  polled-fine : (proc : ℕ) (names : Names) (callers : List Frame) (values : List ℤ) (note : Formula) (got label tag sender : ℕ) (syms : List ℕ) (rest : Block) (r : Reply) →
      FrameIsFine d node values proc names (Polls note got label tag sender syms rest) → holds note names s ≡ true → CallersAreFine d s node proc values callers → Replies d.inst s node (call.Poll label tag) r →
      IsAnswered proc names callers (Polls note got label tag sender syms rest) (call.Poll label tag) r
  polled-fine proc names callers values note got label tag sender syms rest (reply.Got id from args) f h c g = (
    (g.match.receivable, tt),
    (
      values,
      record {
        world = f.world;
        formed = f.formed.5;
        duties = f.duties.after_it;
        fine = got-fine proc label id values (with_number names got (pos 1)) sender syms from (listed args)
            (fine-with d proc node values names got (pos 1) (programs.procs proc) f.formed.2 refl f.fine) f.formed.3 f.formed.4 g.match.receivable g.sender g.values;
      },
      subst (λ k. ready rest (at_end d proc) (got_names (with_number names got (pos 1)) sender syms k (listed args)) (after_step d.inst s node (Receiving label id)) ≡ true) g.sender
          (subst (λ vs. ready rest (at_end d proc) (got_names (with_number names got (pos 1)) sender syms (message_in s label id).from vs) (after_step d.inst s node (Receiving label id)) ≡ true) g.values
          (f.duties.taken node names s (holds-here d formed programs duties s sound node known proc f.world note names f.fine.sorted h) id g.match.tagged g.match.receivable)),
      callers-own (Receiving label id) proc values callers f.formed.1 c,
    ),
  )
  polled-fine proc names callers values note got label tag sender syms rest reply.Miss f h c g = (
    tt,
    (
      values,
      record { world = f.world; formed = f.formed.5; duties = f.duties.after_it; fine = fine-with d proc node values names got (pos 0) (programs.procs proc) f.formed.2 refl f.fine },
      f.duties.missed node names s (holds-here d formed programs duties s sound node known proc f.world note names f.fine.sorted h),
      c,
    ),
  )
  polled-fine proc names callers values note got label tag sender syms rest (reply.Sent id) f h c g = absurd g
  polled-fine proc names callers values note got label tag sender syms rest (reply.Value v) f h c g = absurd g

  read-fine : (proc : ℕ) (names : Names) (callers : List Frame) (values : List ℤ) (note : Formula) (into label field : ℕ) (index : Option Term) (rest : Block) (r : Reply) →
      FrameIsFine d node values proc names (Reads note into label field index rest) → holds note names s ≡ true → CallersAreFine d s node proc values callers → Replies d.inst s node (call.Read label field (index_value index names)) r →
      IsAnswered proc names callers (Reads note into label field index rest) (call.Read label field (index_value index names)) r
  read-fine proc names callers values note into label field index rest (reply.Value v) f h c g = (
    tt,
    (
      values,
      record {
        world = f.world;
        formed = f.formed.2;
        duties = f.duties.after_it;
        fine = fine-with d proc node values names into v (programs.procs proc) f.formed.1
            (subst (λ w. is_i64 w ≡ true) (sym g) (field-int d s label field node (index_or_0 (index_value index names)) formed sound.sorted)) f.fine;
      },
      subst (λ w. ready rest (at_end d proc) (with_number names into w) s ≡ true) (sym g) (f.duties.read node names s (holds-here d formed programs duties s sound node known proc f.world note names f.fine.sorted h)),
      c,
    ),
  )
  read-fine proc names callers values note into label field index rest (reply.Got id from args) f h c g = absurd g
  read-fine proc names callers values note into label field index rest reply.Miss f h c g = absurd g
  read-fine proc names callers values note into label field index rest (reply.Sent id) f h c g = absurd g

  answer-fine_at : (proc : ℕ) (names : Names) (callers : List Frame) (left : Block) (values : List ℤ) (c : Call) (r : Reply) → FrameIsFine d node values proc names left → ready left (at_end d proc) names s ≡ true →
      CallersAreFine d s node proc values callers → next_at d.procs proc names callers left ≡ Asks c → Replies d.inst s node c r → IsAnswered proc names callers left c r
  answer-fine_at proc names callers (Sends note label tag to args rest) values c r f h k e g =
      let t = ask-if (is_i64 (value_of to names) && all_i64 (values_of args names)) _ c e in
      subst (λ c. IsAnswered proc names callers (Sends note label tag to args rest) c r) t.1 (sent-fine proc names callers values note label tag to args rest r f h k)
  answer-fine_at proc names callers (Awaits note label tag sender syms rest) values c r f h k e g =
      let q = asks-same _ c e in
      subst (λ c. IsAnswered proc names callers (Awaits note label tag sender syms rest) c r) q
      (awaited-fine proc names callers values note label tag sender syms rest r f h k (subst (λ c. Replies d.inst s node c r) (sym q) g))
  answer-fine_at proc names callers (Polls note got label tag sender syms rest) values c r f h k e g =
      let q = asks-same _ c e in
      subst (λ c. IsAnswered proc names callers (Polls note got label tag sender syms rest) c r) q
      (polled-fine proc names callers values note got label tag sender syms rest r f h k (subst (λ c. Replies d.inst s node c r) (sym q) g))
  answer-fine_at proc names callers (Reads note into label field index rest) values c r f h k e g =
      let t = ask-if (index_is_i64 index names) _ c e in
      subst (λ c. IsAnswered proc names callers (Reads note into label field index rest) c r) t.1
      (read-fine proc names callers values note into label field index rest r f h k (subst (λ c. Replies d.inst s node c r) (sym t.1) g))
  answer-fine_at proc names callers Done values c r f h k e g = absurd (tick-no_ask _ _ c e)
  answer-fine_at proc names callers (Sets target value rest) values c r f h k e g = absurd (tick-no_ask _ _ c e)
  answer-fine_at proc names callers (Ifs test left right rest) values c r f h k e g = cc
  answer-fine_at proc names callers (Whiles test note body rest) values c r f h k e g = cc
  answer-fine_at proc names callers (Calls note frame into callee args rest) values c r f h k e g = absurd (tick-no_ask _ _ c e)

  pub answer-fine : (machine : Machine) (c : Call) (r : Reply) → MachineIsFine d s node machine → next d.procs machine ≡ Asks c → Replies d.inst s node c r →
      IsStep d s node (step_of c r) × MachineIsFine d (state_after d.inst s node (step_of c r)) node (after_reply machine r)
  answer-fine (Over v) c r h e g = cc
  answer-fine (Working frame callers) c r h e g = answer-fine_at frame.proc frame.names callers frame.left h.0 c r h.1 h.2 h.3 e g
