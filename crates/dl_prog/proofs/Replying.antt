-- What a reply to each call does to the model's machine.
use Rattle.std.proofs.Common.{◌≡◌, ◌+◌, ℕ, ℤ, pos, Bool, true, false, List, Some, None, refl, ap, sym, ◌∙◌}
use Rattle.std.specs.Prelude.{Option, slice_get}
use Rattle.std.specs.List.{AllByRecursion as Each}
use Rattle.dl_term.specs.declared.syntax.Formula.{Formula}
use Rattle.dl_term.specs.declared.syntax.Term.{Term}
use Rattle.dl_term.specs.Names.{Names, with_number}
use Rattle.dl_model.specs.declared.history.Reply.{Reply}
use Rattle.dl_model.specs.declared.history.Reply.TheVariants.{Sent, Got, Miss, Value}
use Rattle.dl_model.specs.declared.program.Command.{Command, Send, Await, Poll, Read, Set, If', While', Call}
use Rattle.dl_model.specs.declared.program.Proc.{Proc}
use Rattle.dl_model.specs.Block.{Block, followed}
use Rattle.dl_model.specs.Lookup.{proc_at}
use Rattle.dl_model.specs.Sorts.{has}
use Rattle.dl_model.specs.Words.{with_numbers}
use Rattle.dl_model.specs.Machine.{Over, Frame, after_reply, after_reply_at, listed}
use Rattle.dl_prog.specs.declared.slots.Slot.{Slot}
use Rattle.dl_prog.specs.declared.cont.Cont.{Cont}
use Rattle.dl_prog.specs.Slots.{named, put_all, put_each, HasEach}
use Rattle.dl_prog.specs.Places.{commands_in, left_in, proc_in, callers_in, machine_in, machine_or, machine_of}
use Rattle.dl_prog.specs.Ready.{ProcsCanRun, IsReady, IsSettled}
use Rattle.dl_prog.specs.Moves.{after_await, after_poll, after_read, slots_received}
use Rattle.dl_prog.proofs.SlotLemmas.{named-put, has-put, has-put_each, named-put_each}
use Rattle.dl_prog.proofs.PlaceLemmas.{here-can-run}
use Rattle.dl_prog.proofs.Moving.{machine-in, here-machine, done-machine, at_left, none-past}

pub record Taken (procs : List Proc) (old new : Cont) (reply : Reply) : Type 0 where
  pub ready : IsReady procs new
  pub moves : machine_of procs new ≡ after_reply (machine_of procs old) reply

-- past the command, with these slots
abbrev pub past : Cont → List Slot → Cont
past cont slots = record cont { at = cont.at + 1; slots = slots }

-- the slots name what the model's names name
record Put (procs : List Proc) (cont : Cont) (slots : List Slot) (names : Names) : Type 0 where
  pub locals : HasEach slots (proc_at procs (proc_in cont.steps.items)).locals
  pub names_are : named slots ≡ names

goes-on : (procs : List Proc) (cont : Cont) (slots : List Slot) (names : Names) (command : Command) (reply : Reply) → IsReady procs cont → cont.over ≡ None →
    slice_get (commands_in procs cont.steps.items) cont.at ≡ Some command → Put procs cont slots names →
    after_reply_at (proc_in cont.steps.items) (named cont.slots) (callers_in procs cont.steps.items) reply (followed command (left_in procs cont.steps.items (cont.at + 1)))
    ≡ at_left (proc_in cont.steps.items) names (callers_in procs cont.steps.items) (left_in procs cont.steps.items (cont.at + 1)) →
    Taken procs cont (past cont slots) reply
goes-on procs cont slots names command reply r o e put n = record {
  ready = record { fits = r.fits; locals = put.locals };
  moves =
      machine-in procs (past cont slots) o
      ∙ (ap (λ m. at_left (proc_in cont.steps.items) m (callers_in procs cont.steps.items) (left_in procs cont.steps.items (cont.at + 1))) put.names_are
      ∙ (sym n ∙ sym (ap (λ machine. after_reply machine reply) (here-machine procs cont command o e))));
}

stays-put : (procs : List Proc) (cont : Cont) (command : Command) (reply : Reply) → IsReady procs cont → cont.over ≡ None →
    slice_get (commands_in procs cont.steps.items) cont.at ≡ Some command →
    after_reply_at (proc_in cont.steps.items) (named cont.slots) (callers_in procs cont.steps.items) reply (followed command (left_in procs cont.steps.items (cont.at + 1)))
    ≡ at_left (proc_in cont.steps.items) (named cont.slots) (callers_in procs cont.steps.items) (followed command (left_in procs cont.steps.items (cont.at + 1))) →
    Taken procs cont cont reply
stays-put procs cont command reply r o e n =
    let here = here-machine procs cont command o e in
    record { ready = r; moves = here ∙ (sym n ∙ sym (ap (λ machine. after_reply machine reply) here)) }

-- ---- slots

kept : (procs : List Proc) (cont : Cont) → IsReady procs cont → Put procs cont cont.slots (named cont.slots)
kept procs cont r = record { locals = r.locals; names_are = refl }

put-one : (procs : List Proc) (cont : Cont) (slots : List Slot) (names : Names) (target : ℕ) (new : ℤ) → Put procs cont slots names →
    has (proc_at procs (proc_in cont.steps.items)).locals target ≡ true → Put procs cont (put_all target new slots) (with_number names target new)
put-one procs cont slots names target new p e = record {
  locals = has-put slots target new (proc_at procs (proc_in cont.steps.items)).locals p.locals;
  names_are = named-put slots target new (p.locals.each target e) ∙ ap (λ n. with_number n target new) p.names_are;
}

put-many : (procs : List Proc) (cont : Cont) (slots : List Slot) (names : Names) (targets : List ℕ) (news : List ℤ) → Put procs cont slots names →
    Each (λ target. has (proc_at procs (proc_in cont.steps.items)).locals target ≡ true) targets → Put procs cont (put_each targets news slots) (with_numbers names targets news)
put-many procs cont slots names targets news p e = record {
  locals = has-put_each targets news slots (proc_at procs (proc_in cont.steps.items)).locals p.locals;
  names_are = named-put_each targets news slots (proc_at procs (proc_in cont.steps.items)).locals p.locals e ∙ ap (λ n. with_numbers n targets news) p.names_are;
}

-- ---- replies

pub send-taken : (procs : List Proc) (cont : Cont) (note : Formula) (label tag : ℕ) (to : Term) (args : List Term) (reply : Reply) → IsReady procs cont → cont.over ≡ None →
    slice_get (commands_in procs cont.steps.items) cont.at ≡ Some (Send note label tag to args) → Taken procs cont (record cont { at = cont.at + 1 }) reply
send-taken procs cont note label tag to args reply r o e = goes-on procs cont cont.slots (named cont.slots) (Send note label tag to args) reply r o e (kept procs cont r) refl

pub await-taken : (procs : List Proc) (cont : Cont) (note : Formula) (label tag sender : ℕ) (args : List ℕ) (reply : Reply) → ProcsCanRun procs → IsReady procs cont → cont.over ≡ None →
    slice_get (commands_in procs cont.steps.items) cont.at ≡ Some (Await note label tag sender args) → Taken procs cont (after_await sender args reply cont) reply
await-taken procs cont note label tag sender args (Sent id) can r o e = stays-put procs cont (Await note label tag sender args) (Sent id) r o e refl
await-taken procs cont note label tag sender args (Got id from values) can r o e =
    let runs = here-can-run procs cont.steps.items cont.at (Await note label tag sender args) can e in
    goes-on procs cont (slots_received sender args cont.slots from (listed values)) (with_numbers (with_number (named cont.slots) sender (pos from)) args (listed values))
    (Await note label tag sender args) (Got id from values) r o e
    (put-many procs cont (put_all sender (pos from) cont.slots) (with_number (named cont.slots) sender (pos from)) args (listed values)
    (put-one procs cont cont.slots (named cont.slots) sender (pos from) (kept procs cont r) runs.0.0) runs.0.1) refl
await-taken procs cont note label tag sender args Miss can r o e = stays-put procs cont (Await note label tag sender args) Miss r o e refl
await-taken procs cont note label tag sender args (Value v) can r o e = stays-put procs cont (Await note label tag sender args) (Value v) r o e refl

pub poll-taken : (procs : List Proc) (cont : Cont) (note : Formula) (got label tag sender : ℕ) (args : List ℕ) (reply : Reply) → ProcsCanRun procs → IsReady procs cont → cont.over ≡ None →
    slice_get (commands_in procs cont.steps.items) cont.at ≡ Some (Poll note got label tag sender args) → Taken procs cont (after_poll got sender args reply cont) reply
poll-taken procs cont note got label tag sender args (Got id from values) can r o e =
    let runs = here-can-run procs cont.steps.items cont.at (Poll note got label tag sender args) can e in
    let first = put-one procs cont cont.slots (named cont.slots) got (pos 1) (kept procs cont r) runs.0.0 in
    let second = put-one procs cont (put_all got (pos 1) cont.slots) (with_number (named cont.slots) got (pos 1)) sender (pos from) first runs.0.1.0 in
    goes-on procs cont (slots_received sender args (put_all got (pos 1) cont.slots) from (listed values))
    (with_numbers (with_number (with_number (named cont.slots) got (pos 1)) sender (pos from)) args (listed values))
    (Poll note got label tag sender args) (Got id from values) r o e
    (put-many procs cont (put_all sender (pos from) (put_all got (pos 1) cont.slots)) (with_number (with_number (named cont.slots) got (pos 1)) sender (pos from)) args (listed values) second runs.0.1.1) refl
poll-taken procs cont note got label tag sender args (Sent id) can r o e =
    let runs = here-can-run procs cont.steps.items cont.at (Poll note got label tag sender args) can e in
    goes-on procs cont (put_all got (pos 0) cont.slots) (with_number (named cont.slots) got (pos 0)) (Poll note got label tag sender args) (Sent id) r o e
    (put-one procs cont cont.slots (named cont.slots) got (pos 0) (kept procs cont r) runs.0.0) refl
poll-taken procs cont note got label tag sender args Miss can r o e =
    let runs = here-can-run procs cont.steps.items cont.at (Poll note got label tag sender args) can e in
    goes-on procs cont (put_all got (pos 0) cont.slots) (with_number (named cont.slots) got (pos 0)) (Poll note got label tag sender args) Miss r o e
    (put-one procs cont cont.slots (named cont.slots) got (pos 0) (kept procs cont r) runs.0.0) refl
poll-taken procs cont note got label tag sender args (Value v) can r o e =
    let runs = here-can-run procs cont.steps.items cont.at (Poll note got label tag sender args) can e in
    goes-on procs cont (put_all got (pos 0) cont.slots) (with_number (named cont.slots) got (pos 0)) (Poll note got label tag sender args) (Value v) r o e
    (put-one procs cont cont.slots (named cont.slots) got (pos 0) (kept procs cont r) runs.0.0) refl

pub read-taken : (procs : List Proc) (cont : Cont) (note : Formula) (into label field : ℕ) (index : Option Term) (reply : Reply) → ProcsCanRun procs → IsReady procs cont → cont.over ≡ None →
    slice_get (commands_in procs cont.steps.items) cont.at ≡ Some (Read note into label field index) → Taken procs cont (after_read into reply cont) reply
read-taken procs cont note into label field index (Value v) can r o e =
    let runs = here-can-run procs cont.steps.items cont.at (Read note into label field index) can e in
    goes-on procs cont (put_all into v cont.slots) (with_number (named cont.slots) into v) (Read note into label field index) (Value v) r o e
    (put-one procs cont cont.slots (named cont.slots) into v (kept procs cont r) runs.0.1) refl
read-taken procs cont note into label field index (Sent id) can r o e =
    goes-on procs cont cont.slots (named cont.slots) (Read note into label field index) (Sent id) r o e (kept procs cont r) refl
read-taken procs cont note into label field index Miss can r o e =
    goes-on procs cont cont.slots (named cont.slots) (Read note into label field index) Miss r o e (kept procs cont r) refl
read-taken procs cont note into label field index (Got id from values) can r o e =
    goes-on procs cont cont.slots (named cont.slots) (Read note into label field index) (Got id from values) r o e (kept procs cont r) refl

-- the commands that are no calls for the soup
abbrev pub is_quiet : Command → Bool
is_quiet (Send note label tag to args) = false
is_quiet (Await note label tag sender args) = false
is_quiet (Poll note got label tag sender args) = false
is_quiet (Read note into label field index) = false
is_quiet (Set target value) = true
is_quiet (If' test s left t right) = true
is_quiet (While' test note s body) = true
is_quiet (Call note frame into proc args) = true

quiet : (proc : ℕ) (names : Names) (callers : List Frame) (reply : Reply) (command : Command) (rest : Block) → is_quiet command ≡ true →
    after_reply_at proc names callers reply (followed command rest) ≡ at_left proc names callers (followed command rest)
quiet proc names callers reply (Send note label tag to args) rest h = absurd (cc h)
quiet proc names callers reply (Await note label tag sender args) rest h = absurd (cc h)
quiet proc names callers reply (Poll note got label tag sender args) rest h = absurd (cc h)
quiet proc names callers reply (Read note into label field index) rest h = absurd (cc h)
quiet proc names callers reply (Set target value) rest h = refl
quiet proc names callers reply (If' test s left t right) rest h = refl
quiet proc names callers reply (While' test note s body) rest h = refl
quiet proc names callers reply (Call note frame into callee args) rest h = refl

pub quiet-taken : (procs : List Proc) (cont : Cont) (command : Command) (reply : Reply) → IsReady procs cont → cont.over ≡ None →
    slice_get (commands_in procs cont.steps.items) cont.at ≡ Some command → is_quiet command ≡ true → Taken procs cont cont reply
quiet-taken procs cont command reply r o e h =
    stays-put procs cont command reply r o e
    (quiet (proc_in cont.steps.items) (named cont.slots) (callers_in procs cont.steps.items) reply command (left_in procs cont.steps.items (cont.at + 1)) h)

-- nothing is asked where no command is left
pub none-taken : (procs : List Proc) (cont : Cont) (reply : Reply) → IsReady procs cont → cont.over ≡ None → IsSettled procs cont →
    slice_get (commands_in procs cont.steps.items) cont.at ≡ None → Taken procs cont cont reply
none-taken procs cont reply r o settled e =
    let gone = none-past (commands_in procs cont.steps.items) cont.at e in
    let here = done-machine procs cont o gone (settled gone) in
    record { ready = r; moves = here ∙ sym (ap (λ machine. after_reply machine reply) here) }

pub over-taken : (procs : List Proc) (cont : Cont) (v : ℤ) (reply : Reply) → IsReady procs cont → cont.over ≡ Some v → Taken procs cont cont reply
over-taken procs cont v reply r e =
    let m : machine_of procs cont ≡ Over v = ap (λ o. machine_or o (machine_in procs cont.steps.items cont.at cont.slots)) e in
    record { ready = r; moves = m ∙ sym (ap (λ machine. after_reply machine reply) m) }
