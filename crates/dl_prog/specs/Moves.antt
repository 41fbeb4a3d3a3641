-- What a machine answers, and where it goes.
use Rattle.std.specs.Prelude.{◌≡◌, ℕ, ◌+◌, ◌-◌, ℤ, pos, Bool, Option, Some, None, List, ◌∷◌, drop}
use Rattle.dl_model.specs.declared.history.Reply.{Reply}
use Rattle.dl_model.specs.declared.history.Reply.TheVariants.{Got, Value}
use Rattle.dl_model.specs.declared.program.Command.{Command, Send, Await, Poll, Read, Set, If', While', Call}
use Rattle.dl_model.specs.declared.program.Proc.{Proc}
use Rattle.dl_model.specs.Lookup.{proc_at}
use Rattle.dl_model.specs.Words.{me_word}
use Rattle.dl_model.specs.Machine.{Machine, Working, Over, Next, Ticks, Asks, Ends, Stops, resumed, entry_names, listed}
use Rattle.dl_prog.specs.declared.answer.At.{At}
use Rattle.dl_prog.specs.declared.answer.At.TheVariants as at
use Rattle.dl_prog.specs.declared.slots.Slot.{Slot}
use Rattle.dl_prog.specs.declared.stack.Step.TheVariants.{Enter, Inside}
use Rattle.dl_prog.specs.declared.cont.Cont.{Cont}
use Rattle.dl_prog.specs.Places.{saved_in}
use Rattle.dl_prog.specs.Slots.{named, put_all, put_each, HasEach}

-- what is answered where this is next
abbrev pub answer_of : Next → At
answer_of (Ticks after) = at.Tick
answer_of (Asks call) = at.Call call
answer_of (Ends result) = at.Ended result
answer_of Stops = at.Stopped

-- a tick is made, and nothing else moves the machine
abbrev pub moved : Machine → Next → Machine
moved before (Ticks after) = after
moved before (Asks call) = before
moved before (Ends result) = before
moved before Stops = before

-- into the command at the position
abbrev pub gone_inside : Cont → Bool → ℕ → Cont
gone_inside cont first back = record {
  over = cont.over;
  at = 0;
  slots = cont.slots;
  steps = record { items = Inside cont.at first back ∷ cont.steps.items; spare = cont.steps.spare - 1 };
}

-- back to the caller, at the position
abbrev pub gone_back : Cont → ℕ → Cont
gone_back cont back = record {
  over = cont.over;
  at = back;
  slots = saved_in cont.steps.items;
  steps = record { items = drop 1 cont.steps.items; spare = cont.steps.spare + 1 };
}

-- The second machine is the first one in a procedure that it calls with these arguments.
pub record HasEntered (procs : List Proc) (callee : ℕ) (args : List ℤ) (before after : Cont) : Type 0 where
  pub over : after.over ≡ before.over
  pub at : after.at ≡ 0
  pub steps : after.steps ≡ record { items = Enter callee before.at before.slots ∷ before.steps.items; spare = before.steps.spare - 1 }
  pub names : named after.slots ≡ entry_names (proc_at procs callee) ((named before.slots).number me_word) args
  pub locals : HasEach after.slots (proc_at procs callee).locals

-- where the result of a call goes
abbrev pub into_of : Option Command → Option ℕ
into_of None = None
into_of (Some (Send note label tag to args)) = None
into_of (Some (Await note label tag sender args)) = None
into_of (Some (Poll note got label tag sender args)) = None
into_of (Some (Read note into label field index)) = None
into_of (Some (Set target value)) = None
into_of (Some (If' test s left t right)) = None
into_of (Some (While' test note s body)) = None
into_of (Some (Call note frame into proc args)) = Some into

-- the machine after its call has returned a number
abbrev pub resumed_with : ℤ → Machine → Machine
resumed_with result (Working frame callers) = Working (resumed frame.proc frame.names result frame.left) callers
resumed_with result (Over v) = Over v

-- ---- replies

-- the slots after a message was received
abbrev pub slots_received : ℕ → List ℕ → List Slot → ℕ → List ℤ → List Slot
slots_received sender syms slots from args = put_each syms args (put_all sender (pos from) slots)

abbrev pub after_await : ℕ → List ℕ → Reply → Cont → Cont
after_await sender syms (Got id from args) cont = record cont { at = cont.at + 1; slots = slots_received sender syms cont.slots from (listed args) }
after_await sender syms _ cont = cont

abbrev pub after_poll : ℕ → ℕ → List ℕ → Reply → Cont → Cont
after_poll got sender syms (Got id from args) cont =
    record cont { at = cont.at + 1; slots = slots_received sender syms (put_all got (pos 1) cont.slots) from (listed args) }
after_poll got sender syms _ cont = record cont { at = cont.at + 1; slots = put_all got (pos 0) cont.slots }

abbrev pub after_read : ℕ → Reply → Cont → Cont
after_read into (Value v) cont = record cont { at = cont.at + 1; slots = put_all into v cont.slots }
after_read into _ cont = record cont { at = cont.at + 1 }
