-- The machine of a node: a stack of frames, each with the commands that are left and what its names stand for.
use Rattle.std.specs.Prelude.{◌≡◌, ℕ, zero, suc, ◌-◌, ℤ, pos, Bool, true, ◌&&◌, if◌then◌else◌, Option, Some, None, List, [], ◌∷◌, ◌++◌, take, length, map, replicate}
use Rattle.dl_term.specs.declared.syntax.Formula.{Formula}
use Rattle.dl_term.specs.declared.syntax.Term.{Term}
use Rattle.dl_term.specs.Names.{Names, with_number}
use Rattle.dl_term.specs.Meaning.{value, holds}
use Rattle.dl_model.specs.declared.history.Args.{Args}
use Rattle.dl_model.specs.declared.history.Call.{Call}
use Rattle.dl_model.specs.declared.history.Call.TheVariants as call
use Rattle.dl_model.specs.declared.history.Reply.{Reply}
use Rattle.dl_model.specs.declared.history.Reply.TheVariants.{Got, Value}
use Rattle.dl_model.specs.declared.program.Proc.{Proc}
use Rattle.dl_model.specs.Block.{Block, Done, Sends, Awaits, Polls, Reads, Sets, Ifs, Whiles, Calls, joined, block_of}
use Rattle.dl_model.specs.Sorts.{is_i64, all_i64}
use Rattle.dl_model.specs.Lookup.{proc_at, arg_names}
use Rattle.dl_model.specs.Words.{me_word, me_names, with_numbers, no_state}

-- ---- expressions and tests, which read names alone

abbrev pub value_of : Term → Names → ℤ
value_of term names = value term names no_state

abbrev pub values_of : List Term → Names → List ℤ
values_of terms names = map (λ term. value_of term names) terms

abbrev pub passes : Formula → Names → Bool
passes test names = holds test names no_state

abbrev pub index_value : Option Term → Names → Option ℤ
index_value (Some index) names = Some (value_of index names)
index_value None names = None

abbrev pub index_is_i64 : Option Term → Names → Bool
index_is_i64 (Some index) names = is_i64 (value_of index names)
index_is_i64 None names = true

-- the arguments as a call has them, and the numbers in them
abbrev pub packed : List ℤ → Args
packed vs = record { count = length vs; values = vs ++ replicate (8 - length vs) (pos 0) }

abbrev pub listed : Args → List ℤ
listed args = take args.count args.values

-- ---- the machine

pub record Frame : Type 0 where
  pub proc : ℕ
  pub left : Block
  pub names : Names

-- At work in a frame, for which the callers wait, the next one first. Or over, with what the program returned.
-- A caller stays at its call until this returns.
pub data Machine : Type 0 where
  Working : (frame : Frame) (callers : List Frame) → Machine
  Over : (result : ℤ) → Machine

-- the names of a procedure that a node enters with arguments. Its locals are 0.
abbrev pub entry_names : Proc → ℤ → List ℤ → Names
entry_names proc node args = with_numbers (me_names 0 node) (arg_names proc.params) args

abbrev pub entered : List Proc → ℕ → ℤ → List ℤ → Frame
entered procs proc node args = record { proc = proc; left = block_of (proc_at procs proc).body; names = entry_names (proc_at procs proc) node args }

-- ---- ticks

-- What a machine does next: a tick leads to another machine, a call asks for a reply, an end has what was returned,
-- and a stop is a number outside the range of i64.
pub data Next : Type 0 where
  Ticks : (after : Machine) → Next
  Asks : (call : Call) → Next
  Ends : (result : ℤ) → Next
  Stops : Next

-- the frame of a caller, after its call has returned a number
abbrev pub resumed : ℕ → Names → ℤ → Block → Frame
resumed proc names v (Calls note frame into callee args rest) = record { proc = proc; left = rest; names = with_number names into v }
resumed proc names v left = record { proc = proc; left = left; names = names }

abbrev pub returned : List Frame → ℤ → Machine
returned [] v = Over v
returned (caller ∷ callers) v = Working (resumed caller.proc caller.names v caller.left) callers

abbrev pub next_at : List Proc → ℕ → Names → List Frame → Block → Next
next_at procs proc names callers Done =
    if is_i64 (value_of (proc_at procs proc).result names) then Ticks (returned callers (value_of (proc_at procs proc).result names)) else Stops
next_at procs proc names callers (Sets target value rest) =
    if is_i64 (value_of value names)
    then Ticks (Working (record { proc = proc; left = rest; names = with_number names target (value_of value names) }) callers)
    else Stops
next_at procs proc names callers (Ifs test left right rest) =
    Ticks (Working (record { proc = proc; left = if passes test names then joined left rest else joined right rest; names = names }) callers)
next_at procs proc names callers (Whiles test note body rest) =
    Ticks (Working (record { proc = proc; left = if passes test names then joined body (Whiles test note body rest) else rest; names = names }) callers)
next_at procs proc names callers (Calls note frame into callee args rest) =
    if all_i64 (values_of args names)
    then Ticks (Working (entered procs callee (names.number me_word) (values_of args names)) (record { proc = proc; left = Calls note frame into callee args rest; names = names } ∷ callers))
    else Stops
next_at procs proc names callers (Sends note label tag to args rest) =
    if is_i64 (value_of to names) && all_i64 (values_of args names) then Asks (call.Send label tag (value_of to names) (packed (values_of args names))) else Stops
next_at procs proc names callers (Awaits note label tag sender args rest) = Asks (call.Await label tag)
next_at procs proc names callers (Polls note got label tag sender args rest) = Asks (call.Poll label tag)
next_at procs proc names callers (Reads note into label field index rest) =
    if index_is_i64 index names then Asks (call.Read label field (index_value index names)) else Stops

abbrev pub next : List Proc → Machine → Next
next procs (Working frame callers) = next_at procs frame.proc frame.names callers frame.left
next procs (Over v) = Ends v

-- that many ticks lead from one machine to the other
abbrev pub Ticked : List Proc → ℕ → Machine → Machine → Type 0
Ticked procs zero before after = before ≡ after
Ticked procs (suc k) before after = (mid : Machine) × (next procs before ≡ Ticks mid) × Ticked procs k mid after

-- ---- replies

-- what the names stand for after a message was received
abbrev pub got_names : Names → ℕ → List ℕ → ℕ → List ℤ → Names
got_names names sender syms from args = with_numbers (with_number names sender (pos from)) syms args

abbrev pub await_names : ℕ → List ℕ → Names → Reply → Names
await_names sender syms names (Got id from args) = got_names names sender syms from (listed args)
await_names sender syms names other = names

abbrev pub poll_names : ℕ → ℕ → List ℕ → Names → Reply → Names
poll_names got sender syms names (Got id from args) = got_names (with_number names got (pos 1)) sender syms from (listed args)
poll_names got sender syms names other = with_number names got (pos 0)

abbrev pub read_names : ℕ → Names → Reply → Names
read_names into names (Value v) = with_number names into v
read_names into names other = names

-- without a message an await stays where it is
abbrev pub await_left : Block → Block → Reply → Block
await_left stays rest (Got id from args) = rest
await_left stays rest other = stays

abbrev pub after_reply_at : ℕ → Names → List Frame → Reply → Block → Machine
after_reply_at proc names callers reply (Sends note label tag to args rest) = Working (record { proc = proc; left = rest; names = names }) callers
after_reply_at proc names callers reply (Awaits note label tag sender args rest) =
    Working (record { proc = proc; left = await_left (Awaits note label tag sender args rest) rest reply; names = await_names sender args names reply }) callers
after_reply_at proc names callers reply (Polls note got label tag sender args rest) =
    Working (record { proc = proc; left = rest; names = poll_names got sender args names reply }) callers
after_reply_at proc names callers reply (Reads note into label field index rest) =
    Working (record { proc = proc; left = rest; names = read_names into names reply }) callers
after_reply_at proc names callers reply left = Working (record { proc = proc; left = left; names = names }) callers

-- the machine after the reply to its call
abbrev pub after_reply : Machine → Reply → Machine
after_reply (Working frame callers) reply = after_reply_at frame.proc frame.names callers reply frame.left
after_reply (Over v) reply = Over v
