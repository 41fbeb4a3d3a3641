-- What a machine needs: procedures that can be run, room for each path, and a slot for each local.
use Rattle.std.specs.Prelude.{◌≡◌, ℕ, zero, suc, ◌+◌, ◌≤◌, ◌<◌, max, true, Some, None, List, [], ◌∷◌, length, slice_get}
use Rattle.std.specs.List.{AllByRecursion as Each}
use Rattle.dl_term.specs.Measures.{IsNarrow, EachIsNarrow}
use Rattle.dl_model.specs.declared.program.Command.{Command}
use Rattle.dl_model.specs.declared.program.Proc.{Proc}
use Rattle.dl_model.specs.Block.{Block, Done, Sends, Awaits, Polls, Reads, Sets, Ifs, Whiles, Calls, block_of, followed}
use Rattle.dl_model.specs.Sorts.{has}
use Rattle.dl_model.specs.Lookup.{proc_at}
use Rattle.dl_model.specs.Scopes.{IsIndex}
use Rattle.dl_prog.specs.declared.stack.Step.{Step}
use Rattle.dl_prog.specs.declared.stack.Step.TheVariants.{Enter, Inside}
use Rattle.dl_prog.specs.declared.cont.Cont.{Cont}
use Rattle.dl_prog.specs.Slots.{HasEach}
use Rattle.dl_prog.specs.Places.{commands_in, proc_in, back_of}

-- ---- procedures

abbrev pub IsLocal : List Proc → ℕ → ℕ → Type 0
IsLocal procs number target = has (proc_at procs number).locals target ≡ true

-- What is used of a formed procedure's commands: expressions are evaluated within 128 bits, targets are locals, and calls
-- are of earlier procedures, with as many arguments as these have parameters.
abbrev pub BlockCanRun : List Proc → ℕ → Block → Type 0
BlockCanRun procs number Done = Unit {0}
BlockCanRun procs number (Sends note label tag to args rest) = (IsNarrow to × Each IsNarrow args × (length args ≤ 8)) × BlockCanRun procs number rest
BlockCanRun procs number (Awaits note label tag sender args rest) = Each (IsLocal procs number) (sender ∷ args) × BlockCanRun procs number rest
BlockCanRun procs number (Polls note got label tag sender args rest) = Each (IsLocal procs number) (got ∷ sender ∷ args) × BlockCanRun procs number rest
BlockCanRun procs number (Reads note into label field index rest) = (IsIndex IsNarrow index × IsLocal procs number into) × BlockCanRun procs number rest
BlockCanRun procs number (Sets target value rest) = (IsLocal procs number target × IsNarrow value) × BlockCanRun procs number rest
BlockCanRun procs number (Ifs test left right rest) = (EachIsNarrow test × BlockCanRun procs number left × BlockCanRun procs number right) × BlockCanRun procs number rest
BlockCanRun procs number (Whiles test note body rest) = (EachIsNarrow test × BlockCanRun procs number body) × BlockCanRun procs number rest
BlockCanRun procs number (Calls note frame into callee args rest) =
    (Each IsNarrow args × (length args ≤ 8) × IsLocal procs number into × (callee < number) × (length args ≡ length (proc_at procs callee).params)) × BlockCanRun procs number rest

pub record ProcCanRun (procs : List Proc) (number : ℕ) (proc : Proc) : Type 0 where
  pub few_params : length proc.params ≤ 8
  pub few_locals : length proc.locals ≤ 16
  pub body : BlockCanRun procs number (block_of proc.body)
  pub result : IsNarrow proc.result

-- the procedures can be run
pub record ProcsCanRun (procs : List Proc) : Type 0 where
  pub each : (number : ℕ) (proc : Proc) → slice_get procs number ≡ Some proc → ProcCanRun procs number proc

-- ---- room

-- how deep choices and loops nest
abbrev pub depth : Block → ℕ
depth Done = 0
depth (Sends note label tag to args rest) = depth rest
depth (Awaits note label tag sender args rest) = depth rest
depth (Polls note got label tag sender args rest) = depth rest
depth (Reads note into label field index rest) = depth rest
depth (Sets target value rest) = depth rest
depth (Ifs test left right rest) = max (1 + max (depth left) (depth right)) (depth rest)
depth (Whiles test note body rest) = max (1 + depth body) (depth rest)
depth (Calls note frame into callee args rest) = depth rest

abbrev pub depth_of : List Command → ℕ
depth_of commands = depth (block_of commands)

-- of a command without what follows it
abbrev pub command_depth : Command → ℕ
command_depth command = depth (followed command Done)

-- what a chain of calls of the first procedures, each of an earlier one, needs at most
abbrev pub room_below : List Proc → ℕ → ℕ
room_below procs zero = 0
room_below procs (suc n) = room_below procs n + (1 + depth_of (proc_at procs n).body)

-- what a machine needs besides its path
abbrev pub need : List Proc → List Step → ℕ
need procs steps = depth_of (commands_in procs steps) + room_below procs (proc_in steps)

-- with that much room left, the path and each front of it have what they need, and the slots of callers have their locals
abbrev pub Fits : List Proc → ℕ → List Step → Type 0
Fits procs spare [] = Unit {0}
Fits procs spare (Inside at first back ∷ outer) = (need procs (Inside at first back ∷ outer) ≤ spare) × Fits procs (suc spare) outer
Fits procs spare (Enter proc back saved ∷ []) = need procs (Enter proc back saved ∷ []) ≤ spare
Fits procs spare (Enter proc back saved ∷ step ∷ outer) =
    (need procs (Enter proc back saved ∷ step ∷ outer) ≤ spare) × HasEach saved (proc_at procs (proc_in (step ∷ outer))).locals × Fits procs (suc spare) (step ∷ outer)

-- Where the commands are all made, they stand in no other ones.
abbrev pub IsSettled : List Proc → Cont → Type 0
IsSettled procs cont = length (commands_in procs cont.steps.items) ≤ cont.at → back_of cont.steps.items ≡ None

-- The machine was made for these procedures.
pub record IsReady (procs : List Proc) (cont : Cont) : Type 0 where
  pub fits : Fits procs cont.steps.spare cont.steps.items
  pub locals : HasEach cont.slots (proc_at procs (proc_in cont.steps.items)).locals
