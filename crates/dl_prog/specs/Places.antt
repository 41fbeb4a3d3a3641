-- Where a machine stands: a path of positions into the bodies of procedures, from the innermost one.
use Rattle.std.specs.Prelude.{ℕ, ℤ, Bool, if◌then◌else◌, Option, Some, None, List, [], ◌∷◌, drop, slice_get}
use Rattle.dl_model.specs.declared.program.Command.{Command, Send, Await, Poll, Read, Set, If', While', Call, items-the_row-Command}
use Rattle.dl_model.specs.declared.program.Proc.{Proc}
use Rattle.dl_model.specs.Block.{Block, Done, followed}
use Rattle.dl_model.specs.Lookup.{proc_at}
use Rattle.dl_model.specs.Machine.{Machine, Working, Over, Frame}
use Rattle.dl_prog.specs.declared.slots.Slot.{Slot}
use Rattle.dl_prog.specs.declared.stack.Step.{Step}
use Rattle.dl_prog.specs.declared.stack.Step.TheVariants.{Enter, Inside}
use Rattle.dl_prog.specs.declared.cont.Cont.{Cont}
use Rattle.dl_prog.specs.Slots.{named, blanks}

-- these commands, and then a block
abbrev pub blocks : List Command → Block → Block
blocks [] rest = rest
blocks (command ∷ commands) rest = followed command (blocks commands rest)

-- the commands in a command: of a choice those of one branch
abbrev pub inner : Option Command → Bool → List Command
inner None first = []
inner (Some (Send note label tag to args)) first = []
inner (Some (Await note label tag sender args)) first = []
inner (Some (Poll note got label tag sender args)) first = []
inner (Some (Read note into label field index)) first = []
inner (Some (Set target value)) first = []
inner (Some (If' test _ left _ right)) first = if first then items-the_row-Command _ left else items-the_row-Command _ right
inner (Some (While' test note _ body)) first = items-the_row-Command _ body
inner (Some (Call note frame into proc args)) first = []

-- the commands among which the innermost position is
abbrev pub commands_in : List Proc → List Step → List Command
commands_in procs [] = []
commands_in procs (Enter proc back saved ∷ outer) = (proc_at procs proc).body
commands_in procs (Inside at first back ∷ outer) = inner (slice_get (commands_in procs outer) at) first

-- what follows them in the procedure
abbrev pub rest_in : List Proc → List Step → Block
rest_in procs [] = Done
rest_in procs (Enter proc back saved ∷ outer) = Done
rest_in procs (Inside at first back ∷ outer) = blocks (drop back (commands_in procs outer)) (rest_in procs outer)

-- what is left of the procedure from a position on
abbrev pub left_in : List Proc → List Step → ℕ → Block
left_in procs steps at = blocks (drop at (commands_in procs steps)) (rest_in procs steps)

-- the procedure
abbrev pub proc_in : List Step → ℕ
proc_in [] = 0
proc_in (Enter proc back saved ∷ outer) = proc
proc_in (Inside at first back ∷ outer) = proc_in outer

-- where the outer commands go on, where the innermost step leads into a command
abbrev pub back_of : List Step → Option ℕ
back_of [] = None
back_of (Enter proc back saved ∷ outer) = None
back_of (Inside at first back ∷ outer) = Some back

-- where the caller of the innermost procedure goes on
abbrev pub caller_of : List Step → Option ℕ
caller_of [] = None
caller_of (Inside at first back ∷ outer) = None
caller_of (Enter proc back saved ∷ []) = None
caller_of (Enter proc back saved ∷ step ∷ outer) = Some back

-- the slots of the caller
abbrev pub saved_in : List Step → List Slot
saved_in [] = blanks
saved_in (Inside at first back ∷ outer) = blanks
saved_in (Enter proc back saved ∷ outer) = saved

abbrev pub frame_in : List Proc → List Step → ℕ → List Slot → Frame
frame_in procs steps at slots = record { proc = proc_in steps; left = left_in procs steps at; names = named slots }

-- the frames that wait for the procedure
abbrev pub callers_in : List Proc → List Step → List Frame
callers_in procs [] = []
callers_in procs (Inside at first back ∷ outer) = callers_in procs outer
callers_in procs (Enter proc back saved ∷ []) = []
callers_in procs (Enter proc back saved ∷ step ∷ outer) = frame_in procs (step ∷ outer) back saved ∷ callers_in procs (step ∷ outer)

abbrev pub machine_in : List Proc → List Step → ℕ → List Slot → Machine
machine_in procs steps at slots = Working (frame_in procs steps at slots) (callers_in procs steps)

abbrev pub machine_or : Option ℤ → Machine → Machine
machine_or (Some result) machine = Over result
machine_or None machine = machine

-- the model's machine that the code's machine stands for, with these procedures
abbrev pub machine_of : List Proc → Cont → Machine
machine_of procs cont = machine_or cont.over (machine_in procs cont.steps.items cont.at cont.slots)
