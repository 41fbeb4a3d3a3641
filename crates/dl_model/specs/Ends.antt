-- How the program of a node ends within a budget of ticks and calls.
use Rattle.std.specs.Prelude.{ℕ, zero, suc, ◌+◌, ◌-◌, if◌then◌else◌, Option, Some, None, List, [], ◌∷◌}
use Rattle.dl_term.specs.State.{State}
use Rattle.dl_model.specs.declared.history.Call.TheVariants as call
use Rattle.dl_model.specs.declared.history.Entry.{Entry}
use Rattle.dl_model.specs.declared.history.End.{End}
use Rattle.dl_model.specs.declared.history.End.TheVariants.{Ended, Stopped, Spent, Waiting}
use Rattle.dl_model.specs.declared.program.Proc.{Proc}
use Rattle.dl_model.specs.declared.protocol.Instances.{Instances}
use Rattle.dl_model.specs.Machine.{Machine, Next, Ticks, Asks, Ends, Stops, next}
use Rattle.dl_model.specs.Histories.{is_wait}
use Rattle.dl_model.specs.Delivery.{matches}

-- the units of a node's own entries: its ticks, and its calls that are no waits
abbrev pub units_of : List Entry → ℕ
units_of [] = 0
units_of (entry ∷ entries) = (entry.ticks + (if is_wait entry then 0 else 1)) + units_of entries

-- a machine, and the units that are left to it
pub record Rest : Type 0 where
  pub machine : Machine
  pub left : ℕ

abbrev pub if_tick : {X : Type 0} → (Machine → X) → X → Next → X
if_tick ticks other (Ticks after) = ticks after
if_tick ticks other _ = other

-- the machine after its ticks, as long as units are left
abbrev pub after_ticks : List Proc → ℕ → Machine → Rest
after_ticks procs zero machine = record { machine = machine; left = 0 }
after_ticks procs (suc left) machine =
    if_tick (λ after. after_ticks procs left after) (record { machine = machine; left = suc left }) (next procs machine)

abbrev pub if_no_match : List ℕ → Option End
if_no_match [] = Some Waiting
if_no_match (id ∷ ids) = None

-- An end is an end whatever is left. A stop and a wait come only where units are left.
abbrev pub end_at : Instances → State → ℕ → ℕ → Next → Option End
end_at inst state node left (Ends v) = Some (Ended v)
end_at inst state node zero _ = Some Spent
end_at inst state node (suc left) Stops = Some Stopped
end_at inst state node (suc left) (Asks (call.Await label tag)) = if_no_match (matches inst state node label tag)
end_at inst state node (suc left) _ = None

-- The end of a node whose machine has this many units, if it has one: without one it can go on.
abbrev pub end_of : List Proc → Instances → State → ℕ → ℕ → ℕ → Machine → Option End
end_of procs inst state node budget units machine =
    let rest = after_ticks procs (budget - units) machine in
    end_at inst state node rest.left (next procs rest.machine)

-- its units there
abbrev pub units_at_end : List Proc → ℕ → ℕ → Machine → ℕ
units_at_end procs budget units machine = budget - (after_ticks procs (budget - units) machine).left
