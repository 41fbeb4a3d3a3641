-- The states that a history passes through.
use Rattle.std.specs.Prelude.{if◌then◌else◌, List, [], ◌∷◌}
use Rattle.dl_term.specs.State.{State}
use Rattle.dl_model.specs.declared.history.Entry.{Entry}
use Rattle.dl_model.specs.declared.protocol.Instances.{Instances}
use Rattle.dl_model.specs.Runs.{step_of, state_after}
use Rattle.dl_model.specs.Histories.{is_wait}

-- the state after an entry
abbrev pub state_past : Instances → State → Entry → State
state_past inst state entry = state_after inst state entry.node (step_of entry.call entry.reply)

-- the state after all entries
abbrev pub state_through : Instances → State → List Entry → State
state_through inst state [] = state
state_through inst state (entry ∷ entries) = state_through inst (state_past inst state entry) entries

-- the state after each entry
abbrev pub states_past : Instances → State → List Entry → List State
states_past inst state [] = []
states_past inst state (entry ∷ entries) = state_past inst state entry ∷ states_past inst (state_past inst state entry) entries

-- the state after each entry that is no wait
abbrev pub states_kept : Instances → State → List Entry → List State
states_kept inst state [] = []
states_kept inst state (entry ∷ entries) =
    if is_wait entry
    then states_kept inst (state_past inst state entry) entries
    else state_past inst state entry ∷ states_kept inst (state_past inst state entry) entries
