-- The ends of a run's nodes, as its report names them.
use Rattle.std.specs.Prelude.{Bool, true, false, unwrap_or, List, map}
use Rattle.dl_model.specs.declared.history.End.{End}
use Rattle.dl_model.specs.declared.history.End.TheVariants.{Ended, Stopped, Spent, Waiting}
use Rattle.dl_report.specs.Layout.{Ending}
use Rattle.dl_nodes.specs.declared.bare.Bare.{Bare}

-- How the program of a node ended, with its units. After a serial run each node has an end, so none is missing.
abbrev pub ending_of : Bare → Ending
ending_of bare = (bare.node, unwrap_or bare.end Waiting, bare.units)

abbrev pub endings_of : List Bare → List Ending
endings_of nodes = map ending_of nodes

abbrev pub is_ended : End → Bool
is_ended (Ended v) = true
is_ended Stopped = false
is_ended Spent = false
is_ended Waiting = false

-- the program of the node returned
abbrev pub has_ended : Ending → Bool
has_ended ending = is_ended ending.1
