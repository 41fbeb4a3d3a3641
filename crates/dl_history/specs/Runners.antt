-- The machines of nodes, in a list.
use Rattle.std.specs.Prelude.{ℕ, suc, ◌==◌, if◌then◌else◌, Option, Some, None, option_map, List, [], ◌∷◌}
use Rattle.dl_model.specs.declared.program.Proc.{Proc}
use Rattle.dl_model.specs.Machine.{Machine}
use Rattle.dl_prog.specs.declared.cont.Cont.{Cont}
use Rattle.dl_prog.specs.Places.{machine_of}

-- a node with its machine
abbrev pub Runner : Type 0
Runner = record { 0 : ℕ; 1 : Cont }

-- where the node stands in the list, if it is there
abbrev pub place_of : List Runner → ℕ → Option ℕ
place_of [] node = None
place_of (runner ∷ runners) node = if node == runner.0 then Some 0 else option_map suc (place_of runners node)

-- the model's machine of the node
abbrev pub machine_at : List Proc → List Runner → ℕ → Option Machine
machine_at procs [] node = None
machine_at procs (runner ∷ runners) node = if node == runner.0 then Some (machine_of procs runner.1) else machine_at procs runners node
