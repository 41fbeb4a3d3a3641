-- A serial run in words of histories: the entries of each node are a trace of its machine, and its end is that of the machine to which they lead.
use Rattle.std.specs.Prelude.{◌≡◌, ℕ, Some, List, [], ◌∷◌}
use Rattle.std.specs.List.{AllByRecursion as Each}
use Rattle.dl_model.specs.declared.file.Decls.{Decls}
use Rattle.dl_model.specs.declared.file.Program.{Program}
use Rattle.dl_model.specs.declared.history.Entry.{Entry}
use Rattle.dl_model.specs.declared.history.Order.{Order}
use Rattle.dl_model.specs.declared.program.Proc.{Proc}
use Rattle.dl_model.specs.Delivery.{IsUnder}
use Rattle.dl_model.specs.Ends.{end_of, units_at_end, units_of}
use Rattle.dl_model.specs.Histories.{HasProgram, IsTrace, SoupLeads, condensed, mine}
use Rattle.dl_model.specs.Lookup.{program_of}
use Rattle.dl_model.specs.Machine.{Machine, Asks, Ticked, after_reply, next}
use Rattle.dl_model.specs.Runs.{machine_of}
use Rattle.dl_model.specs.States.{first_state}
use Rattle.dl_soup.specs.Seen.{Seen}
use Rattle.dl_nodes.specs.declared.bare.Bare.{Bare}
use Rattle.dl_nodes.specs.declared.begin.Run.{Run}

-- The machine makes the ticks and calls of these entries and takes their replies, and has then come to the other one.
abbrev pub Comes : List Proc → Machine → List Entry → Machine → Type 0
Comes procs before [] after = before ≡ after
Comes procs before (entry ∷ entries) after =
    (asking : Machine) × Ticked procs entry.ticks before asking × (next procs asking ≡ Asks entry.call) × Comes procs (after_reply asking entry.reply) entries after

-- The node runs a program, and its entries lead to this machine. Its end is that of the machine in the soup's state, and its
-- units are those of the machine there.
pub record EndsTraced (decls : Decls) (budget : ℕ) (soup : Seen) (bare : Bare) : Type 0 where
  pub program : Program
  pub machine : Machine
  pub runs : program_of decls bare.node ≡ Some program
  pub comes : Comes decls.procs (machine_of decls bare.node program) (mine soup.history bare.node) machine
  pub told : bare.end ≡ end_of decls.procs decls.inst soup.state bare.node budget (units_of (mine soup.history bare.node)) machine
  pub units : bare.units ≡ units_at_end decls.procs budget (units_of (mine soup.history bare.node)) machine

-- The entries lead from the first state to the soup's under the order, each is of a node with a program, and those of each
-- such node are a trace of its machine. None is a wait, and the ends are right.
pub record IsTraced (decls : Decls) (budget : ℕ) (order : Order) (run : Run) : Type 0 where
  pub leads : SoupLeads decls.inst (first_state decls.inst) run.soup.history run.soup.state
  pub under : IsUnder order 0 decls.inst (first_state decls.inst) run.soup.history
  pub entries : Each (HasProgram decls) run.soup.history
  pub traces : (node : ℕ) (program : Program) → program_of decls node ≡ Some program → IsTrace decls.procs (machine_of decls node program) (mine run.soup.history node)
  pub whole : condensed run.soup.history ≡ run.soup.history
  pub ends : Each (EndsTraced decls budget run.soup) run.nodes.items
