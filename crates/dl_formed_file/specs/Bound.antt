-- The names that quantifiers bind.
use Rattle.std.specs.Prelude.{ℕ, List, [], ◌∷◌, ◌++◌, if◌then◌else◌}
use Rattle.std.specs.List.{flat_map}
use Rattle.dl_model.specs.declared.protocol.Protocol.{Protocol}
use Rattle.dl_model.specs.declared.protocol.Hook.{Hook}
use Rattle.dl_model.specs.declared.file.Invariant.{Invariant}
use Rattle.dl_model.specs.declared.file.Decls.{Decls}
use Rattle.dl_model.specs.declared.program.Command.{Command, Send, Await, Poll, Read, Set, If', While', Call}
use Rattle.dl_model.specs.declared.program.Proc.{Proc}
use Rattle.dl_model.specs.Block.{row_block}
use Rattle.dl_model.specs.Sorts.{has}
use Rattle.dl_model.specs.Spoken.{bound_names}
use Rattle.dl_model.specs.Formed.{tag_bound, coherence_bound, block_bound}

-- a name that isn't there yet goes last
abbrev pub with_name : List ℕ → ℕ → List ℕ
with_name names name = if has names name then names else names ++ name ∷ []

-- these names, one after another
abbrev pub with_names : List ℕ → List ℕ → List ℕ
with_names names [] = names
with_names names (name ∷ more) = with_names (with_name names name) more

abbrev pub protocol_bound : Protocol → List ℕ
protocol_bound protocol = flat_map tag_bound protocol.tags ++ coherence_bound protocol.coherence

abbrev pub hook_bound : Hook → List ℕ
hook_bound hook = bound_names hook.formula

abbrev pub invariant_bound : Invariant → List ℕ
invariant_bound invariant = bound_names invariant.formula

-- those of a command, with those of its sides or of its body
abbrev pub command_bound : Command → List ℕ
command_bound (Send note label tag to args) = bound_names note
command_bound (Await note label tag sender args) = bound_names note
command_bound (Poll note got label tag sender args) = bound_names note
command_bound (Read note into label field index) = bound_names note
command_bound (Set target value) = []
command_bound (If' test _ left _ right) = block_bound (row_block left) ++ block_bound (row_block right)
command_bound (While' test note _ body) = bound_names note ++ block_bound (row_block body)
command_bound (Call note frame into callee args) = bound_names note ++ bound_names frame

abbrev pub proc_bound : Proc → List ℕ
proc_bound proc = bound_names proc.pre ++ (bound_names proc.post ++ flat_map command_bound proc.body)

-- the names that quantifiers bind anywhere in the file, as the code finds them
abbrev pub bound_anywhere : Decls → List ℕ
bound_anywhere decls =
    flat_map protocol_bound decls.inst.protocols ++ (flat_map hook_bound decls.hooks ++ (flat_map invariant_bound decls.invariants ++ flat_map proc_bound decls.procs))
