-- The names of items, and of their variables.
use Rattle.std.specs.Prelude.{ℕ, List, ◌++◌, map}
use Rattle.std.specs.List.{flat_map}
use Rattle.dl_model.specs.declared.protocol.Tag.{Tag}
use Rattle.dl_model.specs.declared.protocol.Protocol.{Protocol}
use Rattle.dl_model.specs.declared.protocol.Hook.{Hook}
use Rattle.dl_model.specs.declared.program.Proc.{Proc}
use Rattle.dl_model.specs.declared.file.World.{World}
use Rattle.dl_model.specs.declared.file.Invariant.{Invariant}
use Rattle.dl_model.specs.Lookup.{arg_names}

abbrev pub protocol_names : List Protocol → List ℕ
protocol_names protocols = map (λ (protocol : Protocol). protocol.sym) protocols

abbrev pub hook_names : List Hook → List ℕ
hook_names hooks = map (λ (hook : Hook). hook.sym) hooks

abbrev pub world_names : List World → List ℕ
world_names worlds = map (λ (world : World). world.sym) worlds

abbrev pub invariant_names : List Invariant → List ℕ
invariant_names invariants = map (λ (invariant : Invariant). invariant.sym) invariants

abbrev pub proc_names : List Proc → List ℕ
proc_names procs = map (λ (proc : Proc). proc.sym) procs

-- the arguments of tags
abbrev pub tag_variables : List Tag → List ℕ
tag_variables tags = flat_map (λ (tag : Tag). arg_names tag.args) tags

abbrev pub protocol_variables : List Protocol → List ℕ
protocol_variables protocols = flat_map (λ (protocol : Protocol). tag_variables protocol.tags) protocols

-- the arguments of hooks
abbrev pub hook_variables : List Hook → List ℕ
hook_variables hooks = flat_map (λ (hook : Hook). hook.args) hooks

-- parameters and locals
abbrev pub proc_variables : List Proc → List ℕ
proc_variables procs = flat_map (λ (proc : Proc). arg_names proc.params ++ proc.locals) procs
