-- What a file declares, by position. Where nothing stands there it is something that does nothing.
use Rattle.std.specs.Prelude.{ℕ, pos, ◌==◌, if◌then◌else◌, Option, Some, None, List, [], ◌∷◌, slice_get, unwrap_or, map}
use Rattle.dl_term.specs.declared.syntax.Sort.{Sort}
use Rattle.dl_term.specs.declared.syntax.Formula.{True, False}
use Rattle.dl_term.specs.declared.syntax.Term.{Num}
use Rattle.dl_model.specs.declared.protocol.FieldDecl.{FieldDecl}
use Rattle.dl_model.specs.declared.protocol.Transition.{Transition}
use Rattle.dl_model.specs.declared.protocol.Tag.{Tag}
use Rattle.dl_model.specs.declared.protocol.Protocol.{Protocol}
use Rattle.dl_model.specs.declared.protocol.Hook.{Hook}
use Rattle.dl_model.specs.declared.protocol.Instances.{Instances}
use Rattle.dl_model.specs.declared.program.Proc.{Proc}
use Rattle.dl_model.specs.declared.file.World.{World}
use Rattle.dl_model.specs.declared.file.Program.{Program}
use Rattle.dl_model.specs.declared.file.Deploy.{Deploy}
use Rattle.dl_model.specs.declared.file.Decls.{Decls}

-- ---- protocols

abbrev pub no_protocol : Protocol
no_protocol = record { sym = 0; fields = []; tags = []; coherence = None }

abbrev pub protocol_in : Instances → Option ℕ → Protocol
protocol_in inst (Some protocol) = unwrap_or (slice_get inst.protocols protocol) no_protocol
protocol_in inst None = no_protocol

-- the protocol of a label
abbrev pub protocol_at : Instances → ℕ → Protocol
protocol_at inst label = protocol_in inst (slice_get inst.of label)

-- a step that nobody can make
abbrev pub never : Transition
never = record { guard = False; updates = [] }

abbrev pub no_tag : Tag
no_tag = record { sym = 0; args = []; send = never; receive = None }

abbrev pub tag_at : Instances → ℕ → ℕ → Tag
tag_at inst label tag = unwrap_or (slice_get (protocol_at inst label).tags tag) no_tag

-- the receive of a tag
abbrev pub receive_of : Tag → Transition
receive_of tag = unwrap_or tag.receive never

abbrev pub sort_in : Option FieldDecl → Sort
sort_in (Some field) = field.sort
sort_in None = record { low = pos 0; high = pos 0 }

abbrev pub field_sort : Instances → ℕ → ℕ → Sort
field_sort inst label field = sort_in (slice_get (protocol_at inst label).fields field)

-- a name with its sort
abbrev pub Parameter : Type 0
Parameter = record { 0 : ℕ; 1 : Sort }

abbrev pub arg_names : List Parameter → List ℕ
arg_names args = map (λ arg. arg.0) args

abbrev pub arg_sorts : List Parameter → List Sort
arg_sorts args = map (λ arg. arg.1) args

-- ---- worlds, hooks, procedures

abbrev pub world_at : Decls → ℕ → World
world_at decls world = unwrap_or (slice_get decls.worlds world) (record { sym = 0; labels = []; hooks = [] })

abbrev pub hook_at : Decls → ℕ → Hook
hook_at decls hook =
    unwrap_or (slice_get decls.hooks hook) (record { sym = 0; core = 0; client = 0; tag = 0; args = []; formula = True })

abbrev pub no_proc : Proc
no_proc = record { sym = 0; world = 0; params = []; locals = []; pre = False; post = True; body = []; result = Num (pos 0) }

abbrev pub proc_at : List Proc → ℕ → Proc
proc_at procs proc = unwrap_or (slice_get procs proc) no_proc

-- the world of a procedure
abbrev pub world_of : Decls → ℕ → World
world_of decls proc = world_at decls (proc_at decls.procs proc).world

-- ---- the deployment

abbrev pub deploy_of : Decls → Deploy
deploy_of decls = unwrap_or decls.deploy (record { world = 0; programs = [] })

-- the world of the deployment
abbrev pub composed : Decls → World
composed decls = world_at decls (deploy_of decls).world

abbrev pub program_in : List Program → ℕ → Option Program
program_in [] node = None
program_in (program ∷ programs) node = if node == program.node then Some program else program_in programs node

-- what the node runs
abbrev pub program_of : Decls → ℕ → Option Program
program_of decls node = program_in (deploy_of decls).programs node
