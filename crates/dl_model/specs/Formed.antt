-- Formed declarations: what the readers of a file give.
use Rattle.std.specs.Prelude.{◌≡◌, ℕ, ◌+◌, ◌<◌, ◌≤◌, true, false, Option, Some, None, is_some, List, [], ◌∷◌, ◌++◌, length, map, slice_get}
use Rattle.std.specs.List.{AllByRecursion as Each, flat_map}
use Rattle.dl_term.specs.declared.syntax.Lab.{Lab}
use Rattle.dl_term.specs.declared.syntax.Lab.TheVariants.{At}
use Rattle.dl_term.specs.declared.syntax.Term.{Term}
use Rattle.dl_term.specs.declared.syntax.Formula.{Formula}
use Rattle.dl_model.specs.declared.protocol.FieldDecl.{FieldDecl}
use Rattle.dl_model.specs.declared.protocol.Update.{Update}
use Rattle.dl_model.specs.declared.protocol.Transition.{Transition}
use Rattle.dl_model.specs.declared.protocol.Tag.{Tag}
use Rattle.dl_model.specs.declared.protocol.Protocol.{Protocol}
use Rattle.dl_model.specs.declared.protocol.Hook.{Hook}
use Rattle.dl_model.specs.declared.protocol.Instances.{Instances}
use Rattle.dl_model.specs.declared.program.Proc.{Proc}
use Rattle.dl_model.specs.declared.file.World.{World}
use Rattle.dl_model.specs.declared.file.Invariant.{Invariant}
use Rattle.dl_model.specs.declared.file.Program.{Program}
use Rattle.dl_model.specs.declared.file.Deploy.{Deploy}
use Rattle.dl_model.specs.declared.file.Decls.{Decls}
use Rattle.dl_model.specs.Block.{Block, Done, Sends, Awaits, Polls, Reads, Sets, Ifs, Whiles, Calls, block_of}
use Rattle.dl_model.specs.Sorts.{in_sort, all_in_sorts, has, IsSort}
use Rattle.dl_model.specs.Lookup.{Parameter, arg_names, arg_sorts, tag_at, proc_at}
use Rattle.dl_model.specs.Words.{me_word, to_word, from_word, result_word, first_name}
use Rattle.dl_model.specs.States.{first_value}
use Rattle.dl_model.specs.Spoken.{bound_names}
use Rattle.dl_model.specs.Scopes.{own_label, file_label, hook_label, is_field, is_tag, is_local_term, is_local, IsTerm, IsFormula, IsExpression, IsTest, IsIndex}

-- ---- lists

-- no number stands twice
abbrev pub AreDistinct : List ℕ → Type 0
AreDistinct [] = Unit {0}
AreDistinct (x ∷ xs) = (has xs x ≡ false) × AreDistinct xs

-- names that a file may declare, each once
pub record AreNames (names : List ℕ) : Type 0 where
  pub distinct : AreDistinct names
  pub allowed : Each (λ name. first_name ≤ name) names

-- ---- protocols

abbrev pub IsLocalTerm : Protocol → List ℕ → Term → Type 0
IsLocalTerm protocol variables term =
    IsTerm (record { protocol = own_label protocol; variables = variables; messages = [] }) term × (is_local_term term ≡ true)

abbrev pub IsLocalFormula : (Lab → Option Protocol) → List ℕ → Formula → Type 0
IsLocalFormula labels variables f = IsFormula (record { protocol = labels; variables = variables; messages = [] }) f × (is_local f ≡ true)

-- An update has an index exactly where its field is a row.
pub record UpdateIsFormed (protocol : Protocol) (variables : List ℕ) (update : Update) : Type 0 where
  pub field : is_field (Some protocol) update.field (is_some update.index) ≡ true
  pub index : IsIndex (IsLocalTerm protocol variables) update.index
  pub value : IsLocalTerm protocol variables update.value

pub record TransitionIsFormed (protocol : Protocol) (variables : List ℕ) (transition : Transition) : Type 0 where
  pub guard : IsLocalFormula (own_label protocol) variables transition.guard
  pub updates : Each (UpdateIsFormed protocol variables) transition.updates
  pub once : AreDistinct (map (λ (update : Update). update.field) transition.updates)

abbrev pub ReceiveIsFormed : Protocol → List ℕ → Option Transition → Type 0
ReceiveIsFormed protocol variables (Some transition) = TransitionIsFormed protocol variables transition
ReceiveIsFormed protocol variables None = Unit {0}

abbrev pub AreParameters : List Parameter → Type 0
AreParameters params = (length params ≤ 8) × Each IsSort (arg_sorts params)

pub record TagIsFormed (protocol : Protocol) (tag : Tag) : Type 0 where
  pub args : AreParameters tag.args
  pub names : AreNames (arg_names tag.args)
  pub send : TransitionIsFormed protocol (me_word ∷ to_word ∷ arg_names tag.args) tag.send
  pub receive : ReceiveIsFormed protocol (me_word ∷ from_word ∷ arg_names tag.args) tag.receive

-- A field's first value is an expression over `me`, and is in the sort at each node.
pub record FieldIsFormed (nodes : ℕ) (field : FieldDecl) : Type 0 where
  pub sort : IsSort field.sort
  pub first : IsExpression (me_word ∷ []) field.first
  pub first_in_sort : (node : ℕ) → node < nodes → in_sort field.sort (first_value field node) ≡ true

abbrev pub CoherenceIsFormed : Protocol → Option Formula → Type 0
CoherenceIsFormed protocol (Some f) = IsFormula (record { protocol = own_label protocol; variables = []; messages = [] }) f
CoherenceIsFormed protocol None = Unit {0}

pub record ProtocolIsFormed (nodes : ℕ) (protocol : Protocol) : Type 0 where
  pub few_fields : length protocol.fields ≤ 16
  pub few_tags : length protocol.tags ≤ 16
  pub field_names : AreNames (map (λ (field : FieldDecl). field.sym) protocol.fields)
  pub tag_names : AreNames (map (λ (tag : Tag). tag.sym) protocol.tags)
  pub fields : Each (FieldIsFormed nodes) protocol.fields
  pub tags : Each (TagIsFormed protocol) protocol.tags
  pub coherence : CoherenceIsFormed protocol protocol.coherence

-- ---- hooks, worlds, invariants

pub record HookIsFormed (inst : Instances) (hook : Hook) : Type 0 where
  pub core : hook.core < length inst.of
  pub client : hook.client < length inst.of
  pub tag : is_tag (file_label inst (At hook.client)) hook.tag ≡ true
  pub args : length hook.args ≡ length (tag_at inst hook.client hook.tag).args
  pub names : AreNames hook.args
  pub formula : IsLocalFormula (hook_label inst hook) (me_word ∷ to_word ∷ hook.args) hook.formula

pub record WorldIsFormed (decls : Decls) (world : World) : Type 0 where
  pub labels : Each (λ label. label < length decls.inst.of) world.labels
  pub hooks : Each (λ hook. hook < length decls.hooks) world.hooks
  pub labels_once : AreDistinct world.labels
  pub hooks_once : AreDistinct world.hooks

-- a formula of the file, over these variables
abbrev pub IsFileFormula : Decls → List ℕ → Formula → Type 0
IsFileFormula decls variables f = IsFormula (record { protocol = file_label decls.inst; variables = variables; messages = [] }) f

pub record InvariantIsFormed (decls : Decls) (invariant : Invariant) : Type 0 where
  pub world : invariant.world < length decls.worlds
  pub formula : IsFileFormula decls [] invariant.formula

-- ---- procedures

-- what a procedure's expressions and annotations see
abbrev pub proc_variables : Proc → List ℕ
proc_variables proc = me_word ∷ (arg_names proc.params ++ proc.locals)

-- what a command sets: distinct locals
abbrev pub AreTargets : Proc → List ℕ → Type 0
AreTargets proc targets = Each (λ target. has proc.locals target ≡ true) targets × AreDistinct targets

-- as many as the tag has arguments
abbrev pub IsCountOf : Decls → ℕ → ℕ → ℕ → Type 0
IsCountOf decls label tag count = count ≡ length (tag_at decls.inst label tag).args

-- the tag can be received
abbrev pub IsReceived : Decls → ℕ → ℕ → Type 0
IsReceived decls label tag = is_some (tag_at decls.inst label tag).receive ≡ true

-- the commands of a procedure, which calls those before `number` alone
abbrev pub BlockIsFormed : Decls → ℕ → Proc → Block → Type 0
BlockIsFormed decls number proc Done = Unit {0}
BlockIsFormed decls number proc (Sends note label tag to args rest) =
    IsFileFormula decls (proc_variables proc) note × (is_tag (file_label decls.inst (At label)) tag ≡ true) × IsCountOf decls label tag (length args) ×
    IsExpression (proc_variables proc) to × Each (IsExpression (proc_variables proc)) args × BlockIsFormed decls number proc rest
BlockIsFormed decls number proc (Awaits note label tag sender args rest) =
    IsFileFormula decls (proc_variables proc) note × IsReceived decls label tag × IsCountOf decls label tag (length args) ×
    AreTargets proc (sender ∷ args) × BlockIsFormed decls number proc rest
BlockIsFormed decls number proc (Polls note got label tag sender args rest) =
    IsFileFormula decls (proc_variables proc) note × IsReceived decls label tag × IsCountOf decls label tag (length args) ×
    AreTargets proc (got ∷ sender ∷ args) × BlockIsFormed decls number proc rest
BlockIsFormed decls number proc (Reads note into label field index rest) =
    IsFileFormula decls (proc_variables proc) note × (is_field (file_label decls.inst (At label)) field (is_some index) ≡ true) ×
    IsIndex (IsExpression (proc_variables proc)) index × AreTargets proc (into ∷ []) × BlockIsFormed decls number proc rest
BlockIsFormed decls number proc (Sets target value rest) =
    AreTargets proc (target ∷ []) × IsExpression (proc_variables proc) value × BlockIsFormed decls number proc rest
BlockIsFormed decls number proc (Ifs test left right rest) =
    IsTest (proc_variables proc) test × BlockIsFormed decls number proc left × BlockIsFormed decls number proc right × BlockIsFormed decls number proc rest
BlockIsFormed decls number proc (Whiles test note body rest) =
    IsTest (proc_variables proc) test × IsFileFormula decls (proc_variables proc) note × BlockIsFormed decls number proc body × BlockIsFormed decls number proc rest
BlockIsFormed decls number proc (Calls note frame into callee args rest) =
    IsFileFormula decls (proc_variables proc) note × IsFileFormula decls (proc_variables proc) frame × AreTargets proc (into ∷ []) × (callee < number) ×
    (length args ≡ length (proc_at decls.procs callee).params) × Each (IsExpression (proc_variables proc)) args × BlockIsFormed decls number proc rest

-- `pre` sees `me` and the parameters, `post` besides `result`.
pub record ProcIsFormed (decls : Decls) (number : ℕ) (proc : Proc) : Type 0 where
  pub world : proc.world < length decls.worlds
  pub params : AreParameters proc.params
  pub few_locals : length proc.locals ≤ 16
  pub names : AreNames (arg_names proc.params ++ proc.locals)
  pub pre : IsFileFormula decls (me_word ∷ arg_names proc.params) proc.pre
  pub post : IsFileFormula decls (result_word ∷ me_word ∷ arg_names proc.params) proc.post
  pub body : BlockIsFormed decls number proc (block_of proc.body)
  pub result : IsExpression (proc_variables proc) proc.result

-- the points of a block: its commands with an annotation
abbrev pub points : Block → ℕ
points Done = 0
points (Sends note label tag to args rest) = 1 + points rest
points (Awaits note label tag sender args rest) = 1 + points rest
points (Polls note got label tag sender args rest) = 1 + points rest
points (Reads note into label field index rest) = 1 + points rest
points (Sets target value rest) = points rest
points (Ifs test left right rest) = (points left + points right) + points rest
points (Whiles test note body rest) = 1 + (points body + points rest)
points (Calls note frame into callee args rest) = 1 + points rest

abbrev pub all_points : List Proc → ℕ
all_points [] = 0
all_points (proc ∷ procs) = points (block_of proc.body) + all_points procs

-- ---- the deployment

pub record ProgramIsFormed (decls : Decls) (program : Program) : Type 0 where
  pub node : program.node < decls.inst.nodes
  pub proc : program.proc < length decls.procs
  pub constants : all_in_sorts (arg_sorts (proc_at decls.procs program.proc).params) program.constants ≡ true

abbrev pub DeployIsFormed : Decls → Option Deploy → Type 0
DeployIsFormed decls (Some deploy) =
    (deploy.world < length decls.worlds) × Each (ProgramIsFormed decls) deploy.programs × AreDistinct (map (λ (program : Program). program.node) deploy.programs)
DeployIsFormed decls None = Unit {0}

-- ---- names of the file

-- the names that the file declares, but for its nodes, sorts and enumerators
abbrev pub declared_names : Decls → List ℕ
declared_names decls =
    map (λ (protocol : Protocol). protocol.sym) decls.inst.protocols ++ (decls.labels ++ (map (λ (hook : Hook). hook.sym) decls.hooks
    ++ (map (λ (world : World). world.sym) decls.worlds ++ (map (λ (invariant : Invariant). invariant.sym) decls.invariants ++ map (λ (proc : Proc). proc.sym) decls.procs))))

abbrev pub transition_bound : Option Transition → List ℕ
transition_bound (Some transition) = bound_names transition.guard
transition_bound None = []

abbrev pub tag_bound : Tag → List ℕ
tag_bound tag = bound_names tag.send.guard ++ transition_bound tag.receive

abbrev pub coherence_bound : Option Formula → List ℕ
coherence_bound (Some f) = bound_names f
coherence_bound None = []

abbrev pub block_bound : Block → List ℕ
block_bound Done = []
block_bound (Sends note label tag to args rest) = bound_names note ++ block_bound rest
block_bound (Awaits note label tag sender args rest) = bound_names note ++ block_bound rest
block_bound (Polls note got label tag sender args rest) = bound_names note ++ block_bound rest
block_bound (Reads note into label field index rest) = bound_names note ++ block_bound rest
block_bound (Sets target value rest) = block_bound rest
block_bound (Ifs test left right rest) = block_bound left ++ (block_bound right ++ block_bound rest)
block_bound (Whiles test note body rest) = bound_names note ++ (block_bound body ++ block_bound rest)
block_bound (Calls note frame into callee args rest) = bound_names note ++ (bound_names frame ++ block_bound rest)

-- the names that quantifiers bind anywhere in the file
abbrev pub file_bound : Decls → List ℕ
file_bound decls =
    flat_map (λ (protocol : Protocol). flat_map tag_bound protocol.tags ++ coherence_bound protocol.coherence) decls.inst.protocols
    ++ (flat_map (λ (hook : Hook). bound_names hook.formula) decls.hooks
    ++ (flat_map (λ (invariant : Invariant). bound_names invariant.formula) decls.invariants
    ++ flat_map (λ (proc : Proc). bound_names proc.pre ++ (bound_names proc.post ++ block_bound (block_of proc.body))) decls.procs))

-- the other variables: arguments of tags and hooks, parameters and locals
abbrev pub file_variables : Decls → List ℕ
file_variables decls =
    flat_map (λ (protocol : Protocol). flat_map (λ (tag : Tag). arg_names tag.args) protocol.tags) decls.inst.protocols
    ++ (flat_map (λ (hook : Hook). hook.args) decls.hooks ++ flat_map (λ (proc : Proc). arg_names proc.params ++ proc.locals) decls.procs)

-- ---- formed

pub record FileIsSmall (decls : Decls) : Type 0 where
  pub some_node : 1 ≤ decls.inst.nodes
  pub nodes : decls.inst.nodes ≤ 16
  pub labels : length decls.inst.of ≤ 16
  pub protocols : length decls.inst.protocols ≤ 64
  pub hooks : length decls.hooks ≤ 64
  pub worlds : length decls.worlds ≤ 64
  pub invariants : length decls.invariants ≤ 64
  pub procs : length decls.procs ≤ 64
  pub points : all_points decls.procs ≤ 1048576

pub record InstancesAreFormed (inst : Instances) : Type 0 where
  pub protocols : (p : ℕ) (protocol : Protocol) → slice_get inst.protocols p ≡ Some protocol → ProtocolIsFormed inst.nodes protocol
  pub labels : Each (λ protocol. protocol < length inst.protocols) inst.of

-- Every number names something, lists are as long as declared, names are known and of their kinds, numbers are in their sorts,
-- no quantifier binds the name of another variable of the file, and no count is past its limit.
pub record IsFormed (decls : Decls) : Type 0 where
  pub small : FileIsSmall decls
  pub inst : InstancesAreFormed decls.inst
  pub label_names : length decls.labels ≡ length decls.inst.of
  pub hooks : Each (HookIsFormed decls.inst) decls.hooks
  pub worlds : Each (WorldIsFormed decls) decls.worlds
  pub invariants : (i : ℕ) (invariant : Invariant) → slice_get decls.invariants i ≡ Some invariant → InvariantIsFormed decls invariant
  pub procs : (number : ℕ) (proc : Proc) → slice_get decls.procs number ≡ Some proc → ProcIsFormed decls number proc
  pub deploy : DeployIsFormed decls decls.deploy
  pub names : AreNames (declared_names decls)
  pub apart : Each (λ name. has (file_variables decls) name ≡ false) (file_bound decls)
