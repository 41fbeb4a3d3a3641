-- Whether procedures and the deployment are formed, as tests.
use Rattle.std.specs.Prelude.{ℕ, ℤ, ◌+◌, nat_lt, nat_le, Bool, true, false, ◌&&◌, ◌==◌, Option, Some, None, is_some, List, [], ◌∷◌, ◌++◌, length, map}
use Rattle.std.specs.List.{list_all}
use Rattle.dl_term.specs.declared.syntax.Lab.TheVariants.{At}
use Rattle.dl_term.specs.declared.syntax.Term.{Term}
use Rattle.dl_term.specs.declared.syntax.Formula.{Formula, True, False, Eq, Lt, Le, Not', And', Or', Implies', All', Exists', Each', Any', more_of-Formula as one_formula, end_of-Formula as end_formula}
use Rattle.dl_model.specs.declared.protocol.Tag.{Tag}
use Rattle.dl_model.specs.declared.program.Command.{Command, Send, Await, Poll, Read, Set, If', While', Call}
use Rattle.dl_model.specs.declared.program.Proc.{Proc}
use Rattle.dl_model.specs.declared.file.Program.{Program}
use Rattle.dl_model.specs.declared.file.Deploy.{Deploy}
use Rattle.dl_model.specs.declared.file.Decls.{Decls}
use Rattle.dl_model.specs.Block.{Block, Done, Sends, Awaits, Polls, Reads, Sets, Ifs, Whiles, Calls, row_block}
use Rattle.dl_model.specs.Sorts.{has, all_in_sorts}
use Rattle.dl_model.specs.Lookup.{arg_names, arg_sorts, proc_at}
use Rattle.dl_model.specs.Words.{me_word, result_word}
use Rattle.dl_model.specs.Scopes.{Scope, file_label, no_label, is_field}
use Rattle.dl_model.specs.Formed.{points}
use Rattle.dl_formed.specs.Known.{is_term, is_formula, formula_is_apart}
use Rattle.dl_formed.specs.Decided.{are_distinct, are_names, are_parameters, tag_in, takes}

-- ---- what is seen

-- what annotations may name: the labels of the file, and these variables
abbrev pub note_scope : Decls → List ℕ → Scope
note_scope decls variables = record { protocol = file_label decls.inst; variables = variables; messages = [] }

-- what expressions and tests may name
abbrev pub value_scope : List ℕ → Scope
value_scope variables = record { protocol = no_label; variables = variables; messages = [] }

-- the procedure that a command stands in: its number, its locals, and its variables
pub record Sight : Type 0 where
  pub decls : Decls
  pub number : ℕ
  pub locals : List ℕ
  pub variables : List ℕ

abbrev pub is_note : Sight → Formula → Bool
is_note sight f = is_formula (note_scope sight.decls sight.variables) f

abbrev pub is_value : Sight → Term → Bool
is_value sight term = is_term (value_scope sight.variables) term

abbrev pub are_values : Sight → List Term → Bool
are_values sight terms = list_all (is_value sight) terms

abbrev pub binds_none : Formula → Bool
binds_none True = true
binds_none False = true
binds_none (Eq a b) = true
binds_none (Lt a b) = true
binds_none (Le a b) = true
binds_none (Not' _ (one_formula f end_formula)) = binds_none f
binds_none (And' _ (one_formula f end_formula) _ (one_formula g end_formula)) = binds_none f && binds_none g
binds_none (Or' _ (one_formula f end_formula) _ (one_formula g end_formula)) = binds_none f && binds_none g
binds_none (Implies' _ (one_formula f end_formula) _ (one_formula g end_formula)) = binds_none f && binds_none g
binds_none (All' sym _ (one_formula body end_formula)) = false
binds_none (Exists' sym _ (one_formula body end_formula)) = false
binds_none (Each' msg label tag _ (one_formula body end_formula)) = false
binds_none (Any' msg label tag _ (one_formula body end_formula)) = false

abbrev pub is_test : Sight → Formula → Bool
is_test sight f = is_formula (value_scope sight.variables) f && binds_none f

-- ---- commands

abbrev pub are_targets : Sight → List ℕ → Bool
are_targets sight targets = list_all (has sight.locals) targets && are_distinct targets

-- there is a tag that is received, of so many arguments
abbrev pub gives : Option Tag → ℕ → Bool
gives (Some tag) count = is_some tag.receive && (count == length tag.args)
gives None count = false

abbrev pub is_sent : Sight → ℕ → ℕ → ℕ → Bool
is_sent sight label tag count = takes (tag_in (file_label sight.decls.inst (At label)) tag) count

abbrev pub is_received : Sight → ℕ → ℕ → ℕ → Bool
is_received sight label tag count = gives (tag_in (file_label sight.decls.inst (At label)) tag) count

abbrev pub is_read : Sight → ℕ → ℕ → Option Term → Bool
is_read sight label field index = is_field (file_label sight.decls.inst (At label)) field (is_some index)

abbrev pub is_index : Sight → Option Term → Bool
is_index sight (Some index) = is_value sight index
is_index sight None = true

abbrev pub is_call : Sight → ℕ → List Term → Bool
is_call sight callee args = nat_lt callee sight.number && ((length args == length (proc_at sight.decls.procs callee).params) && are_values sight args)

abbrev pub send_is_formed : Sight → Formula → ℕ → ℕ → Term → List Term → Bool
send_is_formed sight note label tag to args = is_note sight note && (is_sent sight label tag (length args) && (is_value sight to && are_values sight args))

abbrev pub await_is_formed : Sight → Formula → ℕ → ℕ → List ℕ → List ℕ → Bool
await_is_formed sight note label tag args targets = is_note sight note && (is_received sight label tag (length args) && are_targets sight targets)

abbrev pub read_is_formed : Sight → Formula → ℕ → ℕ → ℕ → Option Term → Bool
read_is_formed sight note into label field index =
    is_note sight note && (is_read sight label field index && (is_index sight index && are_targets sight (into ∷ [])))

abbrev pub set_is_formed : Sight → ℕ → Term → Bool
set_is_formed sight target value = are_targets sight (target ∷ []) && is_value sight value

abbrev pub call_is_formed : Sight → Formula → Formula → ℕ → ℕ → List Term → Bool
call_is_formed sight note frame into callee args =
    is_note sight note && (is_note sight frame && (are_targets sight (into ∷ []) && is_call sight callee args))

abbrev pub block_is_formed : Sight → Block → Bool
block_is_formed sight Done = true
block_is_formed sight (Sends note label tag to args rest) = send_is_formed sight note label tag to args && block_is_formed sight rest
block_is_formed sight (Awaits note label tag sender args rest) = await_is_formed sight note label tag args (sender ∷ args) && block_is_formed sight rest
block_is_formed sight (Polls note got label tag sender args rest) = await_is_formed sight note label tag args (got ∷ sender ∷ args) && block_is_formed sight rest
block_is_formed sight (Reads note into label field index rest) = read_is_formed sight note into label field index && block_is_formed sight rest
block_is_formed sight (Sets target value rest) = set_is_formed sight target value && block_is_formed sight rest
block_is_formed sight (Ifs test left right rest) = (is_test sight test && (block_is_formed sight left && block_is_formed sight right)) && block_is_formed sight rest
block_is_formed sight (Whiles test note body rest) = (is_test sight test && (is_note sight note && block_is_formed sight body)) && block_is_formed sight rest
block_is_formed sight (Calls note frame into callee args rest) = call_is_formed sight note frame into callee args && block_is_formed sight rest

-- a command without what follows it
abbrev pub command_is_formed : Sight → Command → Bool
command_is_formed sight (Send note label tag to args) = send_is_formed sight note label tag to args
command_is_formed sight (Await note label tag sender args) = await_is_formed sight note label tag args (sender ∷ args)
command_is_formed sight (Poll note got label tag sender args) = await_is_formed sight note label tag args (got ∷ sender ∷ args)
command_is_formed sight (Read note into label field index) = read_is_formed sight note into label field index
command_is_formed sight (Set target value) = set_is_formed sight target value
command_is_formed sight (If' test _ left _ right) = is_test sight test && (block_is_formed sight (row_block left) && block_is_formed sight (row_block right))
command_is_formed sight (While' test note _ body) = is_test sight test && (is_note sight note && block_is_formed sight (row_block body))
command_is_formed sight (Call note frame into callee args) = call_is_formed sight note frame into callee args

-- ---- procedures

abbrev pub proc_sight : Decls → ℕ → Proc → Sight
proc_sight decls number proc = record { decls = decls; number = number; locals = proc.locals; variables = me_word ∷ (arg_names proc.params ++ proc.locals) }

-- its parameters, its locals, and the names of both
abbrev pub has_names : Proc → Bool
has_names proc = are_parameters proc.params && (nat_le (length proc.locals) 16 && are_names (arg_names proc.params ++ proc.locals))

-- its contract
abbrev pub has_contract : Decls → Proc → Bool
has_contract decls proc =
    is_formula (note_scope decls (me_word ∷ arg_names proc.params)) proc.pre &&
    is_formula (note_scope decls (result_word ∷ me_word ∷ arg_names proc.params)) proc.post

-- its commands and what it returns
abbrev pub has_body : Sight → Proc → Bool
has_body sight proc = list_all (command_is_formed sight) proc.body && is_value sight proc.result

abbrev pub proc_is_formed : Decls → ℕ → Proc → Bool
proc_is_formed decls number proc =
    nat_lt proc.world (length decls.worlds) && (has_names proc && (has_contract decls proc && has_body (proc_sight decls number proc) proc))

-- the procedures from a number on
abbrev pub procs_are_formed : Decls → ℕ → List Proc → Bool
procs_are_formed decls number [] = true
procs_are_formed decls number (proc ∷ procs) = proc_is_formed decls number proc && procs_are_formed decls (number + 1) procs

-- ---- the deployment

-- there is the procedure, and each parameter has a constant of its sort
abbrev pub has_constants : List Proc → ℕ → List ℤ → Bool
has_constants procs proc constants = nat_lt proc (length procs) && all_in_sorts (arg_sorts (proc_at procs proc).params) constants

abbrev pub program_is_formed : Decls → Program → Bool
program_is_formed decls program = nat_lt program.node decls.inst.nodes && has_constants decls.procs program.proc program.constants

abbrev pub program_nodes : List Program → List ℕ
program_nodes programs = map (λ (program : Program). program.node) programs

abbrev pub deployment_is_formed : Decls → Option Deploy → Bool
deployment_is_formed decls (Some deploy) =
    nat_lt deploy.world (length decls.worlds) && (list_all (program_is_formed decls) deploy.programs && are_distinct (program_nodes deploy.programs))
deployment_is_formed decls None = true

-- ---- names

abbrev pub block_is_apart : List ℕ → Block → Bool
block_is_apart names Done = true
block_is_apart names (Sends note label tag to args rest) = formula_is_apart names note && block_is_apart names rest
block_is_apart names (Awaits note label tag sender args rest) = formula_is_apart names note && block_is_apart names rest
block_is_apart names (Polls note got label tag sender args rest) = formula_is_apart names note && block_is_apart names rest
block_is_apart names (Reads note into label field index rest) = formula_is_apart names note && block_is_apart names rest
block_is_apart names (Sets target value rest) = block_is_apart names rest
block_is_apart names (Ifs test left right rest) = block_is_apart names left && (block_is_apart names right && block_is_apart names rest)
block_is_apart names (Whiles test note body rest) = formula_is_apart names note && (block_is_apart names body && block_is_apart names rest)
block_is_apart names (Calls note frame into callee args rest) = formula_is_apart names note && (formula_is_apart names frame && block_is_apart names rest)

abbrev pub command_is_apart : List ℕ → Command → Bool
command_is_apart names (Send note label tag to args) = formula_is_apart names note
command_is_apart names (Await note label tag sender args) = formula_is_apart names note
command_is_apart names (Poll note got label tag sender args) = formula_is_apart names note
command_is_apart names (Read note into label field index) = formula_is_apart names note
command_is_apart names (Set target value) = true
command_is_apart names (If' test _ left _ right) = block_is_apart names (row_block left) && block_is_apart names (row_block right)
command_is_apart names (While' test note _ body) = formula_is_apart names note && block_is_apart names (row_block body)
command_is_apart names (Call note frame into callee args) = formula_is_apart names note && formula_is_apart names frame

abbrev pub proc_is_apart : List ℕ → Proc → Bool
proc_is_apart names proc = formula_is_apart names proc.pre && (formula_is_apart names proc.post && list_all (command_is_apart names) proc.body)

-- ---- points

-- the points of a command, without those of what follows it
abbrev pub command_points : Command → ℕ
command_points (Send note label tag to args) = 1
command_points (Await note label tag sender args) = 1
command_points (Poll note got label tag sender args) = 1
command_points (Read note into label field index) = 1
command_points (Set target value) = 0
command_points (If' test _ left _ right) = points (row_block left) + points (row_block right)
command_points (While' test note _ body) = 1 + points (row_block body)
command_points (Call note frame into callee args) = 1

abbrev pub points_of : List Command → ℕ
points_of [] = 0
points_of (command ∷ commands) = command_points command + points_of commands

abbrev pub points_of_procs : List Proc → ℕ
points_of_procs [] = 0
points_of_procs (proc ∷ procs) = points_of proc.body + points_of_procs procs
