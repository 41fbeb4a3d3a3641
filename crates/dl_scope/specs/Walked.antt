-- What stands before a place, as the code holds it.
use Rattle.std.specs.Prelude.{ℤ, Bool, true, false, List, [], ◌∷◌, ◌++◌, map, codes, Option, Some, None, Vec}
use Rattle.dl_forms.specs.Context.{Text}
use Rattle.dl_notation.specs.Environment.{ProcedureNames, ObligationName, Environment, no_protocol}
use Rattle.dl_term.specs.declared.syntax.Sort.{Sort}
use Rattle.dl_tree.specs.declared.tree.Tree.{Tree, Num}
use Rattle.dl_notation.specs.declared.role.ListRole.{ListRole}
use Rattle.dl_notation.specs.declared.role.ListRole.TheVariants as list
use Rattle.dl_notation.specs.Obligations.{Given, given_by}
use Rattle.dl_notation.specs.Worlds.{world_named, facts}
use Rattle.dl_scope.specs.declared.scope.Scope.{Scope}
use Rattle.dl_scope.specs.declared.walk.Walk.{Walk}

-- an obligation's name, as the set of proved ones holds it
abbrev pub claimed : {A : Type 0} → Vec Text A × ℤ → ObligationName
claimed claim = record { texts = claim.0.items; number = claim.1 }

-- what stands before the place
abbrev pub environment : Walk → Environment
environment w = record {
  declared = w.declared.keys;
  nodes = w.nodes;
  sorts = w.sorts.entries;
  protocols = w.protocols;
  hooks = w.hooks;
  worlds = w.worlds;
  invariants = w.invariants;
  procedures = w.procedures;
  proved = map claimed w.proved.keys;
  words = w.words.entries;
  labels = w.labels;
  quantified = w.quantified.keys;
  others = w.others.keys;
  variables = w.scope.variables;
  messages = w.scope.messages;
  hypotheses = w.scope.hypotheses;
  locals = w.scope.locals;
  pending = w.scope.pending;
  own = w.scope.own;
  has_own = w.scope.has_own;
  parameters = w.scope.parameters;
  sort = w.scope.sort;
  core = w.scope.core;
  label = w.scope.label;
  arguments = w.scope.arguments;
  procedure = w.scope.procedure;
  wanted = w.scope.wanted;
  points = w.points;
  obligation = w.scope.obligation;
  named = w.scope.named;
  listed = w.scope.listed;
}

-- what the item has named where a file begins
abbrev pub no_scope : Scope
no_scope = record {
  variables = [];
  messages = [];
  hypotheses = [];
  locals = [];
  pending = [];
  own = no_protocol;
  has_own = false;
  parameters = [];
  sort = None;
  core = [];
  label = [];
  arguments = None;
  procedure = [];
  wanted = [];
  obligation = [];
  named = [];
  listed = [];
}

-- the points of a procedure, where there is one
abbrev pub points_of : Option ProcedureNames → List Text
points_of (Some procedure) = procedure.points
points_of None = []

abbrev pub is_obligation : ListRole → Bool
is_obligation list.Obligation = true
is_obligation _ = false

-- the sorts of a procedure's parameters, where there is one
abbrev pub sorts_of : Option ProcedureNames → List Sort
sorts_of (Some procedure) = procedure.sorts
sorts_of None = []

-- a procedure's variables and the facts of its world
abbrev pub procedure_given : Environment → ProcedureNames → Given
procedure_given env procedure = record {
  variables = codes "me" ∷ procedure.parameters ++ procedure.locals;
  hypotheses = facts env (world_named env procedure.world);
  named = [];
}

-- the interval of two numbers
abbrev pub interval : List Tree → Option Sort
interval (Num low p ∷ Num high q ∷ []) = Some (record { low = low; high = high })
interval _ = None

-- what an obligation gives is noted
abbrev pub given_noted : Environment → Text → List Tree → Environment
given_noted env word parts =
    let given : Given = given_by env word parts in
    record env { variables = given.variables; hypotheses = given.hypotheses; named = given.named }

-- the names of a scope alone
abbrev pub names_copied : Scope → Scope
names_copied scope = record no_scope {
  variables = scope.variables;
  messages = scope.messages;
  hypotheses = scope.hypotheses;
  locals = scope.locals;
  pending = scope.pending;
  listed = scope.listed;
}

-- what the item has named is this again
abbrev pub reset : Environment → Scope → Environment
reset env scope = record env {
  variables = scope.variables;
  messages = scope.messages;
  hypotheses = scope.hypotheses;
  locals = scope.locals;
  pending = scope.pending;
  own = scope.own;
  has_own = scope.has_own;
  parameters = scope.parameters;
  sort = scope.sort;
  core = scope.core;
  label = scope.label;
  arguments = scope.arguments;
  procedure = scope.procedure;
  wanted = scope.wanted;
  obligation = scope.obligation;
  named = scope.named;
  listed = scope.listed;
}
