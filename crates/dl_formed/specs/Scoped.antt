-- What the code's scopes stand for.
use Rattle.std.specs.Prelude.{[], Option}
use Rattle.dl_term.specs.declared.syntax.Lab.{Lab}
use Rattle.dl_model.specs.declared.protocol.Protocol.{Protocol}
use Rattle.dl_model.specs.Scopes.{Scope, own_label, file_label, hook_label, no_label, with_variable, with_message}
use Rattle.dl_formed.specs.declared.scope.Labels.{Labels}
use Rattle.dl_formed.specs.declared.scope.Labels.TheVariants.{Nowhere, Own, File, Hooked}
use Rattle.dl_formed.specs.declared.scope.Known.{Known, Base, Variable', Message'}

-- the protocol of each label that may be named
abbrev pub protocols_of : Labels → Lab → Option Protocol
protocols_of Nowhere = no_label
protocols_of (Own protocol) = own_label protocol.now
protocols_of (File inst) = file_label inst.now
protocols_of (Hooked inst hook) = hook_label inst.now hook.now

abbrev pub scope_of : Known → Scope
scope_of (Base labels variables) = record { protocol = protocols_of labels; variables = variables.now; messages = [] }
scope_of (Variable' p outer name) = with_variable (scope_of outer) name
scope_of (Message' p outer name) = with_message (scope_of outer) name
