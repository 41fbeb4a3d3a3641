-- A step of a protocol, in terms: what its updates see, and what becomes of messages.
use Rattle.std.specs.Prelude.{ℕ, pos, false, ◌==◌, if◌then◌else◌, Option, Some, None, List, [], ◌∷◌, slice_get, unwrap_or}
use Rattle.dl_term.specs.declared.syntax.Lab.{Lab}
use Rattle.dl_term.specs.declared.syntax.Lab.TheVariants.{Own, At}
use Rattle.dl_term.specs.declared.syntax.Part.TheVariants.{From, Arg}
use Rattle.dl_term.specs.declared.syntax.Term.{Term, Num, Var, Len, Msg}
use Rattle.dl_model.specs.declared.protocol.Update.{Update}
use Rattle.dl_model.specs.declared.protocol.Transition.{Transition}
use Rattle.dl_model.specs.declared.protocol.Tag.{Tag}
use Rattle.dl_model.specs.declared.protocol.Protocol.{Protocol}
use Rattle.dl_model.specs.declared.protocol.Instances.{Instances}
use Rattle.dl_model.specs.Lookup.{no_tag, arg_names, receive_of}
use Rattle.dl_model.specs.Scopes.{protocol_found, file_label}
use Rattle.dl_model.specs.Words.{me_word, to_word, from_word}
use Rattle.dl_subst.specs.declared.message.NewMessage.{NewMessage}
use Rattle.dl_subst.specs.Change.{Change, changed_term}
use Rattle.dl_wp.specs.declared.steps.SendStep.{SendStep}
use Rattle.dl_wp.specs.declared.steps.ReceiveStep.{ReceiveStep}

-- A send appends a message, given by terms for its parts. A receive takes the mark `live` from the message of this name.
pub data Move : Type 0 where
  Sends : (new : NewMessage) → Move
  Receives : (msg : ℕ) → Move

-- Where and by which node a step is made, what the names of the protocol are in it, and what it updates.
pub record Step : Type 0 where
  pub label : Lab
  pub tag : ℕ
  pub node : Term
  pub named : ℕ → Term
  pub updates : List Update
  pub move : Move

-- ---- what the step's updates see

-- the term for an argument of this name, or else the one that was found
abbrev pub argument_of : (found : Term) → List ℕ → List Term → ℕ → Term
argument_of found [] terms x = found
argument_of found (y ∷ ys) [] x = found
argument_of found (y ∷ ys) (t ∷ ts) x = argument_of (if x == y then t else found) ys ts x

-- `me`, the word for the other node, and the arguments. Each other name reads 0.
abbrev pub names_in_step : Term → ℕ → Term → List ℕ → List Term → ℕ → Term
names_in_step node word other syms args x =
    argument_of (if x == word then other else if x == me_word then node else Num (pos 0)) syms args x

abbrev pub put_seen : (ℕ → Term) → Term → Option Term
put_seen named (Var x) = Some (named x)
put_seen named (Msg m part) = Some (Num (pos 0))
put_seen named _ = None

abbrev pub label_seen : Lab → Lab → Lab
label_seen label Own = label
label_seen label (At l) = At l

-- the step's terms for the names of the protocol, and its label for `self`
abbrev pub as_seen : Lab → (ℕ → Term) → Change
as_seen label named = record {
  put = put_seen named;
  label = label_seen label;
  stops_at_variable = λ x. false;
  stops_at_message = λ m. false;
}

-- a term of the protocol, as it stands in the step
abbrev pub seen : Step → Term → Term
seen step t = changed_term (as_seen step.label step.named) t

-- where an update writes: 0 for a field that is no row
abbrev pub seen_index : Step → Option Term → Term
seen_index step (Some index) = seen step index
seen_index step None = Num (pos 0)

-- ---- the two steps

-- The protocol of a label. Where `self` has a protocol, no other label has one.
abbrev pub spoken_of : Instances → Option ℕ → Lab → Option Protocol
spoken_of inst None label = file_label inst label
spoken_of inst (Some own) Own = protocol_found inst (Some own)
spoken_of inst (Some own) (At label) = None

abbrev pub tag_in : Option Protocol → ℕ → Tag
tag_in (Some protocol) tag = unwrap_or (slice_get protocol.tags tag) no_tag
tag_in None tag = no_tag

abbrev pub sent_message : SendStep → NewMessage
sent_message step = record { id = Len step.label; from = step.sender; to = step.to; live = Num (pos 1); args = step.args }

abbrev pub send_step : Instances → Option ℕ → SendStep → Step
send_step inst own step = record {
  label = step.label;
  tag = step.tag;
  node = step.sender;
  named = names_in_step step.sender to_word step.to (arg_names (tag_in (spoken_of inst own step.label) step.tag).args) step.args;
  updates = (tag_in (spoken_of inst own step.label) step.tag).send.updates;
  move = Sends (sent_message step);
}

-- A tag has at most 8 arguments.
abbrev pub args_of_message : ℕ → List Term
args_of_message m =
    Msg m (Arg 0) ∷ Msg m (Arg 1) ∷ Msg m (Arg 2) ∷ Msg m (Arg 3) ∷ Msg m (Arg 4) ∷ Msg m (Arg 5) ∷ Msg m (Arg 6) ∷ Msg m (Arg 7) ∷ []

abbrev pub receive_step : Instances → Option ℕ → ReceiveStep → Step
receive_step inst own step = record {
  label = step.label;
  tag = step.tag;
  node = step.receiver;
  named = names_in_step step.receiver from_word (Msg step.msg From) (arg_names (tag_in (spoken_of inst own step.label) step.tag).args) (args_of_message step.msg);
  updates = (receive_of (tag_in (spoken_of inst own step.label) step.tag)).updates;
  move = Receives step.msg;
}
