-- The step of an entry: what it names exists, and the state keeps its shape.
use Rattle.std.proofs.Common.{◌≡◌, ℕ, suc, ◌<◌, ◌==◌, ℤ, true, Option, Some, None, List, [], ◌∷◌, length, refl, ap, sym, subst, inl, inr}
use Rattle.std.specs.Prelude.{slice_get, unwrap_or}
use Rattle.std.specs.List.{AllByRecursion as Each}
use Rattle.std.proofs.lemmas.Bool.{eqb-true, ltb-true}
use Rattle.std.proofs.lemmas.Option.{slice_get_within}
use Rattle.dl_term.specs.declared.syntax.Lab.TheVariants.{At}
use Rattle.dl_term.specs.State.{State}
use Rattle.dl_term.specs.Meaning.{holds}
use Rattle.dl_model.specs.declared.history.Call.{Call}
use Rattle.dl_model.specs.declared.history.Call.TheVariants as call
use Rattle.dl_model.specs.declared.history.Reply.{Reply}
use Rattle.dl_model.specs.declared.history.Reply.TheVariants as reply
use Rattle.dl_model.specs.declared.protocol.Tag.{Tag}
use Rattle.dl_model.specs.declared.protocol.Protocol.{Protocol}
use Rattle.dl_model.specs.declared.protocol.Instances.{Instances}
use Rattle.dl_model.specs.declared.file.World.{World}
use Rattle.dl_model.specs.declared.file.Decls.{Decls}
use Rattle.dl_model.specs.Sorts.{has, all_in_sorts}
use Rattle.dl_model.specs.Lookup.{Parameter, protocol_in, protocol_at, no_protocol, tag_at, no_tag, arg_sorts, composed, deploy_of}
use Rattle.dl_model.specs.Scopes.{file_label, protocol_found, is_tag}
use Rattle.dl_model.specs.Formed.{IsFormed, WorldIsFormed}
use Rattle.dl_model.specs.Steps.{Step, Sending, Receiving, IsEnabled, after_step, names_of_send, names_of_receive, message_in, receive_at, statelet_sent, statelet_received}
use Rattle.dl_model.specs.Machine.{listed}
use Rattle.dl_model.specs.Runs.{IsFreeCall, Replies, label_of_call, state_after, step_of}
use Rattle.dl_model.proofs.Small.{either-true, and-right}
use Rattle.dl_proto.specs.Shaped.{IsShaped}
use Rattle.dl_proto.proofs.Options.{each-at}
use Rattle.dl_proto.proofs.UpdateLemmas.{updates-shaped}
use Rattle.dl_history.specs.Taken.{CallIsGiven, after_call}
use Rattle.dl_history.proofs.Sends.{HasTag}

-- ---- shapes

step-shaped : (inst : Instances) (s : State) (node : ℕ) (step : Step) → IsShaped inst s → IsShaped inst (after_step inst s node step)
step-shaped inst s node (Sending label tag to args) h =
    updates-shaped inst s s label node (names_of_send inst label tag node to args) (tag_at inst label tag).send.updates (statelet_sent inst s node label tag to args).soup h
step-shaped inst s node (Receiving label id) h =
    updates-shaped inst s s label node (names_of_receive inst label (message_in s label id) node) (receive_at inst label (message_in s label id)).updates (statelet_received inst s node label id).soup h

pub after-shaped : (inst : Instances) (s : State) (node : ℕ) (step : Option Step) → IsShaped inst s → IsShaped inst (state_after inst s node step)
after-shaped inst s node (Some step) h = step-shaped inst s node step h
after-shaped inst s node None h = h

-- what a call and its reply make of the state is what their step does
pub call-after : (inst : Instances) (s : State) (node : ℕ) (c : Call) (r : Reply) → after_call inst s node c r ≡ state_after inst s node (step_of c r)
call-after inst s node (call.Send label tag to args) r = refl
call-after inst s node (call.Poll label tag) (reply.Sent id) = refl
call-after inst s node (call.Poll label tag) (reply.Got id from args) = refl
call-after inst s node (call.Poll label tag) reply.Miss = refl
call-after inst s node (call.Poll label tag) (reply.Value v) = refl
call-after inst s node (call.Await label tag) (reply.Sent id) = refl
call-after inst s node (call.Await label tag) (reply.Got id from args) = refl
call-after inst s node (call.Await label tag) reply.Miss = refl
call-after inst s node (call.Await label tag) (reply.Value v) = refl
call-after inst s node (call.Read label field index) r = refl

-- ---- what exists

has-each : (P : ℕ → Type 0) (ms : List ℕ) (n : ℕ) → Each P ms → has ms n ≡ true → P n
has-each P [] n h e = cc
has-each P (m ∷ ms) n h e = elim (either-true (n == m) (has ms n) e) [
  | inl q ↦ subst P (sym (eqb-true n m q)) h.0
  | inr q ↦ has-each P ms n h.1 q
]

-- a label of the composed world is one of the file
pub label-there : (d : Decls) (label : ℕ) → IsFormed d → has (composed d).labels label ≡ true → label < length d.inst.of
label-there d label h e = there (slice_get d.worlds (deploy_of d).world) refl e
  where
    there : (found : Option World) → slice_get d.worlds (deploy_of d).world ≡ found → has (unwrap_or found (record { sym = 0; labels = []; hooks = [] })).labels label ≡ true → label < length d.inst.of
    there (Some world) f k = has-each (λ l. l < length d.inst.of) world.labels label (each-at (WorldIsFormed d) d.worlds (deploy_of d).world world h.worlds f).labels k
    there None f k = cc

tag-in : (inst : Instances) (protocol : Option Protocol) (tag : ℕ) → is_tag protocol tag ≡ true → tag < length (unwrap_or protocol no_protocol).tags
tag-in inst (Some protocol) tag h = ltb-true tag (length protocol.tags) h
tag-in inst None tag h = cc

tag-found : (inst : Instances) (o : Option ℕ) (tag : ℕ) → is_tag (protocol_found inst o) tag ≡ true → tag < length (protocol_in inst o).tags
tag-found inst (Some k) tag h = tag-in inst (slice_get inst.protocols k) tag h
tag-found inst None tag h = cc

tag-there : (inst : Instances) (label tag : ℕ) → is_tag (file_label inst (At label)) tag ≡ true → tag < length (protocol_at inst label).tags
tag-there inst label tag h = tag-found inst (slice_get inst.of label) tag h

pub call-given : (d : Decls) (s : State) (node : ℕ) (c : Call) (r : Reply) → node < d.inst.nodes → label_of_call c < length d.inst.of → HasTag d c → Replies d.inst s node c r → CallIsGiven d.inst s node c r
call-given d s node (call.Send label tag to args) r n l h k = record { label = l; tag = tag-there d.inst label tag h.0; node = n; args = h.1 }
call-given d s node (call.Poll label tag) (reply.Sent id) n l h k = tt
call-given d s node (call.Poll label tag) (reply.Got id from args) n l h k = record { label = l; id = k.match.known; node = n }
call-given d s node (call.Poll label tag) reply.Miss n l h k = tt
call-given d s node (call.Poll label tag) (reply.Value v) n l h k = tt
call-given d s node (call.Await label tag) (reply.Sent id) n l h k = tt
call-given d s node (call.Await label tag) (reply.Got id from args) n l h k = record { label = l; id = k.match.known; node = n }
call-given d s node (call.Await label tag) reply.Miss n l h k = tt
call-given d s node (call.Await label tag) (reply.Value v) n l h k = tt
call-given d s node (call.Read label field index) r n l h k = tt

-- ---- free calls

pub as-many : (params : List Parameter) (vs : List ℤ) → all_in_sorts (arg_sorts params) vs ≡ true → length vs ≡ length params
as-many [] [] h = refl
as-many [] (v ∷ vs) h = cc
as-many (p ∷ ps) [] h = cc
as-many (p ∷ ps) (v ∷ vs) h = ap suc (as-many ps vs (and-right _ (all_in_sorts (arg_sorts ps) vs) h))

-- a send of a tag that doesn't exist isn't enabled
enabled-tag : (inst : Instances) (s : State) (node label tag : ℕ) (to : ℤ) (args : List ℤ) → IsEnabled inst s node label tag to args → tag < length (protocol_at inst label).tags
enabled-tag inst s node label tag to args h = there (slice_get (protocol_at inst label).tags tag) refl
  where
    there : (found : Option Tag) → slice_get (protocol_at inst label).tags tag ≡ found → tag < length (protocol_at inst label).tags
    there (Some it) e = slice_get_within (protocol_at inst label).tags tag it e
    there None e =
        let none : tag_at inst label tag ≡ no_tag = ap (λ o. unwrap_or {T = Tag} o no_tag) e in
        let guard = subst (λ (t : Tag). holds t.send.guard (names_of_send inst label tag node to args) s ≡ true) none h.guard in
        cc guard

pub free-given : (d : Decls) (s : State) (node : ℕ) (c : Call) (r : Reply) → node < d.inst.nodes → label_of_call c < length d.inst.of → IsFreeCall d s node c r → CallIsGiven d.inst s node c r
free-given d s node (call.Send label tag to args) (reply.Sent id) n l h =
    record { label = l; tag = enabled-tag d.inst s node label tag to (listed args) h.1; node = n; args = as-many (tag_at d.inst label tag).args (listed args) h.1.arguments }
free-given d s node (call.Send label tag to args) (reply.Got id from values) n l h = absurd h
free-given d s node (call.Send label tag to args) reply.Miss n l h = absurd h
free-given d s node (call.Send label tag to args) (reply.Value v) n l h = absurd h
free-given d s node (call.Poll label tag) (reply.Sent id) n l h = absurd h
free-given d s node (call.Poll label tag) (reply.Got id from args) n l h = record { label = l; id = h.match.known; node = n }
free-given d s node (call.Poll label tag) reply.Miss n l h = absurd h
free-given d s node (call.Poll label tag) (reply.Value v) n l h = absurd h
free-given d s node (call.Await label tag) r n l h = absurd h
free-given d s node (call.Read label field index) r n l h = absurd h
