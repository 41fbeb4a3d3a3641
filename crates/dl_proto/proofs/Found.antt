-- What stands at a position of formed instances.
use Rattle.std.proofs.Common.{◌≡◌, ◌<◌, ◌≤◌, ℕ, ℤ, get_or, length, arith, Option, Some, None, refl, ap, sym, ◌∙◌, subst}
use Rattle.std.specs.Prelude.{slice_get, unwrap_or, List}
use Rattle.std.proofs.lemmas.List.Elements.{All-from_recursion}
use Rattle.dl_term.specs.declared.syntax.Term.{Term}
use Rattle.dl_model.specs.declared.protocol.Update.{Update}
use Rattle.dl_model.specs.declared.protocol.Transition.{Transition}
use Rattle.dl_model.specs.declared.protocol.Tag.{Tag}
use Rattle.dl_model.specs.declared.protocol.Protocol.{Protocol}
use Rattle.dl_model.specs.declared.protocol.Instances.{Instances}
use Rattle.dl_model.specs.Lookup.{protocol_in, protocol_at, no_protocol, tag_at, no_tag}
use Rattle.dl_model.specs.Scopes.{protocol_found, IsIndex}
use Rattle.dl_model.specs.Formed.{IsLocalTerm, UpdateIsFormed, TransitionIsFormed, ReceiveIsFormed, TagIsFormed, ProtocolIsFormed, InstancesAreFormed}
use Rattle.dl_term.specs.Measures.{IsNarrow}
use Rattle.dl_model.proofs.Small.{each-map}
use Rattle.dl_proto.specs.Ready.{UpdateIsReady, TransitionIsReady, ReceiveIsReady, TagIsReady}
use Rattle.std.proofs.lemmas.Option.{slice_get-get_or}
use Rattle.dl_proto.specs.Given.{SendIsGiven}
use Rattle.dl_proto.proofs.Options.{each-at}

-- ---- formed steps are ready

index-ready : (protocol : Protocol) (variables : List ℕ) (index : Option Term) → IsIndex (IsLocalTerm protocol variables) index → IsIndex IsNarrow index
index-ready protocol variables (Some t) h = h.0.1
index-ready protocol variables None h = tt

update-ready : (protocol : Protocol) (variables : List ℕ) (update : Update) → UpdateIsFormed protocol variables update → UpdateIsReady protocol update
update-ready protocol variables update h = record {
  field = h.field;
  index = index-ready protocol variables update.index h.index;
  value = h.value.0.1;
}

transition-ready : (protocol : Protocol) (variables : List ℕ) (transition : Transition) → TransitionIsFormed protocol variables transition → TransitionIsReady protocol transition
transition-ready protocol variables transition h = record {
  guard = h.guard.0.1;
  updates = All-from_recursion (UpdateIsReady protocol) transition.updates (each-map (UpdateIsFormed protocol variables) (UpdateIsReady protocol) transition.updates h.updates (update-ready protocol variables));
  once = h.once;
}

receive-ready : (protocol : Protocol) (variables : List ℕ) (receive : Option Transition) → ReceiveIsFormed protocol variables receive → ReceiveIsReady protocol receive
receive-ready protocol variables (Some transition) h = transition-ready protocol variables transition h
receive-ready protocol variables None h = tt

tag-ready : (protocol : Protocol) (tag : Tag) → TagIsFormed protocol tag → TagIsReady protocol tag
tag-ready protocol tag h = record {
  args = h.args.0;
  send = transition-ready protocol _ tag.send h.send;
  receive = receive-ready protocol _ tag.receive h.receive;
}

-- ---- what is found

pub found-is : (inst : Instances) (o : Option ℕ) (protocol : Protocol) → protocol_found inst o ≡ Some protocol → protocol_in inst o ≡ protocol
found-is inst (Some k) protocol e = ap (λ p. unwrap_or p no_protocol) e
found-is inst None protocol e = cc

pub none-found : (inst : Instances) (o : Option ℕ) → protocol_found inst o ≡ None → protocol_in inst o ≡ no_protocol
none-found inst (Some k) e = ap (λ p. unwrap_or p no_protocol) e
none-found inst None e = refl

found-formed : (inst : Instances) (o : Option ℕ) (protocol : Protocol) → InstancesAreFormed inst → protocol_found inst o ≡ Some protocol → ProtocolIsFormed inst.nodes protocol
found-formed inst (Some k) protocol h e = h.protocols k protocol e
found-formed inst None protocol h e = cc

pub tag-found : (inst : Instances) (label tag : ℕ) (protocol : Protocol) (found : Tag) → InstancesAreFormed inst → protocol_found inst (slice_get inst.of label) ≡ Some protocol → slice_get protocol.tags tag ≡ Some found
    → TagIsReady (protocol_at inst label) found
tag-found inst label tag protocol found h e f =
    let formed = found-formed inst (slice_get inst.of label) protocol h e in
    subst (λ p. TagIsReady p found) (sym (found-is inst (slice_get inst.of label) protocol e))
    (tag-ready protocol found (each-at (TagIsFormed protocol) protocol.tags tag found formed.tags f))

-- a tag has few arguments
few-args : (inst : Instances) (label tag : ℕ) (o : Option Protocol) → protocol_found inst (slice_get inst.of label) ≡ o → InstancesAreFormed inst → tag < length (protocol_at inst label).tags
    → length (tag_at inst label tag).args ≤ 8
few-args inst label tag None e h lt =
    let none : tag < 0 = subst (λ (p : Protocol). tag < length p.tags) (none-found inst (slice_get inst.of label) e) lt in
    absurd (omega arith)
few-args inst label tag (Some protocol) e h lt =
    let is = found-is inst (slice_get inst.of label) protocol e in
    let within : tag < length protocol.tags = subst (λ (p : Protocol). tag < length p.tags) is lt in
    let found : slice_get protocol.tags tag ≡ Some (get_or protocol.tags tag no_tag) = slice_get-get_or protocol.tags tag no_tag within in
    let ready = tag-found inst label tag protocol (get_or protocol.tags tag no_tag) h e found in
    subst (λ (t : Tag). length t.args ≤ 8)
    (sym (ap (λ (p : Protocol). unwrap_or (slice_get p.tags tag) no_tag) is ∙ ap (λ o. unwrap_or o no_tag) found))
    ready.args

pub given-few : (inst : Instances) (label tag from : ℕ) (values : List ℤ) → InstancesAreFormed inst → SendIsGiven inst label tag from values → length values ≤ 8
given-few inst label tag from values h given =
    subst (λ n. n ≤ 8) (sym given.args) (few-args inst label tag (protocol_found inst (slice_get inst.of label)) refl h given.tag)

-- a tag that isn't found, and one without a receive
pub no-tag-at : (inst : Instances) (label tag at : ℕ) → at ≡ tag → None ≡ slice_get (protocol_at inst label).tags at → tag_at inst label tag ≡ no_tag
no-tag-at inst label tag at same e =
    ap (λ t. unwrap_or (slice_get (protocol_at inst label).tags t) no_tag) (sym same) ∙ ap (λ o. unwrap_or o no_tag) (sym e)

pub tag-is-at : (inst : Instances) (label tag at : ℕ) (found : Tag) → at ≡ tag → Some found ≡ slice_get (protocol_at inst label).tags at → tag_at inst label tag ≡ found
tag-is-at inst label tag at found same e =
    ap (λ t. unwrap_or (slice_get (protocol_at inst label).tags t) no_tag) (sym same) ∙ ap (λ o. unwrap_or o no_tag) (sym e)
