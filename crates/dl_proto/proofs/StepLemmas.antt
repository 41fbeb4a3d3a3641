-- The state after a whole step.
use Rattle.std.proofs.Common.{◌≡◌, ◌<◌, ◌≤◌, ◌-◌, ℕ, ℤ, pos, true, false, Some, None, List, [], ◌∷◌, ◌++◌, length, take, drop, get_or, refl, ap, sym, ◌∙◌, subst, arith}
use Rattle.std.specs.Prelude.{unwrap_or}
use Rattle.std.proofs.lemmas.List.{take_all}
use Rattle.dl_term.specs.State.{State, Message, statelet, soup_at, message_at}
use Rattle.dl_term.specs.Names.{Names, with_number}
use Rattle.dl_model.specs.declared.protocol.Update.{Update}
use Rattle.dl_model.specs.declared.protocol.Tag.{Tag}
use Rattle.dl_model.specs.declared.protocol.Instances.{Instances}
use Rattle.dl_model.specs.Lookup.{Parameter, tag_at, no_tag, never, receive_of, arg_names}
use Rattle.dl_model.specs.Words.{send_names, receive_names, with_numbers}
use Rattle.dl_model.specs.Steps.{change, consumed, updated, message_in, with_statelet, after_send, after_receive}
use Rattle.dl_state.specs.Known.{Known}
use Rattle.dl_state.specs.Writes.{with_soup}
use Rattle.dl_proto.specs.Shaped.{IsShaped}
use Rattle.dl_proto.specs.Writes.{known_updates, send_updates, receive_updates}
use Rattle.dl_proto.proofs.UpdateLemmas.{soup-after, soup-stays, labels-after, nothing-made}

-- ---- names

pub with-first : (names : Names) (params : List Parameter) (numbers : List ℤ) (p : Parameter) (v : ℤ) → 1 ≤ length params → 1 ≤ length numbers → v ≡ get_or numbers 0 (pos 0)
    → with_numbers (with_number names (get_or params 0 p).0 v) (arg_names (take (length params - 1) (drop 1 params))) (take (length numbers - 1) (drop 1 numbers)) ≡ with_numbers names (arg_names params) numbers
with-first names [] numbers p v h k e = absurd (omega arith)
with-first names (q ∷ qs) [] p v h k e = absurd (omega arith)
with-first names (q ∷ qs) (w ∷ ws) p v h k e =
    λ i. with_numbers (with_number names q.0 (e i)) (arg_names (take_all (length (q ∷ qs) - 1) qs (omega arith) i)) (take_all (length (w ∷ ws) - 1) ws (omega arith) i)

pub with-none : (names : Names) (params : List Parameter) (numbers : List ℤ) → params ≡ [] → names ≡ with_numbers names (arg_names params) numbers
with-none names params numbers e = ap (λ ps. with_numbers names (arg_names ps) numbers) (sym e)

pub with-no-number : (names : Names) (params : List Parameter) (numbers : List ℤ) → numbers ≡ [] → names ≡ with_numbers names (arg_names params) numbers
with-no-number names [] numbers e = refl
with-no-number names (q ∷ qs) numbers e = ap (λ ns. with_numbers names (arg_names (q ∷ qs)) ns) (sym e)

pub known-named : (inst : Instances) (before after : Known) (label node : ℕ) (names named : Names) (us us' : List Update) → names ≡ named → us ≡ us'
    → after ≡ known_updates inst before label node names us → after ≡ known_updates inst before label node named us'
known-named inst before after label node names named us us' e f is = is ∙ (λ i. known_updates inst before label node (e i) (f i))

-- ---- what stays

pub label-known : (inst : Instances) (s : State) (label : ℕ) → IsShaped inst s → label < length inst.of → label < length s.labels
label-known inst s label h l = subst (λ k. label < k) (sym h.labels) l

known-soup : (inst : Instances) (before after : Known) (label node : ℕ) (names : Names) (us : List Update) → IsShaped inst before.state → label < length inst.of → after ≡ known_updates inst before label node names us
    → soup_at after.state label ≡ soup_at before.state label
known-soup inst before after label node names us h l is =
    ap (λ (k : Known). soup_at k.state label) is
    ∙ soup-stays before.state label (updated inst label names before.state node us (statelet before.state label).fields) (label-known inst before.state label h l)

known-labels : (inst : Instances) (before after : Known) (label node : ℕ) (names : Names) (us : List Update) → IsShaped inst before.state → label < length inst.of → after ≡ known_updates inst before label node names us
    → label < length after.state.labels
known-labels inst before after label node names us h l is =
    subst (λ (k : Known). label < length k.state.labels) (sym is) (labels-after inst before.state label node names us h l)

pub sent-soup : (inst : Instances) (before after : Known) (label tag from : ℕ) (to : ℤ) (args : List ℤ) → IsShaped inst before.state → label < length inst.of → after ≡ send_updates inst before label tag from to args
    → soup_at after.state label ≡ soup_at before.state label
sent-soup inst before after label tag from to args h l is =
    known-soup inst before after label from (send_names label (arg_names (tag_at inst label tag).args) from to args) (tag_at inst label tag).send.updates h l is

pub sent-labels : (inst : Instances) (before after : Known) (label tag from : ℕ) (to : ℤ) (args : List ℤ) → IsShaped inst before.state → label < length inst.of → after ≡ send_updates inst before label tag from to args
    → label < length after.state.labels
sent-labels inst before after label tag from to args h l is =
    known-labels inst before after label from (send_names label (arg_names (tag_at inst label tag).args) from to args) (tag_at inst label tag).send.updates h l is

pub received-soup : (inst : Instances) (before after : Known) (label node : ℕ) (m : Message) → IsShaped inst before.state → label < length inst.of → after ≡ receive_updates inst before label m node
    → soup_at after.state label ≡ soup_at before.state label
received-soup inst before after label node m h l is =
    known-soup inst before after label node (receive_names label (arg_names (tag_at inst label m.tag).args) node m.from m.args) (receive_of (tag_at inst label m.tag)).updates h l is

pub received-labels : (inst : Instances) (before after : Known) (label node : ℕ) (m : Message) → IsShaped inst before.state → label < length inst.of → after ≡ receive_updates inst before label m node
    → label < length after.state.labels
received-labels inst before after label node m h l is =
    known-labels inst before after label node (receive_names label (arg_names (tag_at inst label m.tag).args) node m.from m.args) (receive_of (tag_at inst label m.tag)).updates h l is

-- ---- nothing is updated

pub no-tag-sent : (inst : Instances) (known : Known) (label tag from : ℕ) (to : ℤ) (args : List ℤ) → tag_at inst label tag ≡ no_tag → known ≡ send_updates inst known label tag from to args
no-tag-sent inst known label tag from to args e =
    λ i. record {
      state = nothing-made inst known.state label from (send_names label (arg_names (tag_at inst label tag).args) from to args) (tag_at inst label tag).send.updates (ap (λ (t : Tag). t.send.updates) e) i;
      spare = known.spare;
    }

pub not-received : (inst : Instances) (known : Known) (label node : ℕ) (m : Message) (t : Tag) → tag_at inst label m.tag ≡ t → t.receive ≡ None → known ≡ receive_updates inst known label m node
not-received inst known label node m t e none =
    λ i. record {
      state = nothing-made inst known.state label node (receive_names label (arg_names (tag_at inst label m.tag).args) node m.from m.args) (receive_of (tag_at inst label m.tag)).updates
          (ap (λ (u : Tag). (receive_of u).updates) e ∙ ap (λ o. (unwrap_or o never).updates) none) i;
      spare = known.spare;
    }

pub none-yet : (inst : Instances) (known : Known) (label node : ℕ) (names : Names) → known ≡ known_updates inst known label node names []
none-yet inst known label node names = λ i. record { state = nothing-made inst known.state label node names [] refl i; spare = known.spare }

-- ---- steps

pub known-sent : (inst : Instances) (before after : Known) (label tag from : ℕ) (to : ℤ) (args : List ℤ) (m : Message) → IsShaped inst before.state → label < length inst.of → after ≡ send_updates inst before label tag from to args
    → m ≡ record { tag = tag; from = from; to = to; live = true; args = args }
    → with_soup after.state label (soup_at after.state label ++ m ∷ []) ≡ after_send inst before.state from label tag to args
known-sent inst before after label tag from to args m h l is same =
    (λ i. with_soup (is i).state label (soup_at (is i).state label ++ same i ∷ []))
    ∙ soup-after before.state label
    (updated inst label (send_names label (arg_names (tag_at inst label tag).args) from to args) before.state from (tag_at inst label tag).send.updates (statelet before.state label).fields)
    (λ soup. soup ++ record { tag = tag; from = from; to = to; live = true; args = args } ∷ []) (label-known inst before.state label h l)

pub known-received : (inst : Instances) (before after : Known) (label id node : ℕ) (m : Message) → IsShaped inst before.state → label < length inst.of → message_at before.state label id ≡ Some m
    → after ≡ receive_updates inst before label m node
    → ◌≡◌ {A = Known} (record { state = with_soup after.state label (change consumed (soup_at after.state label) id); spare = after.spare }) (record { state = after_receive inst before.state node label id; spare = before.spare })
known-received inst before after label id node m h l e is =
    let found : m ≡ message_in before.state label id = ap (λ o. unwrap_or o (record { tag = 0; from = 0; to = pos 0; live = false; args = [] })) (sym e) in
    (λ i. record { state = with_soup (is i).state label (change consumed (soup_at (is i).state label) id); spare = (is i).spare })
    ∙ (λ i. record {
      state = soup-after before.state label
          (updated inst label (receive_names label (arg_names (tag_at inst label m.tag).args) node m.from m.args) before.state node (receive_of (tag_at inst label m.tag)).updates (statelet before.state label).fields)
          (λ soup. change consumed soup id) (label-known inst before.state label h l) i;
      spare = before.spare;
    })
    ∙ (λ i. record {
      state = with_statelet before.state label (record {
        fields = updated inst label (receive_names label (arg_names (tag_at inst label (found i).tag).args) node (found i).from (found i).args) before.state node (receive_of (tag_at inst label (found i).tag)).updates (statelet before.state label).fields;
        soup = change consumed (soup_at before.state label) id;
      });
      spare = before.spare;
    })
