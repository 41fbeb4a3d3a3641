-- Where the formula before a receive holds.
use Rattle.std.proofs.Common.{◌≡◌, ◌<◌, ◌≤◌, ◌+◌, ℕ, zero, suc, ℤ, pos, Bool, true, false, ◌&&◌, ◌==◌, List, [], ◌∷◌, length, map, Option, Some, None, is_some, slice_get, unwrap_or, refl, ◌∙◌, sym, ap, subst, eqb-true, arith}
use Rattle.std.specs.List.{list_all}
use Rattle.dl_term.specs.declared.syntax.Lab.{Lab}
use Rattle.dl_term.specs.declared.syntax.Part.{Part}
use Rattle.dl_term.specs.declared.syntax.Part.TheVariants.{Id, From, To, Live, Arg}
use Rattle.dl_term.specs.declared.syntax.Sort.{Sort}
use Rattle.dl_term.specs.declared.syntax.Term.{Term, Msg}
use Rattle.dl_term.specs.declared.syntax.Formula.{Formula}
use Rattle.dl_term.specs.Syntax.{opened}
use Rattle.dl_term.specs.State.{State, Statelet, Message, statelet, soup_at, message_at, tag_of, part_of}
use Rattle.dl_term.specs.Names.{Stored, Names, label_of}
use Rattle.dl_term.specs.Meaning.{value, holds, part_in}
use Rattle.dl_model.specs.declared.protocol.Tag.{Tag}
use Rattle.dl_model.specs.declared.protocol.Protocol.{Protocol}
use Rattle.dl_model.specs.declared.protocol.Instances.{Instances}
use Rattle.dl_model.specs.Sorts.{in_sort, all_in_sorts}
use Rattle.dl_model.specs.Lookup.{Parameter, tag_at, arg_names, arg_sorts, no_tag, receive_of}
use Rattle.dl_model.specs.Steps.{change, consumed, message_in, IsReceivable, names_of_receive, update_fits, updated, statelet_received, after_receive}
use Rattle.dl_model.specs.States.{IsWellSorted}
use Rattle.dl_model.specs.Formed.{InstancesAreFormed}
use Rattle.dl_model.specs.Words.{from_word, receive_names}
use Rattle.dl_model.proofs.Small.{and-right, some-same}
use Rattle.dl_wp.specs.declared.steps.ReceiveStep.{ReceiveStep}
use Rattle.dl_wp.specs.Steps.{Move, Receives, Step, spoken_of, tag_in, args_of_message, receive_step}
use Rattle.dl_wp.specs.Before.{len_before, before_received}
use Rattle.dl_wp.specs.Captures.{nothing_around, captures}
use Rattle.dl_wp.specs.Conditions.{IsAbout, IsOwn, AreThere, IsReceive}
use Rattle.dl_wp.proofs.Values.{Reads, Effect}
use Rattle.dl_wp.proofs.Receives.{length-consumed, base-between, receive-holds}
use Rattle.dl_wp.proofs.Model.{Spoken, spoken-is, spoken-some, TagFits, tag-fits, length-map, Covers, named-value, named-own, named-none, statelet-there, statelet-away, is-written, field-written}

found-there : (soup : List Message) (id : ℕ) (e : Message) → id < length soup → slice_get soup id ≡ Some (unwrap_or (slice_get soup id) e)
found-there [] id e h = absurd (omega arith)
found-there (m ∷ ms) zero e h = refl
found-there (m ∷ ms) (suc id) e h = found-there ms id e (omega arith)

sorts-length : (sorts : List Sort) (values : List ℤ) → all_in_sorts sorts values ≡ true → length sorts ≡ length values
sorts-length [] [] h = refl
sorts-length [] (v ∷ vs) h = cc
sorts-length (s ∷ ss) [] h = cc
sorts-length (s ∷ ss) (v ∷ vs) h = ap suc (sorts-length ss vs (and-right (in_sort s v) _ h))

-- the term for the argument at a place
arg-term : (m j : ℕ) (t : Term) → slice_get (args_of_message m) j ≡ Some t → Msg m (Arg j) ≡ t
arg-term m zero t e = some-same _ _ e
arg-term m (suc zero) t e = some-same _ _ e
arg-term m (suc (suc zero)) t e = some-same _ _ e
arg-term m (suc (suc (suc zero))) t e = some-same _ _ e
arg-term m (suc (suc (suc (suc zero)))) t e = some-same _ _ e
arg-term m (suc (suc (suc (suc (suc zero))))) t e = some-same _ _ e
arg-term m (suc (suc (suc (suc (suc (suc zero)))))) t e = some-same _ _ e
arg-term m (suc (suc (suc (suc (suc (suc (suc zero))))))) t e = some-same _ _ e
arg-term m (suc (suc (suc (suc (suc (suc (suc (suc j)))))))) t e = cc

covers : (base : Names) (state : State) (syms : List ℕ) (terms : List Term) (values : List ℤ) → length syms ≤ length terms → length syms ≡ length values
    → ((j : ℕ) (t : Term) → slice_get terms j ≡ Some t → value t base state ≡ unwrap_or (slice_get values j) (pos 0)) → Covers base state syms terms values
covers base state [] terms values few same h = tt
covers base state (y ∷ ys) [] values few same h = absurd (omega (few, arith))
covers base state (y ∷ ys) (t ∷ ts) [] few same h = absurd (omega (same, arith))
covers base state (y ∷ ys) (t ∷ ts) (v ∷ vs) few same h = (h 0 t refl, covers base state ys ts vs (omega (few, arith)) (omega (same, arith)) (λ j u e. h (suc j) u e))

module _ (inst : Instances) (own : Option ℕ) (step : ReceiveStep) (names : Names) (state : State) (label node id : ℕ) (formed : InstancesAreFormed inst) (sorted : IsWellSorted inst state) (known : node < inst.nodes)
    (owned : IsOwn inst own names) (there : AreThere names state) (receive : IsReceive inst own step names state label node id) (receivable : IsReceivable inst state node label id) where
  abbrev new : State
  new = after_receive inst state node label id

  abbrev message : Message
  message = message_in state label id

  abbrev inner : Names
  inner = names_of_receive inst label message node

  is-there : id < length (soup_at state label)
  is-there = there step.msg label id receive.message

  pub is-message : message_at state label id ≡ Some message
  is-message = found-there (soup_at state label) id _ is-there

  pub message-tag : step.tag ≡ message.tag
  message-tag = sym receive.tag ∙ ap tag_of is-message

  pub part-value : (part : Part) → part_in state (names.message step.msg) part ≡ part_of id (Some message) part
  part-value part = ap (λ o. part_in state o part) receive.message ∙ ap (λ o. part_of id o part) is-message

  module _ (protocol : Protocol) (is : spoken_of inst own step.label ≡ Some protocol) where
    pub spoken : Spoken inst label protocol
    spoken = subst (λ l. Spoken inst l protocol) receive.at_label (spoken-is inst own names step.label protocol owned is)

    pub same-tag : tag_in (spoken_of inst own step.label) step.tag ≡ tag_at inst label message.tag
    same-tag = ap (λ o. tag_in o step.tag) is ∙ ap (λ (p : Protocol). unwrap_or (slice_get p.tags step.tag) no_tag) (sym spoken.at) ∙ ap (tag_at inst label) message-tag

    fits : TagFits protocol (tag_in (spoken_of inst own step.label) step.tag)
    fits = subst (λ o. TagFits protocol (tag_in o step.tag)) (sym is) (tag-fits inst label protocol step.tag formed spoken)

    statelet-is : statelet new label ≡ statelet_received inst state node label id
    statelet-is = statelet-there state label (statelet_received inst state node label id) (subst (λ n. label < n) (sym sorted.labels) spoken.there)

    soup-is : soup_at new label ≡ change consumed (soup_at state label) id
    soup-is = ap (λ (s : Statelet). s.soup) statelet-is

    names-covered : (tag : Tag) → length tag.args ≤ 8 → all_in_sorts (arg_sorts tag.args) message.args ≡ true → Covers names state (arg_names tag.args) (args_of_message step.msg) message.args
    names-covered tag few fit =
        let named : length (arg_names tag.args) ≡ length tag.args = length-map (λ (p : Parameter). p.0) tag.args in
        let sorts : length (arg_sorts tag.args) ≡ length tag.args = length-map (λ (p : Parameter). p.1) tag.args in
        let same : length (arg_sorts tag.args) ≡ length message.args = sorts-length (arg_sorts tag.args) message.args fit in
        covers names state (arg_names tag.args) (args_of_message step.msg) message.args (omega (named, few, arith)) (named ∙ sym sorts ∙ same)
        (λ j t e. subst (λ (u : Term). value u names state ≡ unwrap_or (slice_get message.args j) (pos 0)) (arg-term step.msg j t e) (part-value (Arg j)))

    pub reads : Reads (receive_step inst own step) state label node names inner
    reads = record {
      at_label = receive.at_label;
      own = named-own label (pos node) from_word (pos message.from) (arg_names (tag_at inst label message.tag).args) message.args;
      by_node = receive.receiver;
      named = λ x. named-value names state step.receiver (Msg step.msg From) from_word (pos node) (pos message.from) label (arg_names (tag_in (spoken_of inst own step.label) step.tag).args) (args_of_message step.msg) message.args x
          receive.receiver (part-value From)
          (names-covered (tag_in (spoken_of inst own step.label) step.tag) fits.few (subst (λ (tag : Tag). all_in_sorts (arg_sorts tag.args) message.args ≡ true) (sym same-tag) receivable.arguments))
          ∙ ap (λ (tag : Tag). (receive_names label (arg_names tag.args) node message.from message.args).number x) same-tag;
      none = named-none label (pos node) from_word (pos message.from) (arg_names (tag_at inst label message.tag).args) message.args;
    }

    len-here : (lab : Lab) (a : Names) (here : Bool) → (label_of a.own lab == label) ≡ here → value (len_before (Receives step.msg) here lab) a state ≡ pos (length (soup_at new (label_of a.own lab)))
    len-here lab a true e =
        let one = eqb-true _ _ e in
        ap (λ n. pos (length (soup_at state n))) one
        ∙ ap pos (sym (ap length soup-is ∙ length-consumed (soup_at state label) id))
        ∙ ap (λ n. pos (length (soup_at new n))) (sym one)
    len-here lab a false e = ap (λ (s : Statelet). pos (length s.soup)) (sym (statelet-away state label (statelet_received inst state node label id) (label_of a.own lab) e))

    effect : Effect (receive_step inst own step) state new label node inner
    effect = record {
      nodes = refl;
      cell = field-written inst state label node inner (receive_of (tag_in (spoken_of inst own step.label) step.tag)).updates protocol (statelet_received inst state node label id) sorted spoken known fits.receive
          (subst (λ (tag : Tag). list_all (update_fits inst label inner state) (receive_of tag).updates ≡ true) (sym same-tag) receivable.updates)
          (ap (λ (tag : Tag). updated inst label inner state node (receive_of tag).updates (statelet state label).fields) (sym same-tag));
      other = λ l away. statelet-away state label (statelet_received inst state node label id) l away;
      len = len-here;
    }

    at-protocol : (after : Formula) → IsAbout inst own after → captures (receive_step inst own step) nothing_around after ≡ false → holds (before_received inst own step after) names state ≡ holds after names new
    at-protocol after about clear =
        let st = receive_step inst own step in
        let written = is-written inst own names st protocol is fits.receive in
        receive-holds step.label step.tag step.receiver st.named st.updates step.msg
        state new label node id names inner (spoken_of inst own) reads effect written soup-is is-there receive.tag receive.message
        after nothing_around names names about clear
        (base-between step.label step.tag step.receiver st.named st.updates step.msg state new label node id names inner (spoken_of inst own) reads effect written soup-is is-there receive.tag receive.message)

  pub received-holds : (after : Formula) → IsAbout inst own after → captures (receive_step inst own step) nothing_around after ≡ false → holds (before_received inst own step after) names state ≡ holds after names new
  received-holds after about clear =
      let p = spoken-some (spoken_of inst own step.label) receive.spoken in
      at-protocol p.0 p.1 after about clear
