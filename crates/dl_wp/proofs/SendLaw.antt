-- Where the formula before a send holds.
use Rattle.std.proofs.Common.{◌≡◌, ◌<◌, ◌+◌, ℕ, zero, suc, ℤ, pos, ◌+ℤ◌, Bool, true, false, ◌==◌, if◌then◌else◌, List, [], ◌∷◌, ◌++◌, length, Option, Some, None, is_some, slice_get, unwrap_or, refl, ◌∙◌, sym, ap, subst, eqb-true, arith, length-append}
use Rattle.std.specs.List.{AllZip, list_all}
use Rattle.dl_term.specs.declared.syntax.Lab.{Lab}
use Rattle.dl_term.specs.declared.syntax.Part.{Part}
use Rattle.dl_term.specs.declared.syntax.Part.TheVariants.{Id, From, To, Live, Arg}
use Rattle.dl_term.specs.declared.syntax.Term.{Term, Num, Len}
use Rattle.dl_term.specs.declared.syntax.Formula.{Formula}
use Rattle.dl_term.specs.Syntax.{opened}
use Rattle.dl_term.specs.State.{State, Statelet, Message, statelet, item, soup_at, message_at, part_of}
use Rattle.dl_term.specs.Names.{Meant, Stored, Given, Names, label_of}
use Rattle.dl_term.specs.Meaning.{value, holds, part_in}
use Rattle.dl_model.specs.declared.protocol.Tag.{Tag}
use Rattle.dl_model.specs.declared.protocol.Protocol.{Protocol}
use Rattle.dl_model.specs.declared.protocol.Instances.{Instances}
use Rattle.dl_model.specs.Lookup.{tag_at, arg_names, no_tag}
use Rattle.dl_model.specs.Steps.{IsEnabled, names_of_send, update_fits, updated, statelet_sent, after_send}
use Rattle.dl_model.specs.States.{IsWellSorted}
use Rattle.dl_model.specs.Formed.{InstancesAreFormed}
use Rattle.dl_model.specs.Words.{to_word, send_names}
use Rattle.dl_subst.specs.Substitution.{new_part}
use Rattle.dl_wp.specs.declared.steps.SendStep.{SendStep}
use Rattle.dl_wp.specs.Steps.{Move, Sends, Step, spoken_of, tag_in, sent_message, send_step}
use Rattle.dl_wp.specs.Before.{len_before, part_before, before_sent}
use Rattle.dl_wp.specs.Captures.{nothing_around, captures}
use Rattle.dl_wp.specs.Conditions.{IsAbout, IsOwn, AreThere, IsSend}
use Rattle.dl_wp.proofs.Values.{Reads, Effect, Between}
use Rattle.dl_wp.proofs.Sends.{early-message, send-holds}
use Rattle.dl_wp.proofs.Model.{Spoken, spoken-is, spoken-some, TagFits, tag-fits, zip-covers, named-value, named-own, named-none, statelet-there, statelet-away, is-written, field-written}

-- an argument, or 0 past the last one
arg-value : (terms : List Term) (values : List ℤ) (k : ℕ) (names : Names) (state : State) → AllZip (λ t v. value t names state ≡ v) terms values → value (unwrap_or (slice_get terms k) (Num (pos 0))) names state ≡ unwrap_or (slice_get values k) (pos 0)
arg-value [] [] k names state h = refl
arg-value [] (v ∷ vs) k names state h = absurd h
arg-value (t ∷ ts) [] k names state h = absurd h
arg-value (t ∷ ts) (v ∷ vs) zero names state h = h.0
arg-value (t ∷ ts) (v ∷ vs) (suc k) names state h = arg-value ts vs k names state h.1

module _ (inst : Instances) (own : Option ℕ) (step : SendStep) (names : Names) (state : State) (label node : ℕ) (to : ℤ) (args : List ℤ) (formed : InstancesAreFormed inst) (sorted : IsWellSorted inst state) (known : node < inst.nodes)
    (owned : IsOwn inst own names) (there : AreThere names state) (send : IsSend inst own step names state label node to args) (enabled : IsEnabled inst state node label step.tag to args) where
  abbrev new : State
  new = after_send inst state node label step.tag to args

  abbrev message : Message
  message = record { tag = step.tag; from = node; to = to; live = true; args = args }

  abbrev inner : Names
  inner = names_of_send inst label step.tag node to args

  module _ (protocol : Protocol) (is : spoken_of inst own step.label ≡ Some protocol) where
    pub spoken : Spoken inst label protocol
    spoken = subst (λ l. Spoken inst l protocol) send.at_label (spoken-is inst own names step.label protocol owned is)

    pub same-tag : tag_in (spoken_of inst own step.label) step.tag ≡ tag_at inst label step.tag
    same-tag = ap (λ o. tag_in o step.tag) is ∙ ap (λ (p : Protocol). unwrap_or (slice_get p.tags step.tag) no_tag) (sym spoken.at)

    fits : TagFits protocol (tag_in (spoken_of inst own step.label) step.tag)
    fits = subst (λ o. TagFits protocol (tag_in o step.tag)) (sym is) (tag-fits inst label protocol step.tag formed spoken)

    within : label < length state.labels
    within = subst (λ n. label < n) (sym sorted.labels) spoken.there

    statelet-is : statelet new label ≡ statelet_sent inst state node label step.tag to args
    statelet-is = statelet-there state label (statelet_sent inst state node label step.tag to args) within

    soup-is : soup_at new label ≡ soup_at state label ++ message ∷ []
    soup-is = ap (λ (s : Statelet). s.soup) statelet-is

    pub reads : Reads (send_step inst own step) state label node names inner
    reads = record {
      at_label = send.at_label;
      own = named-own label (pos node) to_word to (arg_names (tag_at inst label step.tag).args) args;
      by_node = send.sender;
      named = λ x. named-value names state step.sender step.to to_word (pos node) to label (arg_names (tag_in (spoken_of inst own step.label) step.tag).args) step.args args x send.sender send.addressee
          (zip-covers names state (arg_names (tag_in (spoken_of inst own step.label) step.tag).args) step.args args send.arguments)
          ∙ ap (λ (tag : Tag). (send_names label (arg_names tag.args) node to args).number x) same-tag;
      none = named-none label (pos node) to_word to (arg_names (tag_at inst label step.tag).args) args;
    }

    len-here : (lab : Lab) (a : Names) (here : Bool) → (label_of a.own lab == label) ≡ here → value (len_before (Sends (sent_message step)) here lab) a state ≡ pos (length (soup_at new (label_of a.own lab)))
    unfolding opened
    len-here lab a true e =
        let one = eqb-true _ _ e in
        ap (λ n. pos (length (soup_at state n) + 1)) one
        ∙ ap pos (sym (ap length soup-is ∙ length-append (soup_at state label) (message ∷ [])))
        ∙ ap (λ n. pos (length (soup_at new n))) (sym one)
    len-here lab a false e = ap (λ (s : Statelet). pos (length s.soup)) (sym (statelet-away state label (statelet_sent inst state node label step.tag to args) (label_of a.own lab) e))

    effect : Effect (send_step inst own step) state new label node inner
    effect = record {
      nodes = refl;
      cell = field-written inst state label node inner (tag_in (spoken_of inst own step.label) step.tag).send.updates protocol (statelet_sent inst state node label step.tag to args) sorted spoken known fits.send
          (subst (λ (tag : Tag). list_all (update_fits inst label inner state) tag.send.updates ≡ true) (sym same-tag) enabled.updates)
          (ap (λ (tag : Tag). updated inst label inner state node tag.send.updates (statelet state label).fields) (sym same-tag));
      other = λ l away. statelet-away state label (statelet_sent inst state node label step.tag to args) l away;
      len = len-here;
    }

    part-is : (part : Part) → value (new_part (sent_message step) part) names state ≡ part_of (length (soup_at state label)) (Some message) part
    part-is Id = ap (λ l. pos (length (soup_at state l))) send.at_label
    part-is From = send.sender
    part-is To = send.addressee
    part-is Live = refl
    part-is (Arg k) = arg-value step.args args k names state send.arguments

    -- a message that is named is there before and after
    old-part : (o : Option Meant) → ((l id : ℕ) → o ≡ Some (Stored l id) → id < length (soup_at state l)) → (part : Part) → part_in state o part ≡ part_in new o part
    old-part None h part = refl
    old-part (Some (Given parts)) h part = refl
    old-part (Some (Stored l id)) h part = ap (λ o. part_of id o part) (at (l == label) refl)
      where
        at : (b : Bool) → (l == label) ≡ b → message_at state l id ≡ message_at new l id
        at true e =
            let same = eqb-true l label e in
            ap (λ n. message_at state n id) same ∙ sym (early-message (soup_at state label) message id (subst (λ n. id < length (soup_at state n)) same (h l id refl)))
            ∙ ap (λ soup. slice_get soup id) (sym soup-is) ∙ ap (λ n. message_at new n id) (sym same)
        at false e = ap (λ (s : Statelet). slice_get s.soup id) (sym (statelet-away state label (statelet_sent inst state node label step.tag to args) l e))

    part-at : (over : Bool) (m : ℕ) (part : Part) → value (part_before (Sends (sent_message step)) over m part) names state ≡ part_in state (names.message m) part
    part-at over m Live = refl
    part-at over m Id = refl
    part-at over m From = refl
    part-at over m To = refl
    part-at over m (Arg k) = refl

    between : Between (send_step inst own step) state new names nothing_around names names
    between = record {
      unbound = record { own = refl; numbers = λ z e. refl; messages = λ k e. refl };
      own = refl;
      numbers = λ x. refl;
      parts = λ m part fit clear. part-at false m part ∙ old-part (names.message m) (λ l id e. there m l id e) part;
    }

    at-protocol : (after : Formula) → IsAbout inst own after → captures (send_step inst own step) nothing_around after ≡ false → holds (before_sent inst own step after) names state ≡ holds after names new
    at-protocol after about clear =
        send-holds step.label step.tag step.sender (send_step inst own step).named (send_step inst own step).updates (sent_message step)
        state new label node names inner (spoken_of inst own) message reads effect (is-written inst own names (send_step inst own step) protocol is fits.send) soup-is refl part-is
        after nothing_around names names about clear between

  pub sent-holds : (after : Formula) → IsAbout inst own after → captures (send_step inst own step) nothing_around after ≡ false → holds (before_sent inst own step after) names state ≡ holds after names new
  sent-holds after about clear =
      let p = spoken-some (spoken_of inst own step.label) send.spoken in
      at-protocol p.0 p.1 after about clear
