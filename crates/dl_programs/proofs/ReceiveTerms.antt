-- A receive of the model, as the terms of a sequent say it: the message, the guard, what is updated, and what holds after it.
use Rattle.std.proofs.Common.{◌≡◌, ℕ, zero, suc, ◌<◌, pos, true, false, if◌then◌else◌, Some, None, List, [], ◌∷◌, length, slice_get, unwrap_or, refl, ◌∙◌, ap, sym, subst, arith}
use Rattle.std.specs.Prelude.{is_some}
use Rattle.std.specs.List.{list_all}
use Rattle.dl_term.specs.declared.syntax.Lab.{Lab}
use Rattle.dl_term.specs.declared.syntax.Lab.TheVariants.{Own, At}
use Rattle.dl_term.specs.declared.syntax.Part.{Part}
use Rattle.dl_term.specs.declared.syntax.Part.TheVariants.{From, To, Live, Arg}
use Rattle.dl_term.specs.declared.syntax.Term.{Term, Msg}
use Rattle.dl_term.specs.declared.syntax.Formula.{Formula}
use Rattle.dl_term.specs.Syntax.{opened}
use Rattle.dl_term.specs.State.{State, Message, soup_at, message_at, tag_of as tag_of_message, part_of}
use Rattle.dl_term.specs.Names.{Names, Stored, label_of}
use Rattle.dl_term.specs.Meaning.{value, holds, part_in}
use Rattle.dl_model.specs.declared.protocol.Tag.{Tag}
use Rattle.dl_model.specs.declared.protocol.Protocol.{Protocol}
use Rattle.dl_model.specs.declared.sequent.Sequent.{Sequent}
use Rattle.dl_model.specs.declared.file.Decls.{Decls}
use Rattle.dl_model.specs.Sorts.{has}
use Rattle.dl_model.specs.Lookup.{Parameter, tag_at, no_tag, arg_names, receive_of}
use Rattle.dl_model.specs.Words.{me_word, from_word}
use Rattle.dl_model.specs.States.{IsWellSorted}
use Rattle.dl_model.specs.Steps.{IsReceivable, after_receive, message_in, names_of_receive, update_fits}
use Rattle.dl_model.specs.Scopes.{own_label}
use Rattle.dl_model.specs.Spoken.{bound_names}
use Rattle.dl_model.specs.Formed.{TransitionIsFormed, TagIsFormed, IsFormed}
use Rattle.dl_model.specs.Sequents.{FactsHold}
use Rattle.dl_model.proofs.Small.{and-both}
use Rattle.dl_sequent.specs.Bounds.{Declared}
use Rattle.dl_wp.specs.declared.steps.ReceiveStep.{ReceiveStep}
use Rattle.dl_wp.specs.Steps.{label_seen, spoken_of, tag_in, args_of_message, receive_step}
use Rattle.dl_wp.specs.Before.{before_received}
use Rattle.dl_wp.specs.Conditions.{IsAbout, AreThere, IsReceive}
use Rattle.dl_wp.proofs.Cells.{int-true}
use Rattle.dl_wp.proofs.Values.{Reads}
use Rattle.dl_wp.proofs.Model.{Spoken, spoken-is, named-own}
use Rattle.dl_wp.proofs.ReceiveLaw.{reads, part-value, received-holds}
use Rattle.dl_inv.specs.Steps.{tag_of, in_step, all_fit, is_mine, receive_hypotheses}
use Rattle.dl_inv.specs.Obligations.{known as with_names}
use Rattle.dl_inv.proofs.Lists.{true-false}
use Rattle.dl_inv.proofs.Clear.{IsOver, StepsOver, named-over, step-clear}
use Rattle.dl_inv.proofs.FormedParts.{tag-formed, receive-formed}
use Rattle.dl_sound.proofs.InStep.{InStep, holds-in}
use Rattle.dl_sound.proofs.Hypotheses.{fits-hold}
use Rattle.dl_sound.proofs.SendKept.{over-lacks}

-- a live message is in the soup
live-there : (soup : List Message) (id : ℕ) (e : Message) → e.live ≡ false → (unwrap_or (slice_get soup id) e).live ≡ true → id < length soup
live-there [] id e dead live = absurd (true-false e.live live dead)
live-there (m ∷ soup) zero e dead live = omega arith
live-there (m ∷ soup) (suc id) e dead live = let rest = live-there soup id e dead live in omega (rest, arith)

found-there : (soup : List Message) (id : ℕ) (e : Message) → id < length soup → slice_get soup id ≡ Some (unwrap_or (slice_get soup id) e)
found-there [] id e h = absurd (omega (h, arith))
found-there (m ∷ soup) zero e h = refl
found-there (m ∷ soup) (suc id) e h = found-there soup id e (omega (h, arith))

pub received-is-there : (d : Decls) (state : State) (node label id : ℕ) → IsReceivable d.inst state node label id → id < length (soup_at state label)
received-is-there d state node label id receivable = live-there (soup_at state label) id (record { tag = 0; from = 0; to = pos 0; live = false; args = [] }) refl receivable.live

pub received-is : (d : Decls) (state : State) (node label id : ℕ) → IsReceivable d.inst state node label id → message_at state label id ≡ Some (message_in state label id)
received-is d state node label id receivable = found-there (soup_at state label) id (record { tag = 0; from = 0; to = pos 0; live = false; args = [] }) (received-is-there d state node label id receivable)

msg-over : (ns : List ℕ) (j : ℕ) (part : Part) → has ns j ≡ true → IsOver ns (Msg j part)
msg-over ns j part h v m p q = q j h

module _ (d : Decls) (formed : IsFormed d) (label tag : ℕ) (protocol : Protocol) (is : spoken_of d.inst None (At label) ≡ Some protocol) (n : Names) (state : State) (own : n.own ≡ 0) (sorted : IsWellSorted d.inst state) (node : ℕ) (known : node < d.inst.nodes)
    (id : ℕ) (tagged : (message_in state label id).tag ≡ tag) (receivable : IsReceivable d.inst state node label id) (receiver : Term) (j : ℕ) (by_node : value receiver n state ≡ pos node) (named_message : n.message j ≡ Some (Stored label id)) (there : AreThere n state)
    (ns : List ℕ) (receiver_over : IsOver ns receiver) (taken : has ns j ≡ true) where
  abbrev pub step : ReceiveStep
  step = record { label = At label; tag = tag; receiver = receiver; msg = j }

  abbrev message : Message
  message = message_in state label id

  abbrev declared : Tag
  declared = tag_of d.inst None (At label) tag

  abbrev inner : Names
  inner = names_of_receive d.inst label message node

  spoken : Spoken d.inst label protocol
  spoken = spoken-is d.inst None n (At label) protocol tt is

  same-tag : declared ≡ tag_at d.inst label message.tag
  same-tag = ap (λ p. tag_in p tag) is ∙ ap (λ (p : Protocol). unwrap_or (slice_get p.tags tag) no_tag) (sym spoken.at) ∙ ap (tag_at d.inst label) (sym tagged)

  formed-tag : TagIsFormed protocol declared
  formed-tag = subst (λ p. TagIsFormed protocol (tag_in p tag)) (sym is) (tag-formed d.inst spoken.number protocol tag formed.inst spoken.listed)

  formed-receive : TransitionIsFormed protocol (me_word ∷ from_word ∷ arg_names declared.args) (receive_of declared)
  formed-receive = receive-formed protocol (me_word ∷ from_word ∷ arg_names declared.args) declared.receive formed-tag.receive

  is-message : message_at state label id ≡ Some message
  is-message = received-is d state node label id receivable

  is-receive : IsReceive d.inst None step n state label node id
  is-receive = record { spoken = ap is_some is; at_label = refl; receiver = by_node; message = named_message; tag = ap tag_of_message is-message ∙ tagged }

  reading : Reads (receive_step d.inst None step) state label node n inner
  reading = reads d.inst None step n state label node id formed.inst sorted known tt there is-receive receivable protocol is

  pub part-is : (part : Part) → part_in state (n.message j) part ≡ part_of id (Some message) part
  part-is part = part-value d.inst None step n state label node id formed.inst sorted known tt there is-receive receivable part

  named_here : (x : ℕ) → IsOver ns ((receive_step d.inst None step).named x)
  named_here x =
      named-over ns receiver from_word (Msg j From) (arg_names declared.args) (args_of_message j) x receiver_over (msg-over ns j From taken)
      (msg-over ns j (Arg 0) taken, (msg-over ns j (Arg 1) taken, (msg-over ns j (Arg 2) taken, (msg-over ns j (Arg 3) taken, (msg-over ns j (Arg 4) taken, (msg-over ns j (Arg 5) taken, (msg-over ns j (Arg 6) taken, (msg-over ns j (Arg 7) taken, tt))))))))

  steps-over : StepsOver ns (receive_step d.inst None step)
  steps-over = record { node = receiver_over; named = named_here; move = taken }

  -- the formula binds none of the names that the terms speak of
  abbrev pub Lacks : Formula → Type 0
  Lacks f = (y : ℕ) → has (bound_names f) y ≡ true → has ns y ≡ false

  own-here : (l : Lab) → is_some (own_label protocol l) ≡ true → label_of n.own (label_seen (At label) l) ≡ label_of inner.own l
  own-here Own h = sym (named-own label (pos node) from_word (pos message.from) (arg_names (tag_at d.inst label message.tag).args) message.args)
  own-here (At l) h = cc

  in-step : InStep (At label) from_word (arg_names declared.args) (receive_step d.inst None step).named state (own_label protocol) (me_word ∷ from_word ∷ arg_names declared.args) n inner
  in-step = record {
    own = own-here;
    numbers = λ x m. reading.named x;
    others = λ x m lack. absurd (true-false (has (me_word ∷ from_word ∷ arg_names declared.args) x) m lack);
    within = λ x m. m;
  }

  mine-holds : holds (is_mine step) n state ≡ true
  unfolding opened
  mine-holds = and-both _ _
      (int-true _ _ (part-is To ∙ receivable.mine ∙ sym by_node))
      (int-true _ _ (part-is Live ∙ ap (λ b. if b then pos 1 else pos 0) receivable.live))

  guard-holds : Lacks (receive_of (tag_at d.inst label message.tag)).guard → holds (in_step (At label) receiver from_word (Msg j From) (arg_names declared.args) (args_of_message j) (receive_of declared).guard) n state ≡ true
  guard-holds lacks =
      holds-in (At label) from_word (arg_names declared.args) (receive_step d.inst None step).named state (own_label protocol) (receive_of declared).guard (me_word ∷ from_word ∷ arg_names declared.args) n inner
      formed-receive.guard.0.0 formed-receive.guard.1
      (λ y bound x m. over-lacks ns ((receive_step d.inst None step).named x) y (named_here x) (lacks y (subst (λ (t : Tag). has (bound_names (receive_of t).guard) y ≡ true) same-tag bound))) in-step
      ∙ ap (λ (t : Tag). holds (receive_of t).guard inner state) same-tag ∙ receivable.guard

  fit-holds : (s : Sequent) → holds (all_fit d.inst s (receive_step d.inst None step) (spoken_of d.inst None (At label)) (receive_of declared).updates) n state ≡ true
  fit-holds s =
      fits-hold n state d.inst s (receive_step d.inst None step) label node inner reading sorted.nodes protocol spoken.at (spoken_of d.inst None (At label)) (receive_of declared).updates is
      (ap (λ (t : Tag). list_all (update_fits d.inst label inner state) (receive_of t).updates) same-tag ∙ receivable.updates)

  -- what is known of the receive holds
  pub receive-said : (vars : List Parameter) (messages : List Declared) → Lacks (receive_of (tag_at d.inst label message.tag)).guard → FactsHold (receive_hypotheses d.inst (with_names vars messages None) step) n state
  receive-said vars messages lacks = (mine-holds, (guard-holds lacks, (fit-holds (with_names vars messages None), tt)))

  pub after-receive : (f : Formula) → IsAbout d.inst None f → Lacks f → holds (before_received d.inst None step f) n state ≡ holds f n (after_receive d.inst state node label id)
  after-receive f about lacks =
      received-holds d.inst None step n state label node id formed.inst sorted known tt there is-receive receivable f about (step-clear ns (receive_step d.inst None step) steps-over f lacks)
