-- Where the obligation of a receive is valid, each receive of the model keeps the formula.
use Rattle.std.proofs.Common.{◌≡◌, ℕ, zero, suc, ◌<◌, pos, Bool, true, false, ◌==◌, if◌then◌else◌, Option, Some, None, List, [], ◌∷◌, length, slice_get, unwrap_or, refl, ◌∙◌, ap, sym, subst, eq-eqb, arith}
use Rattle.std.specs.Prelude.{is_some}
use Rattle.std.specs.List.{AllByRecursion as Each, list_all}
use Rattle.dl_term.specs.declared.syntax.Lab.{Lab}
use Rattle.dl_term.specs.declared.syntax.Lab.TheVariants.{Own, At}
use Rattle.dl_term.specs.declared.syntax.Part.TheVariants.{From, To, Live}
use Rattle.dl_term.specs.declared.syntax.Term.{Var, Msg}
use Rattle.dl_term.specs.declared.syntax.Formula.{Formula}
use Rattle.dl_term.specs.Syntax.{opened}
use Rattle.dl_term.specs.State.{State, Message, soup_at, message_at, tag_of as tag_of_message, part_of}
use Rattle.dl_term.specs.Names.{Names, Stored, no_names, label_of}
use Rattle.dl_term.specs.Meaning.{holds, part_in}
use Rattle.dl_model.specs.declared.protocol.Tag.{Tag}
use Rattle.dl_model.specs.declared.protocol.Protocol.{Protocol}
use Rattle.dl_model.specs.declared.protocol.Instances.{Instances}
use Rattle.dl_model.specs.declared.sequent.Hypothesis.{Hypothesis}
use Rattle.dl_model.specs.declared.sequent.Sequent.{Sequent}
use Rattle.dl_model.specs.Sorts.{in_sort, has}
use Rattle.dl_model.specs.Lookup.{tag_at, no_tag, arg_names, receive_of}
use Rattle.dl_model.specs.Words.{me_word, from_word}
use Rattle.dl_model.specs.States.{IsWellSorted}
use Rattle.dl_model.specs.Steps.{IsReceivable, after_receive, message_in, names_of_receive, update_fits}
use Rattle.dl_model.specs.Scopes.{own_label}
use Rattle.dl_model.specs.Spoken.{bound_names}
use Rattle.dl_model.specs.Formed.{TransitionIsFormed, TagIsFormed, InstancesAreFormed}
use Rattle.dl_model.specs.Sequents.{Fits, FactsHold, StandsForMessage, IsValidAt, message_label}
use Rattle.dl_model.proofs.Small.{and-both, each-back, eqb-other}
use Rattle.dl_sequent.specs.Bounds.{node_sort}
use Rattle.dl_wp.specs.Steps.{label_seen, spoken_of, tag_in, args_of_message, receive_step}
use Rattle.dl_wp.specs.Captures.{captures, nothing_around}
use Rattle.dl_wp.specs.Conditions.{IsAbout, IsOwn, AreThere, IsReceive}
use Rattle.dl_wp.proofs.Cells.{int-true}
use Rattle.dl_wp.proofs.Values.{Reads}
use Rattle.dl_wp.proofs.Model.{Spoken, spoken-is, named-own}
use Rattle.dl_wp.proofs.ReceiveLaw.{reads, part-value, received-holds}
use Rattle.dl_inv.specs.Steps.{receive_by, tag_of, in_step, all_fit, is_mine, receive_hypotheses}
use Rattle.dl_inv.specs.Obligations.{number_of_label, receive_known, receive_sequent}
use Rattle.dl_inv.specs.Taken.{bound_in}
use Rattle.dl_inv.proofs.Lists.{each-at, each-append, true-false}
use Rattle.dl_inv.proofs.Clear.{StepsOver, receive-over, step-clear}
use Rattle.dl_inv.proofs.Bound.{bound-changed, bound-before, Lacks, facts-lack, goal-lacks, turned}
use Rattle.dl_inv.proofs.FormedParts.{tag-formed, receive-formed}
use Rattle.dl_sound.proofs.InStep.{seen_here, InStep, holds-in}
use Rattle.dl_sound.proofs.StepNames.{receiving, node-in-sort, node-is}
use Rattle.dl_sound.proofs.Hypotheses.{fits-hold}
use Rattle.dl_sound.proofs.SendKept.{over-lacks}

-- ---- messages

-- a live message is in the soup
live-there : (soup : List Message) (id : ℕ) (e : Message) → e.live ≡ false → (unwrap_or (slice_get soup id) e).live ≡ true → id < length soup
live-there [] id e dead live = absurd (true-false e.live live dead)
live-there (m ∷ soup) zero e dead live = omega arith
live-there (m ∷ soup) (suc id) e dead live = let rest = live-there soup id e dead live in omega (rest, arith)

found-there : (soup : List Message) (id : ℕ) (e : Message) → id < length soup → slice_get soup id ≡ Some (unwrap_or (slice_get soup id) e)
found-there [] id e h = absurd (omega (h, arith))
found-there (m ∷ soup) zero e h = refl
found-there (m ∷ soup) (suc id) e h = found-there soup id e (omega (h, arith))

-- the number of a label below 255 is its own
label-back : (o : ℕ) (lab : Lab) → ((l : ℕ) → lab ≡ At l → l < 255) → message_label o (number_of_label lab) ≡ label_of o lab
label-back o Own h = refl
label-back o (At l) h = ap (λ b. if b then o else l) (eqb-other l 255 (λ e. let small = h l refl in omega (small, e, arith)))

module _ (inst : Instances) (own : Option ℕ) (lab : Lab) (o label : ℕ) (protocol : Protocol) (is : spoken_of inst own lab ≡ Some protocol) (at : label_of o lab ≡ label) (owned : IsOwn inst own (no_names o)) (formed : InstancesAreFormed inst)
    (small : (l : ℕ) → lab ≡ At l → l < 255) (state : State) (sorted : IsWellSorted inst state) (node : ℕ) (known : node < inst.nodes) (id : ℕ) (receivable : IsReceivable inst state node label id) (r k : ℕ) (xs : List ℕ) where
  abbrev pub ns : List ℕ
  ns = r ∷ k ∷ xs

  abbrev pub receiving_names : Names
  receiving_names = receiving o r (pos node) k label id

  abbrev message : Message
  message = message_in state label id

  abbrev pub tag : ℕ
  tag = message.tag

  abbrev declared : Tag
  declared = tag_of inst own lab tag

  abbrev inner : Names
  inner = names_of_receive inst label message node

  spoken : Spoken inst label protocol
  spoken = subst (λ l. Spoken inst l protocol) at (spoken-is inst own (no_names o) lab protocol owned is)

  same-tag : declared ≡ tag_at inst label tag
  same-tag = ap (λ p. tag_in p tag) is ∙ ap (λ (p : Protocol). unwrap_or (slice_get p.tags tag) no_tag) (sym spoken.at)

  formed-tag : TagIsFormed protocol declared
  formed-tag = subst (λ p. TagIsFormed protocol (tag_in p tag)) (sym is) (tag-formed inst spoken.number protocol tag formed spoken.listed)

  formed-receive : TransitionIsFormed protocol (me_word ∷ from_word ∷ arg_names declared.args) (receive_of declared)
  formed-receive = receive-formed protocol (me_word ∷ from_word ∷ arg_names declared.args) declared.receive formed-tag.receive

  is-there : id < length (soup_at state label)
  is-there = live-there (soup_at state label) id (record { tag = 0; from = 0; to = pos 0; live = false; args = [] }) refl receivable.live

  is-message : message_at state label id ≡ Some message
  is-message = found-there (soup_at state label) id (record { tag = 0; from = 0; to = pos 0; live = false; args = [] }) is-there

  there : AreThere receiving_names state
  there m l i e = by_name (m == k) e
    where
      by_name : (b : Bool) → (if b then Some (Stored label id) else None) ≡ Some (Stored l i) → i < length (soup_at state l)
      by_name true q =
          let same : label ≡ l = cc in
          let one : id ≡ i = cc in
          subst (λ a. i < length (soup_at state a)) same (subst (λ a. a < length (soup_at state label)) one is-there)
      by_name false q = cc

  named-message : receiving_names.message k ≡ Some (Stored label id)
  named-message = ap (λ b. if b then Some (Stored label id) else None) (eq-eqb k k refl)

  named-node : receiving_names.number r ≡ pos node
  named-node = ap (λ b. if b then pos node else pos 0) (eq-eqb r r refl)

  is-receive : IsReceive inst own (receive_by lab tag ns) receiving_names state label node id
  is-receive = record { spoken = ap is_some is; at_label = at; receiver = named-node; message = named-message; tag = ap tag_of_message is-message }

  owned-names : (p : Option ℕ) → IsOwn inst p (no_names o) → IsOwn inst p receiving_names
  owned-names None h = tt
  owned-names (Some p) h = h

  reading : Reads (receive_step inst own (receive_by lab tag ns)) state label node receiving_names inner
  reading = reads inst own (receive_by lab tag ns) receiving_names state label node id formed sorted known (owned-names own owned) there is-receive receivable protocol is

  part-is : (part : _) → part_in state (receiving_names.message k) part ≡ part_of id (Some message) part
  part-is part = part-value inst own (receive_by lab tag ns) receiving_names state label node id formed sorted known (owned-names own owned) there is-receive receivable part

  over : StepsOver ns (receive_step inst own (receive_by lab tag ns))
  over = receive-over inst own lab tag r k xs

  own-here : (l : Lab) → is_some (own_label protocol l) ≡ true → label_of o (label_seen lab l) ≡ label_of inner.own l
  own-here Own h = at ∙ sym (named-own label (pos node) from_word (pos message.from) (arg_names (tag_at inst label tag).args) message.args)
  own-here (At l) h = cc

  in-step : InStep lab from_word (arg_names declared.args) (receive_step inst own (receive_by lab tag ns)).named state (own_label protocol) (me_word ∷ from_word ∷ arg_names declared.args) receiving_names inner
  in-step = record {
    own = own-here;
    numbers = λ x m. reading.named x;
    others = λ x m n. absurd (true-false (has (me_word ∷ from_word ∷ arg_names declared.args) x) m n);
    within = λ x m. m;
  }

  mine-holds : holds (is_mine (receive_by lab tag ns)) receiving_names state ≡ true
  unfolding opened
  mine-holds = and-both _ _
      (int-true _ _ (part-is To ∙ receivable.mine ∙ sym named-node))
      (int-true _ _ (part-is Live ∙ ap (λ b. if b then pos 1 else pos 0) receivable.live))

  module _ (before : List Hypothesis) (f : Formula) (unbound : Each (λ name. has (bound_in (receive_sequent inst own lab tag ns before f)) name ≡ false) ns) where
    abbrev sequent : Sequent
    sequent = receive_sequent inst own lab tag ns before f

    abbrev hypotheses : List Hypothesis
    hypotheses = receive_hypotheses inst (receive_known inst own lab tag ns) (receive_by lab tag ns)

    lacking : (y : ℕ) → has ns y ≡ true → has (bound_in sequent) y ≡ false
    lacking y m = each-at (λ name. has (bound_in sequent) name ≡ false) ns y unbound m

    step-lacks : (y : ℕ) → has ns y ≡ true → Each (Lacks y) hypotheses
    step-lacks y m = each-back (Lacks y) before hypotheses (facts-lack sequent y (lacking y m))

    guard-lacks : (y : ℕ) → has ns y ≡ true → has (bound_names (receive_of declared).guard) y ≡ false
    guard-lacks y m = ap (λ bound. has bound y) (sym (bound-changed (seen_here lab from_word (arg_names declared.args) (receive_step inst own (receive_by lab tag ns)).named state (own_label protocol)) (receive_of declared).guard)) ∙ (step-lacks y m).1.0

    guard-holds : holds (in_step lab (Var r) from_word (Msg k From) (arg_names declared.args) (args_of_message k) (receive_of declared).guard) receiving_names state ≡ true
    guard-holds =
        holds-in lab from_word (arg_names declared.args) (receive_step inst own (receive_by lab tag ns)).named state (own_label protocol) (receive_of declared).guard (me_word ∷ from_word ∷ arg_names declared.args) receiving_names inner
        formed-receive.guard.0.0 formed-receive.guard.1
        (λ y bound x m. over-lacks ns ((receive_step inst own (receive_by lab tag ns)).named x) y (over.named x) (turned (bound_names (receive_of declared).guard) ns guard-lacks y bound)) in-step
        ∙ ap (λ (t : Tag). holds (receive_of t).guard inner state) same-tag ∙ receivable.guard

    fit-holds : holds (all_fit inst (receive_known inst own lab tag ns) (receive_step inst own (receive_by lab tag ns)) (spoken_of inst own lab) (receive_of declared).updates) receiving_names state ≡ true
    fit-holds = fits-hold receiving_names state inst (receive_known inst own lab tag ns) (receive_step inst own (receive_by lab tag ns)) label node inner reading sorted.nodes protocol spoken.at (spoken_of inst own lab) (receive_of declared).updates is
        (ap (λ (t : Tag). list_all (update_fits inst label inner state) (receive_of t).updates) same-tag ∙ receivable.updates)

    fitting : Fits sequent o state receiving_names
    fitting = record {
      own_label = refl;
      variables = (ap (in_sort (node_sort inst.nodes)) named-node ∙ node-in-sort inst.nodes (pos node) (node-is inst.nodes node known), tt);
      messages = (subst (λ l. StandsForMessage state receiving_names k l tag) (sym (label-back o lab small ∙ at)) (id, named-message, (is-there, ap tag_of_message is-message)), tt);
    }

    clear : captures (receive_step inst own (receive_by lab tag ns)) nothing_around f ≡ false
    clear = step-clear ns (receive_step inst own (receive_by lab tag ns)) over f
        (turned (bound_names f) ns (λ y m. sym (bound-before (receive_step inst own (receive_by lab tag ns)) (λ k. false) f y) ∙ goal-lacks sequent y (lacking y m)))

    pub receive-kept : IsAbout inst own f → IsValidAt inst sequent o → FactsHold before receiving_names state → holds f receiving_names (after_receive inst state node label id) ≡ true
    receive-kept about valid facts =
        sym (received-holds inst own (receive_by lab tag ns) receiving_names state label node id formed sorted known (owned-names own owned) there is-receive receivable f about clear)
        ∙ valid state receiving_names sorted fitting (each-append (λ h. holds h.formula receiving_names state ≡ true) before hypotheses facts (mine-holds, (guard-holds, (fit-holds, tt))))
