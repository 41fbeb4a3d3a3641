-- Where the obligation of a send is valid, each send of the model keeps the formula.
use Rattle.std.proofs.Common.{◌≡◌, ℕ, ◌<◌, ℤ, pos, true, false, ◌||◌, ◌==◌, Option, Some, None, List, ◌∷◌, ◌++◌, map, length, slice_get, unwrap_or, refl, ◌∙◌, ap, sym, subst, arith}
use Rattle.std.specs.Prelude.{is_some}
use Rattle.std.specs.List.{AllByRecursion as Each, AllZip, list_all}
use Rattle.dl_term.specs.declared.syntax.Lab.{Lab}
use Rattle.dl_term.specs.declared.syntax.Lab.TheVariants.{Own, At}
use Rattle.dl_term.specs.declared.syntax.Term.{Term, Num, Word, Var, Field', Row', Len, Msg, Add', Sub', Mul', If', more_of-Term as one, end_of-Term as end}
use Rattle.dl_term.specs.declared.syntax.Formula.{Formula}
use Rattle.dl_term.specs.State.{State}
use Rattle.dl_term.specs.Names.{Names, no_names, label_of}
use Rattle.dl_term.specs.Meaning.{value, holds}
use Rattle.dl_term.specs.Measures.{has_variable}
use Rattle.dl_model.specs.declared.protocol.Tag.{Tag}
use Rattle.dl_model.specs.declared.protocol.Protocol.{Protocol}
use Rattle.dl_model.specs.declared.protocol.Instances.{Instances}
use Rattle.dl_model.specs.declared.sequent.Hypothesis.{Hypothesis}
use Rattle.dl_model.specs.declared.sequent.Sequent.{Sequent}
use Rattle.dl_model.specs.Sorts.{all_in_sorts, has}
use Rattle.dl_model.specs.Lookup.{tag_at, no_tag, arg_names, arg_sorts}
use Rattle.dl_model.specs.Words.{me_word, to_word}
use Rattle.dl_model.specs.States.{IsWellSorted}
use Rattle.dl_model.specs.Steps.{IsEnabled, after_send, names_of_send, update_fits}
use Rattle.dl_model.specs.Scopes.{own_label}
use Rattle.dl_model.specs.Spoken.{bound_names}
use Rattle.dl_model.specs.Formed.{AreDistinct, TagIsFormed, InstancesAreFormed}
use Rattle.dl_model.specs.Sequents.{Fits, FactsHold, IsValidAt}
use Rattle.dl_model.proofs.Small.{and-both, each-back}
use Rattle.dl_sequent.specs.Bounds.{node_sort}
use Rattle.dl_subst.specs.Change.{mentions}
use Rattle.dl_wp.specs.Steps.{label_seen, spoken_of, tag_in, send_step}
use Rattle.dl_wp.specs.Captures.{captures, nothing_around}
use Rattle.dl_wp.specs.Conditions.{IsAbout, IsOwn, AreThere, IsSend}
use Rattle.dl_wp.proofs.Values.{Reads}
use Rattle.dl_wp.proofs.Model.{Spoken, spoken-is, named-own, length-map}
use Rattle.dl_wp.proofs.SendLaw.{reads, sent-holds}
use Rattle.dl_inv.specs.Steps.{send_by, tag_of, in_step, all_fit, send_hypotheses}
use Rattle.dl_inv.specs.Obligations.{send_known, send_sequent}
use Rattle.dl_inv.specs.Taken.{bound_in}
use Rattle.dl_inv.proofs.Lists.{each-at, each-append, lacked, true-false}
use Rattle.dl_inv.proofs.Clear.{IsOver, StepsOver, send-over, step-clear}
use Rattle.dl_inv.proofs.Bound.{bound-changed, bound-before, Lacks, facts-lack, goal-lacks, turned}
use Rattle.dl_inv.proofs.FormedParts.{tag-formed}
use Rattle.dl_sound.proofs.InStep.{seen_here, InStep, holds-in}
use Rattle.dl_sound.proofs.StepNames.{numbered, reads-all, sorts-fit, sorts-length, node-in-sort, node-is}
use Rattle.dl_sound.proofs.Hypotheses.{fits-hold}

-- ---- names that formulas do not bind

-- a variable stands in a term where the term speaks of it
pub mentions-has : (t : Term) (y : ℕ) → mentions (λ x. x == y) (λ m. false) t ≡ has_variable t y
mentions-has (Num v) y = refl
mentions-has (Word x v) y = refl
mentions-has (Var x) y = refl
mentions-has (Field' label field _ (one node end)) y = mentions-has node y
mentions-has (Row' label field _ (one node end) _ (one index end)) y = let a = mentions-has node y in let b = mentions-has index y in λ i. a i || b i
mentions-has (Len label) y = refl
mentions-has (Msg m part) y = refl
mentions-has (Add' _ (one a end) _ (one b end)) y = let p = mentions-has a y in let q = mentions-has b y in λ i. p i || q i
mentions-has (Sub' _ (one a end) _ (one b end)) y = let p = mentions-has a y in let q = mentions-has b y in λ i. p i || q i
mentions-has (Mul' _ (one a end) _ (one b end)) y = let p = mentions-has a y in let q = mentions-has b y in λ i. p i || q i
mentions-has (If' _ (one a end) _ (one b end) _ (one x end) _ (one z end)) y =
    let p = mentions-has a y in let q = mentions-has b y in let r = mentions-has x y in let s = mentions-has z y in λ i. (p i || q i) || (r i || s i)

pub over-lacks : (ns : List ℕ) (t : Term) (y : ℕ) → IsOver ns t → has ns y ≡ false → has_variable t y ≡ false
over-lacks ns t y h k = sym (mentions-has t y) ∙ h (λ x. x == y) (λ m. false) (λ n there. lacked ns n y there k) (λ n there. refl)

-- ---- a send

module _ (inst : Instances) (own : Option ℕ) (lab : Lab) (tag o label : ℕ) (protocol : Protocol) (is : spoken_of inst own lab ≡ Some protocol) (at : label_of o lab ≡ label) (owned : IsOwn inst own (no_names o)) (formed : InstancesAreFormed inst)
    (state : State) (sorted : IsWellSorted inst state) (node : ℕ) (known : node < inst.nodes) (to : ℤ) (args : List ℤ) (enabled : IsEnabled inst state node label tag to args)
    (s d : ℕ) (xs : List ℕ) (count : length xs ≡ length (tag_of inst own lab tag).args) (distinct : AreDistinct (s ∷ d ∷ xs)) where
  abbrev pub ns : List ℕ
  ns = s ∷ d ∷ xs

  abbrev pub sending_names : Names
  sending_names = numbered o ns (pos node ∷ to ∷ args)

  abbrev declared : Tag
  declared = tag_of inst own lab tag

  abbrev inner : Names
  inner = names_of_send inst label tag node to args

  spoken : Spoken inst label protocol
  spoken = subst (λ l. Spoken inst l protocol) at (spoken-is inst own (no_names o) lab protocol owned is)

  same-tag : declared ≡ tag_at inst label tag
  same-tag = ap (λ p. tag_in p tag) is ∙ ap (λ (p : Protocol). unwrap_or (slice_get p.tags tag) no_tag) (sym spoken.at)

  formed-tag : TagIsFormed protocol declared
  formed-tag = subst (λ p. TagIsFormed protocol (tag_in p tag)) (sym is) (tag-formed inst spoken.number protocol tag formed spoken.listed)

  args-sorted : all_in_sorts (arg_sorts declared.args) args ≡ true
  args-sorted = ap (λ (t : Tag). all_in_sorts (arg_sorts t.args) args) same-tag ∙ enabled.arguments

  as-many : length xs ≡ length args
  as-many = count ∙ sym (length-map (λ a. a.1) declared.args) ∙ sorts-length (arg_sorts declared.args) args args-sorted

  pub read : AllZip (λ t v. value t sending_names state ≡ v) (map (λ x. Var x) ns) (pos node ∷ to ∷ args)
  read = reads-all o ns (pos node ∷ to ∷ args) state distinct (let e = as-many in omega (e, arith))

  there : AreThere sending_names state
  there m l id e = cc

  is-send : IsSend inst own (send_by lab tag ns) sending_names state label node to args
  is-send = record { spoken = ap is_some is; at_label = at; sender = read.0; addressee = read.1.0; arguments = read.1.1 }

  owned-names : (p : Option ℕ) → IsOwn inst p (no_names o) → IsOwn inst p sending_names
  owned-names None h = tt
  owned-names (Some p) h = h

  reading : Reads (send_step inst own (send_by lab tag ns)) state label node sending_names inner
  reading = reads inst own (send_by lab tag ns) sending_names state label node to args formed sorted known (owned-names own owned) there is-send enabled protocol is

  over : StepsOver ns (send_step inst own (send_by lab tag ns))
  over = send-over inst own lab tag s d xs

  own-here : (l : Lab) → is_some (own_label protocol l) ≡ true → label_of o (label_seen lab l) ≡ label_of inner.own l
  own-here Own h = at ∙ sym (named-own label (pos node) to_word to (arg_names (tag_at inst label tag).args) args)
  own-here (At l) h = cc

  in-step : InStep lab to_word (arg_names declared.args) (send_step inst own (send_by lab tag ns)).named state (own_label protocol) (me_word ∷ to_word ∷ arg_names declared.args) sending_names inner
  in-step = record {
    own = own-here;
    numbers = λ x m. reading.named x;
    others = λ x m n. absurd (true-false (has (me_word ∷ to_word ∷ arg_names declared.args) x) m n);
    within = λ x m. m;
  }

  module _ (before hooks : List Hypothesis) (f : Formula) (unbound : Each (λ name. has (bound_in (send_sequent inst own lab tag ns before hooks f)) name ≡ false) ns) where
    abbrev sequent : Sequent
    sequent = send_sequent inst own lab tag ns before hooks f

    abbrev hypotheses : List Hypothesis
    hypotheses = send_hypotheses inst (send_known inst own lab tag ns) (send_by lab tag ns)

    lacking : (y : ℕ) → has ns y ≡ true → has (bound_in sequent) y ≡ false
    lacking y m = each-at (λ name. has (bound_in sequent) name ≡ false) ns y unbound m

    step-lacks : (y : ℕ) → has ns y ≡ true → Each (Lacks y) (hypotheses ++ hooks)
    step-lacks y m = each-back (Lacks y) before (hypotheses ++ hooks) (facts-lack sequent y (lacking y m))

    pub hooks-lack : (y : ℕ) → has ns y ≡ true → Each (Lacks y) hooks
    hooks-lack y m = each-back (Lacks y) hypotheses hooks (step-lacks y m)

    guard-lacks : (y : ℕ) → has ns y ≡ true → has (bound_names declared.send.guard) y ≡ false
    guard-lacks y m = ap (λ bound. has bound y) (sym (bound-changed (seen_here lab to_word (arg_names declared.args) (send_step inst own (send_by lab tag ns)).named state (own_label protocol)) declared.send.guard)) ∙ (step-lacks y m).0

    guard-holds : holds (in_step lab (Var s) to_word (Var d) (arg_names declared.args) (map (λ x. Var x) xs) declared.send.guard) sending_names state ≡ true
    guard-holds =
        holds-in lab to_word (arg_names declared.args) (send_step inst own (send_by lab tag ns)).named state (own_label protocol) declared.send.guard (me_word ∷ to_word ∷ arg_names declared.args) sending_names inner
        formed-tag.send.guard.0.0 formed-tag.send.guard.1
        (λ y bound x m. over-lacks ns ((send_step inst own (send_by lab tag ns)).named x) y (over.named x) (turned (bound_names declared.send.guard) ns guard-lacks y bound)) in-step
        ∙ ap (λ (t : Tag). holds t.send.guard inner state) same-tag ∙ enabled.guard

    fit-holds : holds (all_fit inst (send_known inst own lab tag ns) (send_step inst own (send_by lab tag ns)) (spoken_of inst own lab) declared.send.updates) sending_names state ≡ true
    fit-holds = fits-hold sending_names state inst (send_known inst own lab tag ns) (send_step inst own (send_by lab tag ns)) label node inner reading sorted.nodes protocol spoken.at (spoken_of inst own lab) declared.send.updates is
        (ap (λ (t : Tag). list_all (update_fits inst label inner state) t.send.updates) same-tag ∙ enabled.updates)

    fitting : Fits sequent o state sending_names
    fitting = record {
      own_label = refl;
      variables = sorts-fit o ns (node_sort inst.nodes ∷ node_sort inst.nodes ∷ arg_sorts declared.args) (pos node ∷ to ∷ args) distinct
          (and-both _ _ (node-in-sort inst.nodes (pos node) (node-is inst.nodes node known)) (and-both _ _ (node-in-sort inst.nodes to enabled.addressee) args-sorted));
      messages = tt;
    }

    clear : captures (send_step inst own (send_by lab tag ns)) nothing_around f ≡ false
    clear = step-clear ns (send_step inst own (send_by lab tag ns)) over f
        (turned (bound_names f) ns (λ y m. sym (bound-before (send_step inst own (send_by lab tag ns)) (λ k. false) f y) ∙ goal-lacks sequent y (lacking y m)))

    pub send-kept : IsAbout inst own f → IsValidAt inst sequent o → FactsHold before sending_names state → FactsHold hooks sending_names state → holds f sending_names (after_send inst state node label tag to args) ≡ true
    send-kept about valid facts met =
        sym (sent-holds inst own (send_by lab tag ns) sending_names state label node to args formed sorted known (owned-names own owned) there is-send enabled f about clear)
        ∙ valid state sending_names sorted fitting (each-append (λ h. holds h.formula sending_names state ≡ true) before (hypotheses ++ hooks) facts
        (each-append (λ h. holds h.formula sending_names state ≡ true) hypotheses hooks (guard-holds, (fit-holds, tt)) met))
