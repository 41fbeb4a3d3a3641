-- A send of the model, as the terms of a sequent say it: its guard, what it updates, the hooks that it meets, and what holds after it.
use Rattle.std.proofs.Common.{◌≡◌, ℕ, zero, suc, ◌<◌, ℤ, pos, negsuc, ◌-ℤ◌, true, false, ◌==◌, int_le, Option, Some, None, List, [], ◌∷◌, map, filter, slice_get, unwrap_or, refl, ◌∙◌, ap, sym, subst, eq-eqb, lt-ltb, arith}
use Rattle.std.proofs.lemmas.Bool.{eqb-true}
use Rattle.std.proofs.lemmas.Int.{ints}
use Rattle.std.specs.Prelude.{is_some}
use Rattle.std.specs.Option.{option_map}
use Rattle.std.specs.List.{AllByRecursion as Each, AllZip, list_all, flat_map}
use Rattle.dl_term.specs.declared.syntax.Lab.{Lab}
use Rattle.dl_term.specs.declared.syntax.Lab.TheVariants.{Own, At}
use Rattle.dl_term.specs.declared.syntax.Part.{Part}
use Rattle.dl_term.specs.declared.syntax.Part.TheVariants.{Id, From, To, Live, Arg}
use Rattle.dl_term.specs.declared.syntax.Term.{Term, Num}
use Rattle.dl_term.specs.declared.syntax.Formula.{Formula}
use Rattle.dl_term.specs.State.{State}
use Rattle.dl_term.specs.Names.{Names, label_of}
use Rattle.dl_term.specs.Meaning.{value, holds}
use Rattle.dl_model.specs.declared.protocol.FieldDecl.{FieldDecl}
use Rattle.dl_model.specs.declared.protocol.Update.{Update}
use Rattle.dl_model.specs.declared.protocol.Tag.{Tag}
use Rattle.dl_model.specs.declared.protocol.Protocol.{Protocol}
use Rattle.dl_model.specs.declared.protocol.Instances.{Instances}
use Rattle.dl_model.specs.declared.sequent.Sequent.{Sequent}
use Rattle.dl_model.specs.declared.file.World.{World}
use Rattle.dl_model.specs.declared.file.Decls.{Decls}
use Rattle.dl_model.specs.Sorts.{in_sort, is_node, has}
use Rattle.dl_model.specs.Lookup.{tag_at, no_tag, arg_names, hook_at, protocol_at, sort_in}
use Rattle.dl_model.specs.Words.{me_word, to_word, send_names}
use Rattle.dl_model.specs.States.{IsWellSorted}
use Rattle.dl_model.specs.Steps.{Sending, IsEnabled, Meets, after_send, names_of_send, hook_holds, index_fits as index_is_node, update_fits as fits}
use Rattle.dl_model.specs.Scopes.{own_label, hook_label}
use Rattle.dl_model.specs.Spoken.{bound_names}
use Rattle.dl_model.specs.Formed.{TagIsFormed, UpdateIsFormed, IsFormed}
use Rattle.dl_model.specs.Sequents.{Fits}
use Rattle.dl_model.proofs.Small.{and-left, and-right, and-both, each-front, each-back}
use Rattle.dl_sequent.specs.Bounds.{node_sort}
use Rattle.dl_sequent.specs.Grounds.{IsGrounded}
use Rattle.dl_subst.specs.Substitution.{new_part}
use Rattle.dl_wp.specs.declared.steps.SendStep.{SendStep}
use Rattle.dl_wp.specs.Steps.{Step, seen, label_seen, names_in_step, spoken_of, tag_in, sent_message, send_step}
use Rattle.dl_wp.specs.Before.{before_sent}
use Rattle.dl_wp.specs.Conditions.{IsAbout, AreThere, IsSend}
use Rattle.dl_wp.proofs.Values.{Reads, value-seen}
use Rattle.dl_wp.proofs.Model.{Spoken, spoken-is, decl-of, zip-covers, named-value, named-own, named-none}
use Rattle.dl_wp.proofs.SendLaw.{sent-holds}
use Rattle.dl_inv.specs.Steps.{tag_of, in_step, index_fits, value_fits, update_fits, all_fit, hook_seen, is_hook_of, all_hooks}
use Rattle.dl_inv.proofs.Lists.{true-false, each-kept, kept-at}
use Rattle.dl_inv.proofs.Clear.{IsOver, StepsOver, named-over, step-clear}
use Rattle.dl_inv.proofs.FormedParts.{tag-formed, hook-local}
use Rattle.dl_sound.proofs.InStep.{InStep, holds-in}
use Rattle.dl_sound.proofs.Hypotheses.{IsTrue, all-hold, fits-hold}
use Rattle.dl_sound.proofs.SendKept.{over-lacks}
use Rattle.dl_programs.proofs.Standing.{le-true, all-held, in-sort-held}

-- ---- what a step updates fits, where the formula says so

pub node-back : (nodes : ℕ) (v : ℤ) → in_sort (node_sort nodes) v ≡ true → is_node nodes v ≡ true
node-back nodes (pos k) h = lt-ltb k nodes (let b = le-true (pos k) (pos nodes -ℤ pos 1) (and-right (int_le (pos 0) (pos k)) (int_le (pos k) (pos nodes -ℤ pos 1)) h) in omega (arith, ints, b))
node-back nodes (negsuc k) h = absurd (let a = le-true (pos 0) (negsuc k) (and-left (int_le (pos 0) (negsuc k)) (int_le (negsuc k) (pos nodes -ℤ pos 1)) h) in omega (arith, ints, a))

each-flat-at : {X Y : Type 0} (P : Y → Type 0) (f : X → List Y) (xs : List X) → Each P (flat_map f xs) → Each (λ x. Each P (f x)) xs
each-flat-at P f [] h = tt
each-flat-at P f (x ∷ xs) h = (each-front P (f x) (flat_map f xs) h, each-flat-at P f xs (each-back P (f x) (flat_map f xs) h))

module _ (n : Names) (state : State) (inst : Instances) (s : Sequent) (step : Step) (label node : ℕ) (inner : Names) (reads : Reads step state label node n inner)
    (grounded : IsGrounded inst) (owner : s.own ≡ None) (sorted : IsWellSorted inst state) (fitting : Fits s 0 state n) where
  index-held : (o : Option Term) → Each (IsTrue n state) (index_fits inst s step o) → index_is_node o inner state ≡ true
  index-held None h = refl
  index-held (Some t) h =
      ap (λ k. is_node k (value t inner state)) sorted.nodes
      ∙ node-back inst.nodes (value t inner state)
      (ap (in_sort (node_sort inst.nodes)) (sym (value-seen step state label node n inner reads t)) ∙ in-sort-held n state inst s grounded owner sorted fitting (seen step t) (node_sort inst.nodes) h.0)

  value-held : (t : Term) (o : Option FieldDecl) (f : FieldDecl) → o ≡ Some f → Each (IsTrue n state) (value_fits inst s step t (option_map (λ (g : FieldDecl). g.sort) o)) → in_sort (sort_in o) (value t inner state) ≡ true
  value-held t None f e h = cc
  value-held t (Some g) f e h = ap (in_sort g.sort) (sym (value-seen step state label node n inner reads t)) ∙ in-sort-held n state inst s grounded owner sorted fitting (seen step t) g.sort h.0

  module _ (protocol : Protocol) (at : protocol_at inst label ≡ protocol) (variables : List ℕ) where
    update-held : (u : Update) → UpdateIsFormed protocol variables u → Each (IsTrue n state) (update_fits inst s step (Some protocol) u) → fits inst label inner state u ≡ true
    update-held u formed h =
        let found = decl-of (slice_get protocol.fields u.field) (is_some u.index) formed.field in
        and-both _ _ (index-held u.index (each-front (IsTrue n state) (index_fits inst s step u.index) (value_fits inst s step u.value (option_map (λ (g : FieldDecl). g.sort) (slice_get protocol.fields u.field))) h))
        (subst (λ (p : Protocol). in_sort (sort_in (slice_get p.fields u.field)) (value u.value inner state) ≡ true) (sym at)
        (value-held u.value (slice_get protocol.fields u.field) found.0 found.1
        (each-back (IsTrue n state) (index_fits inst s step u.index) (value_fits inst s step u.value (option_map (λ (g : FieldDecl). g.sort) (slice_get protocol.fields u.field))) h)))

    updates-held : (us : List Update) → Each (UpdateIsFormed protocol variables) us → Each (λ u. Each (IsTrue n state) (update_fits inst s step (Some protocol) u)) us → list_all (fits inst label inner state) us ≡ true
    updates-held [] formed h = refl
    updates-held (u ∷ us) formed h = and-both (fits inst label inner state u) _ (update-held u formed.0 h.0) (updates-held us formed.1 h.1)

    pub fits-held : (o : Option Protocol) (us : List Update) → o ≡ Some protocol → Each (UpdateIsFormed protocol variables) us → holds (all_fit inst s step o us) n state ≡ true → list_all (fits inst label inner state) us ≡ true
    fits-held o us is formed h =
        updates-held us formed (each-flat-at (IsTrue n state) (update_fits inst s step (Some protocol)) us
        (all-held n state (flat_map (update_fits inst s step (Some protocol)) us) (sym (ap (λ p. holds (all_fit inst s step p us) n state) is) ∙ h)))

-- ---- a send

get-over : (ns : List ℕ) (terms : List Term) (k : ℕ) → Each (IsOver ns) terms → IsOver ns (unwrap_or (slice_get terms k) (Num (pos 0)))
get-over ns [] k h = λ v m p q. refl
get-over ns (t ∷ ts) zero h = h.0
get-over ns (t ∷ ts) (suc k) h = get-over ns ts k h.1

module _ (d : Decls) (formed : IsFormed d) (label tag : ℕ) (protocol : Protocol) (is : spoken_of d.inst None (At label) ≡ Some protocol) (n : Names) (state : State) (own : n.own ≡ 0) (sorted : IsWellSorted d.inst state) (node : ℕ) (known : node < d.inst.nodes)
    (sender to : Term) (args : List Term) (to_value : ℤ) (values : List ℤ) (by_node : value sender n state ≡ pos node) (addressed : value to n state ≡ to_value) (given : AllZip (λ t v. value t n state ≡ v) args values)
    (ns : List ℕ) (sender_over : IsOver ns sender) (to_over : IsOver ns to) (args_over : Each (IsOver ns) args) where
  abbrev pub step : SendStep
  step = record { label = At label; tag = tag; sender = sender; to = to; args = args }

  abbrev pub declared : Tag
  declared = tag_of d.inst None (At label) tag

  abbrev pub inner : Names
  inner = names_of_send d.inst label tag node to_value values

  spoken : Spoken d.inst label protocol
  spoken = spoken-is d.inst None n (At label) protocol tt is

  pub same-tag : declared ≡ tag_at d.inst label tag
  same-tag = ap (λ p. tag_in p tag) is ∙ ap (λ (p : Protocol). unwrap_or (slice_get p.tags tag) no_tag) (sym spoken.at)

  formed-tag : TagIsFormed protocol declared
  formed-tag = subst (λ p. TagIsFormed protocol (tag_in p tag)) (sym is) (tag-formed d.inst spoken.number protocol tag formed.inst spoken.listed)

  reading : Reads (send_step d.inst None step) state label node n inner
  reading = record {
    at_label = refl;
    own = named-own label (pos node) to_word to_value (arg_names (tag_at d.inst label tag).args) values;
    by_node = by_node;
    named = λ x. named-value n state sender to to_word (pos node) to_value label (arg_names declared.args) args values x by_node addressed (zip-covers n state (arg_names declared.args) args values given)
        ∙ ap (λ (t : Tag). (send_names label (arg_names t.args) node to_value values).number x) same-tag;
    none = named-none label (pos node) to_word to_value (arg_names (tag_at d.inst label tag).args) values;
  }

  is-send : IsSend d.inst None step n state label node to_value values
  is-send = record { spoken = ap is_some is; at_label = refl; sender = by_node; addressee = addressed; arguments = given }

  over : (syms : List ℕ) (x : ℕ) → IsOver ns (names_in_step sender to_word to syms args x)
  over syms x = named-over ns sender to_word to syms args x sender_over to_over args_over

  part-over : (part : Part) → IsOver ns (new_part (sent_message step) part)
  part-over Id = λ v m p q. refl
  part-over From = sender_over
  part-over To = to_over
  part-over Live = λ v m p q. refl
  part-over (Arg k) = get-over ns args k args_over

  steps-over : StepsOver ns (send_step d.inst None step)
  steps-over = record { node = sender_over; named = over (arg_names declared.args); move = part-over }

  -- the formula binds none of the names that the terms speak of
  abbrev pub Lacks : Formula → Type 0
  Lacks f = (y : ℕ) → has (bound_names f) y ≡ true → has ns y ≡ false

  own-here : (l : Lab) → is_some (own_label protocol l) ≡ true → label_of n.own (label_seen (At label) l) ≡ label_of inner.own l
  own-here Own h = sym (named-own label (pos node) to_word to_value (arg_names (tag_at d.inst label tag).args) values)
  own-here (At l) h = cc

  in-step : InStep (At label) to_word (arg_names declared.args) (send_step d.inst None step).named state (own_label protocol) (me_word ∷ to_word ∷ arg_names declared.args) n inner
  in-step = record {
    own = own-here;
    numbers = λ x m. reading.named x;
    others = λ x m lack. absurd (true-false (has (me_word ∷ to_word ∷ arg_names declared.args) x) m lack);
    within = λ x m. m;
  }

  pub guard-same : Lacks (tag_at d.inst label tag).send.guard → holds (in_step (At label) sender to_word to (arg_names declared.args) args declared.send.guard) n state ≡ holds (tag_at d.inst label tag).send.guard inner state
  guard-same lacks =
      holds-in (At label) to_word (arg_names declared.args) (send_step d.inst None step).named state (own_label protocol) declared.send.guard (me_word ∷ to_word ∷ arg_names declared.args) n inner
      formed-tag.send.guard.0.0 formed-tag.send.guard.1
      (λ y bound x m. over-lacks ns ((send_step d.inst None step).named x) y (over (arg_names declared.args) x) (lacks y (subst (λ (t : Tag). has (bound_names t.send.guard) y ≡ true) same-tag bound))) in-step
      ∙ ap (λ (t : Tag). holds t.send.guard inner state) same-tag

  pub fits-said : (s : Sequent) → list_all (fits d.inst label inner state) (tag_at d.inst label tag).send.updates ≡ true
      → holds (all_fit d.inst s (send_step d.inst None step) (spoken_of d.inst None (At label)) declared.send.updates) n state ≡ true
  fits-said s h =
      fits-hold n state d.inst s (send_step d.inst None step) label node inner reading sorted.nodes protocol spoken.at (spoken_of d.inst None (At label)) declared.send.updates is
      (ap (λ (t : Tag). list_all (fits d.inst label inner state) t.send.updates) same-tag ∙ h)

  pub fits-meant : (s : Sequent) → IsGrounded d.inst → s.own ≡ None → Fits s 0 state n → holds (all_fit d.inst s (send_step d.inst None step) (spoken_of d.inst None (At label)) declared.send.updates) n state ≡ true
      → list_all (fits d.inst label inner state) (tag_at d.inst label tag).send.updates ≡ true
  fits-meant s grounded owner fitting h =
      sym (ap (λ (t : Tag). list_all (fits d.inst label inner state) t.send.updates) same-tag)
      ∙ fits-held n state d.inst s (send_step d.inst None step) label node inner reading grounded owner sorted fitting protocol spoken.at (me_word ∷ to_word ∷ arg_names declared.args)
      (spoken_of d.inst None (At label)) declared.send.updates is formed-tag.send.updates h

  -- ---- hooks

  hook-own : (hook : ℕ) (l : Lab) → is_some (hook_label d.inst (hook_at d hook) l) ≡ true → label_of n.own (label_seen (At label) l) ≡ label_of (send_names 0 (hook_at d hook).args node to_value values).own l
  hook-own hook Own h = cc
  hook-own hook (At l) h = refl

  hook-in : (hook : ℕ) → InStep (At label) to_word (hook_at d hook).args (names_in_step sender to_word to (hook_at d hook).args args) state (hook_label d.inst (hook_at d hook)) (me_word ∷ to_word ∷ (hook_at d hook).args) n (send_names 0 (hook_at d hook).args node to_value values)
  hook-in hook = record {
    own = hook-own hook;
    numbers = λ x m. named-value n state sender to to_word (pos node) to_value 0 (hook_at d hook).args args values x by_node addressed (zip-covers n state (hook_at d hook).args args values given);
    others = λ x m lack. absurd (true-false (has (me_word ∷ to_word ∷ (hook_at d hook).args) x) m lack);
    within = λ x m. m;
  }

  hook-same : (hook : ℕ) → Lacks (hook_at d hook).formula → holds (hook_seen step (hook_at d hook)) n state ≡ hook_holds d state hook node to_value values
  hook-same hook lacks =
      let local = hook-local d formed hook in
      holds-in (At label) to_word (hook_at d hook).args (names_in_step sender to_word to (hook_at d hook).args args) state (hook_label d.inst (hook_at d hook)) (hook_at d hook).formula (me_word ∷ to_word ∷ (hook_at d hook).args) n (send_names 0 (hook_at d hook).args node to_value values)
      local.0.0 local.1 (λ y bound x m. over-lacks ns (names_in_step sender to_word to (hook_at d hook).args args x) y (over (hook_at d hook).args x) (lacks y bound)) (hook-in hook)

  module _ (world : World) (lacks : (hook : ℕ) → has world.hooks hook ≡ true → is_hook_of d label tag hook ≡ true → Lacks (hook_at d hook).formula) where
    pub hooks-said : Meets d world state node (Sending label tag to_value values) → holds (all_hooks d world label tag step) n state ≡ true
    hooks-said meets =
        all-hold n state (map (λ hook. hook_seen step (hook_at d hook)) (filter (is_hook_of d label tag) world.hooks))
        (each-kept (IsTrue n state) (λ hook. hook_seen step (hook_at d hook)) (is_hook_of d label tag) world.hooks
        (λ hook m q. hook-same hook (lacks hook m q) ∙ meets hook m (eqb-true _ _ (and-left _ _ q)) (eqb-true _ _ (and-right ((hook_at d hook).client == label) _ q))))

    pub hooks-meant : holds (all_hooks d world label tag step) n state ≡ true → Meets d world state node (Sending label tag to_value values)
    hooks-meant h hook m client tagged =
        let q : is_hook_of d label tag hook ≡ true = and-both _ _ (eq-eqb _ _ client) (eq-eqb _ _ tagged) in
        sym (hook-same hook (lacks hook m q))
        ∙ kept-at (IsTrue n state) (λ k. hook_seen step (hook_at d k)) (is_hook_of d label tag) world.hooks hook
        (all-held n state (map (λ k. hook_seen step (hook_at d k)) (filter (is_hook_of d label tag) world.hooks)) h) m q

  -- ---- after the send

  pub after-send : IsEnabled d.inst state node label tag to_value values → AreThere n state → (f : Formula) → IsAbout d.inst None f → Lacks f
      → holds (before_sent d.inst None step f) n state ≡ holds f n (after_send d.inst state node label tag to_value values)
  after-send enabled there f about lacks =
      sent-holds d.inst None step n state label node to_value values formed.inst sorted known tt there is-send enabled f about (step-clear ns (send_step d.inst None step) steps-over f lacks)
