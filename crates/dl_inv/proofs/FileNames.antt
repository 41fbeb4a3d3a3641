-- Names that no quantifier of the file binds are bound in no obligation.
use Rattle.std.proofs.Common.{◌≡◌, ℕ, Bool, true, false, not, ◌==◌, if◌then◌else◌, Option, Some, None, List, [], ◌∷◌, ◌++◌, map, take, filter, length, slice_get, unwrap_or, refl, ◌∙◌, ap, subst}
use Rattle.std.specs.List.{AllByRecursion as Each, flat_map}
use Rattle.dl_term.specs.declared.syntax.Lab.{Lab}
use Rattle.dl_term.specs.declared.syntax.Lab.TheVariants.{Own, At}
use Rattle.dl_term.specs.declared.syntax.Part.TheVariants.{From}
use Rattle.dl_term.specs.declared.syntax.Sort.{Sort}
use Rattle.dl_term.specs.declared.syntax.Term.{Term, Msg}
use Rattle.dl_term.specs.declared.syntax.Formula.{Formula, True, False, Eq, Lt, Le, Not', And', Or', Implies', All', Exists', Each', Any', more_of-Formula as one_formula, end_of-Formula as end_formula}
use Rattle.dl_term.specs.Syntax.{opened}
use Rattle.dl_model.specs.declared.protocol.Update.{Update}
use Rattle.dl_model.specs.declared.protocol.Transition.{Transition}
use Rattle.dl_model.specs.declared.protocol.Tag.{Tag}
use Rattle.dl_model.specs.declared.protocol.Protocol.{Protocol}
use Rattle.dl_model.specs.declared.protocol.Hook.{Hook}
use Rattle.dl_model.specs.declared.protocol.Instances.{Instances}
use Rattle.dl_model.specs.declared.program.Proc.{Proc}
use Rattle.dl_model.specs.declared.sequent.Hypothesis.{Hypothesis}
use Rattle.dl_model.specs.declared.sequent.Sequent.{Sequent}
use Rattle.dl_model.specs.declared.file.World.{World}
use Rattle.dl_model.specs.declared.file.Invariant.{Invariant}
use Rattle.dl_model.specs.declared.file.Decls.{Decls}
use Rattle.dl_model.specs.Block.{block_of}
use Rattle.dl_model.specs.Sorts.{has}
use Rattle.dl_model.specs.Lookup.{protocol_in, protocol_at, no_protocol, no_tag, never, receive_of, world_at, hook_at, arg_names}
use Rattle.dl_model.specs.Words.{to_word, from_word}
use Rattle.dl_model.specs.Scopes.{protocol_found}
use Rattle.dl_model.specs.Spoken.{bound_names}
use Rattle.dl_model.specs.Formed.{AreDistinct, tag_bound, transition_bound, coherence_bound, block_bound, file_bound}
use Rattle.dl_model.proofs.Small.{or-both, or-left, or-right, lacks-front, lacks-back, each-map}
use Rattle.dl_sequent.specs.Bounds.{bounds_of, lies_in, between, node_sort, field_sort}
use Rattle.dl_sequent.specs.declared.duty.Duty.{Duty}
use Rattle.dl_sequent.specs.declared.duty.Duty.TheVariants.{InitProtocol, InitInvariant, StepProtocol, StepInvariant}
use Rattle.dl_subst.specs.Substitution.{for_own}
use Rattle.dl_wp.specs.declared.steps.SendStep.{SendStep}
use Rattle.dl_wp.specs.declared.steps.ReceiveStep.{ReceiveStep}
use Rattle.dl_wp.specs.Steps.{Step, spoken_of, tag_in, seen, args_of_message, send_step, receive_step}
use Rattle.dl_wp.specs.First.{at_first}
use Rattle.dl_inv.specs.Joined.{is_true, nested, all_of}
use Rattle.dl_inv.specs.Steps.{called, send_by, receive_by, index_fits, value_fits, update_fits, all_fit, hook_seen, is_hook_of, all_hooks, is_mine, tag_of, send_hypotheses, receive_hypotheses}
use Rattle.dl_inv.specs.Facts.{coherence_fact, coherence_at, visible_in, facts_of, injects}
use Rattle.dl_inv.specs.Obligations.{send_known, send_sequent, receive_known, receive_sequent, coherence_of, self_fact, invariant_at, invariant_world, facts_with, hooks_fact, sequent_of}
use Rattle.dl_inv.specs.Taken.{names_taken, bound_in, MayTake}
use Rattle.dl_inv.proofs.Lists.{each-has, each-append, each-flat, each-kept, lacks-each, lacks-all, each-get, each-take, each-found}
use Rattle.dl_inv.proofs.Bound.{bound-changed, bound-in-step, bound-before, Lacks}

pub lacks-flat : {X : Type 0} (f : X → List ℕ) (xs : List X) (y : ℕ) → Each (λ x. has (f x) y ≡ false) xs → has (flat_map f xs) y ≡ false
lacks-flat f [] y h = refl
lacks-flat f (x ∷ xs) y h = lacks-all (f x) (flat_map f xs) y h.0 (lacks-flat f xs y h.1)

module _ (y : ℕ) where
  abbrev pub Frees : Formula → Type 0
  Frees f = has (bound_names f) y ≡ false

  -- ---- joined formulas

  nested-frees : (fs : List Formula) → Each Frees fs → Frees (nested fs)
  unfolding opened
  nested-frees [] h = refl
  nested-frees (f ∷ []) h = h.0
  nested-frees (f ∷ g ∷ fs) h = lacks-all (bound_names f) (bound_names (nested (g ∷ fs))) y h.0 (nested-frees (g ∷ fs) h.1)

  keep-first : (b : Bool) (f : Formula) (fs : List Formula) → Frees f → Each Frees fs → Each Frees (if b then f ∷ fs else fs)
  keep-first true f fs h k = (h, k)
  keep-first false f fs h k = k

  kept-frees : (fs : List Formula) → Each Frees fs → Each Frees (filter (λ f. not (is_true f)) fs)
  kept-frees [] h = tt
  kept-frees (f ∷ fs) h = keep-first (not (is_true f)) f (filter (λ g. not (is_true g)) fs) h.0 (kept-frees fs h.1)

  pub all-frees : (fs : List Formula) → Each Frees fs → Frees (all_of fs)
  all-frees fs h = nested-frees (filter (λ f. not (is_true f)) fs) (kept-frees fs h)

  pub between-frees : (b : Bool) (sort : Sort) (t : Term) → Frees (if b then True else between sort t)
  unfolding opened
  between-frees true sort t = refl
  between-frees false sort t = refl

  module _ (inst : Instances) (known : Sequent) (step : Step) where
    index-frees : (o : Option Term) → Each Frees (index_fits inst known step o)
    index-frees (Some t) = (between-frees (lies_in (bounds_of inst known (seen step t)) (node_sort inst.nodes)) (node_sort inst.nodes) (seen step t), tt)
    index-frees None = tt

    value-frees : (t : Term) (o : Option Sort) → Each Frees (value_fits inst known step t o)
    value-frees t (Some sort) = (between-frees (lies_in (bounds_of inst known (seen step t)) sort) sort (seen step t), tt)
    value-frees t None = tt

    updates-free : (o : Option Protocol) (us : List Update) → Each (λ u. Each Frees (update_fits inst known step o u)) us
    updates-free o [] = tt
    updates-free o (u ∷ us) = (each-append Frees (index_fits inst known step u.index) (value_fits inst known step u.value (field_sort o u.field)) (index-frees u.index) (value-frees u.value (field_sort o u.field)), updates-free o us)

    pub fits-free : (o : Option Protocol) (us : List Update) → Frees (all_fit inst known step o us)
    fits-free o us = all-frees (flat_map (update_fits inst known step o) us) (each-flat Frees (update_fits inst known step o) us (updates-free o us))

  -- ---- the formula at the first state

  pub first-frees : (inst : Instances) (own : Option ℕ) (f : Formula) → Frees f → Frees (at_first inst own f)
  unfolding opened
  first-frees inst own True h = refl
  first-frees inst own False h = refl
  first-frees inst own (Eq a b) h = refl
  first-frees inst own (Lt a b) h = refl
  first-frees inst own (Le a b) h = refl
  first-frees inst own (Not' _ (one_formula f end_formula)) h = first-frees inst own f h
  first-frees inst own (And' _ (one_formula f end_formula) _ (one_formula g end_formula)) h =
      lacks-all (bound_names (at_first inst own f)) (bound_names (at_first inst own g)) y (first-frees inst own f (lacks-front (bound_names f) (bound_names g) y h)) (first-frees inst own g (lacks-back (bound_names f) (bound_names g) y h))
  first-frees inst own (Or' _ (one_formula f end_formula) _ (one_formula g end_formula)) h =
      lacks-all (bound_names (at_first inst own f)) (bound_names (at_first inst own g)) y (first-frees inst own f (lacks-front (bound_names f) (bound_names g) y h)) (first-frees inst own g (lacks-back (bound_names f) (bound_names g) y h))
  first-frees inst own (Implies' _ (one_formula f end_formula) _ (one_formula g end_formula)) h =
      lacks-all (bound_names (at_first inst own f)) (bound_names (at_first inst own g)) y (first-frees inst own f (lacks-front (bound_names f) (bound_names g) y h)) (first-frees inst own g (lacks-back (bound_names f) (bound_names g) y h))
  first-frees inst own (All' x _ (one_formula f end_formula)) h = or-both (y == x) _ (or-left (y == x) (has (bound_names f) y) h) (first-frees inst own f (or-right (y == x) (has (bound_names f) y) h))
  first-frees inst own (Exists' x _ (one_formula f end_formula)) h = or-both (y == x) _ (or-left (y == x) (has (bound_names f) y) h) (first-frees inst own f (or-right (y == x) (has (bound_names f) y) h))
  first-frees inst own (Each' m label tag _ (one_formula f end_formula)) h = refl
  first-frees inst own (Any' m label tag _ (one_formula f end_formula)) h = refl

  -- ---- the file

  module _ (d : Decls) (free : has (file_bound d) y ≡ false) where
    abbrev protocol_bound : Protocol → List ℕ
    protocol_bound protocol = flat_map tag_bound protocol.tags ++ coherence_bound protocol.coherence

    abbrev of_protocols : List ℕ
    of_protocols = flat_map protocol_bound d.inst.protocols

    abbrev of_hooks : List ℕ
    of_hooks = flat_map (λ (hook : Hook). bound_names hook.formula) d.hooks

    abbrev of_invariants : List ℕ
    of_invariants = flat_map (λ (invariant : Invariant). bound_names invariant.formula) d.invariants

    abbrev of_procs : List ℕ
    of_procs = flat_map (λ (proc : Proc). bound_names proc.pre ++ (bound_names proc.post ++ block_bound (block_of proc.body))) d.procs

    abbrev IsFree : Protocol → Type 0
    IsFree protocol = has (protocol_bound protocol) y ≡ false

    protocols-free : Each IsFree d.inst.protocols
    protocols-free = lacks-each protocol_bound d.inst.protocols y (lacks-front of_protocols (of_hooks ++ (of_invariants ++ of_procs)) y free)

    after-protocols : has (of_hooks ++ (of_invariants ++ of_procs)) y ≡ false
    after-protocols = lacks-back of_protocols (of_hooks ++ (of_invariants ++ of_procs)) y free

    pub hook-free : (hook : ℕ) → Frees (hook_at d hook).formula
    hook-free hook = each-get (λ (h : Hook). Frees h.formula) d.hooks hook (record { sym = 0; core = 0; client = 0; tag = 0; args = []; formula = True }) refl
        (lacks-each (λ (hook : Hook). bound_names hook.formula) d.hooks y (lacks-front of_hooks (of_invariants ++ of_procs) y after-protocols))

    pub invariants-free : Each (λ (invariant : Invariant). Frees invariant.formula) d.invariants
    invariants-free = lacks-each (λ (invariant : Invariant). bound_names invariant.formula) d.invariants y (lacks-front of_invariants of_procs y (lacks-back of_hooks (of_invariants ++ of_procs) y after-protocols))

    invariant-free : (i : ℕ) → Frees (invariant_at d i).formula
    invariant-free i = each-get (λ (invariant : Invariant). Frees invariant.formula) d.invariants i (record { sym = 0; world = 0; formula = True }) refl invariants-free

    protocol-free : (o : Option ℕ) → IsFree (protocol_in d.inst o)
    protocol-free (Some p) = each-get IsFree d.inst.protocols p no_protocol refl protocols-free
    protocol-free None = refl

    pub coherence-free : (o : Option ℕ) → has (coherence_bound (protocol_in d.inst o).coherence) y ≡ false
    coherence-free o = lacks-back (flat_map tag_bound (protocol_in d.inst o).tags) (coherence_bound (protocol_in d.inst o).coherence) y (protocol-free o)

    of-coherence : (c : Option Formula) → has (coherence_bound c) y ≡ false → Frees (unwrap_or c True)
    of-coherence (Some f) h = h
    of-coherence None h = refl

    self-free : (p : ℕ) → Frees (coherence_of d.inst p)
    self-free p = of-coherence (protocol_in d.inst (Some p)).coherence (coherence-free (Some p))

    -- ---- tags

    tags-free : (protocol : Protocol) (tag : ℕ) → IsFree protocol → has (tag_bound (tag_in (Some protocol) tag)) y ≡ false
    tags-free protocol tag h = each-get (λ (t : Tag). has (tag_bound t) y ≡ false) protocol.tags tag no_tag refl (lacks-each tag_bound protocol.tags y (lacks-front (flat_map tag_bound protocol.tags) (coherence_bound protocol.coherence) y h))

    found-free : (p tag : ℕ) (o : Option Protocol) → slice_get d.inst.protocols p ≡ o → has (tag_bound (tag_in o tag)) y ≡ false
    found-free p tag None e = refl
    found-free p tag (Some protocol) e = tags-free protocol tag (subst IsFree (ap (λ o. unwrap_or o no_protocol) e) (protocol-free (Some p)))

    label-free : (o : Option ℕ) (tag : ℕ) → has (tag_bound (tag_in (protocol_found d.inst o) tag)) y ≡ false
    label-free (Some p) tag = found-free p tag (slice_get d.inst.protocols p) refl
    label-free None tag = refl

    pub tag-free : (own : Option ℕ) (label : Lab) (tag : ℕ) → has (tag_bound (tag_of d.inst own label tag)) y ≡ false
    tag-free None Own tag = refl
    tag-free None (At label) tag = label-free (slice_get d.inst.of label) tag
    tag-free (Some p) Own tag = label-free (Some p) tag
    tag-free (Some p) (At label) tag = refl

    pub received-free : (t : Tag) → has (tag_bound t) y ≡ false → Frees (receive_of t).guard
    received-free t h = at t.receive (lacks-back (bound_names t.send.guard) (transition_bound t.receive) y h)
      where
        at : (o : Option Transition) → has (transition_bound o) y ≡ false → Frees (unwrap_or o never).guard
        at (Some transition) k = k
        at None k = refl

    -- ---- facts

    label-facts-free : (label : ℕ) (c : Option Formula) → has (coherence_bound c) y ≡ false → Each (Lacks y) (coherence_fact d label c)
    label-facts-free label (Some f) h = (ap (λ bound. has bound y) (bound-changed (for_own label) f) ∙ h, tt)
    label-facts-free label None h = tt

    visible-free : (invariant : Invariant) (b : Bool) → Frees invariant.formula → Each (Lacks y) (if b then called invariant.sym invariant.formula ∷ [] else [])
    visible-free invariant true h = (h, tt)
    visible-free invariant false h = tt

    -- the facts of a world, with so many invariants
    pub world-facts-free : (count : ℕ) (world : World) → Each (Lacks y) (facts_of d count world)
    world-facts-free count world =
        each-append (Lacks y) (flat_map (coherence_at d) world.labels) (flat_map (visible_in d world) (take count d.invariants))
        (each-flat (Lacks y) (coherence_at d) world.labels (each-has (λ label. Each (Lacks y) (coherence_at d label)) world.labels (λ label m. label-facts-free label (protocol_at d.inst label).coherence (coherence-free (slice_get d.inst.of label)))))
        (each-flat (Lacks y) (visible_in d world) (take count d.invariants) (each-map (λ (v : Invariant). Frees v.formula) (λ v. Each (Lacks y) (visible_in d world v)) (take count d.invariants) (each-take (λ (v : Invariant). Frees v.formula) d.invariants count (λ j v l e. each-found (λ (v : Invariant). Frees v.formula) d.invariants j v invariants-free e))
        (λ v h. visible-free v (injects d (world_at d v.world) world) h)))

    facts-free : (i : ℕ) → Each (Lacks y) (facts_with d i)
    facts-free i = each-append (Lacks y) (facts_of d i (invariant_world d i)) (called (invariant_at d i).sym (invariant_at d i).formula ∷ []) (world-facts-free i (invariant_world d i)) (invariant-free i, tt)

    -- the hooks of a send with these terms
    pub step-hooks-free : (world : World) (label tag : ℕ) (step : SendStep) → Frees (all_hooks d world label tag step)
    step-hooks-free world label tag step = all-frees (map (λ hook. hook_seen step (hook_at d hook)) (filter (is_hook_of d label tag) world.hooks))
        (each-kept Frees (λ hook. hook_seen step (hook_at d hook)) (is_hook_of d label tag) world.hooks
        (λ hook m q. ap (λ bound. has bound y) (bound-in-step step.label step.sender to_word step.to (hook_at d hook).args step.args (hook_at d hook).formula) ∙ hook-free hook))

    hooks-free : (world : World) (label tag : ℕ) (names : List ℕ) → Frees (all_hooks d world label tag (send_by (At label) tag names))
    hooks-free world label tag names = step-hooks-free world label tag (send_by (At label) tag names)

    -- what is known of the two steps
    pub send-said-free : (known : Sequent) (step : SendStep) → Each (Lacks y) (send_hypotheses d.inst known step)
    send-said-free known step =
        let t = tag_of d.inst known.own step.label step.tag in (
          ap (λ bound. has bound y) (bound-in-step step.label step.sender to_word step.to (arg_names t.args) step.args t.send.guard) ∙ lacks-front (bound_names t.send.guard) (transition_bound t.receive) y (tag-free known.own step.label step.tag),
          (fits-free d.inst known (send_step d.inst known.own step) (spoken_of d.inst known.own step.label) t.send.updates, tt),
        )

    mine-free : (step : ReceiveStep) → Frees (is_mine step)
    unfolding opened
    mine-free step = refl

    pub receive-said-free : (known : Sequent) (step : ReceiveStep) → Each (Lacks y) (receive_hypotheses d.inst known step)
    receive-said-free known step =
        let t = tag_of d.inst known.own step.label step.tag in (
          mine-free step,
          (
            ap (λ bound. has bound y) (bound-in-step step.label step.receiver from_word (Msg step.msg From) (arg_names t.args) (args_of_message step.msg) (receive_of t).guard) ∙ received-free t (tag-free known.own step.label step.tag),
            (fits-free d.inst known (receive_step d.inst known.own step) (spoken_of d.inst known.own step.label) (receive_of t).updates, tt),
          ),
        )

    -- ---- sequents

    send-free : (own : Option ℕ) (label : Lab) (tag : ℕ) (names : List ℕ) (before hooks : List Hypothesis) (f : Formula) → Each (Lacks y) before → Each (Lacks y) hooks → Frees f → has (bound_in (send_sequent d.inst own label tag names before hooks f)) y ≡ false
    send-free own label tag names before hooks f b h g =
        let s = send_sequent d.inst own label tag names before hooks f in
        let step = send_by label tag names in
        let known = send_known d.inst own label tag names in
        lacks-all (flat_map (λ (h : Hypothesis). bound_names h.formula) s.facts) (bound_names s.goal) y
        (lacks-flat (λ (h : Hypothesis). bound_names h.formula) s.facts y (each-append (Lacks y) before (send_hypotheses d.inst known step ++ hooks) b (each-append (Lacks y) (send_hypotheses d.inst known step) hooks (send-said-free known step) h)))
        (bound-before (send_step d.inst own step) (λ m. false) f y ∙ g)

    receive-free : (own : Option ℕ) (label : Lab) (tag : ℕ) (names : List ℕ) (before : List Hypothesis) (f : Formula) → Each (Lacks y) before → Frees f → has (bound_in (receive_sequent d.inst own label tag names before f)) y ≡ false
    receive-free own label tag names before f b g =
        let s = receive_sequent d.inst own label tag names before f in
        let step = receive_by label tag names in
        let known = receive_known d.inst own label tag names in
        lacks-all (flat_map (λ (h : Hypothesis). bound_names h.formula) s.facts) (bound_names s.goal) y
        (lacks-flat (λ (h : Hypothesis). bound_names h.formula) s.facts y (each-append (Lacks y) before (receive_hypotheses d.inst known step) b (receive-said-free known step)))
        (bound-before (receive_step d.inst own step) (λ m. false) f y ∙ g)

    pub obligation-free : (duty : Duty) (names : List ℕ) → has (bound_in (sequent_of d duty names)) y ≡ false
    obligation-free (InitProtocol p) names = first-frees d.inst (Some p) (coherence_of d.inst p) (self-free p)
    obligation-free (InitInvariant i) names = first-frees d.inst None (invariant_at d i).formula (invariant-free i)
    obligation-free (StepProtocol p tag false) names = send-free (Some p) Own tag names (self_fact d.inst p) [] (coherence_of d.inst p) (self-free p, tt) tt (self-free p)
    obligation-free (StepProtocol p tag true) names = receive-free (Some p) Own tag names (self_fact d.inst p) (coherence_of d.inst p) (self-free p, tt) (self-free p)
    obligation-free (StepInvariant i label tag false) names =
        send-free None (At label) tag names (facts_with d i) (hooks_fact d (invariant_world d i) label tag names) (invariant_at d i).formula (facts-free i) (hooks-free (invariant_world d i) label tag names, tt) (invariant-free i)
    obligation-free (StepInvariant i label tag true) names = receive-free None (At label) tag names (facts_with d i) (invariant_at d i).formula (facts-free i) (invariant-free i)
    obligation-free _ names = refl

pub file-names : (d : Decls) (duty : Duty) (names : List ℕ) → length names ≡ names_taken d duty → AreDistinct names → Each (λ name. has (file_bound d) name ≡ false) names → MayTake d duty names
file-names d duty names count distinct free = record {
  count = count;
  distinct = distinct;
  unbound = each-map (λ name. has (file_bound d) name ≡ false) (λ name. has (bound_in (sequent_of d duty names)) name ≡ false) names free (λ name h. obligation-free name d h duty names);
}
