-- Where a program stands at a point, the names of its obligations fit and their hypotheses hold.
use Rattle.std.proofs.Common.{◌≡◌, ℕ, ℤ, pos, Bool, true, false, not, ◌&&◌, ◌==◌, if◌then◌else◌, int_le, ◌≤ℤ◌, T, Option, Some, None, List, [], ◌∷◌, ◌++◌, map, filter, length, refl, ap, sym, subst, ◌∙◌, eq-eqb, arith}
use Rattle.std.proofs.lemmas.Int.{ints}
use Rattle.std.specs.Int.Signed.{le_z_yes}
use Rattle.std.specs.List.{AllByRecursion as Each}
use Rattle.dl_term.specs.declared.syntax.Sort.{Sort}
use Rattle.dl_term.specs.declared.syntax.Term.{Term}
use Rattle.dl_term.specs.declared.syntax.Formula.{Formula, True}
use Rattle.dl_term.specs.Syntax.{opened}
use Rattle.dl_term.specs.State.{State}
use Rattle.dl_term.specs.Names.{Names}
use Rattle.dl_term.specs.Meaning.{value, holds}
use Rattle.dl_model.specs.declared.protocol.Instances.{Instances}
use Rattle.dl_model.specs.declared.sequent.Hypothesis.{Hypothesis}
use Rattle.dl_model.specs.declared.sequent.Sequent.{Sequent}
use Rattle.dl_model.specs.declared.file.Decls.{Decls}
use Rattle.dl_model.specs.Sorts.{in_sort, is_i64, has}
use Rattle.dl_model.specs.Lookup.{Parameter, arg_names, proc_at, world_of}
use Rattle.dl_model.specs.Words.{me_word}
use Rattle.dl_model.specs.Formed.{proc_variables, IsFormed}
use Rattle.dl_model.specs.States.{IsWellSorted}
use Rattle.dl_model.specs.Sequents.{Fits, FactsHold, IsValid}
use Rattle.dl_model.proofs.Small.{and-left, and-right, and-both, or-true-left, or-true-right}
use Rattle.dl_sequent.specs.Bounds.{bounds_of, lies_in, between, node_sort, in_sort_formula}
use Rattle.dl_sequent.specs.Grounds.{IsGrounded, IsOwn}
use Rattle.dl_sequent.proofs.Bounded.{bounds-sound}
use Rattle.dl_inv.specs.Joined.{is_true, nested, all_of}
use Rattle.dl_inv.specs.Steps.{called}
use Rattle.dl_inv.specs.Obligations.{with_sort}
use Rattle.dl_inv.proofs.Lists.{each-append, has-front, has-back}
use Rattle.dl_sound.specs.Obligations.{NamesAreSorted, StandsAt}
use Rattle.dl_sound.proofs.StepNames.{node-in-sort, node-is}
use Rattle.dl_sound.proofs.WorldFacts.{facts-say}
use Rattle.dl_sound.proofs.Hypotheses.{IsTrue}
use Rattle.dl_triples.specs.Words.{pre_word}
use Rattle.dl_triples.specs.Obligations.{int_sort, vars_of, facts_in, facts_at, known_in, holds_where}
use Rattle.dl_model.specs.declared.program.Proc.{Proc}

-- the same numbers, as the sequents of programs have them: without messages
abbrev pub plain : Names → Names
plain names = record { own = 0; number = names.number; message = λ m. None }

-- ---- numbers

to-T : (b : Bool) → b ≡ true → T b
to-T true e = tt
to-T false e = cc

from-T : (b : Bool) → T b → b ≡ true
from-T true h = refl
from-T false h = absurd h

pub le-true : (a b : ℤ) → int_le a b ≡ true → a ≤ℤ b
le-true a b h = le_z_yes (to-T (int_le a b) h)

le-through : (a b c : ℤ) → int_le a b ≡ true → int_le b c ≡ true → int_le a c ≡ true
le-through a b c p q = let x = le-true a b p in let y = le-true b c q in let z : a ≤ℤ c = omega (arith, ints, x, y) in from-T (int_le a c) z.le

module _ (names : Names) (state : State) where
  -- ---- what is joined

  nested-held : (fs : List Formula) → holds (nested fs) names state ≡ true → Each (IsTrue names state) fs
  unfolding opened
  nested-held [] h = tt
  nested-held (f ∷ []) h = (h, tt)
  nested-held (f ∷ g ∷ fs) h = (and-left _ _ h, nested-held (g ∷ fs) (and-right (holds f names state) _ h))

  is-true-holds : (f : Formula) → is_true f ≡ true → holds f names state ≡ true
  is-true-holds True e = refl
  is-true-holds _ e = cc

  first-held : (f : Formula) (fs : List Formula) (b : Bool) → is_true f ≡ b → Each (IsTrue names state) (if not b then f ∷ filter (λ g. not (is_true g)) fs else filter (λ g. not (is_true g)) fs)
      → (Each (IsTrue names state) (filter (λ g. not (is_true g)) fs) → Each (IsTrue names state) fs) → Each (IsTrue names state) (f ∷ fs)
  first-held f fs true e h rest = (is-true-holds f e, rest h)
  first-held f fs false e h rest = (h.0, rest h.1)

  kept-held : (fs : List Formula) → Each (IsTrue names state) (filter (λ g. not (is_true g)) fs) → Each (IsTrue names state) fs
  kept-held [] h = tt
  kept-held (f ∷ fs) h = first-held f fs (is_true f) refl h (kept-held fs)

  -- what is joined holds, so each of the formulas does
  pub all-held : (fs : List Formula) → holds (all_of fs) names state ≡ true → Each (IsTrue names state) fs
  all-held fs h = kept-held fs (nested-held (filter (λ g. not (is_true g)) fs) h)

  -- ---- sorts

  lies-within : (within sort : Sort) (v : ℤ) → (int_le sort.low within.low && int_le within.high sort.high) ≡ true → in_sort within v ≡ true → in_sort sort v ≡ true
  lies-within within sort v h k =
      and-both _ _ (le-through sort.low within.low v (and-left _ _ h) (and-left _ _ k)) (le-through v within.high sort.high (and-right (int_le within.low v) _ k) (and-right (int_le sort.low within.low) _ h))

  between-said : (b : Bool) (sort : Sort) (t : Term) → in_sort sort (value t names state) ≡ true → holds (if b then True else between sort t) names state ≡ true
  unfolding opened
  between-said true sort t h = refl
  between-said false sort t h = h

  between-meant : (sort : Sort) (t : Term) → holds (between sort t) names state ≡ true → in_sort sort (value t names state) ≡ true
  unfolding opened
  between-meant sort t h = h

  pub in-sort-said : (inst : Instances) (s : Sequent) (t : Term) (sort : Sort) → in_sort sort (value t names state) ≡ true → holds (in_sort_formula inst s t sort) names state ≡ true
  in-sort-said inst s t sort h = between-said (lies_in (bounds_of inst s t) sort) sort t h

  module _ (inst : Instances) (s : Sequent) (grounded : IsGrounded inst) (owner : s.own ≡ None) (sorted : IsWellSorted inst state) (fits : Fits s 0 state names) where
    -- the formula that says that a term is in a sort says so
    pub in-sort-held : (t : Term) (sort : Sort) → holds (in_sort_formula inst s t sort) names state ≡ true → in_sort sort (value t names state) ≡ true
    in-sort-held t sort h = at (bounds_of inst s t) refl h
      where
        told : (within : Sort) → bounds_of inst s t ≡ Some within → in_sort within (value t names state) ≡ true
        told within e = bounds-sound inst s t within grounded e 0 state names (subst (λ o. IsOwn inst o 0) (sym owner) tt) sorted fits

        chosen : (within : Sort) (b : Bool) → lies_in (Some within) sort ≡ b → bounds_of inst s t ≡ Some within → holds (if b then True else between sort t) names state ≡ true → in_sort sort (value t names state) ≡ true
        chosen within true lies e k = lies-within within sort (value t names state) lies (told within e)
        chosen within false lies e k = between-meant sort t k

        at : (o : Option Sort) → bounds_of inst s t ≡ o → holds (if lies_in (bounds_of inst s t) sort then True else between sort t) names state ≡ true → in_sort sort (value t names state) ≡ true
        at None e k = between-meant sort t (subst (λ o. holds (if lies_in o sort then True else between sort t) names state ≡ true) e k)
        at (Some within) e k = chosen within (lies_in (Some within) sort) refl e (subst (λ o. holds (if lies_in o sort then True else between sort t) names state ≡ true) e k)

module _ (d : Decls) (formed : IsFormed d) (number : ℕ) where
  abbrev proc : Proc
  proc = proc_at d.procs number

  -- the names have the numbers of these at the variables of the procedure, and `self` is nothing
  pub record Follows (n names : Names) : Type 0 where
    pub own : n.own ≡ 0
    pub same : (x : ℕ) → has (proc_variables proc) x ≡ true → n.number x ≡ names.number x

  pub plain-follows : (names : Names) → Follows (plain names) names
  plain-follows names = record { own = refl; same = λ x there. refl }

  module _ (node : ℕ) (names n : Names) (sorted : NamesAreSorted d number node names) (follows : Follows n names) where
    abbrev Fit : Parameter → Type 0
    Fit v = in_sort v.1 (n.number v.0) ≡ true

    params-fit : (params : List Parameter) → ((x : ℕ) → has (arg_names params) x ≡ true → has (proc_variables proc) x ≡ true) → Each (λ param. in_sort param.1 (names.number param.0) ≡ true) params → Each Fit params
    params-fit [] w h = tt
    params-fit (p ∷ params) w h = (
      ap (in_sort p.1) (follows.same p.0 (w p.0 (or-true-left (p.0 == p.0) (has (arg_names params) p.0) (eq-eqb p.0 p.0 refl)))) ∙ h.0,
      params-fit params (λ x there. w x (or-true-right (x == p.0) (has (arg_names params) x) there)) h.1,
    )

    locals-fit : (locals : List ℕ) → ((x : ℕ) → has locals x ≡ true → has proc.locals x ≡ true) → Each Fit (map (with_sort int_sort) locals)
    locals-fit [] w = tt
    locals-fit (x ∷ xs) w =
        let mine = w x (or-true-left (x == x) (has xs x) (eq-eqb x x refl)) in (
          ap is_i64 (follows.same x (or-true-right (x == me_word) (has (arg_names proc.params ++ proc.locals) x) (has-back (arg_names proc.params) proc.locals x mine))) ∙ sorted.locals x mine,
          locals-fit xs (λ z there. w z (or-true-right (z == x) (has xs z) there)),
        )

    -- `me` is a node
    pub me-is : n.number me_word ≡ pos node
    me-is = follows.same me_word (or-true-left (me_word == me_word) (has (arg_names proc.params ++ proc.locals) me_word) refl) ∙ sorted.me

    pub vars-fit : Each Fit (vars_of d proc)
    vars-fit = (
      ap (in_sort (node_sort d.inst.nodes)) me-is ∙ node-in-sort d.inst.nodes (pos node) (node-is d.inst.nodes node sorted.known),
      each-append Fit proc.params (map (with_sort int_sort) proc.locals)
          (params-fit proc.params (λ x there. or-true-right (x == me_word) (has (arg_names proc.params ++ proc.locals) x) (has-front (arg_names proc.params) proc.locals x there)) sorted.params)
          (locals-fit proc.locals (λ x there. there)),
    )

  module _ (node : ℕ) (names : Names) (state : State) (note : Formula) (stands : StandsAt d number node names state note) (n : Names) (follows : Follows n names) (noted : holds note n state ≡ true) where
    pub world-facts : FactsHold (facts_in d proc) n state
    world-facts = facts-say d formed n state follows.own (length d.invariants) (world_of d number) (record {
      coherences = stands.facts.coherences;
      invariants = λ i invariant less e injects. stands.facts.invariants i invariant e injects;
    })

    pub facts-hold : FactsHold (facts_at d proc note) n state
    facts-hold = each-append (λ h. holds h.formula n state ≡ true) (facts_in d proc) (called pre_word note ∷ []) world-facts (noted, tt)

    pub fits-where : Fits (known_in d proc) 0 state n
    fits-where = record { own_label = follows.own; variables = vars-fit node names n stands.named follows; messages = tt }

    -- the goal of a valid sequent holds
    pub valid-where : (more : List Hypothesis) (goal : Formula) → IsValid d.inst (holds_where d proc note more goal) → FactsHold more n state → holds goal n state ≡ true
    valid-where more goal valid h =
        valid 0 state n stands.sorted (record { own_label = follows.own; variables = vars-fit node names n stands.named follows; messages = tt })
        (each-append (λ h. holds h.formula n state ≡ true) (facts_at d proc note) more facts-hold h)
