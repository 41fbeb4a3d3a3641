-- The hypotheses of a step's obligation hold for a step of the model.
use Rattle.std.proofs.Common.{◌≡◌, ℕ, Bool, true, false, not, if◌then◌else◌, Option, Some, None, List, [], ◌∷◌, slice_get, filter, refl, ◌∙◌, ap, sym, subst}
use Rattle.std.specs.Option.{option_map}
use Rattle.std.specs.List.{AllByRecursion as Each, list_all, flat_map}
use Rattle.dl_term.specs.declared.syntax.Sort.{Sort}
use Rattle.dl_term.specs.declared.syntax.Term.{Term}
use Rattle.dl_term.specs.declared.syntax.Formula.{Formula, True}
use Rattle.dl_term.specs.Syntax.{opened}
use Rattle.dl_term.specs.State.{State}
use Rattle.dl_term.specs.Names.{Names}
use Rattle.dl_term.specs.Meaning.{value, holds}
use Rattle.dl_model.specs.declared.protocol.FieldDecl.{FieldDecl}
use Rattle.dl_model.specs.declared.protocol.Update.{Update}
use Rattle.dl_model.specs.declared.protocol.Protocol.{Protocol}
use Rattle.dl_model.specs.declared.protocol.Instances.{Instances}
use Rattle.dl_model.specs.declared.sequent.Sequent.{Sequent}
use Rattle.dl_model.specs.Sorts.{in_sort, is_node}
use Rattle.dl_model.specs.Lookup.{protocol_at, sort_in}
use Rattle.dl_model.specs.Steps.{index_fits as index_is_node, update_fits as fits}
use Rattle.dl_model.proofs.Small.{and-left, and-right, and-both}
use Rattle.dl_sequent.specs.Bounds.{bounds_of, lies_in, between, in_sort_formula, node_sort}
use Rattle.dl_wp.specs.Steps.{Step, seen}
use Rattle.dl_wp.proofs.Values.{Reads, value-seen}
use Rattle.dl_inv.specs.Joined.{is_true, nested, all_of}
use Rattle.dl_inv.specs.Steps.{index_fits, value_fits, update_fits, all_fit}
use Rattle.dl_inv.proofs.Lists.{each-append, each-flat}
use Rattle.dl_sound.proofs.StepNames.{node-in-sort}

abbrev pub IsTrue : Names → State → Formula → Type 0
IsTrue names state f = holds f names state ≡ true

module _ (names : Names) (state : State) where
  nested-holds : (fs : List Formula) → Each (IsTrue names state) fs → holds (nested fs) names state ≡ true
  unfolding opened
  nested-holds [] h = refl
  nested-holds (f ∷ []) h = h.0
  nested-holds (f ∷ g ∷ fs) h = and-both _ _ h.0 (nested-holds (g ∷ fs) h.1)

  keep-first : (b : Bool) (f : Formula) (fs : List Formula) → IsTrue names state f → Each (IsTrue names state) fs → Each (IsTrue names state) (if b then f ∷ fs else fs)
  keep-first true f fs h k = (h, k)
  keep-first false f fs h k = k

  kept-hold : (fs : List Formula) → Each (IsTrue names state) fs → Each (IsTrue names state) (filter (λ f. not (is_true f)) fs)
  kept-hold [] h = tt
  kept-hold (f ∷ fs) h = keep-first (not (is_true f)) f (filter (λ g. not (is_true g)) fs) h.0 (kept-hold fs h.1)

  pub all-hold : (fs : List Formula) → Each (IsTrue names state) fs → holds (all_of fs) names state ≡ true
  all-hold fs h = nested-holds (filter (λ f. not (is_true f)) fs) (kept-hold fs h)

  between-holds : (b : Bool) (sort : Sort) (t : Term) → in_sort sort (value t names state) ≡ true → holds (if b then True else between sort t) names state ≡ true
  unfolding opened
  between-holds true sort t h = refl
  between-holds false sort t h = h

  in-sort-holds : (inst : Instances) (s : Sequent) (t : Term) (sort : Sort) → in_sort sort (value t names state) ≡ true → holds (in_sort_formula inst s t sort) names state ≡ true
  in-sort-holds inst s t sort h = between-holds (lies_in (bounds_of inst s t) sort) sort t h

  -- ---- what a step updates

  module _ (inst : Instances) (known : Sequent) (step : Step) (label node : ℕ) (inner : Names) (reads : Reads step state label node names inner) (nodes : state.nodes ≡ inst.nodes) where
    index-holds : (o : Option Term) → index_is_node o inner state ≡ true → Each (IsTrue names state) (index_fits inst known step o)
    index-holds None h = tt
    index-holds (Some t) h = (
      in-sort-holds inst known (seen step t) (node_sort inst.nodes)
          (ap (in_sort (node_sort inst.nodes)) (value-seen step state label node names inner reads t)
          ∙ node-in-sort inst.nodes (value t inner state) (ap (λ n. is_node n (value t inner state)) (sym nodes) ∙ h)),
      tt,
    )

    value-holds : (t : Term) (o : Option FieldDecl) → in_sort (sort_in o) (value t inner state) ≡ true → Each (IsTrue names state) (value_fits inst known step t (option_map (λ (f : FieldDecl). f.sort) o))
    value-holds t None h = tt
    value-holds t (Some f) h = (in-sort-holds inst known (seen step t) f.sort (ap (in_sort f.sort) (value-seen step state label node names inner reads t) ∙ h), tt)

    module _ (protocol : Protocol) (at : protocol_at inst label ≡ protocol) where
      update-holds : (u : Update) → fits inst label inner state u ≡ true → Each (IsTrue names state) (update_fits inst known step (Some protocol) u)
      update-holds u h =
          each-append (IsTrue names state) (index_fits inst known step u.index) (value_fits inst known step u.value (option_map (λ (f : FieldDecl). f.sort) (slice_get protocol.fields u.field)))
          (index-holds u.index (and-left _ _ h))
          (value-holds u.value (slice_get protocol.fields u.field)
          (subst (λ (p : Protocol). in_sort (sort_in (slice_get p.fields u.field)) (value u.value inner state) ≡ true) at (and-right (index_is_node u.index inner state) _ h)))

      updates-hold : (us : List Update) → list_all (fits inst label inner state) us ≡ true → Each (λ u. Each (IsTrue names state) (update_fits inst known step (Some protocol) u)) us
      updates-hold [] h = tt
      updates-hold (u ∷ us) h = (update-holds u (and-left (fits inst label inner state u) _ h), updates-hold us (and-right (fits inst label inner state u) _ h))

      pub fits-hold : (o : Option Protocol) (us : List Update) → o ≡ Some protocol → list_all (fits inst label inner state) us ≡ true → holds (all_fit inst known step o us) names state ≡ true
      fits-hold o us is h =
          ap (λ p. holds (all_fit inst known step p us) names state) is
          ∙ all-hold (flat_map (update_fits inst known step (Some protocol)) us) (each-flat (IsTrue names state) (update_fits inst known step (Some protocol)) us (updates-hold us h))
