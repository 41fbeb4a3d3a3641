-- The facts of a world, and its hooks, hold where the model says so.
use Rattle.std.proofs.Common.{◌≡◌, ℕ, ℤ, pos, Bool, true, false, ◌==◌, if◌then◌else◌, Option, Some, None, List, [], ◌∷◌, map, filter, take, slice_get, refl, ◌∙◌, ap, sym}
use Rattle.std.proofs.lemmas.Bool.{eqb-true}
use Rattle.std.specs.Prelude.{is_some}
use Rattle.std.specs.List.{AllByRecursion as Each, AllZip, flat_map}
use Rattle.dl_term.specs.declared.syntax.Lab.{Lab}
use Rattle.dl_term.specs.declared.syntax.Lab.TheVariants.{Own, At}
use Rattle.dl_term.specs.declared.syntax.Term.{Term, Var}
use Rattle.dl_term.specs.declared.syntax.Formula.{Formula}
use Rattle.dl_term.specs.State.{State}
use Rattle.dl_term.specs.Names.{Names, no_names, label_of}
use Rattle.dl_term.specs.Meaning.{value, holds}
use Rattle.dl_model.specs.declared.sequent.Hypothesis.{Hypothesis}
use Rattle.dl_model.specs.declared.file.World.{World}
use Rattle.dl_model.specs.declared.file.Invariant.{Invariant}
use Rattle.dl_model.specs.declared.file.Decls.{Decls}
use Rattle.dl_model.specs.Sorts.{has}
use Rattle.dl_model.specs.Lookup.{protocol_at, world_at, hook_at}
use Rattle.dl_model.specs.Words.{me_word, to_word, send_names}
use Rattle.dl_model.specs.Steps.{Sending, Meets}
use Rattle.dl_model.specs.Spoken.{bound_names}
use Rattle.dl_model.specs.Scopes.{own_label, file_label, hook_label}
use Rattle.dl_model.specs.Safe.{coherence_holds}
use Rattle.dl_model.specs.Formed.{IsFormed}
use Rattle.dl_model.proofs.Small.{and-left, and-right}
use Rattle.dl_subst.specs.Substitution.{with_own}
use Rattle.dl_subst.proofs.Whole.{holds-with_label}
use Rattle.dl_wp.specs.Steps.{label_seen, names_in_step}
use Rattle.dl_wp.proofs.Model.{zip-covers, named-value, named-own}
use Rattle.dl_inv.specs.Steps.{called, send_by, hook_seen, is_hook_of, all_hooks}
use Rattle.dl_inv.specs.Facts.{injects, coherence_fact, coherence_at, visible_in, facts_of}
use Rattle.dl_inv.proofs.Lists.{each-has, each-append, true-false, each-flat, each-kept, kept-at, each-take}
use Rattle.dl_inv.proofs.FormedParts.{hook-local, coherence-known}
use Rattle.dl_inv.proofs.Injecting.{injects-is}
use Rattle.dl_inv.proofs.Clear.{IsOver}
use Rattle.dl_inv.proofs.Bound.{bound-changed, all-lack, turned}
use Rattle.dl_sound.specs.Obligations.{FactsBefore}
use Rattle.dl_sound.proofs.InStep.{seen_here, InStep, holds-in}
use Rattle.dl_sound.proofs.Scoped.{closed-same}
use Rattle.dl_sound.proofs.Hypotheses.{IsTrue, all-hold}
use Rattle.dl_sound.proofs.SendKept.{over-lacks}

-- ---- facts

module _ (d : Decls) (formed : IsFormed d) (names : Names) (state : State) (own : names.own ≡ 0) where
  abbrev Says : Hypothesis → Type 0
  Says h = holds h.formula names state ≡ true

  coherence-says : (label : ℕ) (c : Option Formula) → (protocol_at d.inst label).coherence ≡ c → coherence_holds c label state ≡ true → Each Says (coherence_fact d label c)
  coherence-says label None e h = tt
  coherence-says label (Some f) e h =
      let k = coherence-known d.inst formed.inst label f e in
      (holds-with_label f label names state ∙ closed-same (own_label k.0) f (with_own names label) (no_names label) state k.1 refl ∙ h, tt)

  pub formula-says : (i : ℕ) (invariant : Invariant) → slice_get d.invariants i ≡ Some invariant → holds invariant.formula (no_names 0) state ≡ true → holds invariant.formula names state ≡ true
  formula-says i invariant e h = closed-same (file_label d.inst) invariant.formula names (no_names 0) state (formed.invariants i invariant e).formula.0 own ∙ h

  visible-says : (world : World) (invariant : Invariant) (b : Bool) → (b ≡ true → holds invariant.formula names state ≡ true) → Each Says (if b then called invariant.sym invariant.formula ∷ [] else [])
  visible-says world invariant true h = (h refl, tt)
  visible-says world invariant false h = tt

  pub facts-say : (i : ℕ) (world : World) → FactsBefore d i world state → Each Says (facts_of d i world)
  facts-say i world facts = each-append Says (flat_map (coherence_at d) world.labels) (flat_map (visible_in d world) (take i d.invariants))
      (each-flat Says (coherence_at d) world.labels (each-has (λ label. Each Says (coherence_at d label)) world.labels (λ label m. coherence-says label (protocol_at d.inst label).coherence refl (facts.coherences label m))))
      (each-flat Says (visible_in d world) (take i d.invariants) (each-take (λ invariant. Each Says (visible_in d world invariant)) d.invariants i
      (λ j invariant less e. visible-says world invariant (injects d (world_at d invariant.world) world)
      (λ inj. formula-says j invariant e (facts.invariants j invariant less e (injects-is d (world_at d invariant.world) world inj))))))

-- ---- hooks

module _ (d : Decls) (formed : IsFormed d) (world : World) (label tag : ℕ) (names : Names) (state : State) (node : ℕ) (to : ℤ) (args : List ℤ) (own : names.own ≡ 0) (s t : ℕ) (xs : List ℕ)
    (read : AllZip (λ t v. value t names state ≡ v) (map (λ x. Var x) (s ∷ t ∷ xs)) (pos node ∷ to ∷ args))
    (over : (syms : List ℕ) (x : ℕ) → IsOver (s ∷ t ∷ xs) (names_in_step (Var s) to_word (Var t) syms (map (λ x. Var x) xs) x)) where
  abbrev ns : List ℕ
  ns = s ∷ t ∷ xs

  abbrev named : ℕ → ℕ → Term
  named hook = names_in_step (Var s) to_word (Var t) (hook_at d hook).args (map (λ x. Var x) xs)

  hook-own : (hook : ℕ) (l : Lab) → is_some (hook_label d.inst (hook_at d hook) l) ≡ true → label_of names.own (label_seen (At label) l) ≡ label_of 0 l
  hook-own hook Own h = cc
  hook-own hook (At l) h = refl

  hook-in : (hook : ℕ) → (own_fits : (send_names 0 (hook_at d hook).args node to args).own ≡ 0)
      → InStep (At label) to_word (hook_at d hook).args (named hook) state (hook_label d.inst (hook_at d hook)) (me_word ∷ to_word ∷ (hook_at d hook).args) names (send_names 0 (hook_at d hook).args node to args)
  hook-in hook e = record {
    own = λ l h. hook-own hook l h ∙ ap (λ n. label_of n l) (sym e);
    numbers = λ x m. named-value names state (Var s) (Var t) to_word (pos node) to 0 (hook_at d hook).args (map (λ x. Var x) xs) args x read.0 read.1.0 (zip-covers names state (hook_at d hook).args (map (λ x. Var x) xs) args read.1.1);
    others = λ x m n. absurd (true-false (has (me_word ∷ to_word ∷ (hook_at d hook).args) x) m n);
    within = λ x m. m;
  }

  pub hooks-say : Meets d world state node (Sending label tag to args) → ((y : ℕ) → has ns y ≡ true → has (bound_names (all_hooks d world label tag (send_by (At label) tag ns))) y ≡ false)
      → holds (all_hooks d world label tag (send_by (At label) tag ns)) names state ≡ true
  hooks-say meets lacks =
      all-hold names state (map (λ hook. hook_seen (send_by (At label) tag ns) (hook_at d hook)) (filter (is_hook_of d label tag) world.hooks))
      (each-kept (IsTrue names state) (λ hook. hook_seen (send_by (At label) tag ns) (hook_at d hook)) (is_hook_of d label tag) world.hooks says)
    where
      hook-lacks : (hook : ℕ) → has world.hooks hook ≡ true → is_hook_of d label tag hook ≡ true → (y : ℕ) → has ns y ≡ true → has (bound_names (hook_at d hook).formula) y ≡ false
      hook-lacks hook m q y there =
          ap (λ bound. has bound y) (sym (bound-changed (seen_here (At label) to_word (hook_at d hook).args (named hook) state (hook_label d.inst (hook_at d hook))) (hook_at d hook).formula))
          ∙ kept-at (λ f. has (bound_names f) y ≡ false) (λ hook. hook_seen (send_by (At label) tag ns) (hook_at d hook)) (is_hook_of d label tag) world.hooks hook
          (all-lack (map (λ hook. hook_seen (send_by (At label) tag ns) (hook_at d hook)) (filter (is_hook_of d label tag) world.hooks)) y (lacks y there)) m q

      says : (hook : ℕ) → has world.hooks hook ≡ true → is_hook_of d label tag hook ≡ true → IsTrue names state (hook_seen (send_by (At label) tag ns) (hook_at d hook))
      says hook m q =
          let is = hook-local d formed hook in
          holds-in (At label) to_word (hook_at d hook).args (named hook) state (hook_label d.inst (hook_at d hook)) (hook_at d hook).formula (me_word ∷ to_word ∷ (hook_at d hook).args) names (send_names 0 (hook_at d hook).args node to args)
          is.0.0 is.1
          (λ y bound x k. over-lacks ns (named hook x) y (over (hook_at d hook).args x) (turned (bound_names (hook_at d hook).formula) ns (hook-lacks hook m q) y bound))
          (hook-in hook (named-own 0 (pos node) to_word to (hook_at d hook).args args))
          ∙ meets hook m (eqb-true _ _ (and-left _ _ q)) (eqb-true _ _ (and-right ((hook_at d hook).client == label) _ q))
