-- What is built for a protocol and for an invariant is the sequent of the obligation.
use Rattle.std.proofs.Common.{◌≡◌, ℕ, Bool, true, false, ◌+◌, ◌||◌, List, [], ◌∷◌, ◌++◌, map, filter, drop, refl, ◌∙◌, ap, arith, Some, None}
use Rattle.std.specs.Prelude.{nat_lt}
use Rattle.std.proofs.lemmas.Bool.{lt-ltb, ltb-true}
use Rattle.std.specs.List.{sum_by, list_any}
use Rattle.dl_term.specs.declared.syntax.Lab.TheVariants.{Own, At}
use Rattle.dl_term.specs.declared.syntax.Term.{Term, Var}
use Rattle.dl_term.specs.Measures.{formula_parts, formula_nesting, is_oversized}
use Rattle.dl_model.specs.declared.sequent.Hypothesis.{Hypothesis}
use Rattle.dl_model.specs.declared.sequent.Sequent.{Sequent}
use Rattle.dl_model.specs.declared.file.Decls.{Decls}
use Rattle.dl_model.specs.Lookup.{hook_at}
use Rattle.dl_model.specs.Words.{to_word}
use Rattle.dl_sequent.specs.Sizes.{is_too_large}
use Rattle.dl_sequent.specs.declared.duty.Duty.TheVariants.{StepProtocol, StepInvariant}
use Rattle.dl_wp.specs.declared.steps.SendStep.{SendStep}
use Rattle.dl_wp.specs.declared.steps.ReceiveStep.{ReceiveStep}
use Rattle.dl_wp.specs.Before.{before_sent, before_received}
use Rattle.dl_wp.specs.Steps.{send_step, receive_step}
use Rattle.dl_wp.specs.Captures.{captures, nothing_around}
use Rattle.dl_inv.specs.declared.sequents.Home.{Home}
use Rattle.dl_inv.specs.declared.sequents.Claim.{Claim}
use Rattle.dl_inv.specs.Words.{self_word, hooks_word}
use Rattle.dl_inv.specs.Joined.{all_of}
use Rattle.dl_inv.specs.Steps.{name_at, called, send_by, receive_by, is_hook_of, hook_seen}
use Rattle.dl_inv.specs.Facts.{facts_of}
use Rattle.dl_inv.specs.Code.{hooks_put}
use Rattle.dl_inv.specs.Obligations.{send_known, receive_known, send_sequent, receive_sequent, coherence_of, invariant_at, invariant_world, facts_with, sequent_of}
use Rattle.dl_inv.specs.Taken.{captured}
use Rattle.dl_inv.specs.Built.{home_facts, hooks_in, send_with, receive_with, sent, received, kept, captured_by}
use Rattle.dl_inv.proofs.Building.{in-step-is}

-- ---- sizes

larger : (rest part : ℕ) (facts deep many : Bool) → nat_lt 1000000 part ≡ many → (many || deep) ≡ true → (nat_lt 1000000 (rest + part) || (facts || deep)) ≡ true
larger rest part facts deep true e h = ap (λ b. b || (facts || deep)) (lt-ltb 1000000 (rest + part) (let k = ltb-true 1000000 part e in omega (k, arith)))
larger rest part facts deep false e h = deep-last (nat_lt 1000000 (rest + part)) facts deep h
  where
    deep-last : (a b c : Bool) → c ≡ true → (a || (b || c)) ≡ true
    deep-last true b c h = refl
    deep-last false true c h = refl
    deep-last false false c h = h

-- a sequent whose goal is too large
pub goal-too-large : (s : Sequent) → is_oversized s.goal ≡ true → is_too_large s ≡ true
goal-too-large s h =
    larger (sum_by (λ (h : Hypothesis). formula_parts h.formula) s.facts) (formula_parts s.goal)
    (list_any (λ (h : Hypothesis). nat_lt 4000 (formula_nesting h.formula)) s.facts) (nat_lt 4000 (formula_nesting s.goal)) (nat_lt 1000000 (formula_parts s.goal)) refl h

-- ---- the coherence of a protocol

module _ (decls : Decls) (claim : Claim) (p tag : ℕ) (names : List ℕ) where
  pub protocol-kept : (receive : Bool) → claim.own ≡ Some p → claim.label ≡ Own → claim.name ≡ self_word → claim.formula.now ≡ coherence_of decls.inst p → claim.home ≡ None →
      kept decls claim tag receive names ≡ sequent_of decls (StepProtocol p tag receive) names
  protocol-kept true o l n f h = λ i. receive_sequent decls.inst (o i) (l i) tag names (home_facts decls (h i) ++ called (n i) (f i) ∷ []) (f i)
  protocol-kept false o l n f h =
      λ i. send_sequent decls.inst (o i) (l i) tag names (home_facts decls (h i) ++ called (n i) (f i) ∷ []) (hooks_in decls tag (Var (name_at names 0) ∷ Var (name_at names 1) ∷ map (λ x. Var x) (drop 2 names)) (h i)) (f i)

  pub protocol-quiet : (receive : Bool) → claim.own ≡ Some p → claim.label ≡ Own → claim.formula.now ≡ coherence_of decls.inst p →
      captured_by decls claim tag receive names ≡ captured decls (StepProtocol p tag receive) names
  protocol-quiet true o l f = λ i. captures (receive_step decls.inst (o i) (receive_by (l i) tag names)) nothing_around (f i)
  protocol-quiet false o l f = λ i. captures (send_step decls.inst (o i) (send_by (l i) tag names)) nothing_around (f i)

-- ---- an invariant

-- the hooks of a list, as the send meets them
hooks-met : (decls : Decls) (label tag : ℕ) (names hooks : List ℕ) →
    called hooks_word (all_of (hooks_put decls label tag (Var (name_at names 0) ∷ Var (name_at names 1) ∷ map (λ x. Var x) (drop 2 names)) hooks)) ∷ []
    ≡ called hooks_word (all_of (map (λ hook. hook_seen (send_by (At label) tag names) (hook_at decls hook)) (filter (is_hook_of decls label tag) hooks))) ∷ []
hooks-met decls label tag names hooks = λ i.
    called hooks_word (all_of (map (λ hook.
    in-step-is (Var (name_at names 0)) to_word (Var (name_at names 1)) (hook_at decls hook).args (map (λ x. Var x) (drop 2 names)) (At label) (hook_at decls hook).formula i)
    (filter (is_hook_of decls label tag) hooks))) ∷ []

module _ (decls : Decls) (claim : Claim) (home : Home) (position label tag : ℕ) (names : List ℕ) where
  pub invariant-kept : (receive : Bool) → claim.own ≡ None → claim.label ≡ At label → claim.name ≡ (invariant_at decls position).sym → claim.formula.now ≡ (invariant_at decls position).formula →
      claim.home ≡ Some home → home.position ≡ position → home.label ≡ label → home.world.labels.now ≡ (invariant_world decls position).labels → home.world.hooks.now ≡ (invariant_world decls position).hooks →
      kept decls claim tag receive names ≡ sequent_of decls (StepInvariant position label tag receive) names
  invariant-kept true o l n f h p a ls hs =
      let there : kept decls claim tag true names ≡ receive_sequent decls.inst None (At label) tag names (home_facts decls (Some home) ++ called (invariant_at decls position).sym (invariant_at decls position).formula ∷ []) (invariant_at decls position).formula =
      λ i. receive_sequent decls.inst (o i) (l i) tag names (home_facts decls (h i) ++ called (n i) (f i) ∷ []) (f i) in
      there
      ∙ (λ i. receive_sequent decls.inst None (At label) tag names
      (facts_of decls (p i) (record { sym = 0; labels = ls i; hooks = hs i }) ++ called (invariant_at decls position).sym (invariant_at decls position).formula ∷ []) (invariant_at decls position).formula)
  invariant-kept false o l n f h p a ls hs =
      let terms : List Term = Var (name_at names 0) ∷ Var (name_at names 1) ∷ map (λ x. Var x) (drop 2 names) in
      let inv = invariant_at decls position in
      let there : kept decls claim tag false names ≡ send_sequent decls.inst None (At label) tag names (home_facts decls (Some home) ++ called inv.sym inv.formula ∷ []) (hooks_in decls tag terms (Some home)) inv.formula =
      λ i. send_sequent decls.inst (o i) (l i) tag names (home_facts decls (h i) ++ called (n i) (f i) ∷ []) (hooks_in decls tag terms (h i)) (f i) in
      let then : send_sequent decls.inst None (At label) tag names (home_facts decls (Some home) ++ called inv.sym inv.formula ∷ []) (hooks_in decls tag terms (Some home)) inv.formula
      ≡ send_sequent decls.inst None (At label) tag names (facts_with decls position) (called hooks_word (all_of (hooks_put decls label tag terms (invariant_world decls position).hooks)) ∷ []) inv.formula =
      λ i. send_sequent decls.inst None (At label) tag names (facts_of decls (p i) (record { sym = 0; labels = ls i; hooks = hs i }) ++ called inv.sym inv.formula ∷ [])
      (called hooks_word (all_of (hooks_put decls (a i) tag terms (hs i))) ∷ []) inv.formula in
      there ∙ (then ∙ (λ i. send_sequent decls.inst None (At label) tag names (facts_with decls position) (hooks-met decls label tag names (invariant_world decls position).hooks i) inv.formula))

  pub invariant-quiet : (receive : Bool) → claim.own ≡ None → claim.label ≡ At label → claim.formula.now ≡ (invariant_at decls position).formula →
      captured_by decls claim tag receive names ≡ captured decls (StepInvariant position label tag receive) names
  invariant-quiet true o l f = λ i. captures (receive_step decls.inst (o i) (receive_by (l i) tag names)) nothing_around (f i)
  invariant-quiet false o l f = λ i. captures (send_step decls.inst (o i) (send_by (l i) tag names)) nothing_around (f i)

-- ---- a sequent, part by part: what is known of the step, and its goal

module _ (decls : Decls) (claim : Claim) (tag : ℕ) (names : List ℕ) (one two : Sequent) where
  pub sent-is : (step : SendStep) → step ≡ send_by claim.label tag names → one ≡ send_with decls claim step (send_known decls.inst claim.own claim.label tag names) →
      two ≡ record one { goal = before_sent decls.inst claim.own step claim.formula.now } → two ≡ sent decls claim tag names
  sent-is step s o e =
      e ∙ (λ i. record (o i) { goal = before_sent decls.inst claim.own step claim.formula.now })
      ∙ (λ i. record (send_with decls claim (s i) (send_known decls.inst claim.own claim.label tag names)) { goal = before_sent decls.inst claim.own (s i) claim.formula.now })

  pub received-is : (step : ReceiveStep) → step ≡ receive_by claim.label tag names → one ≡ receive_with decls claim step (receive_known decls.inst claim.own claim.label tag names) →
      two ≡ record one { goal = before_received decls.inst claim.own step claim.formula.now } → two ≡ received decls claim tag names
  received-is step s o e =
      e ∙ (λ i. record (o i) { goal = before_received decls.inst claim.own step claim.formula.now })
      ∙ (λ i. record (receive_with decls claim (s i) (receive_known decls.inst claim.own claim.label tag names)) { goal = before_received decls.inst claim.own (s i) claim.formula.now })
