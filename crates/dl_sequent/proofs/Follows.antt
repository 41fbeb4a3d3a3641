-- A plain goal of a clean sequent follows from its hypotheses.
use Rattle.std.proofs.Common.{◌≡◌, ℕ, pos, Bool, true, false, not, ◌&&◌, ◌||◌, ◌==◌, List, [], ◌∷◌, ◌++◌, length, Option, Some, None, refl, ap, ◌⊎◌, inl, inr}
use Rattle.std.specs.Ordering.{int_eq}
use Rattle.std.proofs.lemmas.Bool.Decides.{Decides-int_eq}
use Rattle.std.specs.List.{AllByRecursion as Each, list_all}
use Rattle.dl_term.specs.declared.syntax.Term.{Term}
use Rattle.dl_term.specs.declared.syntax.Formula.{Formula, True, False, Eq, Lt, Le, Not', And', Or', Implies', All', Exists', Each' as Every', Any', more_of-Formula as one, end_of-Formula as end}
use Rattle.dl_term.specs.State.{State, soup_at, message_at, tag_of}
use Rattle.dl_term.specs.Names.{Names, Stored, with_number, with_message, label_of}
use Rattle.dl_term.specs.Meaning.{value, holds}
use Rattle.dl_term.specs.Same.{same_term}
use Rattle.dl_term.proofs.SameLemmas.{term-is}
use Rattle.dl_term.proofs.Quantifiers.{every_below-all}
use Rattle.dl_model.specs.declared.protocol.Instances.{Instances}
use Rattle.dl_model.specs.declared.sequent.Hypothesis.{Hypothesis}
use Rattle.dl_model.specs.declared.sequent.Sequent.{Sequent}
use Rattle.dl_model.specs.Sequents.{FactsHold, IsValidAt, IsValidFor, IsValid}
use Rattle.dl_sequent.specs.Clean.{is_unknown, is_told_apart, are_distinct, var_names, message_names, fact_names, IsClean}
use Rattle.dl_sequent.specs.Plain.{is_told_false, is_at_hand, is_plain, fact_formulas, is_plain_sequent}
use Rattle.dl_sequent.proofs.Facts.{and-left, and-right, either, told-false, at-hand-holds}
use Rattle.dl_sequent.proofs.Scoped.{FreeAreKnown, told-apart-known, with-variable, with-message, all-new-number, all-new-message}

-- the goal is at hand, or there is another reason
at-hand-or : (facts : List Formula) (goal : Formula) (more : Bool) (names : Names) (state : State) → (is_at_hand facts goal || more) ≡ true → Each (λ (f : Formula). holds f names state ≡ true) facts
    → (more ≡ true → holds goal names state ≡ true) → holds goal names state ≡ true
at-hand-or facts goal more names state h facts_hold other = elim (either (is_at_hand facts goal) more h) [
  | inl here ↦ at-hand-holds goal facts names state here facts_hold
  | inr reason ↦ other reason
]

both : (a b : Bool) → a ≡ true → b ≡ true → (a && b) ≡ true
both a b p q = rw (p, q) refl

one-of : (a b : Bool) → (a ≡ true) ⊎ (b ≡ true) → (a || b) ≡ true
one-of true b h = refl
one-of false b (inl h) = cc
one-of false b (inr h) = h

implied : (a b : Bool) → (a ≡ true → b ≡ true) → (not a || b) ≡ true
implied true b h = h refl
implied false b h = refl

equal-values : (a b : Term) (names : Names) (state : State) → same_term a b ≡ true → int_eq (value a names state) (value b names state) ≡ true
equal-values a b names state h = (Decides-int_eq (value a names state) (value b names state)).1 (ap (λ (t : Term). value t names state) (term-is a b h))

pub plain-holds : (vars messages : List ℕ) (facts : List Formula) (goal : Formula) (names : Names) (state : State) → Each (FreeAreKnown vars messages) facts → is_told_apart vars messages goal ≡ true
    → Each (λ (f : Formula). holds f names state ≡ true) facts → is_plain facts goal ≡ true → holds goal names state ≡ true
plain-holds vars messages facts True names state known apart facts_hold plain = refl
plain-holds vars messages facts False names state known apart facts_hold plain = at-hand-holds False facts names state plain facts_hold
plain-holds vars messages facts (Eq a b) names state known apart facts_hold plain =
    at-hand-or facts (Eq a b) (same_term a b) names state plain facts_hold (λ same. equal-values a b names state same)
plain-holds vars messages facts (Lt a b) names state known apart facts_hold plain = at-hand-holds (Lt a b) facts names state plain facts_hold
plain-holds vars messages facts (Le a b) names state known apart facts_hold plain = at-hand-holds (Le a b) facts names state plain facts_hold
plain-holds vars messages facts (Not' s (one f end)) names state known apart facts_hold plain = at-hand-holds (Not' s (one f end)) facts names state plain facts_hold
plain-holds vars messages facts (And' s (one f end) t (one g end)) names state known apart facts_hold plain =
    at-hand-or facts (And' s (one f end) t (one g end)) (is_plain facts f && is_plain facts g) names state plain facts_hold (λ parts.
    both (holds f names state) (holds g names state)
    (plain-holds vars messages facts f names state known (and-left _ _ apart) facts_hold (and-left _ _ parts))
    (plain-holds vars messages facts g names state known (and-right (is_told_apart vars messages f) _ apart) facts_hold (and-right (is_plain facts f) _ parts)))
plain-holds vars messages facts (Or' s (one f end) t (one g end)) names state known apart facts_hold plain =
    at-hand-or facts (Or' s (one f end) t (one g end)) (is_plain facts f || is_plain facts g) names state plain facts_hold (λ part.
    one-of (holds f names state) (holds g names state) (elim (either (is_plain facts f) (is_plain facts g) part) [
      | inl left ↦ inl (plain-holds vars messages facts f names state known (and-left _ _ apart) facts_hold left)
      | inr right ↦ inr (plain-holds vars messages facts g names state known (and-right (is_told_apart vars messages f) _ apart) facts_hold right)
    ]))
plain-holds vars messages facts (Implies' s (one f end) t (one g end)) names state known apart facts_hold plain =
    at-hand-or facts (Implies' s (one f end) t (one g end)) (is_told_false f || is_plain (f ∷ facts) g) names state plain facts_hold (λ part.
    implied (holds f names state) (holds g names state) (λ left. elim (either (is_told_false f) (is_plain (f ∷ facts) g) part) [
      | inl false_left ↦ let is_false = told-false f names state false_left in cc
      | inr right ↦ plain-holds vars messages (f ∷ facts) g names state (told-apart-known vars messages f (and-left _ _ apart), known)
          (and-right (is_told_apart vars messages f) _ apart) (left, facts_hold) right
    ]))
plain-holds vars messages facts (All' x s (one f end)) names state known apart facts_hold plain =
    at-hand-or facts (All' x s (one f end)) (is_plain facts f) names state plain facts_hold (λ body.
    every_below-all state.nodes (λ node. holds f (with_number names x (pos node)) state) (λ node below.
    plain-holds (x ∷ vars) messages facts f (with_number names x (pos node)) state (with-variable vars messages x facts known)
    (and-right (is_unknown vars messages x) _ apart)
    (all-new-number vars messages x (pos node) names state facts (and-left _ _ apart) known facts_hold) body))
plain-holds vars messages facts (Exists' x s (one f end)) names state known apart facts_hold plain = at-hand-holds (Exists' x s (one f end)) facts names state plain facts_hold
plain-holds vars messages facts (Every' m label tag s (one f end)) names state known apart facts_hold plain =
    at-hand-or facts (Every' m label tag s (one f end)) (is_plain facts f) names state plain facts_hold (λ body.
    every_below-all (length (soup_at state (label_of names.own label)))
    (λ id. not (tag_of (message_at state (label_of names.own label) id) == tag) || holds f (with_message names m (Stored (label_of names.own label) id)) state) (λ id below.
    implied (tag_of (message_at state (label_of names.own label) id) == tag) (holds f (with_message names m (Stored (label_of names.own label) id)) state) (λ tagged.
    plain-holds vars (m ∷ messages) facts f (with_message names m (Stored (label_of names.own label) id)) state (with-message vars messages m facts known)
    (and-right (is_unknown vars messages m) _ apart)
    (all-new-message vars messages m (Stored (label_of names.own label) id) names state facts (and-left _ _ apart) known facts_hold) body)))
plain-holds vars messages facts (Any' m label tag s (one f end)) names state known apart facts_hold plain = at-hand-holds (Any' m label tag s (one f end)) facts names state plain facts_hold

-- ---- sequents

facts-known : (vars messages : List ℕ) (facts : List Hypothesis) → list_all (λ (h : Hypothesis). is_told_apart vars messages h.formula) facts ≡ true → Each (FreeAreKnown vars messages) (fact_formulas facts)
facts-known vars messages [] h = tt
facts-known vars messages (f ∷ fs) h =
    (told-apart-known vars messages f.formula (and-left _ _ h), facts-known vars messages fs (and-right (is_told_apart vars messages f.formula) _ h))

facts-hold : (facts : List Hypothesis) (names : Names) (state : State) → FactsHold facts names state → Each (λ (f : Formula). holds f names state ≡ true) (fact_formulas facts)
facts-hold [] names state h = tt
facts-hold (f ∷ fs) names state h = (h.0, facts-hold fs names state h.1)

plain-valid-at : (inst : Instances) (s : Sequent) (own : ℕ) → IsClean s → is_plain_sequent s ≡ true → IsValidAt inst s own
plain-valid-at inst s own clean plain state names sorted fits facts =
    let formulas = and-right (are_distinct (var_names s ++ message_names s) && are_distinct (fact_names s)) _ clean in
    let known = facts-known (var_names s) (message_names s) s.facts (and-left _ _ formulas) in
    let apart = and-right (list_all (λ (h : Hypothesis). is_told_apart (var_names s) (message_names s) h.formula) s.facts) _ formulas in
    plain-holds (var_names s) (message_names s) (fact_formulas s.facts) s.goal names state known apart (facts-hold s.facts names state facts) plain

valid-for : (inst : Instances) (s : Sequent) (own : Option ℕ) → ((label : ℕ) → IsValidAt inst s label) → IsValidFor inst s own
valid-for inst s None each = each
valid-for inst s (Some protocol) each = λ label is. each label

pub plain-valid : (inst : Instances) (s : Sequent) → IsClean s → is_plain_sequent s ≡ true → IsValid inst s
plain-valid inst s clean plain = valid-for inst s s.own (λ label. plain-valid-at inst s label clean plain)
