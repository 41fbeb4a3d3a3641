-- The formula at the first state tells its names apart.
use Rattle.std.proofs.Common.{◌≡◌, ℕ, zero, suc, pos, Bool, true, false, if◌then◌else◌, Option, Some, None, List, [], ◌∷◌, refl, subst}
use Rattle.dl_term.specs.declared.syntax.Lab.TheVariants.{Own}
use Rattle.dl_term.specs.declared.syntax.Term.{Term, Num, Word, Var, Field', Row', Len, Msg, Add', Sub', Mul', If', more_of-Term as one, end_of-Term as end}
use Rattle.dl_term.specs.declared.syntax.Formula.{Formula, True, False, Eq, Lt, Le, Not', And', Or', Implies', All', Exists', Each', Any', more_of-Formula as one_formula, end_of-Formula as end_formula}
use Rattle.dl_term.specs.Syntax.{opened}
use Rattle.dl_model.specs.declared.protocol.Instances.{Instances}
use Rattle.dl_model.specs.Sorts.{has}
use Rattle.dl_model.specs.Spoken.{bound_names}
use Rattle.dl_model.specs.Words.{me_word}
use Rattle.dl_model.specs.Scopes.{Scope, with_variable, TermIsKnown, FormulaIsKnown}
use Rattle.dl_model.proofs.Small.{and-both}
use Rattle.dl_sequent.specs.Clean.{knows, is_told_apart}
use Rattle.dl_wp.specs.Steps.{names_in_step, spoken_of}
use Rattle.dl_wp.specs.First.{first_of, first_at, is_node_term, chain, value_first, read_first, term_first, at_first}
use Rattle.dl_inv.proofs.Told.{Inside, inside-front, inside-back, inside-unknown, inside-variable}
use Rattle.dl_inv.proofs.StepTold.{named-has, seen-known}

module _ (vars messages : List ℕ) where
  abbrev Knows : Term → Type 0
  Knows t = knows vars messages t ≡ true

  first-at-known : (first node : Term) → Knows node → Knows (first_at first node)
  first-at-known first node h = seen-known Own (names_in_step node me_word node [] []) vars messages (λ x. named-has Knows node me_word node [] [] x h h refl tt) first

  chain-known : (t : Term) (at : ℕ → Term) (n count : ℕ) → Knows t → ((k : ℕ) → Knows (at k)) → Knows (chain t at n count)
  unfolding opened
  chain-known t at n zero h k = refl
  chain-known t at n (suc count) h k = and-both _ _ (and-both _ _ h refl) (and-both _ _ (k n) (chain-known t at (suc n) count h k))

  node-known : (b : Bool) (nodes : ℕ) (t : Term) (at : Term → Term) → Knows t → ((u : Term) → Knows u → Knows (at u)) → Knows (if b then at t else chain t (λ n. at (Num (pos n))) 0 nodes)
  node-known true nodes t at h k = k t h
  node-known false nodes t at h k = chain-known t (λ n. at (Num (pos n))) 0 nodes h (λ n. k (Num (pos n)) refl)

  value-first-known : (nodes : ℕ) (first : Term) (index : Option Term) (node : Term) → ((i : Term) → index ≡ Some i → Knows i) → Knows node → Knows (value_first nodes first index node)
  value-first-known nodes first None node i h = first-at-known first node h
  value-first-known nodes first (Some index) node i h = node-known (is_node_term nodes index) nodes index (λ k. first_at first node) (i index refl) (λ u k. first-at-known first node h)

  read-first-known : (nodes : ℕ) (first : Term) (index : Option Term) (node : Term) → ((i : Term) → index ≡ Some i → Knows i) → Knows node → Knows (read_first nodes first index node)
  read-first-known nodes first index node i h = node-known (is_node_term nodes node) nodes node (value_first nodes first index) h (λ u k. value-first-known nodes first index u i k)

  term-first-known : (inst : Instances) (own : Option ℕ) (t : Term) (scope : Scope) → TermIsKnown scope t → ((x : ℕ) → has scope.variables x ≡ true → has vars x ≡ true) → ((m : ℕ) → has scope.messages m ≡ true → has messages m ≡ true) → Knows (term_first inst own t)
  unfolding opened
  term-first-known inst own (Num v) scope h p q = refl
  term-first-known inst own (Word x v) scope h p q = refl
  term-first-known inst own (Var x) scope h p q = p x h
  term-first-known inst own (Field' label field _ (one node end)) scope h p q =
      read-first-known inst.nodes (first_of (spoken_of inst own label) field) None (term_first inst own node) (λ i e. cc) (term-first-known inst own node scope h.1 p q)
  term-first-known inst own (Row' label field _ (one node end) _ (one index end)) scope h p q =
      read-first-known inst.nodes (first_of (spoken_of inst own label) field) (Some (term_first inst own index)) (term_first inst own node) (λ i e. index-is i e (term-first-known inst own index scope h.2 p q)) (term-first-known inst own node scope h.1 p q)
    where
      index-is : (i : Term) → Some (term_first inst own index) ≡ Some i → Knows (term_first inst own index) → Knows i
      index-is i e k = let same : term_first inst own index ≡ i = cc in subst Knows same k
  term-first-known inst own (Len label) scope h p q = refl
  term-first-known inst own (Msg m part) scope h p q = q m h.0
  term-first-known inst own (Add' _ (one a end) _ (one b end)) scope h p q = and-both _ _ (term-first-known inst own a scope h.0 p q) (term-first-known inst own b scope h.1 p q)
  term-first-known inst own (Sub' _ (one a end) _ (one b end)) scope h p q = and-both _ _ (term-first-known inst own a scope h.0 p q) (term-first-known inst own b scope h.1 p q)
  term-first-known inst own (Mul' _ (one a end) _ (one b end)) scope h p q = and-both _ _ (term-first-known inst own a scope h.0 p q) (term-first-known inst own b scope h.1 p q)
  term-first-known inst own (If' _ (one a end) _ (one b end) _ (one x end) _ (one y end)) scope h p q =
      and-both _ _ (and-both _ _ (term-first-known inst own a scope h.0 p q) (term-first-known inst own b scope h.1 p q)) (and-both _ _ (term-first-known inst own x scope h.2 p q) (term-first-known inst own y scope h.3 p q))

pub first-told : (inst : Instances) (own : Option ℕ) (f : Formula) (scope : Scope) (vars messages : List ℕ) → FormulaIsKnown scope f → Inside scope vars messages (bound_names f) → is_told_apart vars messages (at_first inst own f) ≡ true
unfolding opened
first-told inst own True scope vars messages h i = refl
first-told inst own False scope vars messages h i = refl
first-told inst own (Eq a b) scope vars messages h i = and-both _ _ (term-first-known vars messages inst own a scope h.0 i.variables i.messages_in) (term-first-known vars messages inst own b scope h.1 i.variables i.messages_in)
first-told inst own (Lt a b) scope vars messages h i = and-both _ _ (term-first-known vars messages inst own a scope h.0 i.variables i.messages_in) (term-first-known vars messages inst own b scope h.1 i.variables i.messages_in)
first-told inst own (Le a b) scope vars messages h i = and-both _ _ (term-first-known vars messages inst own a scope h.0 i.variables i.messages_in) (term-first-known vars messages inst own b scope h.1 i.variables i.messages_in)
first-told inst own (Not' _ (one_formula f end_formula)) scope vars messages h i = first-told inst own f scope vars messages h i
first-told inst own (And' _ (one_formula f end_formula) _ (one_formula g end_formula)) scope vars messages h i =
    and-both _ _ (first-told inst own f scope vars messages h.0 (inside-front scope vars messages (bound_names f) (bound_names g) i)) (first-told inst own g scope vars messages h.1 (inside-back scope vars messages (bound_names f) (bound_names g) i))
first-told inst own (Or' _ (one_formula f end_formula) _ (one_formula g end_formula)) scope vars messages h i =
    and-both _ _ (first-told inst own f scope vars messages h.0 (inside-front scope vars messages (bound_names f) (bound_names g) i)) (first-told inst own g scope vars messages h.1 (inside-back scope vars messages (bound_names f) (bound_names g) i))
first-told inst own (Implies' _ (one_formula f end_formula) _ (one_formula g end_formula)) scope vars messages h i =
    and-both _ _ (first-told inst own f scope vars messages h.0 (inside-front scope vars messages (bound_names f) (bound_names g) i)) (first-told inst own g scope vars messages h.1 (inside-back scope vars messages (bound_names f) (bound_names g) i))
first-told inst own (All' x _ (one_formula f end_formula)) scope vars messages h i =
    and-both _ _ (inside-unknown scope vars messages x (bound_names f) h.0 i) (first-told inst own f (with_variable scope x) (x ∷ vars) messages h.1 (inside-variable scope vars messages x (bound_names f) i))
first-told inst own (Exists' x _ (one_formula f end_formula)) scope vars messages h i =
    and-both _ _ (inside-unknown scope vars messages x (bound_names f) h.0 i) (first-told inst own f (with_variable scope x) (x ∷ vars) messages h.1 (inside-variable scope vars messages x (bound_names f) i))
first-told inst own (Each' m label tag _ (one_formula f end_formula)) scope vars messages h i = refl
first-told inst own (Any' m label tag _ (one_formula f end_formula)) scope vars messages h i = refl
