-- Where the formula at the first state holds.
use Rattle.std.proofs.Common.{◌≡◌, ◌<◌, ◌≤◌, ◌+◌, ℕ, zero, suc, ℤ, pos, negsuc, ◌+ℤ◌, ◌-ℤ◌, ◌*ℤ◌, Bool, true, false, not, ◌&&◌, ◌||◌, ◌==◌, if◌then◌else◌, int_lt, int_le, nat_lt, List, [], ◌∷◌, length, map, Option, Some, None, is_some, slice_get, unwrap_or, refl, ◌∙◌, sym, ap, subst, eq-eqb, eqb-true, ltb-true, arith, ◌⊎◌, inl, inr}
use Rattle.std.proofs.lemmas.Bool.{cases_eq, lt-ltb}
use Rattle.std.proofs.lemmas.Option.{unwrap_or-slice_get}
use Rattle.std.proofs.lemmas.List.FromFn.{get_or-map-range_with_len, length-map-range_with_len}
use Rattle.std.specs.Prelude.{replicate}
use Rattle.std.specs.Ordering.{int_eq}
use Rattle.std.specs.List.{AllByRecursion as Each, range_with_len}
use Rattle.dl_term.specs.declared.syntax.Lab.{Lab}
use Rattle.dl_term.specs.declared.syntax.Lab.TheVariants.{Own}
use Rattle.dl_term.specs.declared.syntax.Term.{Term, Num, Word, Var, Field', Row', Len, Msg, Add', Sub', Mul', If, If', more_of-Term as one, end_of-Term as end}
use Rattle.dl_term.specs.declared.syntax.Formula.{Formula, True, False, Eq, Lt, Le, Not', And', Or', Implies', All', Exists', Each', Any', more_of-Formula as one_formula, end_of-Formula as end_formula}
use Rattle.dl_term.specs.Syntax.{opened}
use Rattle.dl_term.specs.State.{State, Statelet, Message, statelet, item, cell, field_at, soup_at, message_at, tag_of}
use Rattle.dl_term.specs.Names.{Names, Stored, with_number, with_message, label_of}
use Rattle.dl_term.specs.Meaning.{value, holds, every_below, some_below, every_message, some_message}
use Rattle.dl_term.specs.Measures.{has_variable, has_message, is_free_variable, is_free_message}
use Rattle.dl_term.proofs.Choices.{value-if}
use Rattle.dl_term.proofs.Quantifiers.{every_below-same, some_below-same}
use Rattle.dl_model.specs.declared.protocol.FieldDecl.{FieldDecl}
use Rattle.dl_model.specs.declared.protocol.Protocol.{Protocol}
use Rattle.dl_model.specs.declared.protocol.Instances.{Instances}
use Rattle.dl_model.specs.Sorts.{is_node, has}
use Rattle.dl_model.specs.Lookup.{no_protocol, protocol_in}
use Rattle.dl_model.specs.Scopes.{Scope, no_label, is_field, is_field_with, TermIsKnown}
use Rattle.dl_model.specs.States.{first_value, width, first_row, first_column, first_statelet, first_state}
use Rattle.dl_model.specs.Formed.{FieldIsFormed, InstancesAreFormed}
use Rattle.dl_model.specs.Words.{me_word, me_names, no_state}
use Rattle.dl_model.proofs.Small.{some-same, or-left, or-right, either-true, or-true-left, or-true-right}
use Rattle.dl_subst.specs.Change.{changed_term, and_name}
use Rattle.dl_wp.specs.Steps.{as_seen, names_in_step, spoken_of}
use Rattle.dl_wp.specs.First.{first_in, first_of, first_at, is_node_term, chain, at_node, value_first, read_first, term_first, at_first}
use Rattle.dl_wp.specs.Conditions.{TermFits, FormulaFits, IsOwn}
use Rattle.dl_wp.proofs.Cells.{int-true, int-false}
use Rattle.dl_wp.proofs.Model.{Spoken, spoken-is, decl-of}

-- ---- what stands at a node

-- what stands at the number, where it is one of a list of so many, and 0 elsewhere
abbrev at_number : ℕ → ℤ → (ℕ → ℤ) → ℤ
at_number nodes (pos n) each = if nat_lt n nodes then each n else pos 0
at_number nodes (negsuc n) each = pos 0

number-in : (nodes n : ℕ) (each : ℕ → ℤ) → n < nodes → at_number nodes (pos n) each ≡ each n
number-in nodes n each h = ap (λ b. if b then each n else pos 0) (lt-ltb n nodes h)

-- the same by choices, from the number n on
abbrev at_from : ℤ → ℕ → ℕ → (ℕ → ℤ) → ℤ
at_from w n zero each = pos 0
at_from w n (suc count) each = if int_eq w (pos n) then each n else at_from w (suc n) count each

from-other : (w : ℤ) (n count : ℕ) (each : ℕ → ℤ) → ((k : ℕ) → n ≤ k → k < n + count → w ≡ pos k → ⊥) → at_from w n count each ≡ pos 0
from-other w n zero each h = refl
from-other w n (suc count) each h =
    ap (λ b. if b then each n else at_from w (suc n) count each) (int-false w (pos n) (h n (omega arith) (omega arith)))
    ∙ from-other w (suc n) count each (λ k p q. h k (omega (p, arith)) (omega (q, arith)))

pos-same : (a b : ℕ) → pos a ≡ pos b → a ≡ b
pos-same a b e = cc

from-here : (m n count : ℕ) (each : ℕ → ℤ) → n ≤ m → m < n + count → at_from (pos m) n count each ≡ each m
from-here m n zero each p q = absurd (omega (p, q, arith))
from-here m n (suc count) each p q = elim (cases_eq m n) [
  | inl e ↦ ap (λ b. if b then each n else at_from (pos m) (suc n) count each) (int-true (pos m) (pos n) (ap pos e)) ∙ ap each (sym e)
  | inr o ↦ ap (λ b. if b then each n else at_from (pos m) (suc n) count each) (int-false (pos m) (pos n) (λ e. o (pos-same m n e)))
      ∙ from-here m (suc n) count each (omega (p, o, arith)) (omega (q, arith))
]

not-below : (m nodes : ℕ) → nat_lt m nodes ≡ false → m < nodes → ⊥
not-below m nodes e h = let yes = lt-ltb m nodes h in cc

from-number : (w : ℤ) (nodes : ℕ) (each : ℕ → ℤ) → at_from w 0 nodes each ≡ at_number nodes w each
from-number (negsuc m) nodes each = from-other (negsuc m) 0 nodes each (λ k p q e. cc)
from-number (pos m) nodes each = go (nat_lt m nodes) refl
  where
    go : (b : Bool) → nat_lt m nodes ≡ b → at_from (pos m) 0 nodes each ≡ (if b then each m else pos 0)
    go true e = let below = ltb-true m nodes e in from-here m 0 nodes each (omega arith) (omega (below, arith))
    go false e = from-other (pos m) 0 nodes each (λ k p q f. not-below m nodes e (subst (λ j. j < nodes) (sym (pos-same m k f)) (omega (q, arith))))

-- ---- the fields of the first state

past-end : {X : Type 0} (xs : List X) (i : ℕ) (d : X) → length xs ≤ i → unwrap_or (slice_get xs i) d ≡ d
past-end [] i d h = refl
past-end (x ∷ xs) zero d h = absurd (omega (h, arith))
past-end (x ∷ xs) (suc i) d h = past-end xs i d (omega (h, arith))

item-none : (i : ℤ) → item [] i (pos 0) ≡ pos 0
item-none (pos n) = refl
item-none (negsuc n) = refl

column-at : (nodes : ℕ) (decl : FieldDecl) (w i : ℤ) → item (item (first_column nodes decl) w []) i (pos 0) ≡ at_number nodes w (λ n. item (first_row nodes decl n) i (pos 0))
column-at nodes decl (negsuc m) i = item-none i
column-at nodes decl (pos m) i = go (nat_lt m nodes) refl
  where
    go : (b : Bool) → nat_lt m nodes ≡ b → item (item (first_column nodes decl) (pos m) []) i (pos 0) ≡ (if b then item (first_row nodes decl m) i (pos 0) else pos 0)
    go true e = ap (λ row. item row i (pos 0)) (unwrap_or-slice_get (first_column nodes decl) m [] ∙ get_or-map-range_with_len (first_row nodes decl) 0 nodes m m [] (ltb-true m nodes e) (omega arith))
    go false e =
        ap (λ row. item row i (pos 0)) (past-end (first_column nodes decl) m [] (subst (λ n. n ≤ m) (sym (length-map-range_with_len (first_row nodes decl) 0 nodes)) (let no = not-below m nodes e in omega (no, arith))))
        ∙ item-none i

replicate-at : (k m : ℕ) (v : ℤ) → m < k → unwrap_or (slice_get (replicate k v) m) (pos 0) ≡ v
replicate-at zero m v h = absurd (omega (h, arith))
replicate-at (suc k) zero v h = refl
replicate-at (suc k) (suc m) v h = replicate-at k m v (omega (h, arith))

length-replicated : (k : ℕ) (v : ℤ) → length (replicate k v) ≡ k
length-replicated zero v = refl
length-replicated (suc k) v = ap suc (length-replicated k v)

row-at : (k : ℕ) (v i : ℤ) → item (replicate k v) i (pos 0) ≡ at_number k i (λ n. v)
row-at k v (negsuc m) = refl
row-at k v (pos m) = go (nat_lt m k) refl
  where
    go : (b : Bool) → nat_lt m k ≡ b → unwrap_or (slice_get (replicate k v) m) (pos 0) ≡ (if b then v else pos 0)
    go true e = replicate-at k m v (ltb-true m k e)
    go false e = past-end (replicate k v) m (pos 0) (subst (λ n. n ≤ m) (sym (length-replicated k v)) (let no = not-below m k e in omega (no, arith)))

-- the numbers of a field, or of a row, by its declaration
first-statelets : (inst : Instances) (of : List ℕ) (label p : ℕ) (d : Statelet) → slice_get of label ≡ Some p → unwrap_or (slice_get (map (first_statelet inst) of) label) d ≡ first_statelet inst p
first-statelets inst [] label p d e = cc
first-statelets inst (q ∷ of) zero p d e = ap (first_statelet inst) (some-same q p e)
first-statelets inst (q ∷ of) (suc label) p d e = first-statelets inst of label p d e

mapped-get : {X Y : Type 0} (f : X → Y) (xs : List X) (n : ℕ) (x : X) → slice_get xs n ≡ Some x → slice_get (map f xs) n ≡ Some (f x)
mapped-get f [] n x e = cc
mapped-get f (y ∷ ys) zero x e = ap (λ z. Some (f z)) (some-same y x e)
mapped-get f (y ∷ ys) (suc n) x e = mapped-get f ys n x e

no-soup : (inst : Instances) (of : List ℕ) (label : ℕ) → (unwrap_or (slice_get (map (first_statelet inst) of) label) (record { fields = []; soup = [] })).soup ≡ []
no-soup inst [] label = refl
no-soup inst (p ∷ of) zero = refl
no-soup inst (p ∷ of) (suc label) = no-soup inst of label

first-field : (inst : Instances) (label p : ℕ) (protocol : Protocol) (field : ℕ) (decl : FieldDecl) (w i : ℤ) → slice_get inst.of label ≡ Some p → slice_get inst.protocols p ≡ Some protocol → slice_get protocol.fields field ≡ Some decl
    → field_at (first_state inst) label field w i ≡ at_number inst.nodes w (λ n. item (first_row inst.nodes decl n) i (pos 0))
first-field inst label p protocol field decl w i e f g =
    ap (λ (s : Statelet). cell s.fields field w i) (first-statelets inst inst.of label p _ e)
    ∙ ap (λ o. item (item (unwrap_or o []) w []) i (pos 0)) (mapped-get (first_column inst.nodes) (protocol_in inst (Some p)).fields field decl (ap (λ o. slice_get (unwrap_or o no_protocol).fields field) f ∙ g))
    ∙ column-at inst.nodes decl w i

-- ---- first values

module _ (node : Term) (n : ℕ) (names : Names) (state : State) (is : value node names state ≡ pos n) where
  me-value : (b : Bool) → value (if b then node else if b then node else Num (pos 0)) names state ≡ (if b then pos n else pos 0)
  me-value true = is
  me-value false = refl

  value-first : (t : Term) → TermIsKnown (record { protocol = no_label; variables = me_word ∷ []; messages = [] }) t → value (first_at t node) names state ≡ value t (me_names 0 (pos n)) no_state
  unfolding opened
  value-first (Num v) h = refl
  value-first (Word x v) h = refl
  value-first (Var x) h = me-value (x == me_word)
  value-first (Field' l f _ (one a end)) h = absurd (let no = h.0 in cc)
  value-first (Row' l f _ (one a end) _ (one b end)) h = absurd (let no = h.0 in cc)
  value-first (Len l) h = absurd (cc)
  value-first (Msg m part) h = absurd (let no = h.0 in cc)
  value-first (Add' _ (one a end) _ (one b end)) h = let p = value-first a h.0 in let q = value-first b h.1 in λ i. p i +ℤ q i
  value-first (Sub' _ (one a end) _ (one b end)) h = let p = value-first a h.0 in let q = value-first b h.1 in λ i. p i -ℤ q i
  value-first (Mul' _ (one a end) _ (one b end)) h = let p = value-first a h.0 in let q = value-first b h.1 in λ i. p i *ℤ q i
  value-first (If' _ (one a end) _ (one b end) _ (one x end) _ (one y end)) h =
      let p = value-first a h.0 in let q = value-first b h.1 in let r = value-first x h.2 in let s = value-first y h.3 in
      λ i. if int_eq (p i) (q i) then r i else s i

chain-value : (t : Term) (at : ℕ → Term) (n count : ℕ) (names : Names) (state : State) (each : ℕ → ℤ) → ((k : ℕ) → value (at k) names state ≡ each k) → value (chain t at n count) names state ≡ at_from (value t names state) n count each
unfolding opened
chain-value t at n zero names state each h = refl
chain-value t at n (suc count) names state each h =
    let rest = chain-value t at (suc n) count names state each h in
    λ i. if int_eq (value t names state) (pos n) then h n i else rest i

-- names whose bound variables stand for nodes
abbrev AreNodes : ℕ → (ℕ → Bool) → Names → Type 0
AreNodes nodes bound names = (x : ℕ) → bound x ≡ true → (n : ℕ) × (names.number x ≡ pos n) × (n < nodes)

node-value : (nodes : ℕ) (t : Term) (bound : ℕ → Bool) (names : Names) (state : State) → is_node_term nodes t ≡ true → ((x : ℕ) → has_variable t x ≡ true → bound x ≡ true) → AreNodes nodes bound names
    → (n : ℕ) × (value t names state ≡ pos n) × (n < nodes)
node-value nodes (Num (pos n)) bound names state h free known = (n, refl, ltb-true n nodes h)
node-value nodes (Num (negsuc n)) bound names state h free known = cc
node-value nodes (Word x (pos n)) bound names state h free known = (n, refl, ltb-true n nodes h)
node-value nodes (Word x (negsuc n)) bound names state h free known = cc
node-value nodes (Var x) bound names state h free known = known x (free x (eq-eqb x x refl))
node-value nodes _ bound names state h free known = cc

-- a choice by the node that a term is
at-node-value : (nodes : ℕ) (t : Term) (at : Term → Term) (bound : ℕ → Bool) (names : Names) (state : State) (each : ℕ → ℤ) → ((x : ℕ) → has_variable t x ≡ true → bound x ≡ true) → AreNodes nodes bound names
    → ((u : Term) (n : ℕ) → value u names state ≡ pos n → value (at u) names state ≡ each n) → value (at_node nodes t at) names state ≡ at_number nodes (value t names state) each
at-node-value nodes t at bound names state each free known h = go (is_node_term nodes t) refl
  where
    go : (b : Bool) → is_node_term nodes t ≡ b → value (if b then at t else chain t (λ n. at (Num (pos n))) 0 nodes) names state ≡ at_number nodes (value t names state) each
    go true e =
        let n = node-value nodes t bound names state e free known in
        h t n.0 n.1 ∙ sym (number-in nodes n.0 each n.2) ∙ ap (λ v. at_number nodes v each) (sym n.1)
    go false e = chain-value t (λ n. at (Num (pos n))) 0 nodes names state each (λ k. h (Num (pos k)) k refl) ∙ from-number (value t names state) nodes each

-- ---- the variables of a term at the first state

module _ (bound : ℕ → Bool) where
  abbrev Vars : Term → Type 0
  Vars t = (x : ℕ) → has_variable t x ≡ true → bound x ≡ true

  both-vars : (a b : Term) → Vars a → Vars b → (x : ℕ) → (has_variable a x || has_variable b x) ≡ true → bound x ≡ true
  both-vars a b p q x h = elim (either-true (has_variable a x) (has_variable b x) h) [ inl l ↦ p x l | inr r ↦ q x r ]

  left-vars : (a b : Term) → ((x : ℕ) → (has_variable a x || has_variable b x) ≡ true → bound x ≡ true) → Vars a
  left-vars a b h x e = h x (or-true-left (has_variable a x) (has_variable b x) e)

  right-vars : (a b : Term) → ((x : ℕ) → (has_variable a x || has_variable b x) ≡ true → bound x ≡ true) → Vars b
  right-vars a b h x e = h x (or-true-right (has_variable a x) (has_variable b x) e)

  if-vars : (a b c d : Term) → Vars a → Vars b → Vars c → Vars d → Vars (If a b c d)
  unfolding opened
  if-vars a b c d p q r s x h = elim (either-true (has_variable a x || has_variable b x) (has_variable c x || has_variable d x) h) [
    | inl l ↦ both-vars a b p q x l
    | inr k ↦ both-vars c d r s x k
  ]

  named-vars : (b : Bool) (u : Term) → Vars u → Vars (if b then u else if b then u else Num (pos 0))
  named-vars true u h = h
  named-vars false u h = λ x e. cc

  first-vars : (t u : Term) → Vars u → Vars (first_at t u)
  unfolding opened
  first-vars (Num v) u h x e = cc
  first-vars (Word y v) u h x e = cc
  first-vars (Var y) u h x e = named-vars (y == me_word) u h x e
  first-vars (Field' l f _ (one a end)) u h x e = first-vars a u h x e
  first-vars (Row' l f _ (one a end) _ (one b end)) u h x e = both-vars (first_at a u) (first_at b u) (first-vars a u h) (first-vars b u h) x e
  first-vars (Len l) u h x e = cc
  first-vars (Msg m part) u h x e = cc
  first-vars (Add' _ (one a end) _ (one b end)) u h x e = both-vars (first_at a u) (first_at b u) (first-vars a u h) (first-vars b u h) x e
  first-vars (Sub' _ (one a end) _ (one b end)) u h x e = both-vars (first_at a u) (first_at b u) (first-vars a u h) (first-vars b u h) x e
  first-vars (Mul' _ (one a end) _ (one b end)) u h x e = both-vars (first_at a u) (first_at b u) (first-vars a u h) (first-vars b u h) x e
  first-vars (If' _ (one a end) _ (one b end) _ (one c end) _ (one d end)) u h x e =
      if-vars (first_at a u) (first_at b u) (first_at c u) (first_at d u) (first-vars a u h) (first-vars b u h) (first-vars c u h) (first-vars d u h) x e

  chain-vars : (t : Term) (at : ℕ → Term) (n count : ℕ) → Vars t → ((k : ℕ) → Vars (at k)) → Vars (chain t at n count)
  chain-vars t at n zero h k x e = cc
  chain-vars t at n (suc count) h k x e = if-vars t (Num (pos n)) (at n) (chain t at (suc n) count) h (λ y f. absurd (cc)) (k n) (chain-vars t at (suc n) count h k) x e

  at-node-vars : (nodes : ℕ) (t : Term) (at : Term → Term) → Vars t → ((u : Term) → Vars u → Vars (at u)) → Vars (at_node nodes t at)
  at-node-vars nodes t at h k = go (is_node_term nodes t)
    where
      go : (b : Bool) → Vars (if b then at t else chain t (λ n. at (Num (pos n))) 0 nodes)
      go true = k t h
      go false = chain-vars t (λ n. at (Num (pos n))) 0 nodes h (λ n. k (Num (pos n)) (λ y f. absurd (cc)))

  term-vars : (inst : Instances) (own : Option ℕ) (t : Term) → Vars t → Vars (term_first inst own t)
  unfolding opened
  term-vars inst own (Num v) h = h
  term-vars inst own (Word y v) h = h
  term-vars inst own (Var y) h = h
  term-vars inst own (Field' l f _ (one a end)) h =
      at-node-vars inst.nodes (term_first inst own a) (value_first inst.nodes (first_of (spoken_of inst own l) f) None) (term-vars inst own a h) (λ u k. first-vars (first_of (spoken_of inst own l) f) u k)
  term-vars inst own (Row' l f _ (one a end) _ (one b end)) h =
      let first = first_of (spoken_of inst own l) f in
      at-node-vars inst.nodes (term_first inst own a) (value_first inst.nodes first (Some (term_first inst own b))) (term-vars inst own a (left-vars a b h))
      (λ u k. at-node-vars inst.nodes (term_first inst own b) (λ i. first_at first u) (term-vars inst own b (right-vars a b h)) (λ i j. first-vars first u k))
  term-vars inst own (Len l) h = λ x e. cc
  term-vars inst own (Msg m part) h = h
  term-vars inst own (Add' _ (one a end) _ (one b end)) h = both-vars (term_first inst own a) (term_first inst own b) (term-vars inst own a (left-vars a b h)) (term-vars inst own b (right-vars a b h))
  term-vars inst own (Sub' _ (one a end) _ (one b end)) h = both-vars (term_first inst own a) (term_first inst own b) (term-vars inst own a (left-vars a b h)) (term-vars inst own b (right-vars a b h))
  term-vars inst own (Mul' _ (one a end) _ (one b end)) h = both-vars (term_first inst own a) (term_first inst own b) (term-vars inst own a (left-vars a b h)) (term-vars inst own b (right-vars a b h))
  term-vars inst own (If' _ (one a end) _ (one b end) _ (one c end) _ (one d end)) h =
      if-vars (term_first inst own a) (term_first inst own b) (term_first inst own c) (term_first inst own d)
      (term-vars inst own a (λ x e. h x (or-true-left _ _ (or-true-left _ _ e)))) (term-vars inst own b (λ x e. h x (or-true-left _ _ (or-true-right (has_variable a x) _ e))))
      (term-vars inst own c (λ x e. h x (or-true-right (has_variable a x || has_variable b x) _ (or-true-left _ _ e)))) (term-vars inst own d (λ x e. h x (or-true-right (has_variable a x || has_variable b x) _ (or-true-right (has_variable c x) _ e))))

-- ---- terms and formulas

each-get : {X : Type 0} (P : X → Type 0) (xs : List X) (n : ℕ) (x : X) → slice_get xs n ≡ Some x → Each P xs → P x
each-get P [] n x e h = cc
each-get P (y ∷ ys) zero x e h = subst P (some-same y x e) h.0
each-get P (y ∷ ys) (suc n) x e h = each-get P ys n x e h.1

module _ (inst : Instances) (own : Option ℕ) (o : ℕ) (state : State) (formed : InstancesAreFormed inst) (nodes : state.nodes ≡ inst.nodes)
    (spoken : (l : Lab) (protocol : Protocol) → spoken_of inst own l ≡ Some protocol → Spoken inst (label_of o l) protocol) where
  -- the declaration of a field that is read
  record Declared (l : Lab) (field : ℕ) (row : Bool) : Type 0 where
    protocol : Protocol
    at : Spoken inst (label_of o l) protocol
    decl : FieldDecl
    there : slice_get protocol.fields field ≡ Some decl
    kind : decl.row ≡ row
    first : first_of (spoken_of inst own l) field ≡ decl.first
    known : TermIsKnown (record { protocol = no_label; variables = me_word ∷ []; messages = [] }) decl.first

  declared : (l : Lab) (field : ℕ) (row : Bool) → is_field (spoken_of inst own l) field row ≡ true → Declared l field row
  declared l field row fits = go (spoken_of inst own l) refl fits
    where
      go : (s : Option Protocol) → spoken_of inst own l ≡ s → is_field s field row ≡ true → Declared l field row
      go None e f = cc
      go (Some p) e f =
          let s = spoken l p e in
          let d = decl-of (slice_get p.fields field) row f in
          record {
            protocol = p;
            at = s;
            decl = d.0;
            there = d.1;
            kind = d.2;
            first = ap (λ q. first_of q field) e ∙ ap first_in d.1;
            known = (each-get (FieldIsFormed inst.nodes) p.fields field d.0 d.1 (formed.protocols s.number p s.listed).fields).first.0;
          }

  field-first : (l : Lab) (field : ℕ) (t : Term) (w : ℤ) (bound : ℕ → Bool) (names : Names) → names.own ≡ o → is_field (spoken_of inst own l) field false ≡ true → Vars bound t → AreNodes inst.nodes bound names → value t names state ≡ w
      → value (read_first inst.nodes (first_of (spoken_of inst own l) field) None t) names state ≡ field_at (first_state inst) (label_of names.own l) field w (pos 0)
  field-first l field t w bound names is fits free known e =
      let d = declared l field false fits in
      let decl = d.decl in
      ap (λ first. value (read_first inst.nodes first None t) names state) d.first
      ∙ at-node-value inst.nodes t (λ u. first_at decl.first u) bound names state (first_value decl) free known (λ u n f. value-first u n names state f decl.first d.known)
      ∙ ap (λ v. at_number inst.nodes v (first_value decl)) e
      ∙ ap (λ b. at_number inst.nodes w (λ n. item (replicate (if b then inst.nodes else 1) (first_value decl n)) (pos 0) (pos 0))) (sym d.kind)
      ∙ sym (first-field inst (label_of o l) d.at.number d.protocol field decl w (pos 0) d.at.of d.at.listed d.there)
      ∙ ap (λ k. field_at (first_state inst) (label_of k l) field w (pos 0)) (sym is)

  row-first : (l : Lab) (field : ℕ) (t u : Term) (w z : ℤ) (bound : ℕ → Bool) (names : Names) → names.own ≡ o → is_field (spoken_of inst own l) field true ≡ true → Vars bound t → Vars bound u → AreNodes inst.nodes bound names → value t names state ≡ w → value u names state ≡ z
      → value (read_first inst.nodes (first_of (spoken_of inst own l) field) (Some u) t) names state ≡ field_at (first_state inst) (label_of names.own l) field w z
  row-first l field t u w z bound names is fits free free' known e f =
      let d = declared l field true fits in
      let decl = d.decl in
      ap (λ first. value (read_first inst.nodes first (Some u) t) names state) d.first
      ∙ at-node-value inst.nodes t (λ n. at_node inst.nodes u (λ i. first_at decl.first n)) bound names state (λ n. at_number inst.nodes (value u names state) (λ i. first_value decl n)) free known
      (λ m n g. at-node-value inst.nodes u (λ i. first_at decl.first m) bound names state (λ i. first_value decl n) free' known (λ i k h. value-first m n names state g decl.first d.known))
      ∙ (λ j. at_number inst.nodes (e j) (λ n. at_number inst.nodes (f j) (λ i. first_value decl n)))
      ∙ (λ j. at_number inst.nodes w (λ n. sym (row-at inst.nodes (first_value decl n) z) j))
      ∙ ap (λ b. at_number inst.nodes w (λ n. item (replicate (if b then inst.nodes else 1) (first_value decl n)) z (pos 0))) (sym d.kind)
      ∙ sym (first-field inst (label_of o l) d.at.number d.protocol field decl w z d.at.of d.at.listed d.there)
      ∙ ap (λ k. field_at (first_state inst) (label_of k l) field w z) (sym is)

  empty-soup : (label : ℕ) → soup_at (first_state inst) label ≡ []
  empty-soup label = no-soup inst inst.of label

  abbrev Fits : (ℕ → Bool) → Term → Type 0
  Fits messages t = TermFits (spoken_of inst own) messages t

  abbrev NoMessage : Term → Type 0
  NoMessage t = (m : ℕ) → has_message t m ≡ false

  value-at-first : (t : Term) (messages bound : ℕ → Bool) (names : Names) → names.own ≡ o → Fits messages t → Vars bound t → NoMessage t → AreNodes inst.nodes bound names → value (term_first inst own t) names state ≡ value t names (first_state inst)
  unfolding opened
  value-at-first (Num v) messages bound names is fits free none known = refl
  value-at-first (Word x v) messages bound names is fits free none known = refl
  value-at-first (Var x) messages bound names is fits free none known = refl
  value-at-first (Field' l f _ (one a end)) messages bound names is fits free none known =
      field-first l f (term_first inst own a) (value a names (first_state inst)) bound names is fits.0 (term-vars bound inst own a free) known (value-at-first a messages bound names is fits.1 free none known)
  value-at-first (Row' l f _ (one a end) _ (one b end)) messages bound names is fits free none known =
      let p = left-vars bound a b free in
      let q = right-vars bound a b free in
      row-first l f (term_first inst own a) (term_first inst own b) (value a names (first_state inst)) (value b names (first_state inst)) bound names is fits.0 (term-vars bound inst own a p) (term-vars bound inst own b q) known
      (value-at-first a messages bound names is fits.1 p (λ m. or-left (has_message a m) _ (none m)) known)
      (value-at-first b messages bound names is fits.2 q (λ m. or-right (has_message a m) _ (none m)) known)
  value-at-first (Len l) messages bound names is fits free none known = ap (λ (soup : List Message). pos (length soup)) (sym (empty-soup (label_of names.own l)))
  value-at-first (Msg m part) messages bound names is fits free none known = absurd (let one = none m in let two : (m == m) ≡ true = eq-eqb m m refl in cc)
  value-at-first (Add' _ (one a end) _ (one b end)) messages bound names is fits free none known =
      let v = value-at-first a messages bound names is fits.0 (left-vars bound a b free) (λ m. or-left (has_message a m) _ (none m)) known in
      let w = value-at-first b messages bound names is fits.1 (right-vars bound a b free) (λ m. or-right (has_message a m) _ (none m)) known in
      λ i. v i +ℤ w i
  value-at-first (Sub' _ (one a end) _ (one b end)) messages bound names is fits free none known =
      let v = value-at-first a messages bound names is fits.0 (left-vars bound a b free) (λ m. or-left (has_message a m) _ (none m)) known in
      let w = value-at-first b messages bound names is fits.1 (right-vars bound a b free) (λ m. or-right (has_message a m) _ (none m)) known in
      λ i. v i -ℤ w i
  value-at-first (Mul' _ (one a end) _ (one b end)) messages bound names is fits free none known =
      let v = value-at-first a messages bound names is fits.0 (left-vars bound a b free) (λ m. or-left (has_message a m) _ (none m)) known in
      let w = value-at-first b messages bound names is fits.1 (right-vars bound a b free) (λ m. or-right (has_message a m) _ (none m)) known in
      λ i. v i *ℤ w i
  value-at-first (If' _ (one a end) _ (one b end) _ (one c end) _ (one d end)) messages bound names is fits free none known =
      let p = value-at-first a messages bound names is fits.0 (λ x e. free x (or-true-left _ _ (or-true-left _ _ e))) (λ m. or-left (has_message a m) _ (or-left _ _ (none m))) known in
      let q = value-at-first b messages bound names is fits.1 (λ x e. free x (or-true-left _ _ (or-true-right (has_variable a x) _ e))) (λ m. or-right (has_message a m) _ (or-left _ _ (none m))) known in
      let r = value-at-first c messages bound names is fits.2 (λ x e. free x (or-true-right (has_variable a x || has_variable b x) _ (or-true-left _ _ e))) (λ m. or-left (has_message c m) _ (or-right (has_message a m || has_message b m) _ (none m))) known in
      let s = value-at-first d messages bound names is fits.3 (λ x e. free x (or-true-right (has_variable a x || has_variable b x) _ (or-true-right (has_variable c x) _ e))) (λ m. or-right (has_message c m) _ (or-right (has_message a m || has_message b m) _ (none m))) known in
      λ i. if int_eq (p i) (q i) then r i else s i

  abbrev FreeVars : (ℕ → Bool) → Formula → Type 0
  FreeVars bound f = (x : ℕ) → is_free_variable f x ≡ true → bound x ≡ true

  abbrev NoFreeMessage : Formula → Type 0
  NoFreeMessage f = (m : ℕ) → is_free_message f m ≡ false

  -- below a quantifier over nodes
  below-vars : (bound : ℕ → Bool) (x : ℕ) (f : Formula) → ((y : ℕ) → (not (x == y) && is_free_variable f y) ≡ true → bound y ≡ true) → FreeVars (and_name x bound) f
  below-vars bound x f h y e = go (x == y) refl
    where
      go : (b : Bool) → (x == y) ≡ b → ((y == x) || bound y) ≡ true
      go true p = or-true-left (y == x) (bound y) (eq-eqb y x (sym (eqb-true x y p)))
      go false p = or-true-right (y == x) (bound y) (h y (ap (λ b. not b && is_free_variable f y) p ∙ e))

  below-nodes : (bound : ℕ → Bool) (names : Names) (x k : ℕ) → k < inst.nodes → AreNodes inst.nodes bound names → AreNodes inst.nodes (and_name x bound) (with_number names x (pos k))
  below-nodes bound names x k lt h y e = go (y == x) e
    where
      go : (b : Bool) → (b || bound y) ≡ true → (n : ℕ) × ((if b then pos k else names.number y) ≡ pos n) × (n < inst.nodes)
      go true e = (k, refl, lt)
      go false e = h y e

  holds-at-first : (f : Formula) (messages bound : ℕ → Bool) (names : Names) → names.own ≡ o → FormulaFits (spoken_of inst own) messages f → FreeVars bound f → NoFreeMessage f → AreNodes inst.nodes bound names
      → holds (at_first inst own f) names state ≡ holds f names (first_state inst)
  unfolding opened
  holds-at-first True messages bound names is fits free none known = refl
  holds-at-first False messages bound names is fits free none known = refl
  holds-at-first (Eq a b) messages bound names is fits free none known =
      let v = value-at-first a messages bound names is fits.0 (left-vars bound a b free) (λ m. or-left (has_message a m) _ (none m)) known in
      let w = value-at-first b messages bound names is fits.1 (right-vars bound a b free) (λ m. or-right (has_message a m) _ (none m)) known in
      λ i. int_eq (v i) (w i)
  holds-at-first (Lt a b) messages bound names is fits free none known =
      let v = value-at-first a messages bound names is fits.0 (left-vars bound a b free) (λ m. or-left (has_message a m) _ (none m)) known in
      let w = value-at-first b messages bound names is fits.1 (right-vars bound a b free) (λ m. or-right (has_message a m) _ (none m)) known in
      λ i. int_lt (v i) (w i)
  holds-at-first (Le a b) messages bound names is fits free none known =
      let v = value-at-first a messages bound names is fits.0 (left-vars bound a b free) (λ m. or-left (has_message a m) _ (none m)) known in
      let w = value-at-first b messages bound names is fits.1 (right-vars bound a b free) (λ m. or-right (has_message a m) _ (none m)) known in
      λ i. int_le (v i) (w i)
  holds-at-first (Not' _ (one_formula f end_formula)) messages bound names is fits free none known = ap not (holds-at-first f messages bound names is fits free none known)
  holds-at-first (And' _ (one_formula f end_formula) _ (one_formula g end_formula)) messages bound names is fits free none known =
      let v = holds-at-first f messages bound names is fits.0 (λ x e. free x (or-true-left _ _ e)) (λ m. or-left (is_free_message f m) _ (none m)) known in
      let w = holds-at-first g messages bound names is fits.1 (λ x e. free x (or-true-right (is_free_variable f x) _ e)) (λ m. or-right (is_free_message f m) _ (none m)) known in
      λ i. v i && w i
  holds-at-first (Or' _ (one_formula f end_formula) _ (one_formula g end_formula)) messages bound names is fits free none known =
      let v = holds-at-first f messages bound names is fits.0 (λ x e. free x (or-true-left _ _ e)) (λ m. or-left (is_free_message f m) _ (none m)) known in
      let w = holds-at-first g messages bound names is fits.1 (λ x e. free x (or-true-right (is_free_variable f x) _ e)) (λ m. or-right (is_free_message f m) _ (none m)) known in
      λ i. v i || w i
  holds-at-first (Implies' _ (one_formula f end_formula) _ (one_formula g end_formula)) messages bound names is fits free none known =
      let v = holds-at-first f messages bound names is fits.0 (λ x e. free x (or-true-left _ _ e)) (λ m. or-left (is_free_message f m) _ (none m)) known in
      let w = holds-at-first g messages bound names is fits.1 (λ x e. free x (or-true-right (is_free_variable f x) _ e)) (λ m. or-right (is_free_message f m) _ (none m)) known in
      λ i. not (v i) || w i
  holds-at-first (All' x _ (one_formula f end_formula)) messages bound names is fits free none known =
      ap (λ n. every_below n (λ k. holds (at_first inst own f) (with_number names x (pos k)) state)) nodes
      ∙ every_below-same inst.nodes _ _ (λ k lt. holds-at-first f messages (and_name x bound) (with_number names x (pos k)) is fits (below-vars bound x f free) none (below-nodes bound names x k lt known))
  holds-at-first (Exists' x _ (one_formula f end_formula)) messages bound names is fits free none known =
      ap (λ n. some_below n (λ k. holds (at_first inst own f) (with_number names x (pos k)) state)) nodes
      ∙ some_below-same inst.nodes _ _ (λ k lt. holds-at-first f messages (and_name x bound) (with_number names x (pos k)) is fits (below-vars bound x f free) none (below-nodes bound names x k lt known))
  holds-at-first (Each' m l tag _ (one_formula f end_formula)) messages bound names is fits free none known =
      ap (λ (soup : List Message). every_below (length soup) (λ id. not (tag_of (slice_get soup id) == tag) || holds f (with_message names m (Stored (label_of names.own l) id)) (first_state inst))) (sym (empty-soup (label_of names.own l)))
  holds-at-first (Any' m l tag _ (one_formula f end_formula)) messages bound names is fits free none known =
      ap (λ (soup : List Message). some_below (length soup) (λ id. (tag_of (slice_get soup id) == tag) && holds f (with_message names m (Stored (label_of names.own l) id)) (first_state inst))) (sym (empty-soup (label_of names.own l)))

pub first-holds : (inst : Instances) (own : Option ℕ) (f : Formula) (names : Names) (state : State) → InstancesAreFormed inst → state.nodes ≡ inst.nodes → IsOwn inst own names → FormulaFits (spoken_of inst own) (λ m. false) f
    → ((x : ℕ) → (is_free_variable f x ≡ false) × (is_free_message f x ≡ false)) → holds (at_first inst own f) names state ≡ holds f names (first_state inst)
first-holds inst own f names state formed nodes owned fits closed =
    holds-at-first inst own names.own state formed nodes (λ l protocol e. spoken-is inst own names l protocol owned e)
    f (λ m. false) (λ x. false) names refl fits (λ x e. let no = (closed x).0 in cc) (λ m. (closed m).1) (λ x e. absurd (cc))
