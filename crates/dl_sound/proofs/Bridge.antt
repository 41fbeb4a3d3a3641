-- A formed file that keeps to its worlds has what the proofs need.
use Rattle.std.proofs.Common.{◌≡◌, ℕ, zero, suc, ◌<◌, ◌≤◌, ◌^◌, ◌==◌, pos, Bool, true, false, not, ◌&&◌, ◌||◌, Option, Some, None, List, [], ◌∷◌, ◌++◌, refl, ap, sym, ◌∙◌, subst, cond, length, arith, ◌⊎◌, inl, inr, eq-eqb}
use Rattle.std.proofs.lemmas.Bool.{eqb-true, false≢true}
use Rattle.std.specs.Prelude.{slice_get, unwrap_or, is_some}
use Rattle.std.specs.List.{AllByRecursion as Each, list_all, list_any}
use Rattle.dl_term.specs.declared.syntax.Lab.{Lab}
use Rattle.dl_term.specs.declared.syntax.Lab.TheVariants.{Own, At}
use Rattle.dl_term.specs.declared.syntax.Term.{Term, Num, Word, Var, Field', Row', Len, Msg, Add', Sub', Mul', If', more_of-Term as one, end_of-Term as end}
use Rattle.dl_term.specs.declared.syntax.Formula.{Formula, True, False, Eq, Lt, Le, Not', And', Or', Implies', All', Exists', Each', Any', more_of-Formula as one_formula, end_of-Formula as end_formula}
use Rattle.dl_term.specs.Meaning.{holds}
use Rattle.dl_term.specs.Measures.{has_variable, is_free_variable}
use Rattle.dl_model.specs.declared.protocol.Tag.{Tag}
use Rattle.dl_model.specs.declared.protocol.Protocol.{Protocol}
use Rattle.dl_model.specs.declared.protocol.Instances.{Instances}
use Rattle.dl_model.specs.declared.program.Proc.{Proc}
use Rattle.dl_model.specs.declared.file.Program.{Program}
use Rattle.dl_model.specs.declared.file.Deploy.{Deploy}
use Rattle.dl_model.specs.declared.file.Decls.{Decls}
use Rattle.dl_model.specs.Block.{Block, Done, Sends, Awaits, Polls, Reads, Sets, Ifs, Whiles, Calls, block_of}
use Rattle.dl_model.specs.Sorts.{has, IsSort}
use Rattle.dl_model.specs.Lookup.{Parameter, arg_names, arg_sorts, protocol_at, tag_at, no_tag, world_at, proc_at, no_proc, program_in, world_of}
use Rattle.dl_model.specs.Words.{me_word, result_word, first_name}
use Rattle.dl_model.specs.Machine.{entry_names}
use Rattle.dl_model.specs.Spoken.{term_labels, labels_of}
use Rattle.dl_model.specs.Worlds.{is_label_of, BlockKeepsWorlds, KeepsWorlds}
use Rattle.dl_model.specs.Scopes.{Scope, is_field, is_tag, own_label, with_variable, with_message, TermIsKnown, FormulaIsKnown}
use Rattle.dl_model.specs.Formed.{CoherenceIsFormed, AreNames, AreDistinct, TagIsFormed, FieldIsFormed, BlockIsFormed, ProgramIsFormed, DeployIsFormed, InstancesAreFormed, IsFormed}
use Rattle.dl_model.proofs.Small.{and-left, and-right, or-left, or-right, or-both, eqb-other, each-map, each-zip, each-back, some-same, lacks-front, lacks-back, either-true}
use Rattle.dl_model.proofs.Sorted.{protocol-has}
use Rattle.dl_sound.specs.Obligations.{at_end, BlockObligations, FileObligations}
use Rattle.dl_model.specs.Steps.{after_step}
use Rattle.dl_sound.proofs.Numbers.{each-get}
use Rattle.dl_sound.proofs.Needed.{IsOwn, IsIn, IsOnlyIn, IsParameter, BlockNeeds, ProcNeeds, StateNeeds, ProgramNeeds, AllObligations}

-- ---- labels and free names of what is known

pub each-all : {X : Type 0} (p : X → Bool) (xs : List X) → list_all p xs ≡ true → Each (λ x. p x ≡ true) xs
each-all p [] h = tt
each-all p (x ∷ xs) h = (and-left (p x) (list_all p xs) h, each-all p xs (and-right (p x) (list_all p xs) h))

pub each-none : {X : Type 0} (p : X → Bool) (xs : List X) → list_any p xs ≡ false → Each (λ x. p x ≡ false) xs
each-none p [] h = tt
each-none p (x ∷ xs) h = (or-left (p x) (list_any p xs) h, each-none p xs (or-right (p x) (list_any p xs) h))

pub each-join : {X : Type 0} (P : X → Type 0) (xs ys : List X) → Each P xs → Each P ys → Each P (xs ++ ys)
each-join P [] ys h k = k
each-join P (x ∷ xs) ys h k = (h.0, each-join P xs ys h.1 k)

-- a label that may be named
abbrev pub IsThere : Scope → Lab → Type 0
IsThere scope lab = is_some (scope.protocol lab) ≡ true

pub field-there : (o : Option Protocol) (field : ℕ) (row : Bool) → is_field o field row ≡ true → is_some o ≡ true
field-there None field row h = cc
field-there (Some protocol) field row h = refl

pub tag-there : (o : Option Protocol) (tag : ℕ) → is_tag o tag ≡ true → is_some o ≡ true
tag-there None tag h = cc
tag-there (Some protocol) tag h = refl

pub term-there : (scope : Scope) (t : Term) → TermIsKnown scope t → Each (IsThere scope) (term_labels t)
term-there scope (Num v) h = tt
term-there scope (Word x v) h = tt
term-there scope (Var x) h = tt
term-there scope (Field' label field _ (one node end)) h = (field-there (scope.protocol label) field false h.0, term-there scope node h.1)
term-there scope (Row' label field _ (one node end) _ (one index end)) h = (
  field-there (scope.protocol label) field true h.0,
  each-join (IsThere scope) (term_labels node) (term_labels index) (term-there scope node h.1) (term-there scope index h.2),
)
term-there scope (Len label) h = (h, tt)
term-there scope (Msg msg part) h = tt
term-there scope (Add' _ (one a end) _ (one b end)) h = each-join (IsThere scope) (term_labels a) (term_labels b) (term-there scope a h.0) (term-there scope b h.1)
term-there scope (Sub' _ (one a end) _ (one b end)) h = each-join (IsThere scope) (term_labels a) (term_labels b) (term-there scope a h.0) (term-there scope b h.1)
term-there scope (Mul' _ (one a end) _ (one b end)) h = each-join (IsThere scope) (term_labels a) (term_labels b) (term-there scope a h.0) (term-there scope b h.1)
term-there scope (If' _ (one a end) _ (one b end) _ (one x end) _ (one y end)) h =
    each-join (IsThere scope) (term_labels a ++ term_labels b) (term_labels x ++ term_labels y)
    (each-join (IsThere scope) (term_labels a) (term_labels b) (term-there scope a h.0) (term-there scope b h.1))
    (each-join (IsThere scope) (term_labels x) (term_labels y) (term-there scope x h.2) (term-there scope y h.3))

pub labels-there : (f : Formula) (scope : Scope) → FormulaIsKnown scope f → Each (IsThere scope) (labels_of f)
labels-there True scope h = tt
labels-there False scope h = tt
labels-there (Eq a b) scope h = each-join (IsThere scope) (term_labels a) (term_labels b) (term-there scope a h.0) (term-there scope b h.1)
labels-there (Lt a b) scope h = each-join (IsThere scope) (term_labels a) (term_labels b) (term-there scope a h.0) (term-there scope b h.1)
labels-there (Le a b) scope h = each-join (IsThere scope) (term_labels a) (term_labels b) (term-there scope a h.0) (term-there scope b h.1)
labels-there (Not' _ (one_formula f end_formula)) scope h = labels-there f scope h
labels-there (And' _ (one_formula f end_formula) _ (one_formula g end_formula)) scope h = each-join (IsThere scope) (labels_of f) (labels_of g) (labels-there f scope h.0) (labels-there g scope h.1)
labels-there (Or' _ (one_formula f end_formula) _ (one_formula g end_formula)) scope h = each-join (IsThere scope) (labels_of f) (labels_of g) (labels-there f scope h.0) (labels-there g scope h.1)
labels-there (Implies' _ (one_formula f end_formula) _ (one_formula g end_formula)) scope h = each-join (IsThere scope) (labels_of f) (labels_of g) (labels-there f scope h.0) (labels-there g scope h.1)
labels-there (All' x _ (one_formula body end_formula)) scope h = labels-there body (with_variable scope x) h.1
labels-there (Exists' x _ (one_formula body end_formula)) scope h = labels-there body (with_variable scope x) h.1
labels-there (Each' msg label tag _ (one_formula body end_formula)) scope h = (tag-there (scope.protocol label) tag h.1, labels-there body (with_message scope msg) h.2)
labels-there (Any' msg label tag _ (one_formula body end_formula)) scope h = (tag-there (scope.protocol label) tag h.1, labels-there body (with_message scope msg) h.2)

-- each variable of a known term is in scope
pub term-free : (scope : Scope) (x : ℕ) (t : Term) → TermIsKnown scope t → has_variable t x ≡ true → has scope.variables x ≡ true
term-free scope x (Num v) h e = cc
term-free scope x (Word y v) h e = cc
term-free scope x (Var y) h e = subst (λ z. has scope.variables z ≡ true) (eqb-true y x e) h
term-free scope x (Field' label field _ (one node end)) h e = term-free scope x node h.1 e
term-free scope x (Row' label field _ (one node end) _ (one index end)) h e = elim (either-true (has_variable node x) (has_variable index x) e) [
  | inl l ↦ term-free scope x node h.1 l
  | inr r ↦ term-free scope x index h.2 r
]
term-free scope x (Len label) h e = cc
term-free scope x (Msg msg part) h e = cc
term-free scope x (Add' _ (one a end) _ (one b end)) h e = elim (either-true (has_variable a x) (has_variable b x) e) [ inl l ↦ term-free scope x a h.0 l | inr r ↦ term-free scope x b h.1 r ]
term-free scope x (Sub' _ (one a end) _ (one b end)) h e = elim (either-true (has_variable a x) (has_variable b x) e) [ inl l ↦ term-free scope x a h.0 l | inr r ↦ term-free scope x b h.1 r ]
term-free scope x (Mul' _ (one a end) _ (one b end)) h e = elim (either-true (has_variable a x) (has_variable b x) e) [ inl l ↦ term-free scope x a h.0 l | inr r ↦ term-free scope x b h.1 r ]
term-free scope x (If' _ (one a end) _ (one b end) _ (one c end) _ (one d end)) h e = elim (either-true (has_variable a x || has_variable b x) (has_variable c x || has_variable d x) e) [
  | inl l ↦ elim (either-true (has_variable a x) (has_variable b x) l) [ inl k ↦ term-free scope x a h.0 k | inr k ↦ term-free scope x b h.1 k ]
  | inr r ↦ elim (either-true (has_variable c x) (has_variable d x) r) [ inl k ↦ term-free scope x c h.2 k | inr k ↦ term-free scope x d h.3 k ]
]

-- a name that is free below a quantifier and isn't bound by it is in the scope outside
pub unbound : (x y : ℕ) (scope : Scope) (free : Bool) → (not (y == x) && free) ≡ true → (free ≡ true → has (y ∷ scope.variables) x ≡ true) → has scope.variables x ≡ true
unbound x y scope free e h = go (x == y) refl
  where
    go : (b : Bool) → (x == y) ≡ b → has scope.variables x ≡ true
    go true q = absurd (false≢true (ap (λ b. not b) (sym (turn q)) ∙ and-left (not (y == x)) free e))
      where
        turn : (x == y) ≡ true → (y == x) ≡ true
        turn q = let same : x ≡ y = eqb-true x y q in subst (λ z. (y == z) ≡ true) (sym same) (eq-eqb y y refl)
    go false q = subst (λ b. (b || has scope.variables x) ≡ true) q (h (and-right (not (y == x)) free e))

pub free-known : (x : ℕ) (f : Formula) (scope : Scope) → FormulaIsKnown scope f → is_free_variable f x ≡ true → has scope.variables x ≡ true
free-known x True scope h e = cc
free-known x False scope h e = cc
free-known x (Eq a b) scope h e = elim (either-true (has_variable a x) (has_variable b x) e) [ inl l ↦ term-free scope x a h.0 l | inr r ↦ term-free scope x b h.1 r ]
free-known x (Lt a b) scope h e = elim (either-true (has_variable a x) (has_variable b x) e) [ inl l ↦ term-free scope x a h.0 l | inr r ↦ term-free scope x b h.1 r ]
free-known x (Le a b) scope h e = elim (either-true (has_variable a x) (has_variable b x) e) [ inl l ↦ term-free scope x a h.0 l | inr r ↦ term-free scope x b h.1 r ]
free-known x (Not' _ (one_formula f end_formula)) scope h e = free-known x f scope h e
free-known x (And' _ (one_formula f end_formula) _ (one_formula g end_formula)) scope h e = elim (either-true (is_free_variable f x) (is_free_variable g x) e) [ inl l ↦ free-known x f scope h.0 l | inr r ↦ free-known x g scope h.1 r ]
free-known x (Or' _ (one_formula f end_formula) _ (one_formula g end_formula)) scope h e = elim (either-true (is_free_variable f x) (is_free_variable g x) e) [ inl l ↦ free-known x f scope h.0 l | inr r ↦ free-known x g scope h.1 r ]
free-known x (Implies' _ (one_formula f end_formula) _ (one_formula g end_formula)) scope h e = elim (either-true (is_free_variable f x) (is_free_variable g x) e) [ inl l ↦ free-known x f scope h.0 l | inr r ↦ free-known x g scope h.1 r ]
free-known x (All' y _ (one_formula body end_formula)) scope h e = unbound x y scope (is_free_variable body x) e (λ k. free-known x body (with_variable scope y) h.1 k)
free-known x (Exists' y _ (one_formula body end_formula)) scope h e = unbound x y scope (is_free_variable body x) e (λ k. free-known x body (with_variable scope y) h.1 k)
free-known x (Each' msg label tag _ (one_formula body end_formula)) scope h e = free-known x body (with_message scope msg) h.2 e
free-known x (Any' msg label tag _ (one_formula body end_formula)) scope h e = free-known x body (with_message scope msg) h.2 e

-- ---- protocols and invariants

few-nodes : (n : ℕ) → n ≤ 16 → n < 2 ^ 32
few-nodes n h = omega arith

field-sorts : (inst : Instances) → InstancesAreFormed inst → (label : ℕ) → Each (λ f. IsSort f.sort) (protocol_at inst label).fields
field-sorts inst h label = protocol-has inst (λ protocol. Each (λ f. IsSort f.sort) protocol.fields) tt
    (λ p protocol e. each-map (FieldIsFormed inst.nodes) _ protocol.fields (h.protocols p protocol e).fields (λ f k. k.sort)) (slice_get inst.of label)

tag-sorts : (inst : Instances) → InstancesAreFormed inst → (label tag : ℕ) → Each IsSort (arg_sorts (tag_at inst label tag).args)
tag-sorts inst h label tag = protocol-has inst
    (λ protocol. Each IsSort (arg_sorts (unwrap_or (slice_get protocol.tags tag) no_tag).args)) tt
    (λ p protocol e. each-get (λ (t : Tag). Each IsSort (arg_sorts t.args)) protocol.tags tag no_tag tt
    (each-map (TagIsFormed protocol) _ protocol.tags (h.protocols p protocol e).tags (λ t k. k.args.1))) (slice_get inst.of label)

pub own-there : (protocol : Protocol) (lab : Lab) → is_some (own_label protocol lab) ≡ true → IsOwn lab
own-there protocol Own h = tt
own-there protocol (At label) h = cc

coherence-own : (inst : Instances) → InstancesAreFormed inst → (label : ℕ) (f : Formula) → (protocol_at inst label).coherence ≡ Some f → Each IsOwn (labels_of f)
coherence-own inst h label = protocol-has inst (λ protocol. (f : Formula) → protocol.coherence ≡ Some f → Each IsOwn (labels_of f)) (λ f e. cc)
    (λ p protocol e f q. each-map (λ lab. is_some (own_label protocol lab) ≡ true) IsOwn (labels_of f)
    (labels-there f (record { protocol = own_label protocol; variables = []; messages = [] }) (subst (CoherenceIsFormed protocol) q (h.protocols p protocol e).coherence).0) (own-there protocol)) (slice_get inst.of label)

pub state-needs : (d : Decls) → IsFormed d → KeepsWorlds d → StateNeeds d
state-needs d h k = record {
  few = few-nodes d.inst.nodes h.small.nodes;
  fields = field-sorts d.inst h.inst;
  args = tag-sorts d.inst h.inst;
  inst = h.inst;
  coherences = coherence-own d.inst h.inst;
  invariants = λ i invariant e. each-all (is_label_of (world_at d invariant.world)) (labels_of invariant.formula) (k.invariants i invariant e);
  injected = k.visible;
}

-- ---- procedures

-- a procedure that is there, or none
proc-there : (procs : List Proc) (proc : ℕ) → ((proc < length procs) × (slice_get procs proc ≡ Some (proc_at procs proc))) ⊎ (proc_at procs proc ≡ no_proc)
proc-there [] proc = inr refl
proc-there (p ∷ procs) zero = inl (omega arith, refl)
proc-there (p ∷ procs) (suc proc) = elim (proc-there procs proc) [ inl h ↦ inl (omega (arith, h.0), h.1) | inr h ↦ inr h ]

small-absent : (xs : List ℕ) (n : ℕ) → n < first_name → Each (λ x. first_name ≤ x) xs → has xs n ≡ false
small-absent [] n b h = refl
small-absent (x ∷ xs) n b h = or-both (n == x) (has xs n) (eqb-other n x (λ e. let l = h.0 in omega arith)) (small-absent xs n b h.1)

param-parts : (params : List Parameter) (locals : List ℕ) → AreDistinct (arg_names params ++ locals) → Each (λ x. first_name ≤ x) (arg_names params ++ locals) →
    Each (λ a. (has locals a.0 ≡ false) × (a.0 ≡ me_word → ⊥) × (a.0 ≡ result_word → ⊥)) params
param-parts [] locals h k = tt
param-parts (a ∷ params) locals h k = (
  (lacks-back (arg_names params) locals a.0 h.0, (λ e. let l = k.0 in omega arith), (λ e. let l = k.0 in omega arith)),
  param-parts params locals h.1 k.1,
)

distinct-front : (xs ys : List ℕ) → AreDistinct (xs ++ ys) → AreDistinct xs
distinct-front [] ys h = tt
distinct-front (x ∷ xs) ys h = (lacks-front xs ys x h.0, distinct-front xs ys h.1)

front-not-back : (xs ys : List ℕ) (n : ℕ) → AreDistinct (xs ++ ys) → has xs n ≡ true → has ys n ≡ false
front-not-back [] ys n h e = cc
front-not-back (x ∷ xs) ys n h e = elim (either-true (n == x) (has xs n) e) [
  | inl q ↦ subst (λ m. has ys m ≡ false) (sym (eqb-true n x q)) (lacks-back xs ys x h.0)
  | inr q ↦ front-not-back xs ys n h.1 q
]

post-not_local : (proc : Proc) (x : ℕ) → AreNames (arg_names proc.params ++ proc.locals) → has (result_word ∷ me_word ∷ arg_names proc.params) x ≡ true → has proc.locals x ≡ false
post-not_local proc x h e = elim (either-true (x == result_word) ((x == me_word) || has (arg_names proc.params) x) e) [
  | inl q ↦ subst (λ m. has proc.locals m ≡ false) (sym (eqb-true x result_word q)) (small-absent proc.locals result_word (omega arith) (each-back _ (arg_names proc.params) proc.locals h.allowed))
  | inr r ↦ elim (either-true (x == me_word) (has (arg_names proc.params) x) r) [
    | inl q ↦ subst (λ m. has proc.locals m ≡ false) (sym (eqb-true x me_word q)) (small-absent proc.locals me_word (omega arith) (each-back _ (arg_names proc.params) proc.locals h.allowed))
    | inr q ↦ front-not-back (arg_names proc.params) proc.locals x h.distinct q
  ]
]

block-needs : (d : Decls) (proc : ℕ) (block : Block) → BlockIsFormed d proc (proc_at d.procs proc) block → BlockKeepsWorlds d (world_of d proc) block → BlockNeeds d proc block
block-needs d proc Done h k = tt
block-needs d proc (Sends note label tag to args rest) h k = (each-all (is_label_of (world_of d proc)) (labels_of note) k.0, k.1, block-needs d proc rest h.5 k.2)
block-needs d proc (Awaits note label tag sender args rest) h k =
    (each-all (is_label_of (world_of d proc)) (labels_of note) k.0, k.1, h.3.0.0, h.3.0.1, block-needs d proc rest h.4 k.2)
block-needs d proc (Polls note got label tag sender args rest) h k =
    (each-all (is_label_of (world_of d proc)) (labels_of note) k.0, k.1, h.3.0.0, h.3.0.1.0, h.3.0.1.1, block-needs d proc rest h.4 k.2)
block-needs d proc (Reads note into label field index rest) h k = (each-all (is_label_of (world_of d proc)) (labels_of note) k.0, h.3.0.0, block-needs d proc rest h.4 k.2)
block-needs d proc (Sets target value rest) h k = (h.0.0.0, block-needs d proc rest h.2 k)
block-needs d proc (Ifs test left right rest) h k = (block-needs d proc left h.1 k.0, block-needs d proc right h.2 k.1, block-needs d proc rest h.3 k.2)
block-needs d proc (Whiles test note body rest) h k = (each-all (is_label_of (world_of d proc)) (labels_of note) k.0, block-needs d proc body h.2 k.1, block-needs d proc rest h.3 k.2)
block-needs d proc (Calls note frame into callee args rest) h k = (
  each-all (is_label_of (world_of d proc)) (labels_of note) k.0,
  each-zip (IsIn (world_of d proc)) (λ lab. is_label_of (world_of d callee) lab ≡ false) (IsOnlyIn (world_of d proc) (world_of d callee)) (labels_of frame)
      (each-all (is_label_of (world_of d proc)) (labels_of frame) k.1.0) (each-none (is_label_of (world_of d callee)) (labels_of frame) k.1.1) (λ lab a b. (a, b)),
  h.2.0.0,
  k.1.2,
  block-needs d proc rest h.6 k.2,
)

proc-needs : (d : Decls) → IsFormed d → KeepsWorlds d → (proc : ℕ) → ProcNeeds d proc
proc-needs d h k proc = elim (proc-there d.procs proc) [
  | inl there ↦
      let f = h.procs proc (proc_at d.procs proc) there.1 in
      let w = k.procs proc there.0 in
      record {
        me = small-absent (proc_at d.procs proc).locals me_word (omega arith) (each-back _ (arg_names (proc_at d.procs proc).params) (proc_at d.procs proc).locals f.names.allowed);
        result = small-absent (proc_at d.procs proc).locals result_word (omega arith) (each-back _ (arg_names (proc_at d.procs proc).params) (proc_at d.procs proc).locals f.names.allowed);
        params = param-parts (proc_at d.procs proc).params (proc_at d.procs proc).locals f.names.distinct f.names.allowed;
        distinct = distinct-front (arg_names (proc_at d.procs proc).params) (proc_at d.procs proc).locals f.names.distinct;
        post = each-all (is_label_of (world_of d proc)) (labels_of (proc_at d.procs proc).post) w.post;
        post_closed = λ x e. post-not_local (proc_at d.procs proc) x f.names (free-known x (proc_at d.procs proc).post _ f.post.0 e);
        body = block-needs d proc (block_of (proc_at d.procs proc).body) f.body w.body;
      }
  | inr e ↦ record {
    me = subst (λ (p : Proc). has p.locals me_word ≡ false) (sym e) refl;
    result = subst (λ (p : Proc). has p.locals result_word ≡ false) (sym e) refl;
    params = subst (λ (p : Proc). Each (λ a. IsParameter d proc a.0) p.params) (sym e) tt;
    distinct = subst (λ (p : Proc). AreDistinct (arg_names p.params)) (sym e) tt;
    post = subst (λ (p : Proc). Each (IsIn (world_of d proc)) (labels_of p.post)) (sym e) tt;
    post_closed = λ x free. subst (λ (p : Proc). has p.locals x ≡ false) (sym e) refl;
    body = subst (λ (p : Proc). BlockNeeds d proc (block_of p.body)) (sym e) tt;
  }
]

-- ---- the deployment

programs-formed : (d : Decls) (o : Option Deploy) → DeployIsFormed d o → Each (ProgramIsFormed d) (unwrap_or o (record { world = 0; programs = [] })).programs
programs-formed d None h = tt
programs-formed d (Some deploy) h = h.1

program-found : (d : Decls) (ps : List Program) (node : ℕ) (p : Program) → Each (ProgramIsFormed d) ps → program_in ps node ≡ Some p → (node ≡ p.node) × ProgramIsFormed d p
program-found d [] node p h e = cc
program-found d (q ∷ ps) node p h e = go (node == q.node) refl (program-found d ps node p h.1)
  where
    go : (b : Bool) → (node == q.node) ≡ b → (program_in ps node ≡ Some p → (node ≡ p.node) × ProgramIsFormed d p) → (node ≡ p.node) × ProgramIsFormed d p
    go true t more =
        let same : q ≡ p = some-same q p (sym (ap (λ b. cond b (Some q) (program_in ps node)) t) ∙ e) in
        (eqb-true node q.node t ∙ ap (λ (r : Program). r.node) same, subst (ProgramIsFormed d) same h.0)
    go false t more = more (sym (ap (λ b. cond b (Some q) (program_in ps node)) t) ∙ e)

pub program-needs : (d : Decls) → IsFormed d → KeepsWorlds d → ProgramNeeds d
program-needs d h k = record {
  procs = proc-needs d h k;
  programs = λ node p e.
      let f = program-found d (unwrap_or d.deploy (record { world = 0; programs = [] })).programs node p (programs-formed d d.deploy h.deploy) e in
      record { known = subst (λ n. n < d.inst.nodes) (sym f.0) f.1.node; constants = f.1.constants; injected = k.programs node p e };
}

-- ---- obligations

pub all-obligations : (d : Decls) → FileObligations d → AllObligations d
all-obligations d h = record {
  states = h.states;
  procs = λ proc. elim (proc-there d.procs proc) [
    | inl there ↦ h.procs proc there.0
    | inr e ↦ record {
      start = λ node args s at. absurd (false≢true (subst (λ (p : Proc). holds p.pre (entry_names (proc_at d.procs proc) (pos node) args) s ≡ true) e at.true_there));
      body = subst (λ (p : Proc). BlockObligations d proc (block_of p.body) (at_end d proc)) (sym e) tt;
      post = λ node names s at int mover step known other label can meets. subst (λ (p : Proc). holds p.post names (after_step d.inst s mover step) ≡ true) (sym e) refl;
    }
  ];
  deployed = h.deployed;
}
