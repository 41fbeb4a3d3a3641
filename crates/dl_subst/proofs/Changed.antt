-- A changed formula holds where the formula holds, for changes whose new terms are read as the places are.
use Rattle.std.proofs.Common.{◌≡◌, ℕ, ℤ, pos, ◌+ℤ◌, ◌-ℤ◌, ◌*ℤ◌, Bool, true, false, not, ◌&&◌, ◌||◌, if◌then◌else◌, int_lt, int_le, Option, Some, None, unwrap_or, length, refl, ◌∙◌, ap, sym}
use Rattle.std.specs.Ordering.{int_eq}
use Rattle.dl_term.specs.declared.syntax.Lab.{Lab}
use Rattle.dl_term.specs.declared.syntax.Part.{Part}
use Rattle.dl_term.specs.declared.syntax.Term.{Term, Num, Word, Var, Field', Row', Len, Msg, Add', Sub', Mul', If', more_of-Term as one, end_of-Term as end}
use Rattle.dl_term.specs.declared.syntax.Formula.{Formula, True, False, Eq, Lt, Le, Not', And', Or', Implies', All', Exists', Each', Any', more_of-Formula as one_formula, end_of-Formula as end_formula}
use Rattle.dl_term.specs.State.{State, field_at, soup_at}
use Rattle.dl_term.specs.Syntax.{opened}
use Rattle.dl_term.specs.Names.{Meant, Stored, Names, with_number, with_message, label_of}
use Rattle.dl_term.specs.Meaning.{value, holds, part_in, every_below, some_below, every_message, some_message}
use Rattle.dl_subst.specs.Change.{Change, inside, changed_term, changed, mentions, at_place, captures_inside, term_captures, and_name, captures_under}

pub or-false-left : (a b : Bool) → (a || b) ≡ false → a ≡ false
or-false-left true b h = cc
or-false-left false b h = refl

pub or-false-right : (a b : Bool) → (a || b) ≡ false → b ≡ false
or-false-right true b h = cc
or-false-right false b h = h

-- With names `new` the changed term reads as the term with names `old`. Bound around are these variables and messages.
pub record Reads (c : Change) (variable message : ℕ → Bool) (new old : Names) (state : State) : Type 0 where
  pub own : (l : Lab) → label_of new.own (c.label l) ≡ label_of old.own l
  pub place : (t u : Term) → c.put t ≡ Some u → mentions variable message u ≡ false → value u new state ≡ value t old state
  pub number : (x : ℕ) → c.put (Var x) ≡ None → new.number x ≡ old.number x
  pub part : (m : ℕ) (p : Part) → c.put (Msg m p) ≡ None → part_in state (new.message m) p ≡ part_in state (old.message m) p

module _ (c : Change) (variable message : ℕ → Bool) (new old : Names) (state : State) (reads : Reads c variable message new old state) where
  -- one place, by what is put there
  at-place : (t : Term) (o : Option Term) → c.put t ≡ o → at_place variable message o (captures_inside c variable message t) ≡ false
      → (c.put t ≡ None → captures_inside c variable message t ≡ false → value (inside c t) new state ≡ value t old state)
      → value (unwrap_or o (inside c t)) new state ≡ value t old state
  at-place t (Some u) e clear within = reads.place t u e clear
  at-place t None e clear within = within e clear

  value-inside : (t : Term) → c.put t ≡ None → captures_inside c variable message t ≡ false → value (inside c t) new state ≡ value t old state
  unfolding opened
  value-inside (Num v) kept clear = refl
  value-inside (Word sym v) kept clear = refl
  value-inside (Var x) kept clear = reads.number x kept
  value-inside (Field' label field _ (one node end)) kept clear =
      let v = at-place node (c.put node) refl clear (value-inside node) in
      λ i. field_at state (reads.own label i) field (v i) (pos 0)
  value-inside (Row' label field _ (one node end) _ (one index end)) kept clear =
      let v = at-place node (c.put node) refl (or-false-left _ _ clear) (value-inside node) in
      let w = at-place index (c.put index) refl (or-false-right _ _ clear) (value-inside index) in
      λ i. field_at state (reads.own label i) field (v i) (w i)
  value-inside (Len label) kept clear = λ i. pos (length (soup_at state (reads.own label i)))
  value-inside (Msg m p) kept clear = reads.part m p kept
  value-inside (Add' _ (one a end) _ (one b end)) kept clear =
      let v = at-place a (c.put a) refl (or-false-left _ _ clear) (value-inside a) in
      let w = at-place b (c.put b) refl (or-false-right _ _ clear) (value-inside b) in
      λ i. v i +ℤ w i
  value-inside (Sub' _ (one a end) _ (one b end)) kept clear =
      let v = at-place a (c.put a) refl (or-false-left _ _ clear) (value-inside a) in
      let w = at-place b (c.put b) refl (or-false-right _ _ clear) (value-inside b) in
      λ i. v i -ℤ w i
  value-inside (Mul' _ (one a end) _ (one b end)) kept clear =
      let v = at-place a (c.put a) refl (or-false-left _ _ clear) (value-inside a) in
      let w = at-place b (c.put b) refl (or-false-right _ _ clear) (value-inside b) in
      λ i. v i *ℤ w i
  value-inside (If' _ (one a end) _ (one b end) _ (one x end) _ (one y end)) kept clear =
      let tested = or-false-left _ _ clear in
      let chosen = or-false-right _ _ clear in
      let p = at-place a (c.put a) refl (or-false-left _ _ tested) (value-inside a) in
      let q = at-place b (c.put b) refl (or-false-right _ _ tested) (value-inside b) in
      let r = at-place x (c.put x) refl (or-false-left _ _ chosen) (value-inside x) in
      let s = at-place y (c.put y) refl (or-false-right _ _ chosen) (value-inside y) in
      λ i. if int_eq (p i) (q i) then r i else s i

  pub value-changed : (t : Term) → term_captures c variable message t ≡ false → value (changed_term c t) new state ≡ value t old state
  value-changed t clear = at-place t (c.put t) refl clear (value-inside t)

-- What a change keeps between the names of the changed formula and those of the formula, below any quantifiers.
pub record Keeps (c : Change) (state : State) (Between : (variable message : ℕ → Bool) → Names → Names → Type 0) : Type 0 where
  pub reads : (variable message : ℕ → Bool) (new old : Names) → Between variable message new old → Reads c variable message new old state
  pub node : (variable message : ℕ → Bool) (new old : Names) → Between variable message new old → (x : ℕ) (k : ℤ) → c.stops_at_variable x ≡ false
      → Between (and_name x variable) message (with_number new x k) (with_number old x k)
  pub message : (variable message : ℕ → Bool) (new old : Names) → Between variable message new old → (m : ℕ) (meant : Meant) → c.stops_at_message m ≡ false
      → Between variable (and_name m message) (with_message new m meant) (with_message old m meant)
  pub stopped_node : (variable message : ℕ → Bool) (new old : Names) → Between variable message new old → (x : ℕ) (k : ℤ) → c.stops_at_variable x ≡ true
      → (f : Formula) → holds f (with_number new x k) state ≡ holds f (with_number old x k) state
  pub stopped_message : (variable message : ℕ → Bool) (new old : Names) → Between variable message new old → (m : ℕ) (meant : Meant) → c.stops_at_message m ≡ true
      → (f : Formula) → holds f (with_message new m meant) state ≡ holds f (with_message old m meant) state

module _ (c : Change) (state : State) (Between : (variable message : ℕ → Bool) → Names → Names → Type 0) (keeps : Keeps c state Between) where
  -- the body of a quantifier, by whether it stops the change
  at-body : (stops capture : Bool) (f g : Formula) (new old : Names) → (not stops && capture) ≡ false
      → (stops ≡ true → holds f new state ≡ holds f old state)
      → (stops ≡ false → capture ≡ false → holds g new state ≡ holds f old state)
      → holds (if stops then f else g) new state ≡ holds f old state
  at-body true capture f g new old clear same changes = same refl
  at-body false capture f g new old clear same changes = changes refl clear

  pub holds-changed : (f : Formula) (variable message : ℕ → Bool) (new old : Names) → Between variable message new old → captures_under c variable message f ≡ false → holds (changed c f) new state ≡ holds f old state
  unfolding opened
  holds-changed True variable message new old between clear = refl
  holds-changed False variable message new old between clear = refl
  holds-changed (Eq a b) variable message new old between clear =
      let reads = keeps.reads variable message new old between in
      let v = value-changed c variable message new old state reads a (or-false-left _ _ clear) in
      let w = value-changed c variable message new old state reads b (or-false-right _ _ clear) in
      λ i. int_eq (v i) (w i)
  holds-changed (Lt a b) variable message new old between clear =
      let reads = keeps.reads variable message new old between in
      let v = value-changed c variable message new old state reads a (or-false-left _ _ clear) in
      let w = value-changed c variable message new old state reads b (or-false-right _ _ clear) in
      λ i. int_lt (v i) (w i)
  holds-changed (Le a b) variable message new old between clear =
      let reads = keeps.reads variable message new old between in
      let v = value-changed c variable message new old state reads a (or-false-left _ _ clear) in
      let w = value-changed c variable message new old state reads b (or-false-right _ _ clear) in
      λ i. int_le (v i) (w i)
  holds-changed (Not' _ (one_formula f end_formula)) variable message new old between clear =
      ap not (holds-changed f variable message new old between clear)
  holds-changed (And' _ (one_formula f end_formula) _ (one_formula g end_formula)) variable message new old between clear =
      let v = holds-changed f variable message new old between (or-false-left _ _ clear) in
      let w = holds-changed g variable message new old between (or-false-right _ _ clear) in
      λ i. v i && w i
  holds-changed (Or' _ (one_formula f end_formula) _ (one_formula g end_formula)) variable message new old between clear =
      let v = holds-changed f variable message new old between (or-false-left _ _ clear) in
      let w = holds-changed g variable message new old between (or-false-right _ _ clear) in
      λ i. v i || w i
  holds-changed (Implies' _ (one_formula f end_formula) _ (one_formula g end_formula)) variable message new old between clear =
      let v = holds-changed f variable message new old between (or-false-left _ _ clear) in
      let w = holds-changed g variable message new old between (or-false-right _ _ clear) in
      λ i. not (v i) || w i
  holds-changed (All' x _ (one_formula f end_formula)) variable message new old between clear =
      let each = λ (node : ℕ). at-body (c.stops_at_variable x) (captures_under c (and_name x variable) message f) f (changed c f) (with_number new x (pos node)) (with_number old x (pos node)) clear
      (λ stops. keeps.stopped_node variable message new old between x (pos node) stops f)
      (λ goes quiet. holds-changed f (and_name x variable) message (with_number new x (pos node)) (with_number old x (pos node)) (keeps.node variable message new old between x (pos node) goes) quiet) in
      λ i. every_below state.nodes (λ node. each node i)
  holds-changed (Exists' x _ (one_formula f end_formula)) variable message new old between clear =
      let each = λ (node : ℕ). at-body (c.stops_at_variable x) (captures_under c (and_name x variable) message f) f (changed c f) (with_number new x (pos node)) (with_number old x (pos node)) clear
      (λ stops. keeps.stopped_node variable message new old between x (pos node) stops f)
      (λ goes quiet. holds-changed f (and_name x variable) message (with_number new x (pos node)) (with_number old x (pos node)) (keeps.node variable message new old between x (pos node) goes) quiet) in
      λ i. some_below state.nodes (λ node. each node i)
  holds-changed (Each' m label tag _ (one_formula f end_formula)) variable message new old between clear =
      let own = (keeps.reads variable message new old between).own label in
      let each = λ (l id : ℕ). at-body (c.stops_at_message m) (captures_under c variable (and_name m message) f) f (changed c f) (with_message new m (Stored l id)) (with_message old m (Stored l id)) clear
      (λ stops. keeps.stopped_message variable message new old between m (Stored l id) stops f)
      (λ goes quiet. holds-changed f variable (and_name m message) (with_message new m (Stored l id)) (with_message old m (Stored l id)) (keeps.message variable message new old between m (Stored l id) goes) quiet) in
      (λ i. every_message state (label_of new.own (c.label label)) tag (λ id. each (label_of new.own (c.label label)) id i))
      ∙ (λ i. every_message state (own i) tag (λ id. holds f (with_message old m (Stored (own i) id)) state))
  holds-changed (Any' m label tag _ (one_formula f end_formula)) variable message new old between clear =
      let own = (keeps.reads variable message new old between).own label in
      let each = λ (l id : ℕ). at-body (c.stops_at_message m) (captures_under c variable (and_name m message) f) f (changed c f) (with_message new m (Stored l id)) (with_message old m (Stored l id)) clear
      (λ stops. keeps.stopped_message variable message new old between m (Stored l id) stops f)
      (λ goes quiet. holds-changed f variable (and_name m message) (with_message new m (Stored l id)) (with_message old m (Stored l id)) (keeps.message variable message new old between m (Stored l id) goes) quiet) in
      (λ i. some_message state (label_of new.own (c.label label)) tag (λ id. each (label_of new.own (c.label label)) id i))
      ∙ (λ i. some_message state (own i) tag (λ id. holds f (with_message old m (Stored (own i) id)) state))
