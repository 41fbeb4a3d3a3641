-- A term before a step has the value that it has after it, and a formula holds where it does, by what the step does to fields,
-- lengths and messages.
use Rattle.std.proofs.Common.{◌≡◌, ℕ, ℤ, pos, ◌+ℤ◌, ◌-ℤ◌, ◌*ℤ◌, Bool, true, false, not, ◌&&◌, ◌||◌, ◌==◌, if◌then◌else◌, int_lt, int_le, Option, Some, None, length, refl, ◌∙◌, ap, sym, subst, eqb-true, eq-eqb}
use Rattle.std.specs.Prelude.{is_some}
use Rattle.std.specs.Ordering.{int_eq}
use Rattle.dl_term.specs.declared.syntax.Lab.{Lab}
use Rattle.dl_term.specs.declared.syntax.Lab.TheVariants.{Own, At}
use Rattle.dl_term.specs.declared.syntax.Part.{Part}
use Rattle.dl_term.specs.declared.syntax.Part.TheVariants.{Id, From, To, Live, Arg}
use Rattle.dl_term.specs.declared.syntax.Term.{Term, Num, Word, Var, Field, Row, Field', Row', Len, Msg, Add', Sub', Mul', If, If', more_of-Term as one, end_of-Term as end}
use Rattle.dl_term.specs.declared.syntax.Formula.{Formula, True, False, Eq, Lt, Le, Not', And', Or', Implies', All', Exists', Each, Any, Each', Any', more_of-Formula as one_formula, end_of-Formula as end_formula}
use Rattle.dl_term.specs.Syntax.{opened}
use Rattle.dl_term.specs.State.{Statelet, State, statelet, cell, field_at, soup_at}
use Rattle.dl_term.specs.Names.{Meant, Names, with_number, with_message, label_of}
use Rattle.dl_term.specs.Meaning.{value, holds, part_in, every_below, some_below}
use Rattle.dl_term.specs.Same.{same_label}
use Rattle.dl_model.specs.declared.protocol.Update.{Update}
use Rattle.dl_model.specs.declared.protocol.Protocol.{Protocol}
use Rattle.dl_model.specs.Steps.{index_of}
use Rattle.dl_model.specs.Scopes.{is_field}
use Rattle.dl_subst.specs.Change.{changed_term, and_name}
use Rattle.dl_subst.proofs.Changed.{or-false-left, or-false-right}
use Rattle.dl_subst.proofs.Between.{Unbound, value-unbound, Unbound-number, Unbound-message}
use Rattle.dl_wp.specs.Choices.{pick}
use Rattle.dl_wp.specs.Steps.{Move, Sends, Receives, Step, label_seen, as_seen, seen, seen_index}
use Rattle.dl_wp.specs.Before.{update_of, update_at, field_before, row_before, len_before, part_before, term_before, is_over, each_before, any_before, before}
use Rattle.dl_wp.specs.Captures.{Around, under_variable, under_message, is_bound, field_captures, row_captures, part_captures, term_captures, captures}
use Rattle.dl_wp.specs.Conditions.{part_fits, TermFits, FormulaFits}
use Rattle.dl_wp.proofs.Choosing.{value-pick}
use Rattle.dl_wp.proofs.Cells.{put_at, put_by}

-- in these names the step's terms stand for the step that is made, whose updates see the names `inner`
pub record Reads (step : Step) (old : State) (label node : ℕ) (base inner : Names) : Type 0 where
  pub at_label : label_of base.own step.label ≡ label
  pub own : inner.own ≡ label
  pub by_node : value step.node base old ≡ pos node
  pub named : (x : ℕ) → value (step.named x) base old ≡ inner.number x
  pub none : (m : ℕ) → inner.message m ≡ None

-- what the step does to fields and lengths
pub record Effect (step : Step) (old new : State) (label node : ℕ) (inner : Names) : Type 0 where
  pub nodes : new.nodes ≡ old.nodes
  pub cell : (field : ℕ) (v i : ℤ) → field_at new label field v i ≡ put_by node inner old (update_of step.updates field) v i (field_at old label field v i)
  pub other : (l : ℕ) → (l == label) ≡ false → statelet new l ≡ statelet old l
  pub len : (lab : Lab) (names : Names) (here : Bool) → (label_of names.own lab == label) ≡ here → value (len_before step.move here lab) names old ≡ pos (length (soup_at new (label_of names.own lab)))

-- how labels are written, and that an updated field that is no row has an update without an index
pub record Written (step : Step) (spoken : Lab → Option Protocol) (own : ℕ) : Type 0 where
  pub labels : (l : Lab) → is_some (spoken l) ≡ true → same_label l step.label ≡ (label_of own l == label_of own step.label)
  pub plain : (l : Lab) (field : ℕ) (u : Update) → same_label l step.label ≡ true → update_of step.updates field ≡ Some u → is_field (spoken l) field false ≡ true → u.index ≡ None

-- Names before and after the step, below quantifiers. A part of a message has after the step what stands for it before.
pub record Between (step : Step) (old new : State) (base : Names) (around : Around) (b a : Names) : Type 0 where
  pub unbound : Unbound around.variable around.message b base
  pub own : a.own ≡ base.own
  pub numbers : (x : ℕ) → b.number x ≡ a.number x
  pub parts : (m : ℕ) (part : Part) → part_fits (around.message m) part ≡ true → part_captures step.move around m part ≡ false
      → value (part_before step.move (around.over m) m part) b old ≡ part_in new (a.message m) part

field-there : (o : Option Protocol) (field : ℕ) (row : Bool) → is_field o field row ≡ true → is_some o ≡ true
field-there None field row h = cc
field-there (Some protocol) field row h = refl

module _ (step : Step) (old : State) (label node : ℕ) (base inner : Names) (reads : Reads step old label node base inner) where
  seen-label : (l : Lab) → label_of base.own (label_seen step.label l) ≡ label_of inner.own l
  seen-label Own = reads.at_label ∙ sym reads.own
  seen-label (At n) = refl

  pub value-seen : (t : Term) → value (seen step t) base old ≡ value t inner old
  unfolding opened
  value-seen (Num v) = refl
  value-seen (Word x v) = refl
  value-seen (Var x) = reads.named x
  value-seen (Field' l f _ (one n end)) = λ i. field_at old (seen-label l i) f (value-seen n i) (pos 0)
  value-seen (Row' l f _ (one n end) _ (one index end)) = λ i. field_at old (seen-label l i) f (value-seen n i) (value-seen index i)
  value-seen (Len l) = λ i. pos (length (soup_at old (seen-label l i)))
  value-seen (Msg m part) = ap (λ o. part_in old o part) (sym (reads.none m))
  value-seen (Add' _ (one s end) _ (one t end)) = λ i. value-seen s i +ℤ value-seen t i
  value-seen (Sub' _ (one s end) _ (one t end)) = λ i. value-seen s i -ℤ value-seen t i
  value-seen (Mul' _ (one s end) _ (one t end)) = λ i. value-seen s i *ℤ value-seen t i
  value-seen (If' _ (one s end) _ (one t end) _ (one x end) _ (one y end)) =
      λ i. if int_eq (value-seen s i) (value-seen t i) then value-seen x i else value-seen y i

  module _ (around : Around) (b : Names) (unbound : Unbound around.variable around.message b base) where
    node-value : is_bound around step.node ≡ false → value step.node b old ≡ pos node
    node-value clear = value-unbound step.node around.variable around.message b base old unbound clear ∙ reads.by_node

    new-value : (t : Term) → is_bound around (seen step t) ≡ false → value (seen step t) b old ≡ value t inner old
    new-value t clear = value-unbound (seen step t) around.variable around.message b base old unbound clear ∙ value-seen t

    index-value : (o : Option Term) → is_bound around (seen_index step o) ≡ false → value (seen_index step o) b old ≡ index_of o inner old
    index-value (Some t) clear = new-value t clear
    index-value None clear = refl

    field-put : (o : Option Update) (l : Lab) (f : ℕ) (n : Term) (w : ℤ) → label_of b.own l ≡ label → ((u : Update) → o ≡ Some u → u.index ≡ None) → field_captures step around o ≡ false → value n b old ≡ w
        → value (field_before step o n (Field l f n)) b old ≡ put_by node inner old o w (pos 0) (field_at old label f w (pos 0))
    unfolding opened
    field-put None l f n w lab plain clear v = λ i. field_at old (lab i) f (v i) (pos 0)
    field-put (Some u) l f n w lab plain clear v =
        let s = node-value (or-false-left _ _ clear) in
        let x = new-value u.value (or-false-right _ _ clear) in
        value-pick n step.node (seen step u.value) (Field l f n) b old
        ∙ (λ i. if int_eq (v i) (s i) then x i else field_at old (lab i) f (v i) (pos 0))
        ∙ ap (λ o. if int_eq w (pos node) then (if int_eq (pos 0) (index_of o inner old) then value u.value inner old else field_at old label f w (pos 0)) else field_at old label f w (pos 0)) (sym (plain u refl))

    row-put : (o : Option Update) (l : Lab) (f : ℕ) (n index : Term) (w z : ℤ) → label_of b.own l ≡ label → row_captures step around o ≡ false → value n b old ≡ w → value index b old ≡ z
        → value (row_before step o n index (Row l f n index)) b old ≡ put_by node inner old o w z (field_at old label f w z)
    unfolding opened
    row-put None l f n index w z lab clear v y = λ i. field_at old (lab i) f (v i) (y i)
    row-put (Some u) l f n index w z lab clear v y =
        let rest = or-false-right _ _ clear in
        let s = node-value (or-false-left _ _ clear) in
        let j = index-value u.index (or-false-left _ _ rest) in
        let x = new-value u.value (or-false-right _ _ rest) in
        value-pick n step.node (pick index (seen_index step u.index) (seen step u.value) (Row l f n index)) (Row l f n index) b old
        ∙ (λ i. if int_eq (value n b old) (value step.node b old) then value-pick index (seen_index step u.index) (seen step u.value) (Row l f n index) b old i else value (Row l f n index) b old)
        ∙ (λ i. if int_eq (v i) (s i) then (if int_eq (y i) (j i) then x i else field_at old (lab i) f (v i) (y i)) else field_at old (lab i) f (v i) (y i))

  module _ (new : State) (spoken : Lab → Option Protocol) (effect : Effect step old new label node inner) (written : Written step spoken base.own) where
    here : (l : Lab) (same : Bool) → is_some (spoken l) ≡ true → same_label l step.label ≡ same → (label_of base.own l == label) ≡ same
    here l same there e = ap (λ n. label_of base.own l == n) (sym reads.at_label) ∙ sym (written.labels l there) ∙ e

    field-case : (same : Bool) (around : Around) (b : Names) (l : Lab) (f : ℕ) (n : Term) (w : ℤ) → Unbound around.variable around.message b base → is_field (spoken l) f false ≡ true → same_label l step.label ≡ same
        → field_captures step around (if same then update_of step.updates f else None) ≡ false → value n b old ≡ w
        → value (field_before step (if same then update_of step.updates f else None) n (Field l f n)) b old ≡ field_at new (label_of b.own l) f w (pos 0)
    unfolding opened
    field-case true around b l f n w unbound fits e clear v =
        let lab = ap (λ own. label_of own l) unbound.own ∙ eqb-true _ _ (here l true (field-there (spoken l) f false fits) e) in
        field-put around b unbound (update_of step.updates f) l f n w lab (λ u is. written.plain l f u e is fits) clear v
        ∙ sym (effect.cell f w (pos 0)) ∙ ap (λ k. field_at new k f w (pos 0)) (sym lab)
    field-case false around b l f n w unbound fits e clear v =
        (λ i. field_at old (label_of b.own l) f (v i) (pos 0))
        ∙ ap (λ (s : Statelet). cell s.fields f w (pos 0)) (sym (effect.other (label_of b.own l) (ap (λ own. label_of own l == label) unbound.own ∙ here l false (field-there (spoken l) f false fits) e)))

    row-case : (same : Bool) (around : Around) (b : Names) (l : Lab) (f : ℕ) (n index : Term) (w z : ℤ) → Unbound around.variable around.message b base → is_field (spoken l) f true ≡ true → same_label l step.label ≡ same
        → row_captures step around (if same then update_of step.updates f else None) ≡ false → value n b old ≡ w → value index b old ≡ z
        → value (row_before step (if same then update_of step.updates f else None) n index (Row l f n index)) b old ≡ field_at new (label_of b.own l) f w z
    unfolding opened
    row-case true around b l f n index w z unbound fits e clear v y =
        let lab = ap (λ own. label_of own l) unbound.own ∙ eqb-true _ _ (here l true (field-there (spoken l) f true fits) e) in
        row-put around b unbound (update_of step.updates f) l f n index w z lab clear v y
        ∙ sym (effect.cell f w z) ∙ ap (λ k. field_at new k f w z) (sym lab)
    row-case false around b l f n index w z unbound fits e clear v y =
        (λ i. field_at old (label_of b.own l) f (v i) (y i))
        ∙ ap (λ (s : Statelet). cell s.fields f w z) (sym (effect.other (label_of b.own l) (ap (λ own. label_of own l == label) unbound.own ∙ here l false (field-there (spoken l) f true fits) e)))

    own-both : (around : Around) (b a : Names) → Between step old new base around b a → b.own ≡ a.own
    own-both around b a h = h.unbound.own ∙ sym h.own

    pub value-before : (t : Term) (around : Around) (b a : Names) → TermFits spoken around.message t → term_captures step around t ≡ false → Between step old new base around b a → value (term_before step around.over t) b old ≡ value t a new
    unfolding opened
    value-before (Num v) around b a fits clear h = refl
    value-before (Word x v) around b a fits clear h = refl
    value-before (Var x) around b a fits clear h = h.numbers x
    value-before (Field' l f _ (one n end)) around b a fits clear h =
        field-case (same_label l step.label) around b l f (term_before step around.over n) (value n a new) h.unbound fits.0 refl (or-false-left _ _ clear) (value-before n around b a fits.1 (or-false-right _ _ clear) h)
        ∙ ap (λ own. field_at new (label_of own l) f (value n a new) (pos 0)) (own-both around b a h)
    value-before (Row' l f _ (one n end) _ (one index end)) around b a fits clear h =
        let rest = or-false-right _ _ clear in
        row-case (same_label l step.label) around b l f (term_before step around.over n) (term_before step around.over index) (value n a new) (value index a new) h.unbound fits.0 refl (or-false-left _ _ clear)
        (value-before n around b a fits.1 (or-false-left _ _ rest) h) (value-before index around b a fits.2 (or-false-right _ _ rest) h)
        ∙ ap (λ own. field_at new (label_of own l) f (value n a new) (value index a new)) (own-both around b a h)
    value-before (Len l) around b a fits clear h =
        effect.len l b (same_label l step.label) (ap (λ own. label_of own l == label) h.unbound.own ∙ here l (same_label l step.label) fits refl)
        ∙ ap (λ own. pos (length (soup_at new (label_of own l)))) (own-both around b a h)
    value-before (Msg m part) around b a fits clear h = h.parts m part fits clear
    value-before (Add' _ (one s end) _ (one t end)) around b a fits clear h =
        let v = value-before s around b a fits.0 (or-false-left _ _ clear) h in
        let w = value-before t around b a fits.1 (or-false-right _ _ clear) h in
        λ i. v i +ℤ w i
    value-before (Sub' _ (one s end) _ (one t end)) around b a fits clear h =
        let v = value-before s around b a fits.0 (or-false-left _ _ clear) h in
        let w = value-before t around b a fits.1 (or-false-right _ _ clear) h in
        λ i. v i -ℤ w i
    value-before (Mul' _ (one s end) _ (one t end)) around b a fits clear h =
        let v = value-before s around b a fits.0 (or-false-left _ _ clear) h in
        let w = value-before t around b a fits.1 (or-false-right _ _ clear) h in
        λ i. v i *ℤ w i
    value-before (If' _ (one s end) _ (one t end) _ (one x end) _ (one y end)) around b a fits clear h =
        let tested = or-false-left _ _ clear in
        let chosen = or-false-right _ _ clear in
        let p = value-before s around b a fits.0 (or-false-left _ _ tested) h in
        let q = value-before t around b a fits.1 (or-false-right _ _ tested) h in
        let r = value-before x around b a fits.2 (or-false-left _ _ chosen) h in
        let k = value-before y around b a fits.3 (or-false-right _ _ chosen) h in
        λ i. if int_eq (p i) (q i) then r i else k i

    -- what holds of a quantifier over messages, where it holds of its body
    abbrev Lifts : (Move → Bool → ℕ → Lab → ℕ → Formula → Formula) → (ℕ → Lab → ℕ → Formula → Formula) → Type 0
    Lifts made over = (around : Around) (b a : Names) (m : ℕ) (lab : Lab) (tag : ℕ) (f : Formula) → Between step old new base around b a → is_some (spoken lab) ≡ true
        → captures step (under_message around m (is_over step lab tag)) f ≡ false
        → ((b' a' : Names) → Between step old new base (under_message around m (is_over step lab tag)) b' a' → holds (before step (under_message around m (is_over step lab tag)).over f) b' old ≡ holds f a' new)
        → holds (made step.move (is_over step lab tag) m lab tag (before step (under_message around m (is_over step lab tag)).over f)) b old ≡ holds (over m lab tag f) a new

    module _ (numbered : (around : Around) (b a : Names) (x : ℕ) (v : ℤ) → Between step old new base around b a → Between step old new base (under_variable around x) (with_number b x v) (with_number a x v))
        (each : Lifts each_before Each) (any : Lifts any_before Any) where
      pub holds-before : (f : Formula) (around : Around) (b a : Names) → FormulaFits spoken around.message f → captures step around f ≡ false → Between step old new base around b a → holds (before step around.over f) b old ≡ holds f a new
      unfolding opened
      holds-before True around b a fits clear h = refl
      holds-before False around b a fits clear h = refl
      holds-before (Eq s t) around b a fits clear h =
          let v = value-before s around b a fits.0 (or-false-left _ _ clear) h in
          let w = value-before t around b a fits.1 (or-false-right _ _ clear) h in
          λ i. int_eq (v i) (w i)
      holds-before (Lt s t) around b a fits clear h =
          let v = value-before s around b a fits.0 (or-false-left _ _ clear) h in
          let w = value-before t around b a fits.1 (or-false-right _ _ clear) h in
          λ i. int_lt (v i) (w i)
      holds-before (Le s t) around b a fits clear h =
          let v = value-before s around b a fits.0 (or-false-left _ _ clear) h in
          let w = value-before t around b a fits.1 (or-false-right _ _ clear) h in
          λ i. int_le (v i) (w i)
      holds-before (Not' _ (one_formula f end_formula)) around b a fits clear h = ap not (holds-before f around b a fits clear h)
      holds-before (And' _ (one_formula f end_formula) _ (one_formula g end_formula)) around b a fits clear h =
          let v = holds-before f around b a fits.0 (or-false-left _ _ clear) h in
          let w = holds-before g around b a fits.1 (or-false-right _ _ clear) h in
          λ i. v i && w i
      holds-before (Or' _ (one_formula f end_formula) _ (one_formula g end_formula)) around b a fits clear h =
          let v = holds-before f around b a fits.0 (or-false-left _ _ clear) h in
          let w = holds-before g around b a fits.1 (or-false-right _ _ clear) h in
          λ i. v i || w i
      holds-before (Implies' _ (one_formula f end_formula) _ (one_formula g end_formula)) around b a fits clear h =
          let v = holds-before f around b a fits.0 (or-false-left _ _ clear) h in
          let w = holds-before g around b a fits.1 (or-false-right _ _ clear) h in
          λ i. not (v i) || w i
      holds-before (All' x _ (one_formula f end_formula)) around b a fits clear h =
          let go = λ (k : ℕ). holds-before f (under_variable around x) (with_number b x (pos k)) (with_number a x (pos k)) fits clear (numbered around b a x (pos k) h) in
          λ i. every_below (sym effect.nodes i) (λ k. go k i)
      holds-before (Exists' x _ (one_formula f end_formula)) around b a fits clear h =
          let go = λ (k : ℕ). holds-before f (under_variable around x) (with_number b x (pos k)) (with_number a x (pos k)) fits clear (numbered around b a x (pos k) h) in
          λ i. some_below (sym effect.nodes i) (λ k. go k i)
      holds-before (Each' m lab tag _ (one_formula f end_formula)) around b a fits clear h =
          each around b a m lab tag f h fits.0 clear
          (λ b' a' k. holds-before f (under_message around m (is_over step lab tag)) b' a' fits.1 clear k)
      holds-before (Any' m lab tag _ (one_formula f end_formula)) around b a fits clear h =
          any around b a m lab tag f h fits.0 clear
          (λ b' a' k. holds-before f (under_message around m (is_over step lab tag)) b' a' fits.1 clear k)
