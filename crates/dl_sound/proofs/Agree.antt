-- A formula has one truth in two states that agree on the labels in it.
use Rattle.std.proofs.Common.{◌≡◌, ℕ, ◌==◌, ℤ, pos, Bool, true, false, Option, Some, None, ◌++◌, not, ◌&&◌, ◌||◌, refl, ap, cond, length}
use mathlib.Core.Path.{ap₂, fun_ext}
use Rattle.std.specs.Prelude.{slice_get, ◌+ℤ◌, ◌-ℤ◌, ◌*ℤ◌, int_lt, int_le}
use Rattle.std.specs.Ordering.{int_eq}
use Rattle.std.specs.List.{AllByRecursion as Each}
use Rattle.dl_term.specs.declared.syntax.Lab.{Lab}
use Rattle.dl_term.specs.declared.syntax.Part.{Part}
use Rattle.dl_term.specs.declared.syntax.Term.{Term, Num, Word, Var, Field', Row', Len, Msg, Add', Sub', Mul', If', more_of-Term as one, end_of-Term as end}
use Rattle.dl_term.specs.declared.syntax.Formula.{Formula, True, False, Eq, Lt, Le, Not', And', Or', Implies', All', Exists', Each', Any', more_of-Formula as one_formula, end_of-Formula as end_formula}
use Rattle.dl_term.specs.State.{State, statelet, cell, part_of, tag_of}
use Rattle.dl_term.specs.Names.{Names, Meant, Stored, Given, with_number, with_message, label_of}
use Rattle.dl_term.specs.Meaning.{value, holds, every_below, some_below, part_in}
use Rattle.dl_model.specs.Spoken.{term_labels, labels_of}
use Rattle.dl_model.proofs.Small.{each-front, each-back}

-- the states agree on these labels, and on those of the messages that the names stand for
pub record Agree (L : Lab → Type 0) (n : Names) (s s' : State) : Type 0 where
  pub nodes : s.nodes ≡ s'.nodes
  pub labels : (lab : Lab) → L lab → statelet s (label_of n.own lab) ≡ statelet s' (label_of n.own lab)
  pub messages : (m label id : ℕ) → n.message m ≡ Some (Stored label id) → statelet s label ≡ statelet s' label

same_part : (m : Option Meant) (s s' : State) (part : Part) → ((label id : ℕ) → m ≡ Some (Stored label id) → statelet s label ≡ statelet s' label) → part_in s m part ≡ part_in s' m part
same_part None s s' part h = refl
same_part (Some (Given parts)) s s' part h = refl
same_part (Some (Stored label id)) s s' part h = ap (λ st. part_of id (slice_get st.soup id) part) (h label id refl)

message_with : (b : Bool) (l i : ℕ) (p : Option Meant) (s s' : State) (label id : ℕ) → statelet s l ≡ statelet s' l → (p ≡ Some (Stored label id) → statelet s label ≡ statelet s' label) →
    cond b (Some (Stored l i)) p ≡ Some (Stored label id) → statelet s label ≡ statelet s' label
message_with true l i p s s' label id h k e = let q : l ≡ label = cc in rw q at h
message_with false l i p s s' label id h k e = k e

agree-number : {L : Lab → Type 0} {n : Names} {s s' : State} → Agree L n s s' → (x : ℕ) (v : ℤ) → Agree L (with_number n x v) s s'
agree-number a x v = record { nodes = a.nodes; labels = a.labels; messages = a.messages }

agree-message : {L : Lab → Type 0} {n : Names} {s s' : State} → Agree L n s s' → (m l i : ℕ) → statelet s l ≡ statelet s' l → Agree L (with_message n m (Stored l i)) s s'
agree-message {L} {n} {s} {s'} a m l i h = record {
  nodes = a.nodes;
  labels = a.labels;
  messages = λ k label id e. message_with (k == m) l i (n.message k) s s' label id h (a.messages k label id) e;
}

module _ (L : Lab → Type 0) (s s' : State) where
  pub value-same : (t : Term) (n : Names) → Each L (term_labels t) → Agree L n s s' → value t n s ≡ value t n s'
  value-same (Num v) n h a = refl
  value-same (Word x v) n h a = refl
  value-same (Var x) n h a = refl
  value-same (Field' label field _ (one node end)) n h a =
      ap₂ (λ st v. cell st.fields field v (pos 0)) (a.labels label h.0) (value-same node n h.1 a)
  value-same (Row' label field _ (one node end) _ (one index end)) n h a =
      let v = value-same node n (each-front L (term_labels node) (term_labels index) h.1) a in
      let w = value-same index n (each-back L (term_labels node) (term_labels index) h.1) a in
      let st = a.labels label h.0 in
      λ i. cell (st i).fields field (v i) (w i)
  value-same (Len label) n h a = ap (λ st. pos (length st.soup)) (a.labels label h.0)
  value-same (Msg msg part) n h a = same_part (n.message msg) s s' part (a.messages msg)
  value-same (Add' _ (one x end) _ (one y end)) n h a =
      ap₂ ◌+ℤ◌ (value-same x n (each-front L (term_labels x) (term_labels y) h) a) (value-same y n (each-back L (term_labels x) (term_labels y) h) a)
  value-same (Sub' _ (one x end) _ (one y end)) n h a =
      ap₂ ◌-ℤ◌ (value-same x n (each-front L (term_labels x) (term_labels y) h) a) (value-same y n (each-back L (term_labels x) (term_labels y) h) a)
  value-same (Mul' _ (one x end) _ (one y end)) n h a =
      ap₂ ◌*ℤ◌ (value-same x n (each-front L (term_labels x) (term_labels y) h) a) (value-same y n (each-back L (term_labels x) (term_labels y) h) a)
  value-same (If' _ (one x end) _ (one y end) _ (one z end) _ (one w end)) n h a =
      let tested = each-front L (term_labels x ++ term_labels y) (term_labels z ++ term_labels w) h in
      let chosen = each-back L (term_labels x ++ term_labels y) (term_labels z ++ term_labels w) h in
      let p = value-same x n (each-front L (term_labels x) (term_labels y) tested) a in
      let q = value-same y n (each-back L (term_labels x) (term_labels y) tested) a in
      let u = value-same z n (each-front L (term_labels z) (term_labels w) chosen) a in
      let v = value-same w n (each-back L (term_labels z) (term_labels w) chosen) a in
      λ i. cond (int_eq (p i) (q i)) (u i) (v i)

  pub holds-same : (f : Formula) (n : Names) → Each L (labels_of f) → Agree L n s s' → holds f n s ≡ holds f n s'
  holds-same True n h a = refl
  holds-same False n h a = refl
  holds-same (Eq x y) n h a = ap₂ int_eq (value-same x n (each-front L (term_labels x) (term_labels y) h) a) (value-same y n (each-back L (term_labels x) (term_labels y) h) a)
  holds-same (Lt x y) n h a = ap₂ int_lt (value-same x n (each-front L (term_labels x) (term_labels y) h) a) (value-same y n (each-back L (term_labels x) (term_labels y) h) a)
  holds-same (Le x y) n h a = ap₂ int_le (value-same x n (each-front L (term_labels x) (term_labels y) h) a) (value-same y n (each-back L (term_labels x) (term_labels y) h) a)
  holds-same (Not' _ (one_formula f end_formula)) n h a = ap not (holds-same f n h a)
  holds-same (And' _ (one_formula f end_formula) _ (one_formula g end_formula)) n h a =
      ap₂ ◌&&◌ (holds-same f n (each-front L (labels_of f) (labels_of g) h) a) (holds-same g n (each-back L (labels_of f) (labels_of g) h) a)
  holds-same (Or' _ (one_formula f end_formula) _ (one_formula g end_formula)) n h a =
      ap₂ ◌||◌ (holds-same f n (each-front L (labels_of f) (labels_of g) h) a) (holds-same g n (each-back L (labels_of f) (labels_of g) h) a)
  holds-same (Implies' _ (one_formula f end_formula) _ (one_formula g end_formula)) n h a =
      ap₂ (λ p q. not p || q) (holds-same f n (each-front L (labels_of f) (labels_of g) h) a) (holds-same g n (each-back L (labels_of f) (labels_of g) h) a)
  holds-same (All' x _ (one_formula body end_formula)) n h a =
      ap₂ every_below a.nodes (fun_ext (λ node. holds-same body (with_number n x (pos node)) h (agree-number a x (pos node))))
  holds-same (Exists' x _ (one_formula body end_formula)) n h a =
      ap₂ some_below a.nodes (fun_ext (λ node. holds-same body (with_number n x (pos node)) h (agree-number a x (pos node))))
  holds-same (Each' msg label tag _ (one_formula body end_formula)) n h a =
      let st = a.labels label h.0 in
      let inside = fun_ext (λ id. holds-same body (with_message n msg (Stored (label_of n.own label) id)) h.1 (agree-message a msg (label_of n.own label) id st)) in
      λ i. every_below (length (st i).soup) (λ id. not (tag_of (slice_get (st i).soup id) == tag) || inside i id)
  holds-same (Any' msg label tag _ (one_formula body end_formula)) n h a =
      let st = a.labels label h.0 in
      let inside = fun_ext (λ id. holds-same body (with_message n msg (Stored (label_of n.own label) id)) h.1 (agree-message a msg (label_of n.own label) id st)) in
      λ i. some_below (length (st i).soup) (λ id. (tag_of (slice_get (st i).soup id) == tag) && inside i id)
