-- The faults of formulas and terms, by what may be named.
use Rattle.std.proofs.Common.{◌≡◌, ℕ, zero, suc, true, false, List, [], ◌∷◌, Option, Some, None, length, refl, ap, sym, ◌∙◌, ◌+◌, ◌<◌, drop, get_or, add-one, arith, inl, inr}
use Rattle.std.specs.Prelude.{◌==◌}
use Rattle.dl_tree.specs.declared.tree.Place.{Place}
use Rattle.dl_tree.specs.declared.tree.Tree.{Tree, Num, Sym, List'}
use Rattle.dl_tree.specs.declared.tree.Tree.TheVariants as tree
use Rattle.dl_forms.specs.declared.head.Head.{Head}
use Rattle.dl_forms.specs.declared.head.Head.TheVariants as head
use Rattle.dl_forms.specs.declared.position.Position.{Position}
use Rattle.dl_forms.specs.declared.position.Position.TheVariants.{Term, Formula, Label, Field, Tag, Message, NewVariable, NewMessage, Argument}
use Rattle.dl_forms.specs.Context.{Context}
use Rattle.dl_forms.specs.Form.{head_of}
use Rattle.dl_forms.specs.Notation.{forms, form_with, formula_forms, term_forms}
use Rattle.dl_forms.specs.Width.{is_wide}
use Rattle.dl_forms.specs.Judge.{Fault, OfNames, ◌or_else◌, behind, fault, list_rule, misses_index, protocol_named, row_at}
use Rattle.dl_forms.specs.Parts.{parts_fault, form_fault}
use Rattle.dl_forms.proofs.FaultLemmas.{fault-Num, fault-Sym, fault_of_empty, fault-List, parts_fault-drop}
use Rattle.dl_forms.proofs.NameLemmas.{split}
use Rattle.dl_notation.specs.Bound.{is_binding}
use Rattle.dl_rules.specs.Judged.{binds_first, binds_none, formed, is_arithmetic, is_term, label_behind, rule_of}
use Rattle.dl_rules.specs.Sights.{Binding, bindings_at, bindings_inside, seen}

-- ---- quantifiers and labels change neither labels nor protocols

module _ (c : Context) (bound : List Binding) (before : Option ℕ) where
  pub protocol_named-seen : (label : Tree) → protocol_named (seen c bound before) label ≡ protocol_named c label
  protocol_named-seen (Num v p) = refl
  protocol_named-seen (Sym name p) = refl
  protocol_named-seen (List' s row p) = refl

  row_at-seen : (label field : Tree) → row_at (seen c bound before) label field ≡ row_at c label field
  row_at-seen label (Num v p) = refl
  row_at-seen label (Sym name p) = rw (protocol_named-seen label) refl
  row_at-seen label (List' s row p) = refl

  reads-seen : (parts : List Tree) → misses_index (seen c bound before) head.Get parts ≡ misses_index c head.Get parts
  reads-seen [] = refl
  reads-seen (a ∷ []) = refl
  reads-seen (a ∷ b ∷ []) = refl
  reads-seen (a ∷ b ∷ x ∷ []) = rw (row_at-seen a b) refl
  reads-seen (a ∷ b ∷ x ∷ y ∷ []) = rw (row_at-seen a b) refl
  reads-seen (a ∷ b ∷ x ∷ y ∷ z ∷ parts) = refl

  misses-seen : (h : Head) (parts : List Tree) → misses_index (seen c bound before) h parts ≡ misses_index c h parts
  misses-seen head.Get parts = reads-seen parts
  misses-seen head.Len parts = refl
  misses-seen head.Id parts = refl
  misses-seen head.From parts = refl
  misses-seen head.To parts = refl
  misses-seen head.Live parts = refl
  misses-seen head.Arg parts = refl
  misses-seen head.Add parts = refl
  misses-seen head.Sub parts = refl
  misses-seen head.Mul parts = refl
  misses-seen head.If parts = refl
  misses-seen head.Eq parts = refl
  misses-seen head.Lt parts = refl
  misses-seen head.Le parts = refl
  misses-seen head.Not parts = refl
  misses-seen head.And parts = refl
  misses-seen head.Or parts = refl
  misses-seen head.Implies parts = refl
  misses-seen head.All parts = refl
  misses-seen head.Some parts = refl
  misses-seen head.Each parts = refl
  misses-seen head.Any parts = refl
  misses-seen head.Other parts = refl

  -- ---- lists

  -- the rule of a list that isn't too wide
  pub rule_of_narrow : (q : Position) (h : Head) (parts : List Tree) → is_wide c.words q h parts ≡ false → list_rule (OfNames (seen c bound before)) q h parts ≡ rule_of c h parts
  rule_of_narrow q h parts narrow = rw (misses-seen h parts, narrow) refl

  narrow_form : (q : Position) (p : Place) (h : Head) (parts : List Tree) (form : Option (List Position)) → is_wide c.words q h parts ≡ false →
      form_fault (OfNames (seen c bound before)) q p h parts form ≡ formed c bound before p h parts form
  narrow_form q p h parts None narrow = refl
  narrow_form q p h parts (Some form) narrow = rw (rule_of_narrow q h parts narrow) refl

  no_term : (q : Position) (h : Head) (parts : List Tree) → is_term q ≡ false → is_wide c.words q h parts ≡ false
  no_term Term h parts other = cc
  no_term Formula h parts other = refl
  no_term Label h parts other = refl
  no_term Field h parts other = refl
  no_term Tag h parts other = refl
  no_term Message h parts other = refl
  no_term NewVariable h parts other = refl
  no_term NewMessage h parts other = refl
  no_term Argument h parts other = refl

  pub fault_of_list : (first : Tree) (parts : List Tree) (p : Place) (q : Position) → is_term q ≡ false →
      fault (tree.List (first ∷ parts) p) (OfNames (seen c bound before)) q ≡ formed c bound before p (head_of first) parts (form_with (length parts) (forms q (head_of first)))
  fault_of_list first parts p q other =
      fault-List first parts p (OfNames (seen c bound before)) q
      ∙ narrow_form q p (head_of first) parts (form_with (length parts) (forms q (head_of first))) (no_term q (head_of first) parts other)

  -- a term that is neither a sum nor a product nor a choice is never too wide
  no_arithmetic : (h : Head) (parts : List Tree) → is_arithmetic h ≡ false → is_wide c.words Term h parts ≡ false
  no_arithmetic head.Get parts other = refl
  no_arithmetic head.Len parts other = refl
  no_arithmetic head.Id parts other = refl
  no_arithmetic head.From parts other = refl
  no_arithmetic head.To parts other = refl
  no_arithmetic head.Live parts other = refl
  no_arithmetic head.Arg parts other = refl
  no_arithmetic head.Add parts other = cc
  no_arithmetic head.Sub parts other = cc
  no_arithmetic head.Mul parts other = cc
  no_arithmetic head.If parts other = cc
  no_arithmetic head.Eq parts other = refl
  no_arithmetic head.Lt parts other = refl
  no_arithmetic head.Le parts other = refl
  no_arithmetic head.Not parts other = refl
  no_arithmetic head.And parts other = refl
  no_arithmetic head.Or parts other = refl
  no_arithmetic head.Implies parts other = refl
  no_arithmetic head.All parts other = refl
  no_arithmetic head.Some parts other = refl
  no_arithmetic head.Each parts other = refl
  no_arithmetic head.Any parts other = refl
  no_arithmetic head.Other parts other = refl

  pub fault_of_narrow : (first : Tree) (parts : List Tree) (p : Place) → is_arithmetic (head_of first) ≡ false →
      fault (tree.List (first ∷ parts) p) (OfNames (seen c bound before)) Term ≡ formed c bound before p (head_of first) parts (form_with (length parts) (forms Term (head_of first)))
  fault_of_narrow first parts p other =
      fault-List first parts p (OfNames (seen c bound before)) Term
      ∙ narrow_form Term p (head_of first) parts (form_with (length parts) (forms Term (head_of first))) (no_arithmetic (head_of first) parts other)

  -- ---- what stands behind a part

  pub behind_plain : (q : Position) (part : Tree) → is_binding q ≡ false → behind (OfNames (seen c bound before)) q part ≡ OfNames (seen c bound (label_behind c q part before))
  behind_plain Term part h = refl
  behind_plain Formula part h = refl
  behind_plain Label part h = rw (protocol_named-seen part) refl
  behind_plain Field part h = refl
  behind_plain Tag part h = refl
  behind_plain Message part h = refl
  behind_plain NewVariable part h = cc
  behind_plain NewMessage part h = cc
  behind_plain Argument part h = refl

-- ---- parts of which none binds a name

no_binding : (q : Position) (qs : List Position) → binds_none (q ∷ qs) ≡ true → (is_binding q ≡ false) × (binds_none qs ≡ true)
no_binding Term qs h = (refl, h)
no_binding Formula qs h = (refl, h)
no_binding Label qs h = (refl, h)
no_binding Field qs h = (refl, h)
no_binding Tag qs h = (refl, h)
no_binding Message qs h = (refl, h)
no_binding NewVariable qs h = cc
no_binding NewMessage qs h = cc
no_binding Argument qs h = (refl, h)

none_at : (qs : List Position) (i : ℕ) (q : Position) → i < length qs → q ≡ get_or qs i q → binds_none qs ≡ true → is_binding q ≡ false
none_at [] i q few is none = absurd (omega (arith, few))
none_at (r ∷ qs) zero q few is none = rw is (no_binding r qs none).0
none_at (r ∷ qs) (suc i) q few is none = none_at qs i q (omega (arith, few)) is (no_binding r qs none).1

module _ (c : Context) (before : Option ℕ) where
  behind_first : (outer inner : List Binding) (qs : List Position) (parts : List Tree) (q : Position) (part : Tree) → inner ≡ bindings_inside (q ∷ qs) (part ∷ parts) outer →
      behind (OfNames (seen c outer before)) q part ≡ OfNames (seen c inner (label_behind c q part before))
  behind_first outer inner qs parts Term part is = rw is refl
  behind_first outer inner qs parts Formula part is = rw is refl
  behind_first outer inner qs parts Label part is = rw (is, protocol_named-seen c outer before part) refl
  behind_first outer inner qs parts Field part is = rw is refl
  behind_first outer inner qs parts Tag part is = rw is refl
  behind_first outer inner qs parts Message part is = rw is refl
  behind_first outer inner qs parts NewVariable part is = rw is refl
  behind_first outer inner qs parts NewMessage part is = rw is refl
  behind_first outer inner qs parts Argument part is = rw is refl

  behind_at : (outer inner : List Binding) (form : List Position) (parts : List Tree) (i : ℕ) (q : Position) (part : Tree) →
      i < length form → i < length parts → q ≡ get_or form i q → part ≡ get_or parts i part → binds_first form ≡ true → inner ≡ bindings_inside form parts outer →
      behind (OfNames (seen c (bindings_at i outer inner) before)) q part ≡ OfNames (seen c (bindings_at (suc i) outer inner) (label_behind c q part before))
  behind_at outer inner [] parts i q part few few' q-is part-is first is = absurd (omega (arith, few))
  behind_at outer inner (r ∷ qs) [] i q part few few' q-is part-is first is = absurd (omega (arith, few'))
  behind_at outer inner (r ∷ qs) (p ∷ parts) zero q part few few' q-is part-is first is =
      behind_first outer inner qs parts q part (is ∙ ap (λ (r' : Position). bindings_inside (r' ∷ qs) (p ∷ parts) outer) (sym q-is) ∙ ap (λ (p' : Tree). bindings_inside (q ∷ qs) (p' ∷ parts) outer) (sym part-is))
  behind_at outer inner (r ∷ qs) (p ∷ parts) (suc i) q part few few' q-is part-is first is =
      behind_plain c inner before q part (none_at qs i q (omega (arith, few)) q-is first)

  -- the parts from the one at i on
  pub part-drop : (outer inner : List Binding) (form : List Position) (parts : List Tree) (i : ℕ) (q : Position) (part : Tree) →
      i < length form → i < length parts → q ≡ get_or form i q → part ≡ get_or parts i part → binds_first form ≡ true → inner ≡ bindings_inside form parts outer →
      parts_fault (OfNames (seen c (bindings_at i outer inner) before)) (drop i form) (drop i parts)
      ≡ (fault part (OfNames (seen c (bindings_at i outer inner) before)) q
      or_else parts_fault (OfNames (seen c (bindings_at (i + 1) outer inner) (label_behind c q part before))) (drop (i + 1) form) (drop (i + 1) parts))
  part-drop outer inner form parts i q part few few' q-is part-is first is =
      parts_fault-drop (OfNames (seen c (bindings_at i outer inner) before)) form parts i q part few few' q-is part-is
      ∙ rw (behind_at outer inner form parts i q part few few' q-is part-is first is, add-one) refl

  -- one part without a fault
  pub part-step : (outer inner around : List Binding) (after : Option ℕ) (form : List Position) (parts : List Tree) (i : ℕ) {q : Position} (part : Tree) (found : Option Fault) →
      found ≡ fault part (OfNames (seen c around before)) q → around ≡ bindings_at i outer inner → found ≡ None → after ≡ label_behind c q part before →
      i < length form → i < length parts → q ≡ get_or form i q → part ≡ get_or parts i part → binds_first form ≡ true → inner ≡ bindings_inside form parts outer →
      parts_fault (OfNames (seen c (bindings_at i outer inner) before)) (drop i form) (drop i parts)
      ≡ parts_fault (OfNames (seen c (bindings_at (i + 1) outer inner) after)) (drop (i + 1) form) (drop (i + 1) parts)
  part-step outer inner around after form parts i {q} part found is around-is none after-is few few' q-is part-is first inner-is =
      let faultless : fault part (OfNames (seen c around before)) q ≡ None = sym is ∙ none in
      let e : fault part (OfNames (seen c (bindings_at i outer inner) before)) q ≡ None = rw around-is at faultless in
      part-drop outer inner form parts i q part few few' q-is part-is first inner-is ∙ rw (e, after-is) refl

-- ---- no other than the first position of a form binds a name

abbrev all_first : List (List Position) → Type 0
all_first [] = Unit {0}
all_first (form ∷ others) = (binds_first form ≡ true) × all_first others

chosen_binds_first : (n : ℕ) (fs : List (List Position)) → all_first fs → (form : List Position) → form_with n fs ≡ Some form → binds_first form ≡ true
chosen_binds_first n [] all form h = cc
chosen_binds_first n (f ∷ fs) all form h = elim (split (length f == n)) [
  | inl e ↦ (let is : f ≡ form = (let k = rw e at h in cc) in rw (← is) all.0)
  | inr e ↦ chosen_binds_first n fs all.1 form (rw e at h)
]

term_binds_first : (h : Head) → all_first (term_forms h)
term_binds_first head.Get = (refl, (refl, tt))
term_binds_first head.Len = (refl, tt)
term_binds_first head.Id = (refl, tt)
term_binds_first head.From = (refl, tt)
term_binds_first head.To = (refl, tt)
term_binds_first head.Live = (refl, tt)
term_binds_first head.Arg = (refl, tt)
term_binds_first head.Add = (refl, tt)
term_binds_first head.Sub = (refl, tt)
term_binds_first head.Mul = (refl, tt)
term_binds_first head.If = (refl, tt)
term_binds_first head.Eq = tt
term_binds_first head.Lt = tt
term_binds_first head.Le = tt
term_binds_first head.Not = tt
term_binds_first head.And = tt
term_binds_first head.Or = tt
term_binds_first head.Implies = tt
term_binds_first head.All = tt
term_binds_first head.Some = tt
term_binds_first head.Each = tt
term_binds_first head.Any = tt
term_binds_first head.Other = tt

formula_binds_first : (h : Head) → all_first (formula_forms h)
formula_binds_first head.Get = tt
formula_binds_first head.Len = tt
formula_binds_first head.Id = tt
formula_binds_first head.From = tt
formula_binds_first head.To = tt
formula_binds_first head.Live = tt
formula_binds_first head.Arg = tt
formula_binds_first head.Add = tt
formula_binds_first head.Sub = tt
formula_binds_first head.Mul = tt
formula_binds_first head.If = tt
formula_binds_first head.Eq = (refl, tt)
formula_binds_first head.Lt = (refl, tt)
formula_binds_first head.Le = (refl, tt)
formula_binds_first head.Not = (refl, tt)
formula_binds_first head.And = (refl, tt)
formula_binds_first head.Or = (refl, tt)
formula_binds_first head.Implies = (refl, tt)
formula_binds_first head.All = (refl, tt)
formula_binds_first head.Some = (refl, tt)
formula_binds_first head.Each = (refl, tt)
formula_binds_first head.Any = (refl, tt)
formula_binds_first head.Other = tt

all_bind_first : (q : Position) (h : Head) → all_first (forms q h)
all_bind_first Term h = term_binds_first h
all_bind_first Formula h = formula_binds_first h
all_bind_first Label h = tt
all_bind_first Field h = tt
all_bind_first Tag h = tt
all_bind_first Message h = tt
all_bind_first NewVariable h = tt
all_bind_first NewMessage h = tt
all_bind_first Argument h = tt

pub form_binds_first : (q : Position) (h : Head) (n : ℕ) (form : List Position) → form_with n (forms q h) ≡ Some form → binds_first form ≡ true
form_binds_first q h n form is = chosen_binds_first n (forms q h) (all_bind_first q h) form is

pub ruleset faults = (fault-Num, fault-Sym, fault_of_empty, fault_of_list, part-drop)
