-- Terms with their widths.
use Rattle.std.proofs.Common.{◌≡◌, ℕ, suc, false, List, [], ◌∷◌, Option, Some, None, length, refl, ap, sym, ◌∙◌, ◌≤◌, ◌^◌, min, max, arith}
use Rattle.std.specs.Prelude.{nat_le, ◌==◌}
use Rattle.std.proofs.lemmas.Bool.Decides.{nat_tests}
use Rattle.dl_tree.specs.declared.tree.Place.{Place}
use Rattle.dl_tree.specs.declared.tree.Tree.{Tree}
use Rattle.dl_tree.specs.declared.tree.Tree.TheVariants as tree
use Rattle.dl_forms.specs.declared.head.Head.{Head}
use Rattle.dl_forms.specs.declared.head.Head.TheVariants as head
use Rattle.dl_forms.specs.declared.position.Position.TheVariants as position
use Rattle.dl_forms.specs.Context.{Context}
use Rattle.dl_forms.specs.Form.{head_of}
use Rattle.dl_forms.specs.Judge.{Fault, OfNames, ◌or_else◌, fault}
use Rattle.dl_forms.specs.Notation.{form_with, term_forms}
use Rattle.dl_forms.specs.Parts.{form_fault}
use Rattle.dl_forms.specs.Width.{form_width, stored, width, widths_of}
use Rattle.dl_forms.proofs.FaultLemmas.{fault-Num, fault-Sym, fault_of_empty, fault-List}
use Rattle.dl_forms.proofs.WidthLemmas.{width-List, width-Num, width-Sym, width_of_empty, min-product, width_of_other_choice, width_of_other_product, width_of_other_sum}
use Rattle.dl_rules.specs.declared.width.Judged.{Judged}
use Rattle.dl_rules.specs.Judged.{IsJudged, IsJudgedAs, counted, is_arithmetic, or_wide}
use Rattle.dl_rules.specs.Sights.{Binding, seen}
use Rattle.dl_rules.proofs.FormulaLemmas.{fault_of_narrow}

-- ---- the faults of parts

pub or_else-None : (f : Option Fault) → (f or_else None) ≡ f
or_else-None (Some f) = refl
or_else-None None = refl

-- a width that was cut off is as wide
nat_le-min : (w limit : ℕ) → nat_le limit (min w limit) ≡ nat_le limit w
nat_le-min w limit = grind (arith, nat_tests)

-- a list of more parts than a form has is of another form
more_than_two : (k : ℕ) → (2 == suc (suc (suc k))) ≡ false
more_than_two k = grind (arith, nat_tests)

more_than_four : (k : ℕ) → (4 == suc (suc (suc (suc (suc k))))) ≡ false
more_than_four k = grind (arith, nat_tests)

pub or_wide-min : (w : ℕ) (p : Place) (later : Option Fault) → or_wide (min w (2 ^ 127)) p later ≡ or_wide w p later
or_wide-min w p later = rw (nat_le-min w (2 ^ 127)) refl

-- ---- sums, products and choices

module _ (c : Context) (bound : List Binding) (before : Option ℕ) (p : Place) where
  counted_sum : (parts : List Tree) → form_fault (OfNames (seen c bound before)) position.Term p head.Add parts (form_with (length parts) (term_forms head.Add)) ≡ counted c bound before head.Add parts p
  counted_sum [] = refl
  counted_sum (a ∷ []) = refl
  counted_sum (a ∷ b ∷ []) = refl
  counted_sum (a ∷ b ∷ x ∷ parts) = rw (more_than_two (length parts)) refl

  counted_product : (parts : List Tree) → form_fault (OfNames (seen c bound before)) position.Term p head.Mul parts (form_with (length parts) (term_forms head.Mul)) ≡ counted c bound before head.Mul parts p
  counted_product [] = refl
  counted_product (a ∷ []) = refl
  counted_product (a ∷ b ∷ []) = refl
  counted_product (a ∷ b ∷ x ∷ parts) = rw (more_than_two (length parts)) refl

  counted_choice : (parts : List Tree) → form_fault (OfNames (seen c bound before)) position.Term p head.If parts (form_with (length parts) (term_forms head.If)) ≡ counted c bound before head.If parts p
  counted_choice [] = refl
  counted_choice (a ∷ []) = refl
  counted_choice (a ∷ b ∷ []) = refl
  counted_choice (a ∷ b ∷ x ∷ []) = refl
  counted_choice (a ∷ b ∷ x ∷ y ∷ []) = refl
  counted_choice (a ∷ b ∷ x ∷ y ∷ z ∷ parts) = rw (more_than_four (length parts)) refl

  difference_counted : (parts : List Tree) → form_fault (OfNames (seen c bound before)) position.Term p head.Sub parts (form_with (length parts) (term_forms head.Sub)) ≡ counted c bound before head.Add parts p
  difference_counted [] = refl
  difference_counted (a ∷ []) = refl
  difference_counted (a ∷ b ∷ []) = refl
  difference_counted (a ∷ b ∷ x ∷ parts) = rw (more_than_two (length parts)) refl

  difference_width : (ws : List ℕ) → form_width head.Sub ws ≡ form_width head.Add ws
  difference_width [] = refl
  difference_width (a ∷ []) = refl
  difference_width (a ∷ b ∷ []) = refl
  difference_width (a ∷ b ∷ x ∷ ws) = refl

  -- a list by its head
  module _ (first : Tree) (parts : List Tree) (judged : Judged) where
    judged_as : (h : Head) → head_of first ≡ h → form_fault (OfNames (seen c bound before)) position.Term p h parts (form_with (length parts) (term_forms h)) ≡ counted c bound before h parts p →
        IsJudgedAs c bound before h parts p judged → IsJudged c bound before (tree.List (first ∷ parts) p) judged
    judged_as h is same as_form = record {
      first = as_form.first ∙ sym (fault-List first parts p (OfNames (seen c bound before)) position.Term ∙ rw is same);
      small = as_form.small;
      size = as_form.size ∙ sym (ap (λ (w : ℕ). min w (2 ^ 127)) (width-List first parts p c.words ∙ rw is refl));
    }

    pub judged_sum : head_of first ≡ head.Add → IsJudgedAs c bound before head.Add parts p judged → IsJudged c bound before (tree.List (first ∷ parts) p) judged
    judged_sum is as_form = judged_as head.Add is (counted_sum parts) as_form

    pub judged_difference : head_of first ≡ head.Sub → IsJudgedAs c bound before head.Add parts p judged → IsJudged c bound before (tree.List (first ∷ parts) p) judged
    judged_difference is as_form = record {
      first = as_form.first ∙ sym (fault-List first parts p (OfNames (seen c bound before)) position.Term ∙ rw is (difference_counted parts));
      small = as_form.small;
      size = as_form.size ∙ sym (ap (λ (w : ℕ). min w (2 ^ 127)) (width-List first parts p c.words ∙ rw is (difference_width (widths_of c.words parts))));
    }

    pub judged_product : head_of first ≡ head.Mul → IsJudgedAs c bound before head.Mul parts p judged → IsJudged c bound before (tree.List (first ∷ parts) p) judged
    judged_product is as_form = judged_as head.Mul is (counted_product parts) as_form

    pub judged_choice : head_of first ≡ head.If → IsJudgedAs c bound before head.If parts p judged → IsJudged c bound before (tree.List (first ∷ parts) p) judged
    judged_choice is as_form = judged_as head.If is (counted_choice parts) as_form

  -- a list of another head
  pub width_of_narrow : (first : Tree) (parts : List Tree) → is_arithmetic (head_of first) ≡ false → width (tree.List (first ∷ parts) p) c.words ≡ stored
  width_of_narrow first parts other = width-List first parts p c.words ∙ by (head_of first) other
    where
      by : (h : Head) → is_arithmetic h ≡ false → form_width h (widths_of c.words parts) ≡ stored
      by head.Get h = refl
      by head.Len h = refl
      by head.Id h = refl
      by head.From h = refl
      by head.To h = refl
      by head.Live h = refl
      by head.Arg h = refl
      by head.Add h = cc
      by head.Sub h = cc
      by head.Mul h = cc
      by head.If h = cc
      by head.Eq h = refl
      by head.Lt h = refl
      by head.Le h = refl
      by head.Not h = refl
      by head.And h = refl
      by head.Or h = refl
      by head.Implies h = refl
      by head.All h = refl
      by head.Some h = refl
      by head.Each h = refl
      by head.Any h = refl
      by head.Other h = refl

  counted_other_sum : (parts : List Tree) → (length parts ≡ 2 → ⊥) → counted c bound before head.Add parts p ≡ Some (10, p)
  counted_other_sum [] h = refl
  counted_other_sum (a ∷ []) h = refl
  counted_other_sum (a ∷ b ∷ []) h = absurd (h refl)
  counted_other_sum (a ∷ b ∷ x ∷ parts) h = refl

  counted_other_product : (parts : List Tree) → (length parts ≡ 2 → ⊥) → counted c bound before head.Mul parts p ≡ Some (10, p)
  counted_other_product [] h = refl
  counted_other_product (a ∷ []) h = refl
  counted_other_product (a ∷ b ∷ []) h = absurd (h refl)
  counted_other_product (a ∷ b ∷ x ∷ parts) h = refl

  counted_other_choice : (parts : List Tree) → (length parts ≡ 4 → ⊥) → counted c bound before head.If parts p ≡ Some (10, p)
  counted_other_choice [] h = refl
  counted_other_choice (a ∷ []) h = refl
  counted_other_choice (a ∷ b ∷ []) h = refl
  counted_other_choice (a ∷ b ∷ x ∷ []) h = refl
  counted_other_choice (a ∷ b ∷ x ∷ y ∷ []) h = absurd (h refl)
  counted_other_choice (a ∷ b ∷ x ∷ y ∷ z ∷ parts) h = refl

  -- a list with another number of parts
  pub judged_other_sum : (parts : List Tree) (judged : Judged) → (length parts ≡ 2 → ⊥) → judged.fault ≡ Some (10, p) → judged.width ≡ stored → IsJudgedAs c bound before head.Add parts p judged
  judged_other_sum parts judged h first size = record { first = first ∙ sym (counted_other_sum parts h); small = rw size (omega arith); size = size ∙ sym (ap (λ (w : ℕ). min w (2 ^ 127)) (width_of_other_sum c.words parts h)) }

  pub judged_other_product : (parts : List Tree) (judged : Judged) → (length parts ≡ 2 → ⊥) → judged.fault ≡ Some (10, p) → judged.width ≡ stored → IsJudgedAs c bound before head.Mul parts p judged
  judged_other_product parts judged h first size = record { first = first ∙ sym (counted_other_product parts h); small = rw size (omega arith); size = size ∙ sym (ap (λ (w : ℕ). min w (2 ^ 127)) (width_of_other_product c.words parts h)) }

  pub judged_other_choice : (parts : List Tree) (judged : Judged) → (length parts ≡ 4 → ⊥) → judged.fault ≡ Some (10, p) → judged.width ≡ stored → IsJudgedAs c bound before head.If parts p judged
  judged_other_choice parts judged h first size = record { first = first ∙ sym (counted_other_choice parts h); small = rw size (omega arith); size = size ∙ sym (ap (λ (w : ℕ). min w (2 ^ 127)) (width_of_other_choice c.words parts h)) }

max-min : (u v limit : ℕ) → max (min u limit) (min v limit) ≡ min (max u v) limit
max-min u v limit = omega arith

min-below : (u limit : ℕ) → min u limit ≤ limit
min-below u limit = omega arith

-- a choice by its parts
pub choice_judged : (c : Context) (bound : List Binding) (before : Option ℕ) (p : Place) (parts : List Tree) (a b x y : Tree) (ja jb jx jy judged : Judged) → parts ≡ a ∷ b ∷ x ∷ y ∷ [] →
    IsJudged c bound before a ja → IsJudged c bound before b jb → IsJudged c bound before x jx → IsJudged c bound before y jy →
    judged.fault ≡ or_wide (max jx.width jy.width) p (ja.fault or_else jb.fault or_else jx.fault or_else jy.fault) → judged.width ≡ max jx.width jy.width → IsJudgedAs c bound before head.If parts p judged
choice_judged c bound before p parts a b x y ja jb jx jy judged whole ha hb hx hy first size =
    let m : max jx.width jy.width ≡ min (max (width x c.words) (width y c.words)) (2 ^ 127) = rw (hx.size, hy.size) (max-min (width x c.words) (width y c.words) (2 ^ 127)) in
    rw whole (record {
      first = first ∙ rw (m, ha.first, hb.first, hx.first, hy.first, or_else-None (fault y (OfNames (seen c bound before)) position.Term)) (or_wide-min (max (width x c.words) (width y c.words)) p _);
      small = rw (size, m) (min-below (max (width x c.words) (width y c.words)) (2 ^ 127));
      size = size ∙ m;
    })

pub ruleset terms = (fault-Num, fault-Sym, fault_of_empty, fault_of_narrow, width-Num, width-Sym, width_of_empty, width_of_narrow, judged_sum, judged_difference, judged_product, judged_choice, judged_other_sum, judged_other_product, judged_other_choice, min-product, or_wide-min, or_else-None)
