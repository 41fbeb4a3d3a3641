-- The first fault of a term, and its width. Only the crate's private clauses and its lemmas cite it.
use Rattle.std.specs.Prelude.{◌≡◌, ℕ, ◌≤◌, ◌^◌, min, nat_le, Bool, true, false, ◌&&◌, not, if◌then◌else◌, List, [], ◌∷◌, Option, Some, None}
use Rattle.dl_tree.specs.declared.tree.Place.{Place}
use Rattle.dl_tree.specs.declared.tree.Tree.{Tree}
use Rattle.dl_forms.specs.declared.head.Head.{Head}
use Rattle.dl_forms.specs.declared.head.Head.TheVariants as head
use Rattle.dl_forms.specs.declared.position.Position.{Position}
use Rattle.dl_forms.specs.declared.position.Position.TheVariants as position
use Rattle.dl_forms.specs.Context.{Context}
use Rattle.dl_forms.specs.Judge.{Fault, OfNames, ◌or_else◌, at, breaks_kind, fault, misses_index, protocol_named, rule_if}
use Rattle.dl_forms.specs.Parts.{parts_fault}
use Rattle.dl_forms.specs.Width.{width, widths_of, form_width}
use Rattle.dl_notation.specs.Bound.{is_binding}
use Rattle.dl_rules.specs.declared.width.Judged.{Judged}
use Rattle.dl_rules.specs.Sights.{Binding, seen}

abbrev pub is_term : Position → Bool
is_term position.Term = true
is_term _ = false

-- none of these positions binds a name
abbrev pub binds_none : List Position → Bool
binds_none [] = true
binds_none (q ∷ qs) = not (is_binding q) && binds_none qs

-- no other than the first binds a name
abbrev pub binds_first : List Position → Bool
binds_first [] = true
binds_first (q ∷ qs) = binds_none qs

-- the protocol of the label just before what stands behind a part
abbrev pub label_behind : Context → Position → Tree → Option ℕ → Option ℕ
label_behind c position.Label part before = protocol_named c part
label_behind c position.Field part before = None
label_behind c position.Tag part before = None
label_behind c _ part before = before

-- the rule that a list breaks as a whole, its width aside
abbrev pub rule_of : Context → Head → List Tree → Option ℕ
rule_of c h parts = if breaks_kind c.kind h parts then Some 14 else rule_if 15 (misses_index c h parts)

-- a list that isn't too wide, by its form
abbrev pub formed : Context → List Binding → Option ℕ → Place → Head → List Tree → Option (List Position) → Option Fault
formed c bound before p h parts (Some form) = at (rule_of c h parts) p or_else parts_fault (OfNames (seen c bound before)) form parts
formed c bound before p h parts None = Some (10, p)

-- a term that may pass 2 ^ 127 - 1 is a fault before those of its parts
abbrev pub or_wide : ℕ → Place → Option Fault → Option Fault
or_wide w p later = at (rule_if 16 (nat_le (2 ^ 127) w)) p or_else later

pub record IsJudged (c : Context) (bound : List Binding) (before : Option ℕ) (tree : Tree) (judged : Judged) : Type 0 where
  pub first : judged.fault ≡ fault tree (OfNames (seen c bound before)) position.Term
  pub small : judged.width ≤ 2 ^ 127
  pub size : judged.width ≡ min (width tree c.words) (2 ^ 127)

-- the faults of terms, one after another
abbrev pub terms_fault : Context → List Binding → Option ℕ → List Tree → Option Fault
terms_fault c bound before [] = None
terms_fault c bound before (part ∷ parts) = fault part (OfNames (seen c bound before)) position.Term or_else terms_fault c bound before parts

-- the fault of a sum, a product or a choice, by the number of its parts
abbrev pub counted : Context → List Binding → Option ℕ → Head → List Tree → Place → Option Fault
counted c bound before head.Add (a ∷ b ∷ []) p = or_wide (form_width head.Add (widths_of c.words (a ∷ b ∷ []))) p (terms_fault c bound before (a ∷ b ∷ []))
counted c bound before head.Mul (a ∷ b ∷ []) p = or_wide (form_width head.Mul (widths_of c.words (a ∷ b ∷ []))) p (terms_fault c bound before (a ∷ b ∷ []))
counted c bound before head.If (a ∷ b ∷ x ∷ y ∷ []) p = or_wide (form_width head.If (widths_of c.words (a ∷ b ∷ x ∷ y ∷ []))) p (terms_fault c bound before (a ∷ b ∷ x ∷ y ∷ []))
counted c bound before _ parts p = Some (10, p)

pub record IsJudgedAs (c : Context) (bound : List Binding) (before : Option ℕ) (h : Head) (parts : List Tree) (p : Place) (judged : Judged) : Type 0 where
  pub first : judged.fault ≡ counted c bound before h parts p
  pub small : judged.width ≤ 2 ^ 127
  pub size : judged.width ≡ min (form_width h (widths_of c.words parts)) (2 ^ 127)

-- a sum, a product or a choice
abbrev pub is_arithmetic : Head → Bool
is_arithmetic head.Add = true
is_arithmetic head.Sub = true
is_arithmetic head.Mul = true
is_arithmetic head.If = true
is_arithmetic _ = false
