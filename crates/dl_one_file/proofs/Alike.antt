-- Two files in which names, labels, fields and tags are written alike: what stands for one thing in the one stands for the same in the other.
use Rattle.std.proofs.Common.{◌≡◌, ℕ, ℤ, Bool, true, false, Option, Some, None, List, sym, ◌∙◌}
use Rattle.std.specs.Prelude.{slice_get, option_and_then, is_none, codes}
use Rattle.std.specs.Str.{bytes_eq}
use Rattle.std.proofs.lemmas.Bool.Decides.{Decides-int_eq}
use Rattle.dl_term.specs.declared.syntax.Lab.{Lab}
use Rattle.dl_tree.specs.declared.tree.Tree.{Tree}
use Rattle.dl_model.specs.declared.protocol.Instances.{Instances}
use Rattle.dl_forms.specs.declared.scope.Scope.{Scope}
use Rattle.dl_forms.specs.Context.{Text, look_up}
use Rattle.dl_forms.specs.Judge.{text_of}
use Rattle.dl_forms.specs.Table.{NameTable}
use Rattle.dl_forms.specs.Scope.{text_at}
use Rattle.dl_forms.specs.Show.{symbol, label, field, tag}
use Rattle.dl_means.specs.Says.{is_value, value_named}
use Rattle.dl_one_file.specs.Plain.{has_text}
use Rattle.dl_one_file.proofs.Trees.{IsPlain, same-text, text-of-plain}

-- the word that stands for an unknown label
abbrev pub is_int : Tree → Bool
is_int tree = bytes_eq (text_of tree) (codes "int")

-- the same names
pub record SameNames (na nb : NameTable) : Type 0 where
  pub texts : na.texts ≡ nb.texts
  pub syms : (s t : ℕ) → text_at na s ≡ text_at nb t → has_text (text_at na s) ≡ true → s ≡ t

pub record Alike (na nb : NameTable) (sa sb : Scope) (ia ib : Instances) : Type 0 where
  pub names : SameNames na nb
  pub labels : (l m : Lab) → label na sa ia l ≡ label nb sb ib m → is_int (label na sa ia l) ≡ false → l ≡ m
  pub fields : (l : Lab) (f g : ℕ) → field na sa ia l f ≡ field nb sb ib l g → IsPlain (field na sa ia l f) → f ≡ g
  pub tags : (l : Lab) (t u : ℕ) → tag na sa ia l t ≡ tag nb sb ib l u → IsPlain (tag na sa ia l t) → t ≡ u
  -- a label that has a field or a tag is known
  pub of_field : (l : Lab) (f : ℕ) → IsPlain (field na sa ia l f) → is_int (label na sa ia l) ≡ false
  pub of_tag : (l : Lab) (t : ℕ) → IsPlain (tag na sa ia l t) → is_int (label na sa ia l) ≡ false

pub value-is : (o : Option ℤ) (v w : ℤ) → is_value v o ≡ true → is_value w o ≡ true → v ≡ w
value-is None v w hv hw = cc
value-is (Some x) v w hv hw = (Decides-int_eq v x).0 hv ∙ sym ((Decides-int_eq w x).0 hw)

pub no-value : (o : Option ℤ) (v : ℤ) → is_value v o ≡ true → is_none o ≡ true → ⊥
no-value None v hv hn = cc
no-value (Some x) v hv hn = cc

module _ (na nb : NameTable) (same : SameNames na nb) where
  pub same-name : (s t : ℕ) → symbol (text_at na s) ≡ symbol (text_at nb t) → IsPlain (symbol (text_at na s)) → s ≡ t
  same-name s t e plain = same.syms s t (same-text (text_at na s) (text_at nb t) e) (text-of-plain (text_at na s) plain)

  pub same-value : (words : List (Text × ℤ)) (s t : ℕ) → s ≡ t → value_named na words s ≡ value_named nb words t
  same-value words s t e = λ i. option_and_then (λ (text : Text). look_up text words) (slice_get (same.texts i) (e i))
