-- Labels by their names.
use Rattle.std.proofs.Common.{◌≡◌, ℕ, suc, true, false, List, [], ◌∷◌, ◌++◌, Option, Some, None, length, refl, ap, sym, ◌∙◌, subst, arith, inl, inr, slice_get}
use Rattle.std.specs.Prelude.{codes, IsSome, unwrap_or, is_some, ◌&&◌}
use Rattle.std.specs.Str.{bytes_eq}
use Rattle.std.specs.Option.{option_map}
use Rattle.std.proofs.lemmas.Slice.Eq.{bytes_eq-Decides}
use Rattle.dl_forms.specs.Table.{NameTable as Names}
use Rattle.dl_tree.specs.declared.tree.Place.{Place}
use Rattle.dl_tree.specs.declared.tree.Tree.{Tree}
use Rattle.dl_tree.specs.declared.tree.Tree.TheVariants as tree
use Rattle.dl_forms.specs.declared.position.Position.TheVariants as position
use Rattle.dl_forms.specs.Judge.{fault, is_name, Stage}
use Rattle.dl_forms.specs.Scope.{Binding}
use Rattle.dl_forms.proofs.FaultLemmas.{fault-Sym, fault-Num, fault-List, fault_of_empty}
use Rattle.dl_forms.specs.declared.scope.Scope.{Scope}
use Rattle.dl_model.specs.declared.protocol.Instances.{Instances}
use Rattle.dl_term.specs.declared.syntax.Lab.{Lab}
use Rattle.dl_term.specs.declared.syntax.Lab.TheVariants.{Own, At}
use Rattle.dl_forms.specs.Show.{symbol}
use Rattle.dl_forms.specs.Read.{IsLabel, ReadsLabel, names_stage}
use Rattle.dl_forms.specs.Context.{Text, look_up}
use Rattle.dl_forms.specs.Scope.{text_at, named_place, labels_from, labels_of, own_label}
use Rattle.dl_forms.proofs.NameLemmas.{split, bare-Sym}

-- a label by its place
pub record IsAt (names : Names) (name : Text) (syms protocols : List ℕ) (i : ℕ) : Type 0 where
  pub text : text_at names (unwrap_or (slice_get syms i) 0) ≡ name
  pub protocol : look_up name (labels_from names syms protocols) ≡ slice_get protocols i
  pub exists : IsSome (slice_get protocols i)

module _ (names : Names) (name : Text) where
  first_label : (s p : ℕ) (syms protocols : List ℕ) → bytes_eq name (text_at names s) ≡ true → IsAt names name (s ∷ syms) (p ∷ protocols) 0
  first_label s p syms protocols e = record { text = sym ((bytes_eq-Decides name (text_at names s)).0 e); protocol = rw e refl; exists = refl }

  later_label : (s p : ℕ) (syms protocols : List ℕ) (i : ℕ) → bytes_eq name (text_at names s) ≡ false → IsAt names name syms protocols i → IsAt names name (s ∷ syms) (p ∷ protocols) (suc i)
  later_label s p syms protocols i e at = record { text = at.text; protocol = rw e at.protocol; exists = at.exists }

  pub next_place : (o : Option ℕ) (i : ℕ) → option_map (λ j. suc j) o ≡ Some i → (j : ℕ) × (o ≡ Some j) × (suc j ≡ i)
  next_place None i h = cc
  next_place (Some j) i h = (j, refl, cc)

  no_place_before : (o : Option ℕ) → option_map (λ j. suc j) o ≡ None → o ≡ None
  no_place_before None h = refl
  no_place_before (Some j) h = cc

  pub label_at : (syms protocols : List ℕ) (i : ℕ) → length syms ≡ length protocols → named_place names name syms ≡ Some i → IsAt names name syms protocols i
  label_at [] protocols i same h = cc
  label_at (s ∷ syms) [] i same h = absurd (omega (arith, same))
  label_at (s ∷ syms) (p ∷ protocols) i same h =
      elim (split (bytes_eq name (text_at names s))) [
        | inl e ↦ (let k = rw e at h in let is : 0 ≡ i = cc in subst (IsAt names name (s ∷ syms) (p ∷ protocols)) is (first_label s p syms protocols e))
        | inr e ↦ (let next = next_place (named_place names name syms) i (rw e at h) in
            subst (IsAt names name (s ∷ syms) (p ∷ protocols)) next.2 (later_label s p syms protocols next.0 e (label_at syms protocols next.0 (omega (arith, same)) next.1)))
      ]

  pub no_label : (syms protocols : List ℕ) → named_place names name syms ≡ None → look_up name (labels_from names syms protocols) ≡ None
  no_label [] protocols h = refl
  no_label (s ∷ syms) [] h = refl
  no_label (s ∷ syms) (p ∷ protocols) h =
      elim (split (bytes_eq name (text_at names s))) [
        | inl e ↦ (let k = rw e at h in cc)
        | inr e ↦ rw e (no_label syms protocols (no_place_before (named_place names name syms) (rw e at h)))
      ]

  -- the same behind the own label, where it has another name
  module _ (scope : Scope) (inst : Instances) where
    pub own_named : (own : Option ℕ) → scope.own ≡ own → is_some own ≡ true → bytes_eq name (codes "self") ≡ true → IsLabel names scope inst name Own
    own_named None is own same = cc
    own_named (Some protocol) is own same = record {
      shown = ap symbol (sym ((bytes_eq-Decides name (codes "self")).0 same));
      protocol = rw (is, same) refl;
      exists = rw is refl;
    }

    -- no own label has the name
    past_own : (own : Option ℕ) (rest : List (Text × ℕ)) → (is_some own && bytes_eq name (codes "self")) ≡ false → look_up name (own_label own ++ rest) ≡ look_up name rest
    past_own None rest h = refl
    past_own (Some protocol) rest h = rw h refl

    pub label_named_at : (i : ℕ) → length scope.labels ≡ length inst.of → (is_some scope.own && bytes_eq name (codes "self")) ≡ false → named_place names name scope.labels ≡ Some i → IsLabel names scope inst name (At i)
    label_named_at i same other h =
        let at = label_at scope.labels inst.of i same h in
        record { shown = ap symbol at.text; protocol = past_own scope.own (labels_from names scope.labels inst.of) other ∙ at.protocol; exists = at.exists }

    pub no_label_named : (is_some scope.own && bytes_eq name (codes "self")) ≡ false → named_place names name scope.labels ≡ None → look_up name (labels_of names scope inst) ≡ None
    no_label_named other h = past_own scope.own (labels_from names scope.labels inst.of) other ∙ no_label scope.labels inst.of h

module _ (names : Names) (scope : Scope) (inst : Instances) (bound : List Binding) (name : Text) (p : Place) where
  pub reads_label : (lab : Lab) → is_name name ≡ true → IsLabel names scope inst name lab → ReadsLabel names scope inst bound (tree.Sym name p) lab
  reads_label lab named is = record {
    sound = fault-Sym name p (names_stage names scope inst bound) position.Label ∙ rw (named, is.protocol, is.exists) refl;
    shown = bare-Sym name p ∙ sym is.shown;
    protocol = is.protocol;
    exists = is.exists;
  }

  pub unknown_label : is_name name ≡ true → look_up name (labels_of names scope inst) ≡ None → fault (tree.Sym name p) (names_stage names scope inst bound) position.Label ≡ Some (11, p)
  unknown_label named none = fault-Sym name p (names_stage names scope inst bound) position.Label ∙ rw (named, none) refl

  pub no_label_name : is_name name ≡ false → fault (tree.Sym name p) (names_stage names scope inst bound) position.Label ≡ Some (10, p)
  no_label_name other = fault-Sym name p (names_stage names scope inst bound) position.Label ∙ rw other refl

pub list_as_label : (items : List Tree) (p : Place) (stage : Stage) → fault (tree.List items p) stage position.Label ≡ Some (10, p)
list_as_label [] p stage = fault_of_empty [] p stage position.Label refl
list_as_label (first ∷ parts) p stage = fault-List first parts p stage position.Label

pub ruleset named = (own_named, label_named_at, no_label_named)

pub ruleset labels = (reads_label, unknown_label, no_label_name, list_as_label, fault-Num)
