-- Tags by their names.
use Rattle.std.proofs.Common.{◌≡◌, ℕ, suc, true, false, List, [], ◌∷◌, Option, Some, None, map, refl, ap, sym, ◌∙◌, subst, inl, inr, slice_get}
use Rattle.std.specs.Prelude.{option_and_then, is_some}
use Rattle.std.specs.Str.{bytes_eq}
use Rattle.std.specs.Option.{option_map}
use Rattle.std.proofs.lemmas.Slice.Eq.{bytes_eq-Decides}
use Rattle.std.proofs.lemmas.Option.{slice_get-map}
use Rattle.dl_tree.specs.declared.tree.Place.{Place}
use Rattle.dl_tree.specs.declared.tree.Tree.{Tree}
use Rattle.dl_tree.specs.declared.tree.Tree.TheVariants as tree
use Rattle.dl_forms.specs.declared.position.Position.TheVariants as position
use Rattle.dl_term.specs.declared.syntax.Lab.{Lab}
use Rattle.dl_forms.specs.Table.{NameTable as Names}
use Rattle.dl_forms.specs.declared.scope.Scope.{Scope}
use Rattle.dl_model.specs.declared.protocol.Instances.{Instances}
use Rattle.dl_model.specs.declared.protocol.Protocol.{Protocol}
use Rattle.dl_forms.specs.Context.{Text, is_among}
use Rattle.dl_forms.specs.Scope.{Binding, text_at, parts_of, named_place, context_of, tag_named, tag_syms}
use Rattle.dl_forms.specs.Judge.{fault, is_name, tags_in, protocol_parts, Stage}
use Rattle.dl_forms.specs.Show.{protocol_of}
use Rattle.dl_forms.specs.Read.{ReadsTag, label_stage}
use Rattle.dl_forms.proofs.FaultLemmas.{fault-Sym, fault-Num, fault-List, fault_of_empty}
use Rattle.dl_forms.proofs.NameLemmas.{split, bare-Sym}
use Rattle.dl_forms.proofs.LabelLemmas.{next_place}

module _ (names : Names) (name : Text) where
  later_some : (o : Option ℕ) → is_some o ≡ is_some (option_map (λ j. suc j) o)
  later_some None = refl
  later_some (Some j) = refl

  is_among-place : (syms : List ℕ) → is_among name (map (text_at names) syms) ≡ is_some (named_place names name syms)
  is_among-place [] = refl
  is_among-place (s ∷ syms) =
      elim (split (bytes_eq name (text_at names s)))
      [ inl e ↦ rw e refl | inr e ↦ rw (e, is_among-place syms) (later_some (named_place names name syms)) ]

  tags_in-parts_of : (p : Option Protocol) → is_among name (tags_in (option_map (parts_of names) p)) ≡ is_some (option_and_then (λ (r : Protocol). named_place names name (tag_syms r)) p)
  tags_in-parts_of None = refl
  tags_in-parts_of (Some p) = is_among-place (tag_syms p)

  get-parts : (protocols : List Protocol) (k : Option ℕ) → option_and_then (slice_get (map (parts_of names) protocols)) k ≡ option_map (parts_of names) (option_and_then (slice_get protocols) k)
  get-parts protocols None = refl
  get-parts protocols (Some k) = slice_get-map (parts_of names) protocols k

  -- the walk's tags are the code's
  pub tags_in-tag_named : (scope : Scope) (inst : Instances) (bound : List Binding) (k : Option ℕ) →
      is_among name (tags_in (protocol_parts (context_of names scope inst bound) k)) ≡ is_some (tag_named names inst k name)
  tags_in-tag_named scope inst bound k = ap (λ o. is_among name (tags_in o)) (get-parts inst.protocols k) ∙ tags_in-parts_of (option_and_then (slice_get inst.protocols) k)

  -- a tag by its place
  tag_named_at : (syms : List ℕ) (t : ℕ) → named_place names name syms ≡ Some t → (s : ℕ) × (slice_get syms t ≡ Some s) × (text_at names s ≡ name)
  tag_named_at [] t h = cc
  tag_named_at (s ∷ syms) t h =
      elim (split (bytes_eq name (text_at names s))) [
        | inl e ↦ (let k = rw e at h in let is : 0 ≡ t = cc in
            subst (λ u. (r : ℕ) × (slice_get (s ∷ syms) u ≡ Some r) × (text_at names r ≡ name)) is (s, refl, sym ((bytes_eq-Decides name (text_at names s)).0 e)))
        | inr e ↦ (let next = next_place names name (named_place names name syms) t (rw e at h) in
            let at = tag_named_at syms next.0 next.1 in
            subst (λ u. (r : ℕ) × (slice_get (s ∷ syms) u ≡ Some r) × (text_at names r ≡ name)) next.2 (at.0, at.1, at.2))
      ]

  in_protocol : (p : Option Protocol) (t : ℕ) → option_and_then (λ (r : Protocol). named_place names name (tag_syms r)) p ≡ Some t →
      (s : ℕ) × (option_and_then (λ (r : Protocol). slice_get (tag_syms r) t) p ≡ Some s) × (text_at names s ≡ name)
  in_protocol None t h = cc
  in_protocol (Some p) t h = tag_named_at (tag_syms p) t h

module _ (names : Names) (scope : Scope) (inst : Instances) (bound : List Binding) (name : Text) (p : Place) (lab : Lab) where
  pub reads_tag : (t : ℕ) → is_name name ≡ true → tag_named names inst (protocol_of names scope inst lab) name ≡ Some t → ReadsTag names scope inst bound lab (tree.Sym name p) t
  reads_tag t named found =
      let d = in_protocol names name (option_and_then (slice_get inst.protocols) (protocol_of names scope inst lab)) t found in
      let known = tags_in-tag_named names name scope inst bound (protocol_of names scope inst lab) ∙ ap is_some found in
      record {
        sound = fault-Sym name p (label_stage names scope inst bound (protocol_of names scope inst lab)) position.Tag ∙ rw (named, known) refl;
        shown = bare-Sym name p ∙ rw (d.1, d.2) refl;
        exists = rw d.1 refl;
      }

  pub unknown_tag : is_name name ≡ true → tag_named names inst (protocol_of names scope inst lab) name ≡ None →
      fault (tree.Sym name p) (label_stage names scope inst bound (protocol_of names scope inst lab)) position.Tag ≡ Some (11, p)
  unknown_tag named none =
      let unknown = tags_in-tag_named names name scope inst bound (protocol_of names scope inst lab) ∙ ap is_some none in
      fault-Sym name p (label_stage names scope inst bound (protocol_of names scope inst lab)) position.Tag ∙ rw (named, unknown) refl

  pub no_tag_name : is_name name ≡ false → fault (tree.Sym name p) (label_stage names scope inst bound (protocol_of names scope inst lab)) position.Tag ≡ Some (10, p)
  no_tag_name other = fault-Sym name p (label_stage names scope inst bound (protocol_of names scope inst lab)) position.Tag ∙ rw other refl

pub list_as_tag : (items : List Tree) (p : Place) (stage : Stage) → fault (tree.List items p) stage position.Tag ≡ Some (10, p)
list_as_tag [] p stage = fault_of_empty [] p stage position.Tag refl
list_as_tag (first ∷ parts) p stage = fault-List first parts p stage position.Tag

pub ruleset tags = (unknown_tag, no_tag_name, list_as_tag, fault-Num)
