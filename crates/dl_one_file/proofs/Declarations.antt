-- Protocols, hooks and invariants that are written alike are equal.
use Rattle.std.proofs.Common.{◌≡◌, ℕ, ℤ, Bool, true, false, if◌then◌else◌, List, [], ◌∷◌, ◌++◌, map, Option, Some, None, refl, ap, sym, ◌∙◌}
use Rattle.std.specs.Prelude.{◌&&◌, ◌||◌, slice_get, codes}
use Rattle.std.specs.List.{AllByRecursion as Each}
use Rattle.std.specs.Str.{bytes_eq}
use Rattle.dl_term.specs.declared.syntax.Sort.{Sort}
use Rattle.dl_term.specs.declared.syntax.Term.{Term}
use Rattle.dl_term.specs.declared.syntax.Formula.{Formula}
use Rattle.dl_tree.specs.declared.tree.Tree.{Tree}
use Rattle.dl_model.specs.declared.protocol.FieldDecl.{FieldDecl}
use Rattle.dl_model.specs.declared.protocol.Update.{Update}
use Rattle.dl_model.specs.declared.protocol.Transition.{Transition}
use Rattle.dl_model.specs.declared.protocol.Tag.{Tag}
use Rattle.dl_model.specs.declared.protocol.Protocol.{Protocol}
use Rattle.dl_model.specs.declared.file.Decls.{Decls}
use Rattle.dl_model.specs.Lookup.{Parameter}
use Rattle.dl_model.specs.Formed.{AreDistinct}
use Rattle.dl_forms.specs.Context.{Text}
use Rattle.dl_forms.specs.Judge.{text_of}
use Rattle.dl_forms.specs.Table.{NameTable}
use Rattle.dl_forms.specs.Scope.{tag_syms}
use Rattle.dl_forms.specs.Show.{no_place, symbol, number, form, of_labels}
use Rattle.dl_notation.specs.Trees.{parts_of, first_word}
use Rattle.dl_notation.proofs.TreeLemmas.{parts_of-List}
use Rattle.dl_shown.specs.Shown.{listed, name_of, range_of, argument_of, term_of, formula_of, field_name, field_of, values_of, update_of, transition_of, receive_of, tag_of, coherence_of, protocol_of}
use Rattle.dl_means.specs.Says.{of_some, says_term, says, says_update, says_transition, says_tag, says_protocol}
use Rattle.dl_one_file.specs.Plain.{is_length_of_int}
use Rattle.dl_one_file.proofs.Trees.{apart, first, second, IsFine, IsPlain, list-fine, list-plain, parts-plain, same-list, same-parts, same-word, same-number, same-head, same-tail}
use Rattle.dl_one_file.proofs.Alike.{SameNames, same-name}
use Rattle.dl_one_file.proofs.Terms.{same-term}
use Rattle.dl_one_file.proofs.Formulas.{same-formula}
use Rattle.dl_one_file.proofs.Lists.{same-map, same-names, same-images, same-front, each-append, front, back}
use Rattle.dl_one_file.proofs.Skeleton.{same-place, field_syms, SameParts, SameSkeleton, alike}

-- ---- sorts

pub same-sort : (s t : Sort) → range_of s ≡ range_of t → s ≡ t
same-sort s t e =
    let h : number s.low ∷ number s.high ∷ [] ≡ number t.low ∷ number t.high ∷ [] = same-parts _ _ _ _ e in
    let lows : s.low ≡ t.low = same-number s.low t.low (same-head _ _ _ _ h) in
    let highs : s.high ≡ t.high = same-number s.high t.high (same-head _ _ _ _ (same-tail _ _ _ _ h)) in
    λ i. record { low = lows i; high = highs i }

same-row : (a b : Bool) → (if a then codes "row" else codes "field") ≡ (if b then codes "row" else codes "field") → a ≡ b
same-row true true e = refl
same-row true false e = absurd (apart (sym (ap (λ (w : Text). bytes_eq w (codes "row")) e)))
same-row false true e = absurd (apart (ap (λ (w : Text). bytes_eq w (codes "row")) e))
same-row false false e = refl

-- ---- the groups of a protocol's parts

abbrev head_word : Tree → Text
head_word tree = first_word (parts_of tree)

head-of : (word : Text) (parts : List Tree) → head_word (form word parts) ≡ word
head-of word parts = ap first_word (parts_of-List (symbol word ∷ parts) no_place)

abbrev is_field_word : Text → Bool
is_field_word word = bytes_eq word (codes "row") || bytes_eq word (codes "field")

abbrev is_field_tree : Tree → Bool
is_field_tree tree = is_field_word (head_word tree)

abbrev is_tag_tree : Tree → Bool
is_tag_tree tree = bytes_eq (head_word tree) (codes "tag")

field-word : (row : Bool) (parts : List Tree) → is_field_tree (form (if row then codes "row" else codes "field") parts) ≡ true
field-word true parts = ap is_field_word (head-of (codes "row") parts)
field-word false parts = ap is_field_word (head-of (codes "field") parts)

module _ (names : NameTable) (decls : Decls) where
  are-fields : (fields : List FieldDecl) → Each (λ t. is_field_tree t ≡ true) (map (field_of names decls) fields)
  are-fields [] = tt
  are-fields (d ∷ fields) = (field-word d.row (name_of names d.sym ∷ range_of d.sort ∷ term_of names decls None d.first ∷ []), are-fields fields)

  no-fields : (own : Option ℕ) (fields : List FieldDecl) (tags : List Tag) → Each (λ t. is_field_tree t ≡ false) (map (tag_of names decls own fields) tags)
  no-fields own fields [] = tt
  no-fields own fields (t ∷ tags) = (ap is_field_word (head-of (codes "tag") _), no-fields own fields tags)

  are-tags : (own : Option ℕ) (fields : List FieldDecl) (tags : List Tag) → Each (λ t. is_tag_tree t ≡ true) (map (tag_of names decls own fields) tags)
  are-tags own fields [] = tt
  are-tags own fields (t ∷ tags) = (ap (λ word. bytes_eq word (codes "tag")) (head-of (codes "tag") _), are-tags own fields tags)

  coherence-no-field : (own : Option ℕ) (coherence : Option Formula) → Each (λ t. is_field_tree t ≡ false) (coherence_of names decls own coherence)
  coherence-no-field own None = tt
  coherence-no-field own (Some f) = (ap is_field_word (head-of (codes "coherence") _), tt)

  coherence-no-tag : (own : Option ℕ) (coherence : Option Formula) → Each (λ t. is_tag_tree t ≡ false) (coherence_of names decls own coherence)
  coherence-no-tag own None = tt
  coherence-no-tag own (Some f) = (ap (λ word. bytes_eq word (codes "tag")) (head-of (codes "coherence") _), tt)

  behind-fields : (own : Option ℕ) (fields : List FieldDecl) (tags : List Tag) (coherence : Option Formula) →
      Each (λ t. is_field_tree t ≡ false) (map (tag_of names decls own fields) tags ++ coherence_of names decls own coherence)
  behind-fields own fields tags coherence =
      each-append (λ t. is_field_tree t ≡ false) (map (tag_of names decls own fields) tags) (coherence_of names decls own coherence) (no-fields own fields tags) (coherence-no-field own coherence)

-- ---- a protocol's parts, by groups

abbrev pub fields_in : NameTable → Decls → Protocol → List Tree
fields_in names decls protocol = map (field_of names decls) protocol.fields

abbrev pub tags_in : NameTable → Decls → ℕ → Protocol → List Tree
tags_in names decls n protocol = map (tag_of names decls (Some n) protocol.fields) protocol.tags

-- two protocols that are written alike
pub record ProtocolShown (na nb : NameTable) (da db : Decls) (n : ℕ) (x y : Protocol) : Type 0 where
  pub name_shown : name_of na x.sym ≡ name_of nb y.sym
  pub name_plain : IsPlain (name_of na x.sym)
  pub fields_shown : fields_in na da x ≡ fields_in nb db y
  pub fields_plain : Each IsPlain (fields_in na da x)
  pub tags_shown : tags_in na da n x ≡ tags_in nb db n y
  pub tags_plain : Each IsPlain (tags_in na da n x)
  pub coherence_shown : coherence_of na da (Some n) x.coherence ≡ coherence_of nb db (Some n) y.coherence
  pub coherence_plain : Each IsPlain (coherence_of na da (Some n) x.coherence)

pub protocol-shown : (na nb : NameTable) (da db : Decls) (n : ℕ) (x y : Protocol) → protocol_of na da n x ≡ protocol_of nb db n y → IsPlain (protocol_of na da n x) → ProtocolShown na nb da db n x y
protocol-shown na nb da db n x y e plain =
    let h : name_of na x.sym ∷ (fields_in na da x ++ (tags_in na da n x ++ coherence_of na da (Some n) x.coherence)) ≡ name_of nb y.sym ∷ (fields_in nb db y ++ (tags_in nb db n y ++ coherence_of nb db (Some n) y.coherence)) = same-parts _ _ _ _ e in
    let ps : Each IsPlain (name_of na x.sym ∷ (fields_in na da x ++ (tags_in na da n x ++ coherence_of na da (Some n) x.coherence))) = parts-plain _ _ plain in
    let split = same-front is_field_tree (fields_in na da x) (tags_in na da n x ++ coherence_of na da (Some n) x.coherence) (fields_in nb db y) (tags_in nb db n y ++ coherence_of nb db (Some n) y.coherence)
    (are-fields na da x.fields) (behind-fields na da (Some n) x.fields x.tags x.coherence) (are-fields nb db y.fields) (behind-fields nb db (Some n) y.fields y.tags y.coherence) (same-tail _ _ _ _ h) in
    let rest : Each IsPlain (tags_in na da n x ++ coherence_of na da (Some n) x.coherence) = back IsPlain (fields_in na da x) (tags_in na da n x ++ coherence_of na da (Some n) x.coherence) ps.1 in
    let inner = same-front is_tag_tree (tags_in na da n x) (coherence_of na da (Some n) x.coherence) (tags_in nb db n y) (coherence_of nb db (Some n) y.coherence)
    (are-tags na da (Some n) x.fields x.tags) (coherence-no-tag na da (Some n) x.coherence) (are-tags nb db (Some n) y.fields y.tags) (coherence-no-tag nb db (Some n) y.coherence) split.1 in
    record {
      name_shown = same-head _ _ _ _ h;
      name_plain = ps.0;
      fields_shown = split.0;
      fields_plain = front IsPlain (fields_in na da x) (tags_in na da n x ++ coherence_of na da (Some n) x.coherence) ps.1;
      tags_shown = inner.0;
      tags_plain = front IsPlain (tags_in na da n x) (coherence_of na da (Some n) x.coherence) rest;
      coherence_shown = inner.1;
      coherence_plain = back IsPlain (tags_in na da n x) (coherence_of na da (Some n) x.coherence) rest;
    }

-- the names of fields and tags
module _ (na nb : NameTable) (names : SameNames na nb) (da db : Decls) where
  field-sym : (x y : FieldDecl) → field_of na da x ≡ field_of nb db y → IsPlain (field_of na da x) → x.sym ≡ y.sym
  field-sym x y e plain = same-name na nb names x.sym y.sym (same-head _ _ _ _ (same-parts _ _ _ _ e)) (parts-plain _ _ plain).0

  tag-sym : (own : Option ℕ) (fa fb : List FieldDecl) (x y : Tag) → tag_of na da own fa x ≡ tag_of nb db own fb y → IsPlain (tag_of na da own fa x) → x.sym ≡ y.sym
  tag-sym own fa fb x y e plain = same-name na nb names x.sym y.sym (same-head _ _ _ _ (same-parts _ _ _ _ e)) (parts-plain _ _ plain).0

  pub shown-parts : (n : ℕ) (x y : Protocol) → ProtocolShown na nb da db n x y → AreDistinct (field_syms x.fields) → AreDistinct (tag_syms x) → SameParts x y
  shown-parts n x y shown fields_once tags_once = record {
    fields = same-images (field_of na da) (field_of nb db) (λ (d : FieldDecl). d.sym) field-sym x.fields y.fields shown.fields_shown shown.fields_plain;
    tags = same-images (tag_of na da (Some n) x.fields) (tag_of nb db (Some n) y.fields) (λ (t : Tag). t.sym) (tag-sym (Some n) x.fields y.fields) x.tags y.tags shown.tags_shown shown.tags_plain;
    fields_once = fields_once;
    tags_once = tags_once;
  }

module _ (na nb : NameTable) (da db : Decls) (same : SameSkeleton na nb da db) (words : List (Text × ℤ)) where
  pub terms-same : (own : Option ℕ) (x y : Term) → term_of na da own x ≡ term_of nb db own y → says_term na words x ≡ true → says_term nb words y ≡ true → IsPlain (term_of na da own x) → x ≡ y
  terms-same own x y e sx sy plain = same-term na nb (of_labels own da.labels) (of_labels own db.labels) da.inst db.inst (alike na nb da db same own) words x y e sx sy plain

  pub formulas-same : (own : Option ℕ) (x y : Formula) → formula_of na da own x ≡ formula_of nb db own y → says na words x ≡ true → says nb words y ≡ true → IsPlain (formula_of na da own x) → x ≡ y
  formulas-same own x y e sx sy plain = same-formula na nb (of_labels own da.labels) (of_labels own db.labels) da.inst db.inst (alike na nb da db same own) words x y e sx sy plain

  -- ---- fields

  pub same-argument : (x y : Parameter) → argument_of na x ≡ argument_of nb y → IsPlain (argument_of na x) → x ≡ y
  same-argument x y e plain =
      let h : name_of na x.0 ∷ range_of x.1 ∷ [] ≡ name_of nb y.0 ∷ range_of y.1 ∷ [] = same-list _ _ e in
      let ps : Each IsPlain (name_of na x.0 ∷ range_of x.1 ∷ []) = list-plain (name_of na x.0) (range_of x.1 ∷ []) refl plain.0 in
      let syms : x.0 ≡ y.0 = same-name na nb same.names x.0 y.0 (same-head _ _ _ _ h) ps.0 in
      let sorts : x.1 ≡ y.1 = same-sort x.1 y.1 (same-head _ _ _ _ (same-tail _ _ _ _ h)) in
      λ i. (syms i, sorts i)

  -- an argument with its range is no length
  no-and : (b : Bool) → (b && false) ≡ false
  no-and true = refl
  no-and false = refl

  pub arguments-plain : (args : List Parameter) → Each IsFine (map (argument_of na) args) → Each IsPlain (map (argument_of na) args)
  arguments-plain [] fine = tt
  arguments-plain (x ∷ args) fine = (
    (fine.0, ap is_length_of_int (parts_of-List (name_of na x.0 ∷ range_of x.1 ∷ []) no_place) ∙ no-and (bytes_eq (text_of (name_of na x.0)) (codes "len"))),
    arguments-plain args fine.1,
  )

  same-decl : (x y : FieldDecl) → field_of na da x ≡ field_of nb db y → says_term na words x.first ≡ true → says_term nb words y.first ≡ true → IsPlain (field_of na da x) → x ≡ y
  same-decl x y e sx sy plain =
      let h : name_of na x.sym ∷ range_of x.sort ∷ term_of na da None x.first ∷ [] ≡ name_of nb y.sym ∷ range_of y.sort ∷ term_of nb db None y.first ∷ [] = same-parts _ _ _ _ e in
      let ps : Each IsPlain (name_of na x.sym ∷ range_of x.sort ∷ term_of na da None x.first ∷ []) = parts-plain _ _ plain in
      let rows : x.row ≡ y.row = same-row x.row y.row (same-word _ _ _ _ e) in
      let syms : x.sym ≡ y.sym = same-name na nb same.names x.sym y.sym (same-head _ _ _ _ h) ps.0 in
      let sorts : x.sort ≡ y.sort = same-sort x.sort y.sort (same-head _ _ _ _ (same-tail _ _ _ _ h)) in
      let firsts : x.first ≡ y.first = terms-same None x.first y.first (same-head _ _ _ _ (same-tail _ _ _ _ (same-tail _ _ _ _ h))) sx sy ps.1.1.0 in
      λ i. record { sym = syms i; row = rows i; sort = sorts i; first = firsts i }

  -- ---- steps

  module _ (own : Option ℕ) (fa fb : List FieldDecl) (fields : field_syms fa ≡ field_syms fb) (once : AreDistinct (field_syms fa)) where
    same-values : (x y : Update) (i j : Option Term) → values_of na da own x i ≡ values_of nb db own y j → of_some (says_term na words) i ≡ true → of_some (says_term nb words) j ≡ true →
        says_term na words x.value ≡ true → says_term nb words y.value ≡ true → Each IsPlain (values_of na da own x i) → (i ≡ j) × (x.value ≡ y.value)
    same-values x y None None e si sj sx sy plain = (refl, terms-same own x.value y.value (same-head _ _ _ _ e) sx sy plain.0)
    same-values x y None (Some j) e si sj sx sy plain = let h : [] ≡ term_of nb db own y.value ∷ [] = same-tail _ _ _ _ e in cc
    same-values x y (Some i) None e si sj sx sy plain = let h : term_of na da own x.value ∷ [] ≡ [] = same-tail _ _ _ _ e in cc
    same-values x y (Some i) (Some j) e si sj sx sy plain = (
      ap Some (terms-same own i j (same-head _ _ _ _ e) si sj plain.0),
      terms-same own x.value y.value (same-head _ _ _ _ (same-tail _ _ _ _ e)) sx sy plain.1.0,
    )

    same-update : (x y : Update) → update_of na da own fa x ≡ update_of nb db own fb y → says_update na words x ≡ true → says_update nb words y ≡ true → IsPlain (update_of na da own fa x) → x ≡ y
    same-update x y e sx sy plain =
        let h : field_name na da (slice_get fa x.field) ∷ values_of na da own x x.index ≡ field_name nb db (slice_get fb y.field) ∷ values_of nb db own y y.index = same-parts _ _ _ _ e in
        let ps : Each IsPlain (field_name na da (slice_get fa x.field) ∷ values_of na da own x x.index) = parts-plain _ _ plain in
        let places : x.field ≡ y.field = same-place na nb same.names (λ (f : FieldDecl). f.sym) fa fb fields once x.field y.field (same-head _ _ _ _ h) ps.0 in
        let both = same-values x y x.index y.index (same-tail _ _ _ _ h) (first _ _ sx) (first _ _ sy) (second _ _ sx) (second _ _ sy) ps.1 in
        λ i. record { field = places i; index = both.0 i; value = both.1 i }

    same-transition : (word : Text) (x y : Transition) → transition_of na da word own fa x ≡ transition_of nb db word own fb y → says_transition na words x ≡ true → says_transition nb words y ≡ true →
        IsPlain (transition_of na da word own fa x) → x ≡ y
    same-transition word x y e sx sy plain =
        let h : formula_of na da own x.guard ∷ map (update_of na da own fa) x.updates ≡ formula_of nb db own y.guard ∷ map (update_of nb db own fb) y.updates = same-parts _ _ _ _ e in
        let ps : Each IsPlain (formula_of na da own x.guard ∷ map (update_of na da own fa) x.updates) = parts-plain _ _ plain in
        let guards : x.guard ≡ y.guard = formulas-same own x.guard y.guard (same-head _ _ _ _ h) (first _ _ sx) (first _ _ sy) ps.0 in
        let updates : x.updates ≡ y.updates = same-map (update_of na da own fa) (update_of nb db own fb) (says_update na words) (says_update nb words) same-update x.updates y.updates
        (same-tail _ _ _ _ h) (second _ _ sx) (second _ _ sy) ps.1 in
        λ i. record { guard = guards i; updates = updates i }

    same-receive : (x y : Option Transition) → receive_of na da own fa x ≡ receive_of nb db own fb y → of_some (says_transition na words) x ≡ true → of_some (says_transition nb words) y ≡ true →
        Each IsPlain (receive_of na da own fa x) → x ≡ y
    same-receive None None e sx sy plain = refl
    same-receive None (Some y) e sx sy plain = cc
    same-receive (Some x) None e sx sy plain = cc
    same-receive (Some x) (Some y) e sx sy plain = ap Some (same-transition (codes "receive") x y (same-head _ _ _ _ e) sx sy plain.0)

    same-tag-decl : (x y : Tag) → tag_of na da own fa x ≡ tag_of nb db own fb y → says_tag na words x ≡ true → says_tag nb words y ≡ true → IsPlain (tag_of na da own fa x) → x ≡ y
    same-tag-decl x y e sx sy plain =
        let h : name_of na x.sym ∷ listed (map (argument_of na) x.args) ∷ transition_of na da (codes "send") own fa x.send ∷ receive_of na da own fa x.receive
        ≡ name_of nb y.sym ∷ listed (map (argument_of nb) y.args) ∷ transition_of nb db (codes "send") own fb y.send ∷ receive_of nb db own fb y.receive = same-parts _ _ _ _ e in
        let ps : Each IsPlain (name_of na x.sym ∷ listed (map (argument_of na) x.args) ∷ transition_of na da (codes "send") own fa x.send ∷ receive_of na da own fa x.receive) = parts-plain _ _ plain in
        let syms : x.sym ≡ y.sym = same-name na nb same.names x.sym y.sym (same-head _ _ _ _ h) ps.0 in
        let args : x.args ≡ y.args = same-names (argument_of na) (argument_of nb) same-argument x.args y.args (same-list _ _ (same-head _ _ _ _ (same-tail _ _ _ _ h))) (arguments-plain x.args (list-fine (map (argument_of na) x.args) no_place ps.1.0.0)) in
        let sends : x.send ≡ y.send = same-transition (codes "send") x.send y.send (same-head _ _ _ _ (same-tail _ _ _ _ (same-tail _ _ _ _ h))) (first _ _ sx) (first _ _ sy) ps.1.1.0 in
        let receives : x.receive ≡ y.receive = same-receive x.receive y.receive (same-tail _ _ _ _ (same-tail _ _ _ _ (same-tail _ _ _ _ h))) (second _ _ sx) (second _ _ sy) ps.1.1.1 in
        λ i. record { sym = syms i; args = args i; send = sends i; receive = receives i }

  same-coherence : (own : Option ℕ) (x y : Option Formula) → coherence_of na da own x ≡ coherence_of nb db own y → of_some (says na words) x ≡ true → of_some (says nb words) y ≡ true →
      Each IsPlain (coherence_of na da own x) → x ≡ y
  same-coherence own None None e sx sy plain = refl
  same-coherence own None (Some y) e sx sy plain = cc
  same-coherence own (Some x) None e sx sy plain = cc
  same-coherence own (Some x) (Some y) e sx sy plain =
      ap Some (formulas-same own x y (same-head _ _ _ _ (same-parts _ _ _ _ (same-head _ _ _ _ e))) sx sy (parts-plain (codes "coherence") (formula_of na da own x ∷ []) plain.0).0)

  -- ---- protocols

  pub same-protocol : (n : ℕ) (x y : Protocol) → SameParts x y → ProtocolShown na nb da db n x y → says_protocol na words x ≡ true → says_protocol nb words y ≡ true → x ≡ y
  same-protocol n x y parts shown sx sy =
      let syms : x.sym ≡ y.sym = same-name na nb same.names x.sym y.sym shown.name_shown shown.name_plain in
      let fields : x.fields ≡ y.fields = same-map (field_of na da) (field_of nb db) (λ (d : FieldDecl). says_term na words d.first) (λ (d : FieldDecl). says_term nb words d.first) same-decl x.fields y.fields
      shown.fields_shown (first _ _ sx) (first _ _ sy) shown.fields_plain in
      let tags : x.tags ≡ y.tags = same-map (tag_of na da (Some n) x.fields) (tag_of nb db (Some n) y.fields) (says_tag na words) (says_tag nb words)
      (same-tag-decl (Some n) x.fields y.fields parts.fields parts.fields_once) x.tags y.tags shown.tags_shown (first _ _ (second _ _ sx)) (first _ _ (second _ _ sy)) shown.tags_plain in
      let coherences : x.coherence ≡ y.coherence = same-coherence (Some n) x.coherence y.coherence shown.coherence_shown (second _ _ (second _ _ sx)) (second _ _ (second _ _ sy)) shown.coherence_plain in
      λ i. record { sym = syms i; fields = fields i; tags = tags i; coherence = coherences i }
