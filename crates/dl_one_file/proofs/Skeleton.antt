-- Two files with the same labels, protocols, fields and tags, by their names, write things alike.
use Rattle.std.proofs.Common.{◌≡◌, ℕ, ◌<◌, ◌≤◌, Bool, true, false, List, [], length, map, Option, Some, None, refl, ap, sym, subst, ◌∙◌, arith}
use Rattle.std.specs.Prelude.{slice_get, unwrap_or, codes}
use Rattle.std.specs.List.{AllByRecursion as Each}
use Rattle.std.specs.Str.{bytes_eq}
use Rattle.std.proofs.lemmas.Slice.Eq.{bytes_eq-Decides}
use Rattle.dl_term.specs.declared.syntax.Lab.{Lab}
use Rattle.dl_term.specs.declared.syntax.Lab.TheVariants.{Own, At}
use Rattle.dl_tree.specs.declared.tree.Tree.{Tree}
use Rattle.dl_model.specs.declared.protocol.FieldDecl.{FieldDecl}
use Rattle.dl_model.specs.declared.protocol.Protocol.{Protocol}
use Rattle.dl_model.specs.declared.protocol.Instances.{Instances}
use Rattle.dl_model.specs.declared.file.Decls.{Decls}
use Rattle.dl_model.specs.Words.{first_name}
use Rattle.dl_model.specs.Formed.{AreDistinct}
use Rattle.dl_forms.specs.declared.scope.Scope.{Scope}
use Rattle.dl_forms.specs.Table.{NameTable}
use Rattle.dl_forms.specs.Scope.{text_at, tag_syms}
use Rattle.dl_forms.specs.Show.{symbol, label, field, tag, of_labels}
use Rattle.dl_shown.specs.Shown.{named}
use Rattle.dl_one_file.specs.Plain.{has_text}
use Rattle.dl_one_file.proofs.Trees.{apart, IsPlain, same-text, text-of-plain}
use Rattle.dl_one_file.proofs.Alike.{is_int, SameNames, Alike, same-name}
use Rattle.dl_one_file.proofs.Lists.{each-at, map-at, there, within, one-place}

-- ---- what stands at a place with a name

module _ (na nb : NameTable) (same : SameNames na nb) where
  pub same-option : {X : Type 0} (number : X → ℕ) (x y : Option X) → named na number x ≡ named nb number y → IsPlain (named na number x) →
      (p : X) × (q : X) × (x ≡ Some p) × (y ≡ Some q) × (number p ≡ number q)
  same-option number None y e plain = absurd (apart (text-of-plain [] plain))
  same-option number (Some p) None e plain = absurd (apart (sym (ap has_text (same-text (text_at na (number p)) [] e)) ∙ text-of-plain (text_at na (number p)) plain))
  same-option number (Some p) (Some q) e plain = (p, q, refl, refl, same-name na nb same (number p) (number q) e plain)

  pub same-place : {X : Type 0} (number : X → ℕ) (xs ys : List X) → map number xs ≡ map number ys → AreDistinct (map number xs) → (i j : ℕ) →
      named na number (slice_get xs i) ≡ named nb number (slice_get ys j) → IsPlain (named na number (slice_get xs i)) → i ≡ j
  same-place number xs ys syms distinct i j e plain =
      let (p, q, hp, hq, pq) = same-option number (slice_get xs i) (slice_get ys j) e plain in
      let at_i : slice_get (map number xs) i ≡ Some (number p) = map-at number xs i p hp in
      let at_j : slice_get (map number xs) j ≡ Some (number p) = ap (λ ns. slice_get ns j) syms ∙ (map-at number ys j q hq ∙ ap Some (sym pq)) in
      one-place (map number xs) i j (number p) distinct at_i at_j

abbrev pub field_syms : List FieldDecl → List ℕ
field_syms fields = map (λ (f : FieldDecl). f.sym) fields

-- the same names, each once
pub record SameParts (p q : Protocol) : Type 0 where
  pub fields : field_syms p.fields ≡ field_syms q.fields
  pub tags : tag_syms p ≡ tag_syms q
  pub fields_once : AreDistinct (field_syms p.fields)
  pub tags_once : AreDistinct (tag_syms p)

pub record SameSkeleton (na nb : NameTable) (da db : Decls) : Type 0 where
  pub names : SameNames na nb
  pub int : slice_get na.texts 0 ≡ Some (codes "int")
  pub self : slice_get na.texts 3 ≡ Some (codes "self")
  pub labels : da.labels ≡ db.labels
  pub counts : length da.labels ≡ length da.inst.of
  pub of : da.inst.of ≡ db.inst.of
  pub allowed : Each (λ s. first_name ≤ s) da.labels
  pub distinct : AreDistinct da.labels
  pub known : Each (λ s. has_text (text_at na s) ≡ true) da.labels
  pub parts : (n : ℕ) (p q : Protocol) → slice_get da.inst.protocols n ≡ Some p → slice_get db.inst.protocols n ≡ Some q → SameParts p q

-- ---- fields and tags

-- A field that is written is one of a protocol that is there; `n` is the protocol's number.
record FieldThere (names : NameTable) (inst : Instances) (n : Option ℕ) (f : ℕ) : Type 0 where
  number : ℕ
  protocol : Protocol
  decl : FieldDecl
  is : n ≡ Some number
  found : slice_get inst.protocols number ≡ Some protocol
  there : slice_get protocol.fields f ≡ Some decl
  shown : field names (of_labels n []) inst Own f ≡ symbol (text_at names decl.sym)

record TagThere (names : NameTable) (inst : Instances) (n : Option ℕ) (t : ℕ) : Type 0 where
  number : ℕ
  protocol : Protocol
  decl : ℕ
  is : n ≡ Some number
  found : slice_get inst.protocols number ≡ Some protocol
  there : slice_get (tag_syms protocol) t ≡ Some decl
  shown : tag names (of_labels n []) inst Own t ≡ symbol (text_at names decl)

module _ (names : NameTable) (inst : Instances) where
  nothing-plain : IsPlain (symbol []) → ⊥
  nothing-plain plain = apart (text-of-plain [] plain)

  field-of : (p f : ℕ) (protocol : Protocol) (found : Option FieldDecl) → slice_get inst.protocols p ≡ Some protocol → slice_get protocol.fields f ≡ found →
      IsPlain (field names (of_labels (Some p) []) inst Own f) → FieldThere names inst (Some p) f
  field-of p f protocol None h e plain = absurd (nothing-plain (rw (h, e) at plain))
  field-of p f protocol (Some d) h e plain = record { number = p; protocol = protocol; decl = d; is = refl; found = h; there = e; shown = rw (h, e) refl }

  field-in : (p f : ℕ) (found : Option Protocol) → slice_get inst.protocols p ≡ found → IsPlain (field names (of_labels (Some p) []) inst Own f) → FieldThere names inst (Some p) f
  field-in p f None h plain = absurd (nothing-plain (rw h at plain))
  field-in p f (Some protocol) h plain = field-of p f protocol (slice_get protocol.fields f) h refl plain

  field-there : (n : Option ℕ) (f : ℕ) → IsPlain (field names (of_labels n []) inst Own f) → FieldThere names inst n f
  field-there None f plain = absurd (nothing-plain plain)
  field-there (Some p) f plain = field-in p f (slice_get inst.protocols p) refl plain

  tag-of : (p t : ℕ) (protocol : Protocol) (found : Option ℕ) → slice_get inst.protocols p ≡ Some protocol → slice_get (tag_syms protocol) t ≡ found →
      IsPlain (tag names (of_labels (Some p) []) inst Own t) → TagThere names inst (Some p) t
  tag-of p t protocol None h e plain = absurd (nothing-plain (rw (h, e) at plain))
  tag-of p t protocol (Some s) h e plain = record { number = p; protocol = protocol; decl = s; is = refl; found = h; there = e; shown = rw (h, e) refl }

  tag-in : (p t : ℕ) (found : Option Protocol) → slice_get inst.protocols p ≡ found → IsPlain (tag names (of_labels (Some p) []) inst Own t) → TagThere names inst (Some p) t
  tag-in p t None h plain = absurd (nothing-plain (rw h at plain))
  tag-in p t (Some protocol) h plain = tag-of p t protocol (slice_get (tag_syms protocol) t) h refl plain

  tag-there : (n : Option ℕ) (t : ℕ) → IsPlain (tag names (of_labels n []) inst Own t) → TagThere names inst n t
  tag-there None t plain = absurd (nothing-plain plain)
  tag-there (Some p) t plain = tag-in p t (slice_get inst.protocols p) refl plain

-- ---- labels

module _ (na nb : NameTable) (da db : Decls) (same : SameSkeleton na nb da db) where
  int-text : text_at na 0 ≡ codes "int"
  int-text = ap (λ o. unwrap_or o []) same.int

  self-text : text_at na 3 ≡ codes "self"
  self-text = ap (λ o. unwrap_or o []) same.self

  -- a text of a label is no word
  no-word : (l s k : ℕ) → slice_get da.labels l ≡ Some s → k < first_name → text_at na k ≡ text_at na s → has_text (text_at na k) ≡ true → ⊥
  no-word l s k h few e some =
      let is : k ≡ s = same.names.syms k s (e ∙ ap (λ texts. unwrap_or (slice_get texts s) []) same.names.texts) some in
      let big : first_name ≤ s = each-at (λ s. first_name ≤ s) da.labels l s same.allowed h in
      absurd (omega (arith, is, big, few))

  -- a known label isn't the word for an unknown one
  known-label : (l s : ℕ) → slice_get da.labels l ≡ Some s → bytes_eq (text_at na s) (codes "int") ≡ false
  known-label l s h = by (bytes_eq (text_at na s) (codes "int")) refl
    where
      by : (b : Bool) → bytes_eq (text_at na s) (codes "int") ≡ b → b ≡ false
      by false e = refl
      by true e =
          let is : text_at na s ≡ codes "int" = (bytes_eq-Decides (text_at na s) (codes "int")).0 e in
          absurd (no-word l s 0 h (omega arith) (int-text ∙ sym is) (ap has_text int-text))

  -- what stands for a label, by what is found for it
  sym-at : List ℕ → ℕ → ℕ
  sym-at labels l = unwrap_or (slice_get labels l) 0

  self-label : (m : ℕ) (found : Option ℕ) → slice_get db.labels m ≡ found → codes "self" ≡ text_at nb (unwrap_or found 0) → ⊥
  self-label m None h e =
      let is : 3 ≡ 0 = same.names.syms 3 0 (self-text ∙ e) (ap has_text self-text) in
      absurd (omega (arith, is))
  self-label m (Some s) h e =
      let is : 3 ≡ s = same.names.syms 3 s (self-text ∙ e) (ap has_text self-text) in
      let big : first_name ≤ s = each-at (λ s. first_name ≤ s) da.labels m s same.allowed (ap (λ ls. slice_get ls m) same.labels ∙ h) in
      absurd (omega (arith, is, big))

  label-self : (l : ℕ) (found : Option ℕ) → slice_get da.labels l ≡ found → bytes_eq (text_at na (unwrap_or found 0)) (codes "int") ≡ false → text_at na (unwrap_or found 0) ≡ codes "self" → ⊥
  label-self l None h known e = apart (sym known ∙ (bytes_eq-Decides (text_at na 0) (codes "int")).1 int-text)
  label-self l (Some s) h known e = no-word l s 3 h (omega arith) (self-text ∙ sym e) (ap has_text self-text)

  label-label : (l m : ℕ) (x y : Option ℕ) → slice_get da.labels l ≡ x → slice_get da.labels m ≡ y → bytes_eq (text_at na (unwrap_or x 0)) (codes "int") ≡ false →
      text_at na (unwrap_or x 0) ≡ text_at nb (unwrap_or y 0) → l ≡ m
  label-label l m None y hx hy known e = absurd (apart (sym known ∙ (bytes_eq-Decides (text_at na 0) (codes "int")).1 int-text))
  label-label l m (Some s) None hx hy known e =
      let some : has_text (text_at na s) ≡ true = each-at (λ s. has_text (text_at na s) ≡ true) da.labels l s same.known hx in
      let is : s ≡ 0 = same.names.syms s 0 e some in
      let big : first_name ≤ s = each-at (λ s. first_name ≤ s) da.labels l s same.allowed hx in
      absurd (omega (arith, is, big))
  label-label l m (Some s) (Some t) hx hy known e =
      let some : has_text (text_at na s) ≡ true = each-at (λ s. has_text (text_at na s) ≡ true) da.labels l s same.known hx in
      let is : s ≡ t = same.names.syms s t e some in
      one-place da.labels l m s same.distinct hx (hy ∙ ap Some (sym is))

  module _ (own : Option ℕ) where
    abbrev A : Lab → Tree
    A = label na (of_labels own da.labels) da.inst

    abbrev B : Lab → Tree
    B = label nb (of_labels own db.labels) db.inst

    same-label : (l m : Lab) → A l ≡ B m → is_int (A l) ≡ false → l ≡ m
    same-label Own Own e known = refl
    same-label Own (At m) e known = absurd (self-label m (slice_get db.labels m) refl (same-text (codes "self") (text_at nb (unwrap_or (slice_get db.labels m) 0)) e))
    same-label (At l) Own e known = absurd (label-self l (slice_get da.labels l) refl known (same-text (text_at na (unwrap_or (slice_get da.labels l) 0)) (codes "self") e))
    same-label (At l) (At m) e known =
        ap At (label-label l m (slice_get da.labels l) (slice_get da.labels m) refl refl known
        (same-text (text_at na (unwrap_or (slice_get da.labels l) 0)) (text_at nb (unwrap_or (slice_get db.labels m) 0)) e ∙ ap (λ ls. text_at nb (unwrap_or (slice_get ls m) 0)) (sym same.labels)))

  -- ---- fields and tags of a protocol

  one-number : (n : Option ℕ) (p q : ℕ) → n ≡ Some p → n ≡ Some q → p ≡ q
  one-number n p q hp hq = let both : Some p ≡ Some q = sym hp ∙ hq in cc

  same-field : (n : Option ℕ) (f g : ℕ) → field na (of_labels n []) da.inst Own f ≡ field nb (of_labels n []) db.inst Own g → IsPlain (field na (of_labels n []) da.inst Own f) → f ≡ g
  same-field n f g e plain =
      let x : FieldThere na da.inst n f = field-there na da.inst n f plain in
      let y : FieldThere nb db.inst n g = field-there nb db.inst n g (subst IsPlain e plain) in
      let numbers : x.number ≡ y.number = one-number n x.number y.number x.is y.is in
      let parts : SameParts x.protocol y.protocol = same.parts x.number x.protocol y.protocol x.found (ap (slice_get db.inst.protocols) numbers ∙ y.found) in
      let syms : x.decl.sym ≡ y.decl.sym = same-name na nb same.names x.decl.sym y.decl.sym (sym x.shown ∙ (e ∙ y.shown)) (subst IsPlain x.shown plain) in
      one-place (field_syms x.protocol.fields) f g x.decl.sym parts.fields_once (map-at (λ (d : FieldDecl). d.sym) x.protocol.fields f x.decl x.there)
      (ap (λ ns. slice_get ns g) parts.fields ∙ (map-at (λ (d : FieldDecl). d.sym) y.protocol.fields g y.decl y.there ∙ ap Some (sym syms)))

  same-tag : (n : Option ℕ) (t u : ℕ) → tag na (of_labels n []) da.inst Own t ≡ tag nb (of_labels n []) db.inst Own u → IsPlain (tag na (of_labels n []) da.inst Own t) → t ≡ u
  same-tag n t u e plain =
      let x : TagThere na da.inst n t = tag-there na da.inst n t plain in
      let y : TagThere nb db.inst n u = tag-there nb db.inst n u (subst IsPlain e plain) in
      let numbers : x.number ≡ y.number = one-number n x.number y.number x.is y.is in
      let parts : SameParts x.protocol y.protocol = same.parts x.number x.protocol y.protocol x.found (ap (slice_get db.inst.protocols) numbers ∙ y.found) in
      let syms : x.decl ≡ y.decl = same-name na nb same.names x.decl y.decl (sym x.shown ∙ (e ∙ y.shown)) (subst IsPlain x.shown plain) in
      one-place (tag_syms x.protocol) t u x.decl parts.tags_once x.there (ap (λ ns. slice_get ns u) parts.tags ∙ (y.there ∙ ap Some (sym syms)))

  -- a label with a protocol is known
  of-known : (l p : ℕ) → slice_get da.inst.of l ≡ Some p → bytes_eq (text_at na (unwrap_or (slice_get da.labels l) 0)) (codes "int") ≡ false
  of-known l p h =
      let few : l < length da.inst.of = within da.inst.of l p h in
      let counts : length da.labels ≡ length da.inst.of = same.counts in
      let (s, is) = there da.labels l (omega (arith, few, counts)) in
      ap (λ o. bytes_eq (text_at na (unwrap_or o 0)) (codes "int")) is ∙ known-label l s is

  module _ (own : Option ℕ) where
    abbrev sa : Scope
    sa = of_labels own da.labels

    abbrev sb : Scope
    sb = of_labels own db.labels

    fields-alike : (l : Lab) (f g : ℕ) → field na sa da.inst l f ≡ field nb sb db.inst l g → IsPlain (field na sa da.inst l f) → f ≡ g
    fields-alike Own f g e plain = same-field own f g e plain
    fields-alike (At l) f g e plain =
        same-field (slice_get da.inst.of l) f g (e ∙ ap (λ (ofs : List ℕ). field nb (of_labels (slice_get ofs l) []) db.inst Own g) (sym same.of)) plain

    tags-alike : (l : Lab) (t u : ℕ) → tag na sa da.inst l t ≡ tag nb sb db.inst l u → IsPlain (tag na sa da.inst l t) → t ≡ u
    tags-alike Own t u e plain = same-tag own t u e plain
    tags-alike (At l) t u e plain =
        same-tag (slice_get da.inst.of l) t u (e ∙ ap (λ (ofs : List ℕ). tag nb (of_labels (slice_get ofs l) []) db.inst Own u) (sym same.of)) plain

    field-known : (l : Lab) (f : ℕ) → IsPlain (field na sa da.inst l f) → is_int (label na sa da.inst l) ≡ false
    field-known Own f plain = refl
    field-known (At l) f plain =
        let x : FieldThere na da.inst (slice_get da.inst.of l) f = field-there na da.inst (slice_get da.inst.of l) f plain in
        of-known l x.number x.is

    tag-known : (l : Lab) (t : ℕ) → IsPlain (tag na sa da.inst l t) → is_int (label na sa da.inst l) ≡ false
    tag-known Own t plain = refl
    tag-known (At l) t plain =
        let x : TagThere na da.inst (slice_get da.inst.of l) t = tag-there na da.inst (slice_get da.inst.of l) t plain in
        of-known l x.number x.is

    pub alike : Alike na nb sa sb da.inst db.inst
    alike = record {
      names = same.names;
      labels = same-label own;
      fields = fields-alike;
      tags = tags-alike;
      of_field = field-known;
      of_tag = tag-known;
    }
