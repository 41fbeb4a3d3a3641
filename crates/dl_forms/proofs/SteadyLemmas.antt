-- What names stand for stays as it is when the table grows.
use Rattle.std.proofs.Common.{◌≡◌, ℕ, ℤ, suc, zero, Bool, true, false, List, [], ◌∷◌, ◌++◌, Option, Some, None, length, map, refl, ap, sym, ◌∙◌, ◌<◌, arith, slice_get, inl, inr}
use Rattle.std.specs.Prelude.{unwrap_or, replicate}
use Rattle.std.specs.List.{AllByRecursion as Each}
use Rattle.dl_model.specs.declared.protocol.FieldDecl.{FieldDecl}
use Rattle.dl_model.specs.declared.protocol.Protocol.{Protocol}
use Rattle.dl_model.specs.declared.protocol.Instances.{Instances}
use Rattle.dl_forms.specs.declared.scope.SortDecl.{SortDecl}
use Rattle.dl_forms.specs.declared.scope.Marks.{Marks}
use Rattle.dl_forms.specs.declared.scope.Scope.{Scope}
use Rattle.dl_forms.specs.Context.{Text, Parts, Context}
use Rattle.dl_forms.specs.Table.{NameTable, Extends, unmarked, has_mark, reserved}
use Rattle.dl_forms.specs.Scope.{text_at, tag_syms, parts_of, labels_from, labels_of, own_label, words_of, in_scope, sort_texts, declared, marked, taken_with, taken, variables, messages, context_of}
use Rattle.dl_forms.specs.Numbered.{AreBelow, ProtocolIsNumbered, SortIsNumbered, AreNumbered}
use Rattle.dl_forms.proofs.NameLemmas.{split}

slice_get-front : {X : Type 0} (xs ys : List X) (n : ℕ) → n < length xs → slice_get (xs ++ ys) n ≡ slice_get xs n
slice_get-front [] ys n h = absurd (omega (arith, h))
slice_get-front (x ∷ xs) ys zero h = refl
slice_get-front (x ∷ xs) ys (suc n) h = slice_get-front xs ys n (omega (arith, h))

-- a new name has no mark
marked-front : (quantified : Bool) (texts more : List Text) (marks : List Marks) → length marks ≡ length texts →
    marked quantified (texts ++ more) (marks ++ replicate (length more) unmarked) ≡ marked quantified texts marks
marked-front quantified [] [] [] same = refl
marked-front true [] (t ∷ more) [] same = marked-front true [] more [] refl
marked-front false [] (t ∷ more) [] same = marked-front false [] more [] refl
marked-front quantified [] more (mark ∷ marks) same = absurd (omega (arith, same))
marked-front quantified (t ∷ texts) more [] same = absurd (omega (arith, same))
marked-front quantified (t ∷ texts) more (mark ∷ marks) same = elim (split (has_mark quantified mark)) [
  | inl e ↦ rw e (ap (λ (rest : List Text). t ∷ rest) (marked-front quantified texts more marks (omega (arith, same))))
  | inr e ↦ rw e (marked-front quantified texts more marks (omega (arith, same)))
]

module _ (old new : NameTable) (grown : Extends old new) where
  text-same : (s : ℕ) → s < length old.texts → text_at new s ≡ text_at old s
  text-same s h = ap (λ (texts : List Text). unwrap_or (slice_get texts s) []) grown.texts ∙ ap (λ (o : Option Text). unwrap_or o []) (slice_get-front old.texts grown.more s h)

  texts-same : (syms : List ℕ) → AreBelow (length old.texts) syms → map (text_at new) syms ≡ map (text_at old) syms
  texts-same [] h = refl
  texts-same (s ∷ syms) h = rw (text-same s h.0, texts-same syms h.1) refl

  module _ {X : Type 0} (sym_of : X → ℕ) where
    texts-of : (xs : List X) → AreBelow (length old.texts) (map sym_of xs) → map (λ x. text_at new (sym_of x)) xs ≡ map (λ x. text_at old (sym_of x)) xs
    texts-of [] h = refl
    texts-of (x ∷ xs) h = rw (text-same (sym_of x) h.0, texts-of xs h.1) refl

  fields-same : (fields : List FieldDecl) → AreBelow (length old.texts) (map (λ (f : FieldDecl). f.sym) fields) →
      map {B = Text × Bool} (λ (f : FieldDecl). (text_at new f.sym, f.row)) fields ≡ map {B = Text × Bool} (λ (f : FieldDecl). (text_at old f.sym, f.row)) fields
  fields-same [] h = refl
  fields-same (f ∷ fields) h = rw (text-same f.sym h.0, fields-same fields h.1) refl

  protocols-same : (protocols : List Protocol) → Each (ProtocolIsNumbered (length old.texts)) protocols → map (parts_of new) protocols ≡ map (parts_of old) protocols
  protocols-same [] h = refl
  protocols-same (p ∷ protocols) h = rw (fields-same p.fields h.0.fields, texts-same (tag_syms p) h.0.tags, protocols-same protocols h.1) refl

  protocol-names-same : (protocols : List Protocol) → Each (ProtocolIsNumbered (length old.texts)) protocols →
      map (λ (p : Protocol). text_at new p.sym) protocols ≡ map (λ (p : Protocol). text_at old p.sym) protocols
  protocol-names-same [] h = refl
  protocol-names-same (p ∷ protocols) h = rw (text-same p.sym h.0.sym, protocol-names-same protocols h.1) refl

  labels-same : (syms of : List ℕ) → AreBelow (length old.texts) syms → labels_from new syms of ≡ labels_from old syms of
  labels-same [] of h = refl
  labels-same (s ∷ syms) [] h = refl
  labels-same (s ∷ syms) (p ∷ of) h = rw (text-same s h.0, labels-same syms of h.1) refl

  words-same : (words : List (record { 0 : ℕ; 1 : ℤ })) → AreBelow (length old.texts) (map (λ w. w.0) words) →
      map {B = Text × ℤ} (λ w. (text_at new w.0, w.1)) words ≡ map {B = Text × ℤ} (λ w. (text_at old w.0, w.1)) words
  words-same [] h = refl
  words-same (w ∷ words) h = rw (text-same w.0 h.0, words-same words h.1) refl

  sorts-same : (sorts : List SortDecl) → Each (SortIsNumbered (length old.texts)) sorts → sort_texts new sorts ≡ sort_texts old sorts
  sorts-same [] h = refl
  sorts-same (s ∷ sorts) h = rw (text-same s.sym h.0.sym, texts-same s.values h.0.values, sorts-same sorts h.1) refl

  module _ (scope : Scope) (inst : Instances) (known : AreNumbered old scope inst) where
    in-scope-same : in_scope new scope ≡ in_scope old scope
    in-scope-same = rw (texts-of (λ v. v.0) scope.vars known.vars, texts-of (λ m. m.0) scope.messages known.messages) refl

    declared-same : declared new scope inst ≡ declared old scope inst
    declared-same = rw (grown.sorts, sorts-same old.sorts known.sorts, protocol-names-same inst.protocols known.protocols, texts-of (λ w. w.0) scope.words known.words, texts-same scope.labels known.labels, texts-same scope.declared known.declared) refl

    marked-same : (quantified : Bool) → marked quantified new.texts new.marks ≡ marked quantified old.texts old.marks
    marked-same quantified = rw (grown.texts, grown.marks) (marked-front quantified old.texts grown.more old.marks known.marks)

    pub context-same : context_of new scope inst [] ≡ context_of old scope inst []
    context-same =
        rw (
          texts-same (map (λ v. v.0) scope.vars) known.vars,
          texts-same (map (λ m. m.0) scope.messages) known.messages,
          words-same scope.words known.words,
          labels-same scope.labels inst.of known.labels,
          protocols-same inst.protocols known.protocols,
          in-scope-same,
          declared-same,
          marked-same false,
        ) refl
