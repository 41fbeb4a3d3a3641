-- Terms and their trees.
use Rattle.std.proofs.Common.{◌≡◌, ℤ, true, false, List, [], ◌∷◌, Option, Some, None, length, map, refl, ap, sym, ◌∙◌, if◌then◌else◌, subst, arith, ◌⊎◌, inl, inr}
use Rattle.std.specs.Prelude.{codes, is_some}
use Rattle.std.proofs.Common.{get_or, ◌≤◌, ◌<◌}
use Rattle.std.specs.Str.{bytes_eq}
use Rattle.dl_term.specs.declared.syntax.Term.TheBlock as block
use Rattle.dl_forms.specs.Scope.{words_of, context_of}
use Rattle.dl_forms.specs.Width.{is_wide}
use Rattle.std.proofs.lemmas.Slice.Eq.{bytes_eq-Decides}
use Rattle.dl_tree.specs.declared.tree.Place.{Place}
use Rattle.dl_tree.specs.declared.tree.Tree.TheVariants as tree
use Rattle.dl_tree.specs.declared.tree.Tree.TheFolds.{fold-Tree, fold-roll-Tree}
use Rattle.dl_tree.specs.declared.tree.Tree.TheOpen as layer
use Rattle.dl_tree.specs.declared.tree.Tree.{Tree, Num, Sym, List'}
use Rattle.dl_forms.specs.declared.head.Head.{Head}
use Rattle.dl_forms.specs.declared.head.Head.TheVariants as head
use Rattle.dl_term.specs.declared.syntax.Term.TheVariants as term
use Rattle.dl_term.specs.declared.syntax.Term.{Term}
use Rattle.dl_forms.specs.declared.position.Position.TheVariants as position
use Rattle.dl_forms.specs.declared.position.Position.{Position}
use Rattle.dl_forms.specs.Table.{NameTable as Names}
use Rattle.dl_forms.specs.declared.scope.Scope.{Scope}
use Rattle.dl_model.specs.declared.protocol.Instances.{Instances}
use Rattle.dl_forms.specs.Scope.{Binding}
use Rattle.dl_forms.specs.Context.{Text, Context}
use Rattle.dl_forms.specs.Form.{head_of, head_named}
use Rattle.dl_forms.specs.Word.{word_of}
use Rattle.dl_forms.specs.Notation.{term_forms, form_with}
use Rattle.dl_forms.specs.Parts.{form_fault, of_form}
use Rattle.dl_forms.specs.Judge.{fault, Stage, list_rule, misses_index, breaks_kind}
use Rattle.dl_forms.specs.Show.{bare, no_place, layer_bare, symbol, form, shown_term}
use Rattle.dl_forms.specs.Known.{IsKnown}
use Rattle.dl_forms.specs.Read.{ReadsTerm, ReadsForm, ReadsPair, names_stage, list_fault, pair_fault}
use Rattle.dl_forms.proofs.FaultLemmas.{fault-Num, fault-List, fault_of_empty}
use Rattle.dl_forms.proofs.NameLemmas.{split, bare-Sym}

-- ---- heads

abbrev IsWord : Text → Head → Type 0
IsWord name h = (h ≡ head.Other) ⊎ (name ≡ word_of h)

word_step : (name word : Text) (h rest : Head) → word ≡ word_of h → IsWord name rest → IsWord name (if bytes_eq name word then h else rest)
word_step name word h rest is later =
    elim (split (bytes_eq name word))
    [ inl e ↦ rw e (inr ((bytes_eq-Decides name word).0 e ∙ is)) | inr e ↦ rw e later ]

is_word : (name : Text) → IsWord name (head_named name)
unfolding head_named
is_word name =
    word_step name (word_of head.Get) head.Get _ refl (word_step name (word_of head.Len) head.Len _ refl
    (word_step name (word_of head.Id) head.Id _ refl (word_step name (word_of head.From) head.From _ refl
    (word_step name (word_of head.To) head.To _ refl (word_step name (word_of head.Live) head.Live _ refl
    (word_step name (word_of head.Arg) head.Arg _ refl (word_step name (word_of head.Add) head.Add _ refl
    (word_step name (word_of head.Sub) head.Sub _ refl (word_step name (word_of head.Mul) head.Mul _ refl
    (word_step name (word_of head.If) head.If _ refl (word_step name (word_of head.Eq) head.Eq _ refl
    (word_step name (word_of head.Lt) head.Lt _ refl (word_step name (word_of head.Le) head.Le _ refl
    (word_step name (word_of head.Not) head.Not _ refl (word_step name (word_of head.And) head.And _ refl
    (word_step name (word_of head.Or) head.Or _ refl (word_step name (word_of head.Implies) head.Implies _ refl
    (word_step name (word_of head.All) head.All _ refl (word_step name (word_of head.Some) head.Some _ refl
    (word_step name (word_of head.Each) head.Each _ refl (word_step name (word_of head.Any) head.Any _ refl (inl refl))))))))))))))))))))))

-- a tree whose head is a word is that word
pub bare_head : (first : Tree) (h : Head) → head_of first ≡ h → (h ≡ head.Other → ⊥) → bare first ≡ symbol (word_of h)
bare_head (Num v p) h is other = absurd (other (sym is))
bare_head (List' s row p) h is other = absurd (other (sym is))
bare_head (Sym name p) h is other =
    elim (is_word name)
    [ inl e ↦ absurd (other (sym is ∙ e)) | inr e ↦ bare-Sym name p ∙ ap symbol (e ∙ ap word_of is) ]

-- ---- lists

pub bare-Num : (v : ℤ) (p : Place) → bare (tree.Num v p) ≡ tree.Num v no_place
unfolding bare
bare-Num v p = ap (fold-Tree Tree layer_bare) (sym (tree.rolls-Num v p)) ∙ fold-roll-Tree Tree layer_bare (layer.Num v p)

pub bare-List : (items : List Tree) (p : Place) → bare (tree.List items p) ≡ tree.List (map bare items) no_place
unfolding bare
bare-List items p = ap (fold-Tree Tree layer_bare) (sym (tree.rolls-List items p)) ∙ fold-roll-Tree Tree layer_bare (layer.List items p)

-- a list is read where what stands behind its head is
pub reads_list : (names : Names) (scope : Scope) (inst : Instances) (bound : List Binding) (first : Tree) (parts : List Tree) (p : Place) (h : Head) (t : Term) →
    head_of first ≡ h → (h ≡ head.Other → ⊥) → ReadsForm names scope inst bound p h parts t → ReadsTerm names scope inst bound (tree.List (first ∷ parts) p) t
reads_list names scope inst bound first parts p h t is word reads = record {
  sound = fault-List first parts p (names_stage names scope inst bound) position.Term
      ∙ ap (λ g. form_fault (names_stage names scope inst bound) position.Term p g parts (form_with (length parts) (term_forms g))) is ∙ reads.sound;
  shown = bare-List (first ∷ parts) p ∙ ap (λ w. tree.List (w ∷ map bare parts) no_place) (bare_head first h is word) ∙ reads.shown;
  known = reads.known;
}

not_other : (names : Names) (scope : Scope) (inst : Instances) (bound : List Binding) (p : Place) (parts : List Tree) (t : Term) (h : Head) →
    ReadsForm names scope inst bound p h parts t → h ≡ head.Other → ⊥
not_other names scope inst bound p parts t h reads other =
    let sound : list_fault names scope inst bound p head.Other parts ≡ None =
    subst (λ g. list_fault names scope inst bound p g parts ≡ None) other reads.sound in cc

pub reads_list_term : (names : Names) (scope : Scope) (inst : Instances) (bound : List Binding) (first : Tree) (parts : List Tree) (p : Place) (t : Term) →
    ReadsForm names scope inst bound p (head_of first) parts t → ReadsTerm names scope inst bound (tree.List (first ∷ parts) p) t
reads_list_term names scope inst bound first parts p t reads =
    reads_list names scope inst bound first parts p (head_of first) t refl (not_other names scope inst bound p parts t (head_of first) reads) reads

pub faults_list_term : (names : Names) (scope : Scope) (inst : Instances) (bound : List Binding) (first : Tree) (parts : List Tree) (p : Place) →
    fault (tree.List (first ∷ parts) p) (names_stage names scope inst bound) position.Term ≡ list_fault names scope inst bound p (head_of first) parts
faults_list_term names scope inst bound first parts p = fault-List first parts p (names_stage names scope inst bound) position.Term

pub reads_number : (names : Names) (scope : Scope) (inst : Instances) (bound : List Binding) (v : ℤ) (p : Place) → ReadsTerm names scope inst bound (tree.Num v p) (term.Num v)
reads_number names scope inst bound v p = record {
  sound = fault-Num v p (names_stage names scope inst bound) position.Term;
  shown = bare-Num v p;
  known = tt;
}

pub ruleset terms = (reads_number, reads_list_term, faults_list_term, fault_of_empty)

-- a list of four, by its elements
pub four : (parts : List Tree) (a b x y : Tree) → 4 ≤ length parts → length parts < 5 →
    a ≡ get_or parts 0 a → b ≡ get_or parts 1 b → x ≡ get_or parts 2 x → y ≡ get_or parts 3 y → parts ≡ a ∷ b ∷ x ∷ y ∷ []
four [] a b x y low high ea eb ex ey = absurd (omega (arith, low))
four (p ∷ []) a b x y low high ea eb ex ey = absurd (omega (arith, low))
four (p ∷ q ∷ []) a b x y low high ea eb ex ey = absurd (omega (arith, low))
four (p ∷ q ∷ r ∷ []) a b x y low high ea eb ex ey = absurd (omega (arith, low))
four (p ∷ q ∷ r ∷ s ∷ []) a b x y low high ea eb ex ey = cc
four (p ∷ q ∷ r ∷ s ∷ o ∷ parts) a b x y low high ea eb ex ey = absurd (omega (arith, high))

pub two : (parts : List Tree) (a b : Tree) → 2 ≤ length parts → length parts < 3 → a ≡ get_or parts 0 a → b ≡ get_or parts 1 b → parts ≡ a ∷ b ∷ []
two [] a b low high ea eb = absurd (omega (arith, low))
two (p ∷ []) a b low high ea eb = absurd (omega (arith, low))
two (p ∷ q ∷ []) a b low high ea eb = cc
two (p ∷ q ∷ r ∷ parts) a b low high ea eb = absurd (omega (arith, high))

-- ---- forms of terms

pub form_fault-plain : (stage : Stage) (q : Position) (p : Place) (h : Head) (parts : List Tree) (form : Option (List Position)) →
    list_rule stage q h parts ≡ None → form_fault stage q p h parts form ≡ of_form stage p parts form
form_fault-plain stage q p h parts None plain = refl
form_fault-plain stage q p h parts (Some form) plain = rw plain refl

-- a list whose form doesn't fit
pub misfits : (stage : Stage) (q : Position) (p : Place) (h : Head) (parts : List Tree) (form : Option (List Position)) → is_some form ≡ false → form_fault stage q p h parts form ≡ Some (10, p)
misfits stage q p h parts None none = refl
misfits stage q p h parts (Some form) none = cc

-- a list that breaks a rule as a whole
pub form_fault-refused : (stage : Stage) (q : Position) (p : Place) (h : Head) (parts : List Tree) (form : Option (List Position)) → is_some form ≡ true → list_rule stage q h parts ≡ Some 14 →
    form_fault stage q p h parts form ≡ Some (14, p)
form_fault-refused stage q p h parts None some broken = cc
form_fault-refused stage q p h parts (Some form) some broken = rw broken refl

module _ (names : Names) (scope : Scope) (inst : Instances) where
  shown-Add : (a b : Term) → shown_term names scope inst (term.Add a b) ≡ form (codes "+") (shown_term names scope inst a ∷ shown_term names scope inst b ∷ [])
  unfolding block.hidden-the_row-Term-0 block.shape-the_row-Term-0 block.shown-the_row-Term-0 denote.Hole.Carrier.hidden
  shown-Add a b = refl

  shown-Sub : (a b : Term) → shown_term names scope inst (term.Sub a b) ≡ form (codes "-") (shown_term names scope inst a ∷ shown_term names scope inst b ∷ [])
  unfolding block.hidden-the_row-Term-0 block.shape-the_row-Term-0 block.shown-the_row-Term-0 denote.Hole.Carrier.hidden
  shown-Sub a b = refl

  shown-Mul : (a b : Term) → shown_term names scope inst (term.Mul a b) ≡ form (codes "*") (shown_term names scope inst a ∷ shown_term names scope inst b ∷ [])
  unfolding block.hidden-the_row-Term-0 block.shape-the_row-Term-0 block.shown-the_row-Term-0 denote.Hole.Carrier.hidden
  shown-Mul a b = refl

  shown-If : (a b x y : Term) → shown_term names scope inst (term.If a b x y)
      ≡ form (codes "if") (shown_term names scope inst a ∷ shown_term names scope inst b ∷ shown_term names scope inst x ∷ shown_term names scope inst y ∷ [])
  unfolding block.hidden-the_row-Term-0 block.shape-the_row-Term-0 block.shown-the_row-Term-0 denote.Hole.Carrier.hidden
  shown-If a b x y = refl

  module _ (bound : List Binding) where
    known-Add : (a b : Term) → IsKnown names scope inst bound a → IsKnown names scope inst bound b → IsKnown names scope inst bound (term.Add a b)
    unfolding block.hidden-the_row-Term-0 block.shape-the_row-Term-0 block.shown-the_row-Term-0 denote.Hole.Carrier.hidden
    known-Add a b k l = (k, l)

    known-Sub : (a b : Term) → IsKnown names scope inst bound a → IsKnown names scope inst bound b → IsKnown names scope inst bound (term.Sub a b)
    unfolding block.hidden-the_row-Term-0 block.shape-the_row-Term-0 block.shown-the_row-Term-0 denote.Hole.Carrier.hidden
    known-Sub a b k l = (k, l)

    known-Mul : (a b : Term) → IsKnown names scope inst bound a → IsKnown names scope inst bound b → IsKnown names scope inst bound (term.Mul a b)
    unfolding block.hidden-the_row-Term-0 block.shape-the_row-Term-0 block.shown-the_row-Term-0 denote.Hole.Carrier.hidden
    known-Mul a b k l = (k, l)

    known-If : (a b x y : Term) → IsKnown names scope inst bound a → IsKnown names scope inst bound b → IsKnown names scope inst bound x → IsKnown names scope inst bound y →
        IsKnown names scope inst bound (term.If a b x y)
    unfolding block.hidden-the_row-Term-0 block.shape-the_row-Term-0 block.shown-the_row-Term-0 denote.Hole.Carrier.hidden
    known-If a b x y k l m n = (k, l, m, n)

    -- a form of two terms that isn't wide
    module _ (h : Head) (forms_are : term_forms h ≡ (position.Term ∷ position.Term ∷ []) ∷ []) (indexed : (c : Context) (parts : List Tree) → (breaks_kind c.kind h parts ≡ false) × (misses_index c h parts ≡ false)) where
      plain : (parts : List Tree) → is_wide (words_of names scope) position.Term h parts ≡ false → list_rule (names_stage names scope inst bound) position.Term h parts ≡ None
      plain parts narrow = rw ((indexed (context_of names scope inst bound) parts).0, (indexed (context_of names scope inst bound) parts).1, narrow) refl

      faults_pair : (p : Place) (parts : List Tree) → is_wide (words_of names scope) position.Term h parts ≡ false → list_fault names scope inst bound p h parts ≡ pair_fault names scope inst bound p parts
      faults_pair p parts narrow =
          ap (λ fs. form_fault (names_stage names scope inst bound) position.Term p h parts (form_with (length parts) fs)) forms_are
          ∙ form_fault-plain (names_stage names scope inst bound) position.Term p h parts (form_with (length parts) ((position.Term ∷ position.Term ∷ []) ∷ [])) (plain parts narrow)

      reads_pair : (p : Place) (parts : List Tree) (left right t : Term) → is_wide (words_of names scope) position.Term h parts ≡ false →
          ReadsPair names scope inst bound parts left right →
          shown_term names scope inst t ≡ form (word_of h) (shown_term names scope inst left ∷ shown_term names scope inst right ∷ []) →
          IsKnown names scope inst bound t → ReadsForm names scope inst bound p h parts t
      reads_pair p parts left right t narrow reads shown known = record {
        sound = faults_pair p parts narrow ∙ rw (reads.whole, reads.reads_first.sound, reads.reads_second.sound) refl;
        shown = rw (reads.whole, reads.reads_first.shown, reads.reads_second.shown) (sym shown);
        known = known;
      }

    pub faults_sum : (p : Place) (parts : List Tree) → is_wide (words_of names scope) position.Term head.Add parts ≡ false → list_fault names scope inst bound p head.Add parts ≡ pair_fault names scope inst bound p parts
    faults_sum = faults_pair head.Add refl (λ c parts. (refl, refl))

    pub faults_difference : (p : Place) (parts : List Tree) → is_wide (words_of names scope) position.Term head.Sub parts ≡ false → list_fault names scope inst bound p head.Sub parts ≡ pair_fault names scope inst bound p parts
    faults_difference = faults_pair head.Sub refl (λ c parts. (refl, refl))

    pub faults_product : (p : Place) (parts : List Tree) → is_wide (words_of names scope) position.Term head.Mul parts ≡ false → list_fault names scope inst bound p head.Mul parts ≡ pair_fault names scope inst bound p parts
    faults_product = faults_pair head.Mul refl (λ c parts. (refl, refl))

    pub reads_sum : (p : Place) (parts : List Tree) (left right : Term) → is_wide (words_of names scope) position.Term head.Add parts ≡ false → ReadsPair names scope inst bound parts left right →
        ReadsForm names scope inst bound p head.Add parts (term.Add left right)
    reads_sum p parts left right narrow reads = reads_pair head.Add refl (λ c parts. (refl, refl)) p parts left right (term.Add left right) narrow reads (shown-Add left right) (known-Add left right reads.reads_first.known reads.reads_second.known)

    pub reads_difference : (p : Place) (parts : List Tree) (left right : Term) → is_wide (words_of names scope) position.Term head.Sub parts ≡ false → ReadsPair names scope inst bound parts left right →
        ReadsForm names scope inst bound p head.Sub parts (term.Sub left right)
    reads_difference p parts left right narrow reads = reads_pair head.Sub refl (λ c parts. (refl, refl)) p parts left right (term.Sub left right) narrow reads (shown-Sub left right) (known-Sub left right reads.reads_first.known reads.reads_second.known)

    pub reads_product : (p : Place) (parts : List Tree) (left right : Term) → is_wide (words_of names scope) position.Term head.Mul parts ≡ false → ReadsPair names scope inst bound parts left right →
        ReadsForm names scope inst bound p head.Mul parts (term.Mul left right)
    reads_product p parts left right narrow reads = reads_pair head.Mul refl (λ c parts. (refl, refl)) p parts left right (term.Mul left right) narrow reads (shown-Mul left right) (known-Mul left right reads.reads_first.known reads.reads_second.known)

    pub reads_choice : (p : Place) (a b x y : Tree) (ta tb tx ty : Term) → is_wide (words_of names scope) position.Term head.If (a ∷ b ∷ x ∷ y ∷ []) ≡ false →
        ReadsTerm names scope inst bound a ta → ReadsTerm names scope inst bound b tb → ReadsTerm names scope inst bound x tx → ReadsTerm names scope inst bound y ty →
        ReadsForm names scope inst bound p head.If (a ∷ b ∷ x ∷ y ∷ []) (term.If ta tb tx ty)
    reads_choice p a b x y ta tb tx ty narrow ra rb rx ry = record {
      sound = rw (narrow, ra.sound, rb.sound, rx.sound, ry.sound) refl;
      shown = rw (ra.shown, rb.shown, rx.shown, ry.shown) (sym (shown-If ta tb tx ty));
      known = known-If ta tb tx ty ra.known rb.known rx.known ry.known;
    }

    -- a wide list is refused as such
    pub faults_wide : (p : Place) (h : Head) (parts : List Tree) → is_wide (words_of names scope) position.Term h parts ≡ true → list_fault names scope inst bound p h parts ≡ Some (16, p)
    faults_wide p head.Add (a ∷ b ∷ []) wide = rw wide refl
    faults_wide p head.Sub (a ∷ b ∷ []) wide = rw wide refl
    faults_wide p head.Mul (a ∷ b ∷ []) wide = rw wide refl
    faults_wide p head.If (a ∷ b ∷ x ∷ y ∷ []) wide = rw wide refl
    faults_wide p h parts wide = cc

    pub misfits_term : (p : Place) (h : Head) (parts : List Tree) → is_some (form_with (length parts) (term_forms h)) ≡ false → list_fault names scope inst bound p h parts ≡ Some (10, p)
    misfits_term p h parts none = misfits (names_stage names scope inst bound) position.Term p h parts (form_with (length parts) (term_forms h)) none

    pub excludes_term : (p : Place) (h : Head) (parts : List Tree) → is_some (form_with (length parts) (term_forms h)) ≡ true → breaks_kind scope.kind h parts ≡ true →
        list_fault names scope inst bound p h parts ≡ Some (14, p)
    excludes_term p h parts fits breaks = form_fault-refused (names_stage names scope inst bound) position.Term p h parts (form_with (length parts) (term_forms h)) fits (rw breaks refl)

pub ruleset lists = (faults_sum, reads_sum, faults_difference, reads_difference, faults_product, reads_product, reads_choice)

pub ruleset dispatch = (faults_wide, misfits_term, excludes_term)
