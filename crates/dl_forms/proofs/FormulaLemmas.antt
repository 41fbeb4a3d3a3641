-- Formulas and their trees.
use Rattle.std.proofs.Common.{◌≡◌, ℕ, true, false, List, [], ◌∷◌, Some, None, length, map, refl, ap, sym, ◌∙◌, subst}
use Rattle.std.specs.Prelude.{codes, is_some}
use Rattle.std.specs.Str.{bytes_eq}
use Rattle.std.proofs.lemmas.Slice.Eq.{bytes_eq-Decides}
use Rattle.dl_tree.specs.declared.tree.Place.{Place}
use Rattle.dl_tree.specs.declared.tree.Tree.TheVariants as tree
use Rattle.dl_tree.specs.declared.tree.Tree.{Tree}
use Rattle.dl_forms.specs.declared.head.Head.{Head}
use Rattle.dl_forms.specs.declared.head.Head.TheVariants as head
use Rattle.dl_term.specs.declared.syntax.Formula.TheVariants as formula
use Rattle.dl_term.specs.declared.syntax.Formula.TheBlock as block
use Rattle.dl_term.specs.declared.syntax.Formula.{Formula}
use Rattle.dl_forms.specs.declared.position.Position.TheVariants as position
use Rattle.dl_forms.specs.Table.{NameTable as Names}
use Rattle.dl_forms.specs.declared.scope.Scope.{Scope}
use Rattle.dl_model.specs.declared.protocol.Instances.{Instances}
use Rattle.dl_forms.specs.Context.{Text, is_among}
use Rattle.dl_forms.specs.Form.{head_of}
use Rattle.dl_forms.specs.Notation.{formula_forms, form_with}
use Rattle.dl_forms.specs.Scope.{Binding, OfVariable, text_at, taken}
use Rattle.dl_forms.specs.Judge.{fault, Stage, is_name, behind, list_rule, is_plain, breaks_kind}
use Rattle.dl_forms.specs.Show.{bare, no_place, symbol, form, shown_formula, name}
use Rattle.dl_forms.specs.Known.{IsKnownThere}
use Rattle.dl_forms.specs.Read.{ReadsFormula, ReadsFormulaForm, ReadsFormulas, ReadsQuantified, BindsVariable, BindsMessage, names_stage, list_formula_fault, quantified_fault}
use Rattle.dl_forms.proofs.FaultLemmas.{fault-Num, fault-Sym, fault-List, fault_of_empty}
use Rattle.dl_forms.proofs.NameLemmas.{bare-Sym}
use Rattle.dl_forms.proofs.TermLemmas.{bare-List, bare_head, form_fault-plain, form_fault-refused, misfits}

module _ (names : Names) (scope : Scope) (inst : Instances) (bound : List Binding) where
  not_other : (p : Place) (parts : List Tree) (f : Formula) (h : Head) → ReadsFormulaForm names scope inst bound p h parts f → h ≡ head.Other → ⊥
  not_other p parts f h reads other =
      let sound : list_formula_fault names scope inst bound p head.Other parts ≡ None = subst (λ g. list_formula_fault names scope inst bound p g parts ≡ None) other reads.sound in cc

  pub reads_list_formula : (first : Tree) (parts : List Tree) (p : Place) (f : Formula) →
      ReadsFormulaForm names scope inst bound p (head_of first) parts f → ReadsFormula names scope inst bound (tree.List (first ∷ parts) p) f
  reads_list_formula first parts p f reads = record {
    sound = fault-List first parts p (names_stage names scope inst bound) position.Formula ∙ reads.sound;
    shown = bare-List (first ∷ parts) p ∙ ap (λ w. tree.List (w ∷ map bare parts) no_place) (bare_head first (head_of first) refl (not_other p parts f (head_of first) reads)) ∙ reads.shown;
    known = reads.known;
  }

  pub faults_list_formula : (first : Tree) (parts : List Tree) (p : Place) →
      fault (tree.List (first ∷ parts) p) (names_stage names scope inst bound) position.Formula ≡ list_formula_fault names scope inst bound p (head_of first) parts
  faults_list_formula first parts p = fault-List first parts p (names_stage names scope inst bound) position.Formula

  pub reads_true : (t : Text) (p : Place) → bytes_eq t (codes "true") ≡ true → ReadsFormula names scope inst bound (tree.Sym t p) formula.True
  reads_true t p is = record {
    sound = fault-Sym t p (names_stage names scope inst bound) position.Formula ∙ rw is refl;
    shown = bare-Sym t p ∙ ap symbol ((bytes_eq-Decides t (codes "true")).0 is);
    known = tt;
  }

  pub reads_false : (t : Text) (p : Place) → bytes_eq t (codes "true") ≡ false → bytes_eq t (codes "false") ≡ true → ReadsFormula names scope inst bound (tree.Sym t p) formula.False
  reads_false t p other is = record {
    sound = fault-Sym t p (names_stage names scope inst bound) position.Formula ∙ rw (other, is) refl;
    shown = bare-Sym t p ∙ ap symbol ((bytes_eq-Decides t (codes "false")).0 is);
    known = tt;
  }

module _ (names : Names) (scope : Scope) (inst : Instances) (bound : List Binding) where
  pub binds_variable : (t : Text) (p : Place) (s : ℕ) → is_name t ≡ true → is_among t (taken names scope inst bound) ≡ false → text_at names s ≡ t →
      BindsVariable names scope inst bound (tree.Sym t p) s
  binds_variable t p s named free is = record {
    sound = fault-Sym t p (names_stage names scope inst bound) position.NewVariable ∙ rw (named, free) refl;
    shown = bare-Sym t p ∙ ap symbol (sym is);
    text = sym is;
  }

  pub binds_message : (t : Text) (p : Place) (s : ℕ) → is_name t ≡ true → is_among t (taken names scope inst bound) ≡ false → text_at names s ≡ t →
      BindsMessage names scope inst bound (tree.Sym t p) s
  binds_message t p s named free is = record {
    sound = fault-Sym t p (names_stage names scope inst bound) position.NewMessage ∙ rw (named, free) refl;
    shown = bare-Sym t p ∙ ap symbol (sym is);
    text = sym is;
  }

  pub shadows_message : (t : Text) (p : Place) → is_name t ≡ true → is_among t (taken names scope inst bound) ≡ true → fault (tree.Sym t p) (names_stage names scope inst bound) position.NewMessage ≡ Some (13, p)
  shadows_message t p named taking = fault-Sym t p (names_stage names scope inst bound) position.NewMessage ∙ rw (named, taking) refl

  pub no_new_message_name : (t : Text) (p : Place) → is_name t ≡ false → fault (tree.Sym t p) (names_stage names scope inst bound) position.NewMessage ≡ Some (10, p)
  no_new_message_name t p other = fault-Sym t p (names_stage names scope inst bound) position.NewMessage ∙ rw other refl

  pub shadows : (t : Text) (p : Place) → is_name t ≡ true → is_among t (taken names scope inst bound) ≡ true → fault (tree.Sym t p) (names_stage names scope inst bound) position.NewVariable ≡ Some (13, p)
  shadows t p named taking = fault-Sym t p (names_stage names scope inst bound) position.NewVariable ∙ rw (named, taking) refl

  pub no_variable_name : (t : Text) (p : Place) → is_name t ≡ false → fault (tree.Sym t p) (names_stage names scope inst bound) position.NewVariable ≡ Some (10, p)
  no_variable_name t p other = fault-Sym t p (names_stage names scope inst bound) position.NewVariable ∙ rw other refl

pub list_as_variable : (items : List Tree) (p : Place) (stage : Stage) → fault (tree.List items p) stage position.NewVariable ≡ Some (10, p)
list_as_variable [] p stage = fault_of_empty [] p stage position.NewVariable refl
list_as_variable (first ∷ parts) p stage = fault-List first parts p stage position.NewVariable

pub list_as_new_message : (items : List Tree) (p : Place) (stage : Stage) → fault (tree.List items p) stage position.NewMessage ≡ Some (10, p)
list_as_new_message [] p stage = fault_of_empty [] p stage position.NewMessage refl
list_as_new_message (first ∷ parts) p stage = fault-List first parts p stage position.NewMessage

module _ (names : Names) (scope : Scope) (inst : Instances) (bound : List Binding) where
  shown-Not : (f : Formula) → shown_formula names scope inst (formula.Not f) ≡ form (codes "not") (shown_formula names scope inst f ∷ [])
  unfolding block.hidden-the_row-Formula-0 block.shape-the_row-Formula-0 block.shown-the_row-Formula-0 denote.Hole.Carrier.hidden
  shown-Not f = refl

  known-Not : (f : Formula) → IsKnownThere names scope inst bound f → IsKnownThere names scope inst bound (formula.Not f)
  unfolding block.hidden-the_row-Formula-0 block.shape-the_row-Formula-0 block.shown-the_row-Formula-0 denote.Hole.Carrier.hidden
  known-Not f k = k

  pub reads_negation : (p : Place) (tree : Tree) (f : Formula) → ReadsFormula names scope inst bound tree f → ReadsFormulaForm names scope inst bound p head.Not (tree ∷ []) (formula.Not f)
  reads_negation p tree f reads = record {
    sound = rw reads.sound refl;
    shown = rw reads.shown (sym (shown-Not f));
    known = known-Not f reads.known;
  }

  shown-And : (f g : Formula) → shown_formula names scope inst (formula.And f g) ≡ form (codes "and") (shown_formula names scope inst f ∷ shown_formula names scope inst g ∷ [])
  unfolding block.hidden-the_row-Formula-0 block.shape-the_row-Formula-0 block.shown-the_row-Formula-0 denote.Hole.Carrier.hidden
  shown-And f g = refl

  known-And : (f g : Formula) → IsKnownThere names scope inst bound f → IsKnownThere names scope inst bound g → IsKnownThere names scope inst bound (formula.And f g)
  unfolding block.hidden-the_row-Formula-0 block.shape-the_row-Formula-0 block.shown-the_row-Formula-0 denote.Hole.Carrier.hidden
  known-And f g k l = (k, l)

  pub reads_conjunction : (p : Place) (parts : List Tree) (f g : Formula) → ReadsFormulas names scope inst bound parts f g → ReadsFormulaForm names scope inst bound p head.And parts (formula.And f g)
  reads_conjunction p parts f g reads = record {
    sound = rw (reads.whole, reads.reads_first.sound, reads.reads_second.sound) refl;
    shown = rw (reads.whole, reads.reads_first.shown, reads.reads_second.shown) (sym (shown-And f g));
    known = known-And f g reads.reads_first.known reads.reads_second.known;
  }

  shown-Or : (f g : Formula) → shown_formula names scope inst (formula.Or f g) ≡ form (codes "or") (shown_formula names scope inst f ∷ shown_formula names scope inst g ∷ [])
  unfolding block.hidden-the_row-Formula-0 block.shape-the_row-Formula-0 block.shown-the_row-Formula-0 denote.Hole.Carrier.hidden
  shown-Or f g = refl

  known-Or : (f g : Formula) → IsKnownThere names scope inst bound f → IsKnownThere names scope inst bound g → IsKnownThere names scope inst bound (formula.Or f g)
  unfolding block.hidden-the_row-Formula-0 block.shape-the_row-Formula-0 block.shown-the_row-Formula-0 denote.Hole.Carrier.hidden
  known-Or f g k l = (k, l)

  pub reads_disjunction : (p : Place) (parts : List Tree) (f g : Formula) → ReadsFormulas names scope inst bound parts f g → ReadsFormulaForm names scope inst bound p head.Or parts (formula.Or f g)
  reads_disjunction p parts f g reads = record {
    sound = rw (reads.whole, reads.reads_first.sound, reads.reads_second.sound) refl;
    shown = rw (reads.whole, reads.reads_first.shown, reads.reads_second.shown) (sym (shown-Or f g));
    known = known-Or f g reads.reads_first.known reads.reads_second.known;
  }

  shown-Implies : (f g : Formula) → shown_formula names scope inst (formula.Implies f g) ≡ form (codes "implies") (shown_formula names scope inst f ∷ shown_formula names scope inst g ∷ [])
  unfolding block.hidden-the_row-Formula-0 block.shape-the_row-Formula-0 block.shown-the_row-Formula-0 denote.Hole.Carrier.hidden
  shown-Implies f g = refl

  known-Implies : (f g : Formula) → IsKnownThere names scope inst bound f → IsKnownThere names scope inst bound g → IsKnownThere names scope inst bound (formula.Implies f g)
  unfolding block.hidden-the_row-Formula-0 block.shape-the_row-Formula-0 block.shown-the_row-Formula-0 denote.Hole.Carrier.hidden
  known-Implies f g k l = (k, l)

  pub reads_implication : (p : Place) (parts : List Tree) (f g : Formula) → ReadsFormulas names scope inst bound parts f g → ReadsFormulaForm names scope inst bound p head.Implies parts (formula.Implies f g)
  reads_implication p parts f g reads = record {
    sound = rw (reads.whole, reads.reads_first.sound, reads.reads_second.sound) refl;
    shown = rw (reads.whole, reads.reads_first.shown, reads.reads_second.shown) (sym (shown-Implies f g));
    known = known-Implies f g reads.reads_first.known reads.reads_second.known;
  }

  -- behind the name of a new variable
  behind_variable : (first : Tree) (s : ℕ) → BindsVariable names scope inst bound first s →
      behind (names_stage names scope inst bound) position.NewVariable first ≡ names_stage names scope inst (OfVariable s ∷ bound)
  behind_variable first s binds = rw binds.text refl

  quantified_sound : (p : Place) (parts : List Tree) (s : ℕ) (f : Formula) → ReadsQuantified names scope inst bound parts s f → quantified_fault names scope inst bound p parts ≡ None
  quantified_sound p parts s f reads = rw (reads.whole, reads.binds.sound, behind_variable reads.first s reads.binds, reads.reads.sound) refl

  shown-All : (s : ℕ) (f : Formula) → shown_formula names scope inst (formula.All s f) ≡ form (codes "all") (name names scope inst s ∷ shown_formula names scope inst f ∷ [])
  unfolding block.hidden-the_row-Formula-0 block.shape-the_row-Formula-0 block.shown-the_row-Formula-0 denote.Hole.Carrier.hidden
  shown-All s f = refl

  known-All : (s : ℕ) (f : Formula) → IsKnownThere names scope inst (OfVariable s ∷ bound) f → IsKnownThere names scope inst bound (formula.All s f)
  unfolding block.hidden-the_row-Formula-0 block.shape-the_row-Formula-0 block.shown-the_row-Formula-0 denote.Hole.Carrier.hidden
  known-All s f k = k

  pub faults_universal : (p : Place) (parts : List Tree) → is_plain scope.kind ≡ false → list_formula_fault names scope inst bound p head.All parts ≡ quantified_fault names scope inst bound p parts
  faults_universal p parts allowed = form_fault-plain (names_stage names scope inst bound) position.Formula p head.All parts (form_with (length parts) (formula_forms head.All)) (rw allowed refl)

  pub faults_existential : (p : Place) (parts : List Tree) → is_plain scope.kind ≡ false → list_formula_fault names scope inst bound p head.Some parts ≡ quantified_fault names scope inst bound p parts
  faults_existential p parts allowed = form_fault-plain (names_stage names scope inst bound) position.Formula p head.Some parts (form_with (length parts) (formula_forms head.Some)) (rw allowed refl)

  pub reads_universal : (p : Place) (parts : List Tree) (s : ℕ) (f : Formula) → is_plain scope.kind ≡ false → ReadsQuantified names scope inst bound parts s f → ReadsFormulaForm names scope inst bound p head.All parts (formula.All s f)
  reads_universal p parts s f allowed reads = record {
    sound = faults_universal p parts allowed ∙ quantified_sound p parts s f reads;
    shown = rw (reads.whole, reads.binds.shown, reads.reads.shown) (sym (shown-All s f));
    known = known-All s f reads.reads.known;
  }

  shown-Exists : (s : ℕ) (f : Formula) → shown_formula names scope inst (formula.Exists s f) ≡ form (codes "some") (name names scope inst s ∷ shown_formula names scope inst f ∷ [])
  unfolding block.hidden-the_row-Formula-0 block.shape-the_row-Formula-0 block.shown-the_row-Formula-0 denote.Hole.Carrier.hidden
  shown-Exists s f = refl

  known-Exists : (s : ℕ) (f : Formula) → IsKnownThere names scope inst (OfVariable s ∷ bound) f → IsKnownThere names scope inst bound (formula.Exists s f)
  unfolding block.hidden-the_row-Formula-0 block.shape-the_row-Formula-0 block.shown-the_row-Formula-0 denote.Hole.Carrier.hidden
  known-Exists s f k = k

  pub reads_existential : (p : Place) (parts : List Tree) (s : ℕ) (f : Formula) → is_plain scope.kind ≡ false → ReadsQuantified names scope inst bound parts s f → ReadsFormulaForm names scope inst bound p head.Some parts (formula.Exists s f)
  reads_existential p parts s f allowed reads = record {
    sound = faults_existential p parts allowed ∙ quantified_sound p parts s f reads;
    shown = rw (reads.whole, reads.binds.shown, reads.reads.shown) (sym (shown-Exists s f));
    known = known-Exists s f reads.reads.known;
  }

pub ruleset formulas = (reads_list_formula, faults_list_formula, reads_true, reads_false, fault-Num, fault-Sym, fault_of_empty)

pub ruleset binders = (shadows, shadows_message, no_variable_name, no_new_message_name, list_as_variable, list_as_new_message, fault-Num)

pub ruleset quantified = (fault-Num, fault-Sym)

-- a list whose form doesn't fit, and one that its kind excludes
pub misfits_formula : (names : Names) (scope : Scope) (inst : Instances) (bound : List Binding) (p : Place) (h : Head) (parts : List Tree) →
    is_some (form_with (length parts) (formula_forms h)) ≡ false → list_formula_fault names scope inst bound p h parts ≡ Some (10, p)
misfits_formula names scope inst bound p h parts none = misfits (names_stage names scope inst bound) position.Formula p h parts (form_with (length parts) (formula_forms h)) none

pub excludes_formula : (names : Names) (scope : Scope) (inst : Instances) (bound : List Binding) (p : Place) (h : Head) (parts : List Tree) →
    is_some (form_with (length parts) (formula_forms h)) ≡ true → breaks_kind scope.kind h parts ≡ true → list_formula_fault names scope inst bound p h parts ≡ Some (14, p)
excludes_formula names scope inst bound p h parts fits breaks = form_fault-refused (names_stage names scope inst bound) position.Formula p h parts (form_with (length parts) (formula_forms h)) fits (rw breaks refl)

pub ruleset dispatch = (fault-Num, fault-Sym, misfits_formula, excludes_formula)

pub ruleset lists = (fault-Num, faults_universal, faults_existential)
