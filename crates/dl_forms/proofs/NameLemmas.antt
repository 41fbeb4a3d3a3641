-- What names stand for.
use Rattle.std.proofs.Common.{◌≡◌, ℕ, ℤ, Bool, true, false, List, [], ◌∷◌, ◌++◌, Option, Some, None, map, refl, ap, sym, ◌∙◌, subst, ◌⊎◌, inl, inr}
use Rattle.std.specs.Prelude.{is_some}
use Rattle.std.specs.Str.{bytes_eq}
use Rattle.std.specs.Option.{option_map}
use Rattle.std.proofs.lemmas.Slice.Eq.{bytes_eq-Decides}
use Rattle.dl_tree.specs.declared.tree.Place.{Place}
use Rattle.dl_tree.specs.declared.tree.Tree.TheVariants as tree
use Rattle.dl_tree.specs.declared.tree.Tree.TheFolds.{fold-Tree, fold-roll-Tree}
use Rattle.dl_tree.specs.declared.tree.Tree.TheOpen as layer
use Rattle.dl_tree.specs.declared.tree.Tree.{Tree}
use Rattle.dl_term.specs.declared.syntax.Term.{Term, Word, Var}
use Rattle.dl_forms.specs.declared.position.Position.TheVariants as position
use Rattle.dl_forms.specs.Table.{NameTable as Names}
use Rattle.dl_forms.specs.declared.scope.Scope.{Scope}
use Rattle.dl_model.specs.declared.protocol.Instances.{Instances}
use Rattle.dl_forms.specs.Scope.{Binding}
use Rattle.dl_forms.specs.Context.{Text, is_among, look_up}
use Rattle.dl_forms.specs.Scope.{text_at, first_named, named_entry, variables, messages}
use Rattle.dl_forms.specs.Judge.{fault, is_name, Stage}
use Rattle.dl_forms.specs.Show.{bare, no_place, layer_bare}
use Rattle.dl_forms.specs.Known.{Has}
use Rattle.dl_forms.specs.Read.{ReadsTerm, ReadsMessage, names_stage}
use Rattle.dl_forms.proofs.FaultLemmas.{fault-Sym, fault-Num, fault-List, fault_of_empty}

pub split : (b : Bool) → (b ≡ true) ⊎ (b ≡ false)
split true = inl refl
split false = inr refl

abbrev first_of : Option ℕ → Option ℕ → Option ℕ
first_of (Some s) later = Some s
first_of None later = later

pub first_named-append : (names : Names) (name : Text) (xs ys : List ℕ) → first_named names name (xs ++ ys) ≡ first_of (first_named names name xs) (first_named names name ys)
first_named-append names name [] ys = refl
first_named-append names name (s ∷ xs) ys =
    elim (split (bytes_eq name (text_at names s)))
    [ inl e ↦ rw e refl | inr e ↦ rw e (first_named-append names name xs ys) ]

pub is_among-map : (names : Names) (name : Text) (syms : List ℕ) → is_among name (map (text_at names) syms) ≡ is_some (first_named names name syms)
is_among-map names name [] = refl
is_among-map names name (s ∷ syms) =
    elim (split (bytes_eq name (text_at names s)))
    [ inl e ↦ rw e refl | inr e ↦ rw e (is_among-map names name syms) ]

pub first_named-Some : (names : Names) (name : Text) (syms : List ℕ) (s : ℕ) → first_named names name syms ≡ Some s → (text_at names s ≡ name) × Has syms s
first_named-Some names name [] s h = cc
first_named-Some names name (t ∷ syms) s h =
    elim (split (bytes_eq name (text_at names t))) [
      | inl e ↦ (let same : t ≡ s = (let k = rw e at h in cc) in
          let text : name ≡ text_at names t = (bytes_eq-Decides name (text_at names t)).0 e in (subst (λ x. text_at names x ≡ name) same (sym text), inl same))
      | inr e ↦ (let rest = first_named-Some names name syms s (rw e at h) in (rest.0, inr rest.1))
    ]

pub named_entry-Some : (names : Names) (name : Text) (words : List (ℕ × ℤ)) (w : ℕ × ℤ) → named_entry names name words ≡ Some w → (text_at names w.0 ≡ name) × Has words w
named_entry-Some names name [] w h = cc
named_entry-Some names name (t ∷ words) w h =
    elim (split (bytes_eq name (text_at names t.0))) [
      | inl e ↦ (let same : t ≡ w = (let k = rw e at h in cc) in
          let text : name ≡ text_at names t.0 = (bytes_eq-Decides name (text_at names t.0)).0 e in (subst (λ (x : ℕ × ℤ). text_at names x.0 ≡ name) same (sym text), inl same))
      | inr e ↦ (let rest = named_entry-Some names name words w (rw e at h) in (rest.0, inr rest.1))
    ]

pub look_up-words : (names : Names) (name : Text) (words : List (ℕ × ℤ)) →
    is_some (look_up name (map (λ (w : ℕ × ℤ). (text_at names w.0, w.1)) words)) ≡ is_some (named_entry names name words)
look_up-words names name [] = refl
look_up-words names name (t ∷ words) =
    elim (split (bytes_eq name (text_at names t.0)))
    [ inl e ↦ rw e refl | inr e ↦ rw e (look_up-words names name words) ]

pub bare-Sym : (name : Text) (p : Place) → bare (tree.Sym name p) ≡ tree.Sym name no_place
unfolding bare
bare-Sym name p = ap (fold-Tree Tree layer_bare) (sym (tree.rolls-Sym name p)) ∙ fold-roll-Tree Tree layer_bare (layer.Sym name p)

pub reads_variable : (names : Names) (scope : Scope) (inst : Instances) (bound : List Binding) (name : Text) (p : Place) (s : ℕ) →
    is_name name ≡ true → first_named names name (variables scope bound) ≡ Some s → ReadsTerm names scope inst bound (tree.Sym name p) (Var s)
reads_variable names scope inst bound name p s named found =
    let is = first_named-Some names name (variables scope bound) s found in
    record {
      sound = fault-Sym name p (names_stage names scope inst bound) position.Term ∙ rw (named, is_among-map names name (variables scope bound), found) refl;
      shown = bare-Sym name p ∙ ap (λ t. tree.Sym t no_place) (sym is.0);
      known = is.1;
    }

reads_entry : (names : Names) (scope : Scope) (inst : Instances) (bound : List Binding) (name : Text) (p : Place) (w : ℕ × ℤ) →
    is_name name ≡ true → first_named names name (variables scope bound) ≡ None → named_entry names name scope.words ≡ Some w →
    ReadsTerm names scope inst bound (tree.Sym name p) (Word w.0 w.1)
reads_entry names scope inst bound name p w named other found =
    let is = named_entry-Some names name scope.words w found in
    record {
      sound = fault-Sym name p (names_stage names scope inst bound) position.Term ∙ rw (named, is_among-map names name (variables scope bound), other, look_up-words names name scope.words, found) refl;
      shown = bare-Sym name p ∙ ap (λ t. tree.Sym t no_place) (sym is.0);
      known = is.1;
    }

abbrev pub word_of : ℕ × ℤ → Term
word_of w = Word w.0 w.1

reads_found : (names : Names) (scope : Scope) (inst : Instances) (bound : List Binding) (name : Text) (p : Place) (t : Term) (found : Option (ℕ × ℤ)) →
    is_name name ≡ true → first_named names name (variables scope bound) ≡ None → named_entry names name scope.words ≡ found → option_map word_of found ≡ Some t →
    ReadsTerm names scope inst bound (tree.Sym name p) t
reads_found names scope inst bound name p t None named other found is = cc
reads_found names scope inst bound name p t (Some w) named other found is =
    let same : word_of w ≡ t = cc in subst (ReadsTerm names scope inst bound (tree.Sym name p)) same (reads_entry names scope inst bound name p w named other found)

pub reads_word : (names : Names) (scope : Scope) (inst : Instances) (bound : List Binding) (name : Text) (p : Place) (t : Term) →
    is_name name ≡ true → first_named names name (variables scope bound) ≡ None → option_map word_of (named_entry names name scope.words) ≡ Some t →
    ReadsTerm names scope inst bound (tree.Sym name p) t
reads_word names scope inst bound name p t named other is = reads_found names scope inst bound name p t (named_entry names name scope.words) named other refl is

no_word : (found : Option (ℕ × ℤ)) → option_map word_of found ≡ None → found ≡ None
no_word None is = refl
no_word (Some w) is = cc

pub unknown_name : (names : Names) (scope : Scope) (inst : Instances) (bound : List Binding) (name : Text) (p : Place) →
    is_name name ≡ true → first_named names name (variables scope bound) ≡ None → option_map word_of (named_entry names name scope.words) ≡ None →
    fault (tree.Sym name p) (names_stage names scope inst bound) position.Term ≡ Some (11, p)
unknown_name names scope inst bound name p named other none =
    let found = no_word (named_entry names name scope.words) none in
    fault-Sym name p (names_stage names scope inst bound) position.Term
    ∙ rw (named, is_among-map names name (variables scope bound), other, look_up-words names name scope.words, found) refl

pub no_name : (names : Names) (scope : Scope) (inst : Instances) (bound : List Binding) (name : Text) (p : Place) →
    is_name name ≡ false → fault (tree.Sym name p) (names_stage names scope inst bound) position.Term ≡ Some (10, p)
no_name names scope inst bound name p other = fault-Sym name p (names_stage names scope inst bound) position.Term ∙ rw other refl

pub ruleset names = (first_named-append, reads_variable, reads_word, unknown_name, no_name)

pub reads_message : (names : Names) (scope : Scope) (inst : Instances) (bound : List Binding) (name : Text) (p : Place) (s : ℕ) →
    is_name name ≡ true → first_named names name (messages scope bound) ≡ Some s → ReadsMessage names scope inst bound (tree.Sym name p) s
reads_message names scope inst bound name p s named found =
    let is = first_named-Some names name (messages scope bound) s found in
    record {
      sound = fault-Sym name p (names_stage names scope inst bound) position.Message ∙ rw (named, is_among-map names name (messages scope bound), found) refl;
      shown = bare-Sym name p ∙ ap (λ t. tree.Sym t no_place) (sym is.0);
      known = is.1;
    }

pub unknown_message : (names : Names) (scope : Scope) (inst : Instances) (bound : List Binding) (name : Text) (p : Place) →
    is_name name ≡ true → first_named names name (messages scope bound) ≡ None → fault (tree.Sym name p) (names_stage names scope inst bound) position.Message ≡ Some (11, p)
unknown_message names scope inst bound name p named other =
    fault-Sym name p (names_stage names scope inst bound) position.Message ∙ rw (named, is_among-map names name (messages scope bound), other) refl

pub no_message_name : (names : Names) (scope : Scope) (inst : Instances) (bound : List Binding) (name : Text) (p : Place) →
    is_name name ≡ false → fault (tree.Sym name p) (names_stage names scope inst bound) position.Message ≡ Some (10, p)
no_message_name names scope inst bound name p other = fault-Sym name p (names_stage names scope inst bound) position.Message ∙ rw other refl

-- a list is of no form where only a name may stand
pub list_as_message : (items : List Tree) (p : Place) (stage : Stage) → fault (tree.List items p) stage position.Message ≡ Some (10, p)
list_as_message [] p stage = fault_of_empty [] p stage position.Message refl
list_as_message (first ∷ parts) p stage = fault-List first parts p stage position.Message

pub ruleset message_names = (reads_message, unknown_message, no_message_name, list_as_message, fault-Num)
