-- Procedures that are written alike are equal.
use Rattle.std.proofs.Common.{◌≡◌, ℕ, ℤ, true, ◌&&◌, ◌==◌, if◌then◌else◌, List, [], ◌∷◌, map, Option, Some, None, refl, ap, sym, ◌∙◌, eq-eqb}
use Rattle.std.specs.Prelude.{slice_get, codes}
use Rattle.std.specs.List.{list_all, AllByRecursion as Each}
use Rattle.std.specs.Str.{bytes_eq}
use mathlib.Core.Former.{Count}
use Rattle.dl_term.specs.declared.syntax.Term.{Term}
use Rattle.dl_term.specs.declared.syntax.Formula.{Formula}
use Rattle.dl_tree.specs.declared.tree.Tree.{Tree}
use Rattle.dl_model.specs.declared.protocol.FieldDecl.{FieldDecl}
use Rattle.dl_model.specs.declared.protocol.Protocol.{Protocol}
use Rattle.dl_model.specs.declared.protocol.Instances.{Instances}
use Rattle.dl_model.specs.declared.program.Command.{Command, Send, Await, Poll, Read, Set, If', While', Call, Row_of-Command, end_of-Command, more_of-Command, items-the_row-Command as items, items_shown-the_row-Command-0}
use Rattle.dl_model.specs.declared.program.Command.TheBlock.{shown-the_row-Command-0}
use Rattle.dl_model.specs.declared.program.Command.TheViews.{out-Command, roll-Command, roll-out-Command}
use Rattle.dl_model.specs.declared.program.Command.TheVariants.{If as IfOf, While as WhileOf, rolls-If, rolls-While}
use Rattle.dl_model.specs.declared.program.Proc.{Proc}
use Rattle.dl_model.specs.declared.file.Decls.{Decls}
use Rattle.dl_model.specs.Scopes.{protocol_found}
use Rattle.dl_model.specs.Formed.{AreDistinct}
use Rattle.dl_forms.specs.Context.{Text}
use Rattle.dl_forms.specs.Judge.{text_of}
use Rattle.dl_forms.specs.Table.{NameTable}
use Rattle.dl_forms.specs.Show.{no_place, symbol, form}
use Rattle.dl_notation.specs.Trees.{parts_of}
use Rattle.dl_notation.proofs.TreeLemmas.{parts_of-List}
use Rattle.dl_shown.specs.Shown.{listed, name_of, argument_of, label_of, field_name, field_in, world_name, proc_name}
use Rattle.dl_shown.specs.Programs.{expression_of, note_of, sent_tag, read_field, index_of, command_of, commands_of, proc_of}
use Rattle.dl_means.specs.Says.{of_some, says, says_term, says_command, says_commands, says_proc}
use Rattle.dl_one_file.proofs.Trees.{apart, first, second, IsPlain, list-fine, list-plain, parts-plain, same-list, same-parts, same-head, same-tail}
use Rattle.dl_one_file.proofs.Alike.{same-name}
use Rattle.dl_one_file.proofs.Lists.{same-map, same-names, map-at, one-place}
use Rattle.dl_one_file.proofs.Skeleton.{same-option, same-place, field_syms, SameParts, SameSkeleton}
use Rattle.dl_one_file.proofs.Declarations.{terms-same, formulas-same, same-argument, arguments-plain}
use Rattle.dl_one_file.proofs.Duties.{same-label, same-tag-of}

-- ---- kinds

abbrev kind : Command → ℕ
kind (Send note label tag to args) = 0
kind (Await note label tag sender args) = 1
kind (Poll note got label tag sender args) = 2
kind (Read note into label field index) = 3
kind (Set local value) = 4
kind (If' test s left t right) = 5
kind (While' test note s body) = 6
kind (Call note frame into proc args) = 7

abbrev kind_of_word : Text → ℕ
kind_of_word word =
    if bytes_eq word (codes "send") then 0 else
    if bytes_eq word (codes "await") then 1 else
    if bytes_eq word (codes "poll") then 2 else
    if bytes_eq word (codes "read") then 3 else
    if bytes_eq word (codes "set") then 4 else
    if bytes_eq word (codes "if") then 5 else
    if bytes_eq word (codes "while") then 6 else 7

abbrev kind_by : List Tree → ℕ
kind_by [] = 8
kind_by (word ∷ parts) = kind_of_word (text_of word)

kind-of-form : (word : Text) (parts : List Tree) → kind_by (parts_of (form word parts)) ≡ kind_of_word word
kind-of-form word parts = ap kind_by (parts_of-List (symbol word ∷ parts) no_place)

kind-shown : (names : NameTable) (decls : Decls) (command : Command) → kind_by (parts_of (command_of names decls command)) ≡ kind command
kind-shown names decls (Send note label tag to args) = kind-of-form (codes "send") _
kind-shown names decls (Await note label tag sender args) = kind-of-form (codes "await") _
kind-shown names decls (Poll note got label tag sender args) = kind-of-form (codes "poll") _
kind-shown names decls (Read note into label field index) = kind-of-form (codes "read") _
kind-shown names decls (Set local value) = kind-of-form (codes "set") _
kind-shown names decls (If' test s left t right) = kind-of-form (codes "if") _
kind-shown names decls (While' test note s body) = kind-of-form (codes "while") _
kind-shown names decls (Call note frame into proc args) = kind-of-form (codes "call") _

-- ---- fields

-- the protocol in which a field is found
record FieldFound (inst : Instances) (n : Option ℕ) (f : ℕ) (field : FieldDecl) : Type 0 where
  number : ℕ
  protocol : Protocol
  is : n ≡ Some number
  found : slice_get inst.protocols number ≡ Some protocol
  there : slice_get protocol.fields f ≡ Some field

field-there : (inst : Instances) (p f : ℕ) (field : FieldDecl) (found : Option Protocol) → slice_get inst.protocols p ≡ found → field_in found f ≡ Some field → FieldFound inst (Some p) f field
field-there inst p f field None h e = cc
field-there inst p f field (Some protocol) h e = record { number = p; protocol = protocol; is = refl; found = h; there = e }

field-found : (inst : Instances) (n : Option ℕ) (f : ℕ) (field : FieldDecl) → field_in (protocol_found inst n) f ≡ Some field → FieldFound inst n f field
field-found inst None f field e = cc
field-found inst (Some p) f field e = field-there inst p f field (slice_get inst.protocols p) refl e

-- a choice and a loop, by the commands of their rows
whole-if : (test : Formula) (s : _) (left : _) (t : _) (right : _) → If' test s left t right ≡ IfOf test (items _ left) (items _ right)
unfolding out-Command roll-Command denote.Hole.Carrier.out
whole-if test s left t right =
    let chosen = shown-the_row-Command-0 s left in
    let other = shown-the_row-Command-0 t right in
    sym (roll-out-Command (If' test s left t right)) ∙ (rolls-If test chosen other ∙ (λ i. IfOf test (items_shown-the_row-Command-0 s left i) (items_shown-the_row-Command-0 t right i)))

whole-while : (test note : Formula) (s : _) (body : _) → While' test note s body ≡ WhileOf test note (items _ body)
unfolding out-Command roll-Command denote.Hole.Carrier.out
whole-while test note s body =
    let inside = shown-the_row-Command-0 s body in
    sym (roll-out-Command (While' test note s body)) ∙ (rolls-While test note inside ∙ ap (WhileOf test note) (items_shown-the_row-Command-0 s body))

module _ (na nb : NameTable) (da db : Decls) (same : SameSkeleton na nb da db) where
  same-field : (n : Option ℕ) (f g : ℕ) → field_name na da (field_in (protocol_found da.inst n) f) ≡ field_name nb db (field_in (protocol_found db.inst n) g) →
      IsPlain (field_name na da (field_in (protocol_found da.inst n) f)) → f ≡ g
  same-field n f g e plain =
      let (p, q, hp, hq, syms) = same-option na nb same.names (λ (d : FieldDecl). d.sym) (field_in (protocol_found da.inst n) f) (field_in (protocol_found db.inst n) g) e plain in
      let x : FieldFound da.inst n f p = field-found da.inst n f p hp in
      let y : FieldFound db.inst n g q = field-found db.inst n g q hq in
      let both : Some x.number ≡ Some y.number = sym x.is ∙ y.is in
      let numbers : x.number ≡ y.number = cc in
      let parts : SameParts x.protocol y.protocol = same.parts x.number x.protocol y.protocol x.found (ap (slice_get db.inst.protocols) numbers ∙ y.found) in
      one-place (field_syms x.protocol.fields) f g p.sym parts.fields_once (map-at (λ (d : FieldDecl). d.sym) x.protocol.fields f p x.there)
      (ap (λ ns. slice_get ns g) parts.fields ∙ (map-at (λ (d : FieldDecl). d.sym) y.protocol.fields g q y.there ∙ ap Some (sym syms)))

  -- the field of a label
  same-field-of : (l m f g : ℕ) → l ≡ m → read_field na da l f ≡ read_field nb db m g → IsPlain (read_field na da l f) → f ≡ g
  same-field-of l m f g labels e plain =
      let at : slice_get db.inst.of m ≡ slice_get da.inst.of l = (λ i. slice_get (sym same.of i) (sym labels i)) in
      same-field (slice_get da.inst.of l) f g (e ∙ ap (λ n. field_name nb db (field_in (protocol_found db.inst n) g)) at) plain

  -- ---- names

  name : (s t : ℕ) → name_of na s ≡ name_of nb t → IsPlain (name_of na s) → s ≡ t
  name s t e plain = same-name na nb same.names s t e plain

  names-plain : (syms : List ℕ) → IsPlain (listed (map (name_of na) syms)) → Each IsPlain (map (name_of na) syms)
  names-plain [] plain = tt
  names-plain (s ∷ syms) plain = list-plain (name_of na s) (map (name_of na) syms) refl plain.0

  listed-names : (xs ys : List ℕ) → listed (map (name_of na) xs) ≡ listed (map (name_of nb) ys) → IsPlain (listed (map (name_of na) xs)) → xs ≡ ys
  listed-names xs ys e plain = same-names (name_of na) (name_of nb) name xs ys (same-list _ _ e) (names-plain xs plain)

  module _ (procs : map (λ (p : Proc). p.sym) da.procs ≡ map (λ (p : Proc). p.sym) db.procs) (once : AreDistinct (map (λ (p : Proc). p.sym) da.procs)) where
    pub same-proc-name : (i j : ℕ) → proc_name na da i ≡ proc_name nb db j → IsPlain (proc_name na da i) → i ≡ j
    same-proc-name i j e plain = same-place na nb same.names (λ (p : Proc). p.sym) da.procs db.procs procs once i j e plain

    module _ (words : List (Text × ℤ)) where
      term : (x y : Term) → expression_of na da x ≡ expression_of nb db y → says_term na words x ≡ true → says_term nb words y ≡ true → IsPlain (expression_of na da x) → x ≡ y
      term x y e sx sy plain = terms-same na nb da db same words None x y e sx sy plain

      note-same : (x y : Formula) → note_of na da x ≡ note_of nb db y → says na words x ≡ true → says nb words y ≡ true → IsPlain (note_of na da x) → x ≡ y
      note-same x y e sx sy plain = formulas-same na nb da db same words None x y e sx sy plain

      terms : (xs ys : List Term) → map (expression_of na da) xs ≡ map (expression_of nb db) ys → list_all (says_term na words) xs ≡ true → list_all (says_term nb words) ys ≡ true →
          Each IsPlain (map (expression_of na da) xs) → xs ≡ ys
      terms xs ys e sx sy plain = same-map (expression_of na da) (expression_of nb db) (says_term na words) (says_term nb words) term xs ys e sx sy plain

      index : (x y : Option Term) → index_of na da x ≡ index_of nb db y → of_some (says_term na words) x ≡ true → of_some (says_term nb words) y ≡ true → Each IsPlain (index_of na da x) → x ≡ y
      index None None e sx sy plain = refl
      index None (Some y) e sx sy plain = cc
      index (Some x) None e sx sy plain = cc
      index (Some x) (Some y) e sx sy plain = ap Some (term x y (same-head _ _ _ _ e) sx sy plain.0)

      same-kind : (x y : Command) → command_of na da x ≡ command_of nb db y → (kind x == kind y) ≡ true
      same-kind x y e = eq-eqb (kind x) (kind y) (sym (kind-shown na da x) ∙ (ap (λ tree. kind_by (parts_of tree)) e ∙ kind-shown nb db y))

      mutual
        by-kind : (x y : Command) → (kind x == kind y) ≡ true → command_of na da x ≡ command_of nb db y → says_command na words x ≡ true → says_command nb words y ≡ true → IsPlain (command_of na da x) → x ≡ y
        by-kind (Send note l t to args) (Send note' l' t' to' args') k e sx sy plain =
            let h : note_of na da note ∷ label_of na da l ∷ sent_tag na da l t ∷ expression_of na da to ∷ map (expression_of na da) args
            ≡ note_of nb db note' ∷ label_of nb db l' ∷ sent_tag nb db l' t' ∷ expression_of nb db to' ∷ map (expression_of nb db) args' = same-parts _ _ _ _ e in
            let ps : Each IsPlain (note_of na da note ∷ label_of na da l ∷ sent_tag na da l t ∷ expression_of na da to ∷ map (expression_of na da) args) = parts-plain _ _ plain in
            let h1 = same-tail _ _ _ _ h in
            let h2 = same-tail _ _ _ _ h1 in
            let h3 = same-tail _ _ _ _ h2 in
            let sx1 = second (says na words note) _ sx in
            let sy1 = second (says nb words note') _ sy in
            let notes : note ≡ note' = note-same note note' (same-head _ _ _ _ h) (first _ _ sx) (first _ _ sy) ps.0 in
            let labels : l ≡ l' = same-label na nb da db same l l' (same-head _ _ _ _ h1) ps.1.0 in
            let tags : t ≡ t' = same-tag-of na nb da db same l l' t t' labels (same-head _ _ _ _ h2) ps.1.1.0 in
            let tos : to ≡ to' = term to to' (same-head _ _ _ _ h3) (first (says_term na words to) _ sx1) (first (says_term nb words to') _ sy1) ps.1.1.1.0 in
            let all : args ≡ args' = terms args args' (same-tail _ _ _ _ h3) (second (says_term na words to) _ sx1) (second (says_term nb words to') _ sy1) ps.1.1.1.1 in
            λ i. Send (notes i) (labels i) (tags i) (tos i) (all i)
        by-kind (Await note l t s args) (Await note' l' t' s' args') k e sx sy plain =
            let h : note_of na da note ∷ label_of na da l ∷ sent_tag na da l t ∷ name_of na s ∷ listed (map (name_of na) args) ∷ []
            ≡ note_of nb db note' ∷ label_of nb db l' ∷ sent_tag nb db l' t' ∷ name_of nb s' ∷ listed (map (name_of nb) args') ∷ [] = same-parts _ _ _ _ e in
            let ps : Each IsPlain (note_of na da note ∷ label_of na da l ∷ sent_tag na da l t ∷ name_of na s ∷ listed (map (name_of na) args) ∷ []) = parts-plain _ _ plain in
            let h1 = same-tail _ _ _ _ h in
            let h2 = same-tail _ _ _ _ h1 in
            let h3 = same-tail _ _ _ _ h2 in
            let notes : note ≡ note' = note-same note note' (same-head _ _ _ _ h) sx sy ps.0 in
            let labels : l ≡ l' = same-label na nb da db same l l' (same-head _ _ _ _ h1) ps.1.0 in
            let tags : t ≡ t' = same-tag-of na nb da db same l l' t t' labels (same-head _ _ _ _ h2) ps.1.1.0 in
            let senders : s ≡ s' = name s s' (same-head _ _ _ _ h3) ps.1.1.1.0 in
            let all : args ≡ args' = listed-names args args' (same-head _ _ _ _ (same-tail _ _ _ _ h3)) ps.1.1.1.1.0 in
            λ i. Await (notes i) (labels i) (tags i) (senders i) (all i)
        by-kind (Poll note g l t s args) (Poll note' g' l' t' s' args') k e sx sy plain =
            let h : note_of na da note ∷ name_of na g ∷ label_of na da l ∷ sent_tag na da l t ∷ name_of na s ∷ listed (map (name_of na) args) ∷ []
            ≡ note_of nb db note' ∷ name_of nb g' ∷ label_of nb db l' ∷ sent_tag nb db l' t' ∷ name_of nb s' ∷ listed (map (name_of nb) args') ∷ [] = same-parts _ _ _ _ e in
            let ps : Each IsPlain (note_of na da note ∷ name_of na g ∷ label_of na da l ∷ sent_tag na da l t ∷ name_of na s ∷ listed (map (name_of na) args) ∷ []) = parts-plain _ _ plain in
            let h1 = same-tail _ _ _ _ h in
            let h2 = same-tail _ _ _ _ h1 in
            let h3 = same-tail _ _ _ _ h2 in
            let h4 = same-tail _ _ _ _ h3 in
            let notes : note ≡ note' = note-same note note' (same-head _ _ _ _ h) sx sy ps.0 in
            let gots : g ≡ g' = name g g' (same-head _ _ _ _ h1) ps.1.0 in
            let labels : l ≡ l' = same-label na nb da db same l l' (same-head _ _ _ _ h2) ps.1.1.0 in
            let tags : t ≡ t' = same-tag-of na nb da db same l l' t t' labels (same-head _ _ _ _ h3) ps.1.1.1.0 in
            let senders : s ≡ s' = name s s' (same-head _ _ _ _ h4) ps.1.1.1.1.0 in
            let all : args ≡ args' = listed-names args args' (same-head _ _ _ _ (same-tail _ _ _ _ h4)) ps.1.1.1.1.1.0 in
            λ i. Poll (notes i) (gots i) (labels i) (tags i) (senders i) (all i)
        by-kind (Read note d l f at) (Read note' d' l' f' at') k e sx sy plain =
            let h : note_of na da note ∷ name_of na d ∷ label_of na da l ∷ read_field na da l f ∷ index_of na da at
            ≡ note_of nb db note' ∷ name_of nb d' ∷ label_of nb db l' ∷ read_field nb db l' f' ∷ index_of nb db at' = same-parts _ _ _ _ e in
            let ps : Each IsPlain (note_of na da note ∷ name_of na d ∷ label_of na da l ∷ read_field na da l f ∷ index_of na da at) = parts-plain _ _ plain in
            let h1 = same-tail _ _ _ _ h in
            let h2 = same-tail _ _ _ _ h1 in
            let h3 = same-tail _ _ _ _ h2 in
            let notes : note ≡ note' = note-same note note' (same-head _ _ _ _ h) (first _ _ sx) (first _ _ sy) ps.0 in
            let intos : d ≡ d' = name d d' (same-head _ _ _ _ h1) ps.1.0 in
            let labels : l ≡ l' = same-label na nb da db same l l' (same-head _ _ _ _ h2) ps.1.1.0 in
            let fields : f ≡ f' = same-field-of l l' f f' labels (same-head _ _ _ _ h3) ps.1.1.1.0 in
            let places : at ≡ at' = index at at' (same-tail _ _ _ _ h3) (second (says na words note) _ sx) (second (says nb words note') _ sy) ps.1.1.1.1 in
            λ i. Read (notes i) (intos i) (labels i) (fields i) (places i)
        by-kind (Set d v) (Set d' v') k e sx sy plain =
            let h : name_of na d ∷ expression_of na da v ∷ [] ≡ name_of nb d' ∷ expression_of nb db v' ∷ [] = same-parts _ _ _ _ e in
            let ps : Each IsPlain (name_of na d ∷ expression_of na da v ∷ []) = parts-plain _ _ plain in
            let targets : d ≡ d' = name d d' (same-head _ _ _ _ h) ps.0 in
            let values : v ≡ v' = term v v' (same-head _ _ _ _ (same-tail _ _ _ _ h)) sx sy ps.1.0 in
            λ i. Set (targets i) (values i)
        by-kind (If' test s left t right) (If' test' s' left' t' right') k e sx sy plain =
            let h : note_of na da test ∷ form (codes "then") (commands_of na da left) ∷ form (codes "else") (commands_of na da right) ∷ []
            ≡ note_of nb db test' ∷ form (codes "then") (commands_of nb db left') ∷ form (codes "else") (commands_of nb db right') ∷ [] = same-parts _ _ _ _ e in
            let ps : Each IsPlain (note_of na da test ∷ form (codes "then") (commands_of na da left) ∷ form (codes "else") (commands_of na da right) ∷ []) = parts-plain _ _ plain in
            let h1 = same-tail _ _ _ _ h in
            let sx1 = second (says na words test) _ sx in
            let sy1 = second (says nb words test') _ sy in
            let tests : test ≡ test' = note-same test test' (same-head _ _ _ _ h) (first _ _ sx) (first _ _ sy) ps.0 in
            let lefts = same-row _ _ left left' (same-parts _ _ _ _ (same-head _ _ _ _ h1)) (first (says_commands na words left) _ sx1) (first (says_commands nb words left') _ sy1) (parts-plain _ _ ps.1.0) in
            let rights = same-row _ _ right right' (same-parts _ _ _ _ (same-head _ _ _ _ (same-tail _ _ _ _ h1))) (second (says_commands na words left) _ sx1) (second (says_commands nb words left') _ sy1)
            (parts-plain _ _ ps.1.1.0) in
            whole-if test s left t right ∙ ((λ i. IfOf (tests i) (lefts i) (rights i)) ∙ sym (whole-if test' s' left' t' right'))
        by-kind (While' test note s body) (While' test' note' s' body') k e sx sy plain =
            let h : note_of na da test ∷ note_of na da note ∷ commands_of na da body ≡ note_of nb db test' ∷ note_of nb db note' ∷ commands_of nb db body' = same-parts _ _ _ _ e in
            let ps : Each IsPlain (note_of na da test ∷ note_of na da note ∷ commands_of na da body) = parts-plain _ _ plain in
            let h1 = same-tail _ _ _ _ h in
            let sx1 = second (says na words test) _ sx in
            let sy1 = second (says nb words test') _ sy in
            let tests : test ≡ test' = note-same test test' (same-head _ _ _ _ h) (first _ _ sx) (first _ _ sy) ps.0 in
            let notes : note ≡ note' = note-same note note' (same-head _ _ _ _ h1) (first (says na words note) _ sx1) (first (says nb words note') _ sy1) ps.1.0 in
            let bodies = same-row _ _ body body' (same-tail _ _ _ _ h1) (second (says na words note) _ sx1) (second (says nb words note') _ sy1) ps.1.1 in
            whole-while test note s body ∙ ((λ i. WhileOf (tests i) (notes i) (bodies i)) ∙ sym (whole-while test' note' s' body'))
        by-kind (Call note frame d p args) (Call note' frame' d' p' args') k e sx sy plain =
            let h : note_of na da note ∷ note_of na da frame ∷ name_of na d ∷ proc_name na da p ∷ map (expression_of na da) args
            ≡ note_of nb db note' ∷ note_of nb db frame' ∷ name_of nb d' ∷ proc_name nb db p' ∷ map (expression_of nb db) args' = same-parts _ _ _ _ e in
            let ps : Each IsPlain (note_of na da note ∷ note_of na da frame ∷ name_of na d ∷ proc_name na da p ∷ map (expression_of na da) args) = parts-plain _ _ plain in
            let h1 = same-tail _ _ _ _ h in
            let h2 = same-tail _ _ _ _ h1 in
            let h3 = same-tail _ _ _ _ h2 in
            let sx1 = second (says na words note) _ sx in
            let sy1 = second (says nb words note') _ sy in
            let notes : note ≡ note' = note-same note note' (same-head _ _ _ _ h) (first _ _ sx) (first _ _ sy) ps.0 in
            let frames : frame ≡ frame' = note-same frame frame' (same-head _ _ _ _ h1) (first (says na words frame) _ sx1) (first (says nb words frame') _ sy1) ps.1.0 in
            let intos : d ≡ d' = name d d' (same-head _ _ _ _ h2) ps.1.1.0 in
            let called : p ≡ p' = same-proc-name p p' (same-head _ _ _ _ h3) ps.1.1.1.0 in
            let all : args ≡ args' = terms args args' (same-tail _ _ _ _ h3) (second (says na words frame) _ sx1) (second (says nb words frame') _ sy1) ps.1.1.1.1 in
            λ i. Call (notes i) (frames i) (intos i) (called i) (all i)
        by-kind _ _ k e sx sy plain = absurd (apart k)

        same-row : (n m : Count) (xs : Row_of-Command n) (ys : Row_of-Command m) → commands_of na da xs ≡ commands_of nb db ys → says_commands na words xs ≡ true → says_commands nb words ys ≡ true →
            Each IsPlain (commands_of na da xs) → items n xs ≡ items m ys
        same-row n m end_of-Command end_of-Command e sx sy plain = refl
        same-row n m end_of-Command (more_of-Command y ys) e sx sy plain = cc
        same-row n m (more_of-Command x xs) end_of-Command e sx sy plain = cc
        same-row n m (more_of-Command x xs) (more_of-Command y ys) e sx sy plain =
            let shown : command_of na da x ≡ command_of nb db y = same-head _ _ _ _ e in
            let heads : x ≡ y = by-kind x y (same-kind x y shown) shown (first (says_command na words x) _ sx) (first (says_command nb words y) _ sy) plain.0 in
            let tails = same-row _ _ xs ys (same-tail _ _ _ _ e) (second (says_command na words x) _ sx) (second (says_command nb words y) _ sy) plain.1 in
            λ i. heads i ∷ tails i

      same-command : (x y : Command) → command_of na da x ≡ command_of nb db y → says_command na words x ≡ true → says_command nb words y ≡ true → IsPlain (command_of na da x) → x ≡ y
      same-command x y e sx sy plain = by-kind x y (same-kind x y e) e sx sy plain

      -- a procedure, where the worlds have the same names
      pub same-proc : ((i j : ℕ) → world_name na da i ≡ world_name nb db j → IsPlain (world_name na da i) → i ≡ j) → (x y : Proc) → proc_of na da x ≡ proc_of nb db y →
          says_proc na words x ≡ true → says_proc nb words y ≡ true → IsPlain (proc_of na da x) → x ≡ y
      same-proc world x y e sx sy plain =
          let h : name_of na x.sym ∷ world_name na da x.world ∷ listed (map (argument_of na) x.params)
          ∷ form (codes "locals") (map (name_of na) x.locals) ∷ form (codes "pre") (note_of na da x.pre ∷ []) ∷ form (codes "post") (note_of na da x.post ∷ [])
          ∷ form (codes "body") (map (command_of na da) x.body) ∷ form (codes "return") (expression_of na da x.result ∷ []) ∷ []
          ≡ name_of nb y.sym ∷ world_name nb db y.world ∷ listed (map (argument_of nb) y.params)
          ∷ form (codes "locals") (map (name_of nb) y.locals) ∷ form (codes "pre") (note_of nb db y.pre ∷ []) ∷ form (codes "post") (note_of nb db y.post ∷ [])
          ∷ form (codes "body") (map (command_of nb db) y.body) ∷ form (codes "return") (expression_of nb db y.result ∷ []) ∷ [] = same-parts _ _ _ _ e in
          let ps : Each IsPlain (name_of na x.sym ∷ world_name na da x.world ∷ listed (map (argument_of na) x.params)
          ∷ form (codes "locals") (map (name_of na) x.locals) ∷ form (codes "pre") (note_of na da x.pre ∷ []) ∷ form (codes "post") (note_of na da x.post ∷ [])
          ∷ form (codes "body") (map (command_of na da) x.body) ∷ form (codes "return") (expression_of na da x.result ∷ []) ∷ []) = parts-plain _ _ plain in
          let h1 = same-tail _ _ _ _ h in
          let h2 = same-tail _ _ _ _ h1 in
          let h3 = same-tail _ _ _ _ h2 in
          let h4 = same-tail _ _ _ _ h3 in
          let h5 = same-tail _ _ _ _ h4 in
          let h6 = same-tail _ _ _ _ h5 in
          let h7 = same-tail _ _ _ _ h6 in
          let sx1 = second (says na words x.pre) _ sx in
          let sy1 = second (says nb words y.pre) _ sy in
          let sx2 = second (says na words x.post) _ sx1 in
          let sy2 = second (says nb words y.post) _ sy1 in
          let syms : x.sym ≡ y.sym = name x.sym y.sym (same-head _ _ _ _ h) ps.0 in
          let worlds : x.world ≡ y.world = world x.world y.world (same-head _ _ _ _ h1) ps.1.0 in
          let params : x.params ≡ y.params = same-names (argument_of na) (argument_of nb) (same-argument na nb da db same words) x.params y.params (same-list _ _ (same-head _ _ _ _ h2))
          (arguments-plain na nb da db same words x.params (list-fine (map (argument_of na) x.params) no_place ps.1.1.0.0)) in
          let locals : x.locals ≡ y.locals = same-names (name_of na) (name_of nb) name x.locals y.locals (same-parts _ _ _ _ (same-head _ _ _ _ h3)) (parts-plain _ _ ps.1.1.1.0) in
          let pres : x.pre ≡ y.pre = note-same x.pre y.pre (same-head _ _ _ _ (same-parts _ _ _ _ (same-head _ _ _ _ h4))) (first _ _ sx) (first _ _ sy) (parts-plain _ _ ps.1.1.1.1.0).0 in
          let posts : x.post ≡ y.post = note-same x.post y.post (same-head _ _ _ _ (same-parts _ _ _ _ (same-head _ _ _ _ h5))) (first (says na words x.post) _ sx1) (first (says nb words y.post) _ sy1)
          (parts-plain _ _ ps.1.1.1.1.1.0).0 in
          let bodies : x.body ≡ y.body = same-map (command_of na da) (command_of nb db) (says_command na words) (says_command nb words) same-command x.body y.body (same-parts _ _ _ _ (same-head _ _ _ _ h6))
          (first (list_all (says_command na words) x.body) _ sx2) (first (list_all (says_command nb words) y.body) _ sy2) (parts-plain _ _ ps.1.1.1.1.1.1.0) in
          let results : x.result ≡ y.result = term x.result y.result (same-head _ _ _ _ (same-parts _ _ _ _ (same-head _ _ _ _ h7))) (second (list_all (says_command na words) x.body) _ sx2)
          (second (list_all (says_command nb words) y.body) _ sy2) (parts-plain _ _ ps.1.1.1.1.1.1.1.0).0 in
          λ i. record { sym = syms i; world = worlds i; params = params i; locals = locals i; pre = pres i; post = posts i; body = bodies i; result = results i }
