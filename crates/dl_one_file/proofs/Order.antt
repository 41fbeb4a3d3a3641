-- Two formed files that are written alike have the same labels, and protocols with the same fields and tags, by their names.
use Rattle.std.proofs.Common.{◌≡◌, ℕ, ◌<◌, ◌≤◌, Bool, true, List, [], ◌∷◌, ◌++◌, length, map, Option, Some, refl, ap, sym, subst, ◌∙◌, arith}
use Rattle.std.specs.Prelude.{slice_get, codes}
use Rattle.std.specs.List.{AllByRecursion as Each}
use Rattle.dl_tree.specs.declared.tree.Tree.{Tree}
use Rattle.dl_model.specs.declared.protocol.Protocol.{Protocol}
use Rattle.dl_model.specs.declared.protocol.Hook.{Hook}
use Rattle.dl_model.specs.declared.program.Proc.{Proc}
use Rattle.dl_model.specs.declared.file.World.{World}
use Rattle.dl_model.specs.declared.file.Invariant.{Invariant}
use Rattle.dl_model.specs.declared.file.Decls.{Decls}
use Rattle.dl_model.specs.Scopes.{protocol_found}
use Rattle.dl_model.specs.Words.{first_name}
use Rattle.dl_model.specs.Formed.{AreDistinct, ProtocolIsFormed, IsFormed}
use Rattle.dl_file.specs.declared.file.ItemKind.TheVariants as kind
use Rattle.dl_file.specs.declared.file.File.{File}
use Rattle.dl_forms.specs.Table.{NameTable}
use Rattle.dl_forms.specs.Scope.{text_at}
use Rattle.dl_shown.specs.Shown.{shown_if, name_of, label_of, protocol_name, protocol_of_label, protocol_of}
use Rattle.dl_means.specs.Says.{of_some}
use Rattle.dl_one_file.specs.Plain.{has_text}
use Rattle.dl_one_file.proofs.Trees.{IsPlain, parts-plain, same-parts, same-head, same-tail, text-of-plain}
use Rattle.dl_one_file.proofs.Alike.{SameNames, same-name}
use Rattle.dl_one_file.proofs.Lists.{same-lists, same-numbers, each-from, within, front, back, distinct-front, distinct-back}
use Rattle.dl_one_file.proofs.Skeleton.{same-place, SameParts, SameSkeleton}
use Rattle.dl_one_file.proofs.Declarations.{ProtocolShown, protocol-shown, shown-parts}
use Rattle.dl_one_file.proofs.Pairs.{AreWritten, Twice, same-count, twice}

-- ---- what is found

module _ {X : Type 0} where
  pub found-shown : (f g : X → Tree) (x y : Option X) (p q : X) → x ≡ Some p → y ≡ Some q → shown_if f x ≡ shown_if g y → f p ≡ g q
  found-shown f g x y p q hx hy e = sym (ap (shown_if f) hx) ∙ (e ∙ ap (shown_if g) hy)

  pub found-plain : (f : X → Tree) (x : Option X) (p : X) → x ≡ Some p → IsPlain (shown_if f x) → IsPlain (f p)
  found-plain f x p hx plain = subst IsPlain (ap (shown_if f) hx) plain

  pub found-says : (test : X → Bool) (x : Option X) (p : X) → x ≡ Some p → of_some test x ≡ true → test p ≡ true
  found-says test x p hx says = sym (ap (of_some test) hx) ∙ says

-- ---- the names of a file

abbrev pub protocol_syms : Decls → List ℕ
protocol_syms decls = map (λ (p : Protocol). p.sym) decls.inst.protocols

abbrev pub hook_syms : Decls → List ℕ
hook_syms decls = map (λ (h : Hook). h.sym) decls.hooks

abbrev pub world_syms : Decls → List ℕ
world_syms decls = map (λ (w : World). w.sym) decls.worlds

abbrev pub invariant_syms : Decls → List ℕ
invariant_syms decls = map (λ (i : Invariant). i.sym) decls.invariants

abbrev pub proc_syms : Decls → List ℕ
proc_syms decls = map (λ (p : Proc). p.sym) decls.procs

-- those behind the ones of a kind
abbrev from_invariants : Decls → List ℕ
from_invariants decls = invariant_syms decls ++ proc_syms decls

abbrev from_worlds : Decls → List ℕ
from_worlds decls = world_syms decls ++ from_invariants decls

abbrev from_hooks : Decls → List ℕ
from_hooks decls = hook_syms decls ++ from_worlds decls

abbrev pub from_labels : Decls → List ℕ
from_labels decls = decls.labels ++ from_hooks decls

module _ (decls : Decls) (formed : IsFormed decls) where
  pub all-once : AreDistinct (protocol_syms decls ++ from_labels decls)
  all-once = formed.names.distinct

  pub protocols-once : AreDistinct (protocol_syms decls)
  protocols-once = distinct-front (protocol_syms decls) (from_labels decls) all-once

  labels-on : AreDistinct (from_labels decls)
  labels-on = distinct-back (protocol_syms decls) (from_labels decls) all-once

  pub labels-once : AreDistinct decls.labels
  labels-once = distinct-front decls.labels (from_hooks decls) labels-on

  hooks-on : AreDistinct (from_hooks decls)
  hooks-on = distinct-back decls.labels (from_hooks decls) labels-on

  pub hooks-once : AreDistinct (hook_syms decls)
  hooks-once = distinct-front (hook_syms decls) (from_worlds decls) hooks-on

  worlds-on : AreDistinct (from_worlds decls)
  worlds-on = distinct-back (hook_syms decls) (from_worlds decls) hooks-on

  pub worlds-once : AreDistinct (world_syms decls)
  worlds-once = distinct-front (world_syms decls) (from_invariants decls) worlds-on

  pub invariants-once : AreDistinct (invariant_syms decls)
  invariants-once = distinct-front (invariant_syms decls) (proc_syms decls) (distinct-back (world_syms decls) (from_invariants decls) worlds-on)

  pub procs-once : AreDistinct (proc_syms decls)
  procs-once = distinct-back (invariant_syms decls) (proc_syms decls) (distinct-back (world_syms decls) (from_invariants decls) worlds-on)

  pub labels-allowed : Each (λ s. first_name ≤ s) decls.labels
  labels-allowed = front (λ s. first_name ≤ s) decls.labels (from_hooks decls) (back (λ s. first_name ≤ s) (protocol_syms decls) (from_labels decls) formed.names.allowed)

-- ---- two files

module _ (na nb : NameTable) (a b : File) (written : AreWritten na nb a b) (names : SameNames na nb) (formed_a : IsFormed a.decls) (formed_b : IsFormed b.decls) where
  abbrev da : Decls
  da = a.decls

  abbrev db : Decls
  db = b.decls

  -- ---- labels

  -- the item of a label
  record LabelShown (j : ℕ) : Type 0 where
    shown : label_of na da j ≡ label_of nb db j
    plain : IsPlain (label_of na da j)
    protocol_shown : protocol_name na da (protocol_of_label da.inst j) ≡ protocol_name nb db (protocol_of_label db.inst j)
    protocol_plain : IsPlain (protocol_name na da (protocol_of_label da.inst j))

  label-shown : (j : ℕ) → j < length da.labels → LabelShown j
  label-shown j few =
      let t : Twice na nb a b kind.Label j = twice na nb a b written kind.Label j few in
      let h : label_of na da j ∷ protocol_name na da (protocol_of_label da.inst j) ∷ [] ≡ label_of nb db j ∷ protocol_name nb db (protocol_of_label db.inst j) ∷ [] = same-parts _ _ _ _ t.shown in
      let ps : Each IsPlain (label_of na da j ∷ protocol_name na da (protocol_of_label da.inst j) ∷ []) = parts-plain _ _ (t.plain refl) in
      record { shown = same-head _ _ _ _ h; plain = ps.0; protocol_shown = same-head _ _ _ _ (same-tail _ _ _ _ h); protocol_plain = ps.1.0 }

  pub label-plain : (j : ℕ) → j < length da.labels → IsPlain (label_of na da j)
  label-plain j few = let l : LabelShown j = label-shown j few in l.plain

  label-at : (j x y : ℕ) → slice_get da.labels j ≡ Some x → slice_get db.labels j ≡ Some y → x ≡ y
  label-at j x y hx hy =
      let l : LabelShown j = label-shown j (within da.labels j x hx) in
      same-name na nb names x y (found-shown (name_of na) (name_of nb) (slice_get da.labels j) (slice_get db.labels j) x y hx hy l.shown) (found-plain (name_of na) (slice_get da.labels j) x hx l.plain)

  pub same-labels : da.labels ≡ db.labels
  same-labels = same-lists da.labels db.labels (same-count na nb a b written kind.Label) label-at

  labels-known : (j x : ℕ) → slice_get da.labels j ≡ Some x → has_text (text_at na x) ≡ true
  labels-known j x hx =
      let l : LabelShown j = label-shown j (within da.labels j x hx) in
      text-of-plain (text_at na x) (found-plain (name_of na) (slice_get da.labels j) x hx l.plain)

  -- ---- protocols

  pub shown-at : (n : ℕ) (p q : Protocol) → slice_get da.inst.protocols n ≡ Some p → slice_get db.inst.protocols n ≡ Some q → ProtocolShown na nb da db n p q
  shown-at n p q hp hq =
      let t : Twice na nb a b kind.Protocol n = twice na nb a b written kind.Protocol n (within da.inst.protocols n p hp) in
      protocol-shown na nb da db n p q (found-shown (protocol_of na da n) (protocol_of nb db n) (slice_get da.inst.protocols n) (slice_get db.inst.protocols n) p q hp hq t.shown)
      (found-plain (protocol_of na da n) (slice_get da.inst.protocols n) p hp (t.plain refl))

  protocol-sym : (n : ℕ) (p q : Protocol) → slice_get da.inst.protocols n ≡ Some p → slice_get db.inst.protocols n ≡ Some q → p.sym ≡ q.sym
  protocol-sym n p q hp hq =
      let s : ProtocolShown na nb da db n p q = shown-at n p q hp hq in
      same-name na nb names p.sym q.sym s.name_shown s.name_plain

  pub same-protocol-syms : protocol_syms da ≡ protocol_syms db
  same-protocol-syms = same-numbers (λ (p : Protocol). p.sym) da.inst.protocols db.inst.protocols (same-count na nb a b written kind.Protocol) protocol-sym

  parts-at : (n : ℕ) (p q : Protocol) → slice_get da.inst.protocols n ≡ Some p → slice_get db.inst.protocols n ≡ Some q → SameParts p q
  parts-at n p q hp hq =
      let f : ProtocolIsFormed da.inst.nodes p = formed_a.inst.protocols n p hp in
      shown-parts na nb names da db n p q (shown-at n p q hp hq) f.field_names.distinct f.tag_names.distinct

  -- ---- the protocols of labels

  of-at : (j n m : ℕ) → slice_get da.inst.of j ≡ Some n → slice_get db.inst.of j ≡ Some m → n ≡ m
  of-at j n m hn hm =
      let few : j < length da.inst.of = within da.inst.of j n hn in
      let counts : length da.labels ≡ length da.inst.of = formed_a.label_names in
      let l : LabelShown j = label-shown j (omega (arith, few, counts)) in
      let pa : protocol_of_label da.inst j ≡ slice_get da.inst.protocols n = ap (protocol_found da.inst) hn in
      let pb : protocol_of_label db.inst j ≡ slice_get db.inst.protocols m = ap (protocol_found db.inst) hm in
      same-place na nb names (λ (p : Protocol). p.sym) da.inst.protocols db.inst.protocols same-protocol-syms (protocols-once da formed_a) n m
      (sym (ap (protocol_name na da) pa) ∙ (l.protocol_shown ∙ ap (protocol_name nb db) pb)) (subst IsPlain (ap (protocol_name na da) pa) l.protocol_plain)

  of-counts : length da.inst.of ≡ length db.inst.of
  of-counts = sym formed_a.label_names ∙ (ap length same-labels ∙ formed_b.label_names)

  pub skeleton : slice_get na.texts 0 ≡ Some (codes "int") → slice_get na.texts 3 ≡ Some (codes "self") → SameSkeleton na nb da db
  skeleton int self = record {
    names = names;
    int = int;
    self = self;
    labels = same-labels;
    counts = formed_a.label_names;
    of = same-lists da.inst.of db.inst.of of-counts of-at;
    allowed = labels-allowed da formed_a;
    distinct = labels-once da formed_a;
    known = each-from (λ s. has_text (text_at na s) ≡ true) da.labels labels-known;
    parts = parts-at;
  }
