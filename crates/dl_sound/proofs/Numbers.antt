-- Numbers in the range of i64: those of a sort, of a field, of a message.
use Rattle.std.proofs.Common.{◌≡◌, ℕ, zero, suc, ◌<◌, ◌^◌, ℤ, pos, negsuc, true, List, [], ◌∷◌, refl, arith, length}
use Rattle.std.proofs.lemmas.Int.{ints}
use Rattle.std.proofs.Math.Seq.{take-append_seam}
use Rattle.std.specs.Prelude.{slice_get, unwrap_or, int_le, replicate, ◌-◌}
use Rattle.dl_term.specs.declared.syntax.Sort.{Sort}
use Rattle.dl_term.specs.State.{State, Message, statelet, item, field_at}
use Rattle.dl_model.specs.declared.protocol.FieldDecl.{FieldDecl}
use Rattle.dl_model.specs.declared.file.Decls.{Decls}
use Rattle.dl_model.specs.Sorts.{in_sort, all_in_sorts, is_i64, all_i64, IsSort}
use Rattle.dl_model.specs.Lookup.{protocol_at}
use Rattle.std.specs.List.{AllByRecursion as Each, AllZip}
use Rattle.dl_model.specs.States.{FieldIsSorted, MessageIsSorted, IsWellSorted}
use Rattle.dl_model.specs.Steps.{message_in}
use Rattle.dl_model.specs.Machine.{packed, listed}
use Rattle.dl_sound.proofs.Needed.{StateNeeds}
use Rattle.dl_model.proofs.Small.{and-both, and-left, and-right}

int_le-trans : (a b c : ℤ) → int_le a b ≡ true → int_le b c ≡ true → int_le a c ≡ true
int_le-trans a b c h k = grind (arith, ints)

pub int-of_sort : (sort : Sort) (v : ℤ) → IsSort sort → in_sort sort v ≡ true → is_i64 v ≡ true
int-of_sort sort v s h = and-both _ _
    (int_le-trans (negsuc 0x7fff_ffff_ffff_ffff) sort.low v (and-left _ _ s.low) (and-left _ _ h))
    (int_le-trans v sort.high (pos 0x7fff_ffff_ffff_ffff) (and-right (int_le sort.low v) _ h) (and-right (int_le (negsuc 0x7fff_ffff_ffff_ffff) sort.high) _ s.high))

pub ints-of_sorts : (sorts : List Sort) (vs : List ℤ) → Each IsSort sorts → all_in_sorts sorts vs ≡ true → all_i64 vs ≡ true
ints-of_sorts [] [] s h = refl
ints-of_sorts [] (v ∷ vs) s h = cc
ints-of_sorts (sort ∷ sorts) [] s h = cc
ints-of_sorts (sort ∷ sorts) (v ∷ vs) s h = and-both (is_i64 v) (all_i64 vs) (int-of_sort sort v s.0 (and-left (in_sort sort v) (all_in_sorts sorts vs) h)) (ints-of_sorts sorts vs s.1 (and-right (in_sort sort v) (all_in_sorts sorts vs) h))

pub int-of_nat : (n : ℕ) → n < 2 ^ 32 → is_i64 (pos n) ≡ true
int-of_nat n h = grind (arith, ints)

pub each-get : {X : Type 0} (P : X → Type 0) (xs : List X) (n : ℕ) (e : X) → P e → Each P xs → P (unwrap_or (slice_get xs n) e)
each-get P [] n e h k = h
each-get P (x ∷ xs) zero e h k = k.0
each-get P (x ∷ xs) (suc n) e h k = each-get P xs n e h k.1

row-int : (sort : Sort) (row : List ℤ) (index : ℤ) → IsSort sort → Each (λ v. in_sort sort v ≡ true) row → is_i64 (item row index (pos 0)) ≡ true
row-int sort row (pos n) s h = int-of_sort sort (unwrap_or (slice_get row n) (pos 0)) s (each-get (λ v. in_sort sort v ≡ true) row n (pos 0) s.holds_zero h)
row-int sort row (negsuc n) s h = refl

empty-int : (index : ℤ) → is_i64 (item [] index (pos 0)) ≡ true
empty-int (pos n) = refl
empty-int (negsuc n) = refl

cell-int : (nodes : ℕ) (fields : List FieldDecl) (columns : List (List (List ℤ))) (field node : ℕ) (index : ℤ) → AllZip (FieldIsSorted nodes) fields columns → Each (λ f. IsSort f.sort) fields →
    is_i64 (item (item (unwrap_or (slice_get columns field) []) (pos node) []) index (pos 0)) ≡ true
cell-int nodes [] [] field node index s h = empty-int index
cell-int nodes [] (column ∷ columns) field node index s h = absurd s
cell-int nodes (f ∷ fields) [] field node index s h = absurd s
cell-int nodes (f ∷ fields) (column ∷ columns) zero node index s h =
    each-get (λ row. is_i64 (item row index (pos 0)) ≡ true) column node [] (empty-int index) (rows column s.0.sorted)
  where
    rows : (column : List (List ℤ)) → Each (Each (λ v. in_sort f.sort v ≡ true)) column → Each (λ row. is_i64 (item row index (pos 0)) ≡ true) column
    rows [] e = tt
    rows (row ∷ more) e = (row-int f.sort row index h.0 e.0, rows more e.1)
cell-int nodes (f ∷ fields) (column ∷ columns) (suc field) node index s h = cell-int nodes fields columns field node index s.1 h.1

pub field-int : (d : Decls) (s : State) (label field node : ℕ) (index : ℤ) → StateNeeds d → IsWellSorted d.inst s → is_i64 (field_at s label field (pos node) index) ≡ true
field-int d s label field node index f h = cell-int d.inst.nodes (protocol_at d.inst label).fields (statelet s label).fields field node index (h.each label).fields (f.fields label)

pub sender-int : (d : Decls) (s : State) (label id : ℕ) → StateNeeds d → IsWellSorted d.inst s → is_i64 (pos (message_in s label id).from) ≡ true
sender-int d s label id f h = each-get (λ m. is_i64 (pos m.from) ≡ true) (statelet s label).soup id _ refl (senders (statelet s label).soup (h.each label).soup)
  where
    senders : (soup : List Message) → Each (MessageIsSorted d.inst label) soup → Each (λ m. is_i64 (pos m.from) ≡ true) soup
    senders [] e = tt
    senders (m ∷ more) e = (int-of_nat m.from (lt_trans-of m.from d.inst.nodes e.0.from f.few), senders more e.1)
      where
        lt_trans-of : (a b : ℕ) → a < b → b < 2 ^ 32 → a < 2 ^ 32
        lt_trans-of a b p q = omega arith

pub listed-packed : (vs : List ℤ) → listed (packed vs) ≡ vs
listed-packed vs = take-append_seam vs (replicate (8 - length vs) (pos 0))
