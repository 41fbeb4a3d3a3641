-- What formed declarations and known names give the reader.
use Rattle.std.proofs.Common.{◌≡◌, ℕ, zero, suc, ◌≤◌, ◌<◌, Bool, true, false, ◌||◌, ◌==◌, ◌++◌, List, [], ◌∷◌, map, length, Option, Some, None, slice_get, unwrap_or, refl, sym, ap, ◌∙◌, subst, arith, ◌⊎◌, inl, inr}
use Rattle.std.specs.List.{list_any, AllByRecursion as Each}
use Rattle.dl_model.specs.declared.protocol.Tag.{Tag}
use Rattle.dl_model.specs.declared.protocol.FieldDecl.{FieldDecl}
use Rattle.dl_model.specs.declared.protocol.Protocol.{Protocol}
use Rattle.dl_model.specs.declared.protocol.Instances.{Instances}
use Rattle.dl_model.specs.declared.file.Decls.{Decls}
use Rattle.dl_model.specs.Sorts.{has}
use Rattle.dl_model.specs.Lookup.{no_protocol, no_tag, protocol_in, protocol_at, tag_at}
use Rattle.dl_model.specs.Formed.{AreDistinct, TagIsFormed, ProtocolIsFormed, IsFormed, declared_names}
use Rattle.dl_report.specs.Layout.{Text}
use Rattle.dl_report.specs.Fitting.{NamesAreKnown}
use Rattle.dl_report.specs.Small.{IsSmall}
use Rattle.dl_report.specs.Ready.{IsReady}
use Rattle.dl_report.proofs.Pieces.{decide}

found_or : (inst : Instances) (P : Protocol → Type 0) → P no_protocol → ((n : ℕ) (protocol : Protocol) → slice_get inst.protocols n ≡ Some protocol → P protocol) →
    (n : ℕ) (found : Option Protocol) → slice_get inst.protocols n ≡ found → P (unwrap_or found no_protocol)
found_or inst P none some n None e = none
found_or inst P none some n (Some protocol) e = some n protocol e

in_or : (inst : Instances) (P : Protocol → Type 0) → P no_protocol → ((n : ℕ) (protocol : Protocol) → slice_get inst.protocols n ≡ Some protocol → P protocol) →
    (number : Option ℕ) → P (protocol_in inst number)
in_or inst P none some None = none
in_or inst P none some (Some n) = found_or inst P none some n (slice_get inst.protocols n) refl

-- what holds of each protocol of formed declarations, and of the one that stands for none
of_label : (decls : Decls) → IsFormed decls → (P : Protocol → Type 0) → P no_protocol → ((protocol : Protocol) → ProtocolIsFormed decls.inst.nodes protocol → P protocol) →
    (label : ℕ) → P (protocol_at decls.inst label)
of_label decls formed P none some label =
    in_or decls.inst P none (λ n protocol e. some protocol (formed.inst.protocols n protocol e)) (slice_get decls.inst.of label)

few_args : (protocol : Protocol) (tags : List Tag) (tag : ℕ) → Each (TagIsFormed protocol) tags → length (unwrap_or (slice_get tags tag) no_tag).args ≤ 8
few_args protocol [] tag all = omega arith
few_args protocol (t ∷ tags) zero all = all.0.args.0
few_args protocol (t ∷ tags) (suc tag) all = few_args protocol tags tag all.1

small_is : (decls : Decls) → IsFormed decls → IsSmall decls
small_is decls formed =
    let labels = formed.small.labels in
    let same = formed.label_names in
    record {
      nodes = formed.small.nodes;
      labels = omega arith;
      tags = λ label. of_label decls formed (λ p. length p.tags ≤ 16) (omega arith) (λ p is. is.few_tags) label;
      fields = λ label. of_label decls formed (λ p. length p.fields ≤ 16) (omega arith) (λ p is. is.few_fields) label;
      args = λ label tag. of_label decls formed (λ p. length (unwrap_or (slice_get p.tags tag) no_tag).args ≤ 8) (omega arith) (λ p is. few_args p p.tags tag is.tags) label;
    }

or_false : (a b : Bool) → (a || b) ≡ false → (a ≡ false) × (b ≡ false)
or_false true b e = cc
or_false false b e = (refl, e)

has_front : (xs ys : List ℕ) (n : ℕ) → has (xs ++ ys) n ≡ false → has xs n ≡ false
has_front [] ys n e = refl
has_front (x ∷ xs) ys n e =
    let parts = or_false (n == x) (has (xs ++ ys) n) e in
    rw (parts.0, has_front xs ys n parts.1) refl

distinct_front : (xs ys : List ℕ) → AreDistinct (xs ++ ys) → AreDistinct xs
distinct_front [] ys d = tt
distinct_front (x ∷ xs) ys d = (has_front xs ys x d.0, distinct_front xs ys d.1)

distinct_back : (xs ys : List ℕ) → AreDistinct (xs ++ ys) → AreDistinct ys
distinct_back [] ys d = d
distinct_back (x ∷ xs) ys d = distinct_back xs ys d.1

pub ready_is : (names : List Text) (decls : Decls) → IsFormed decls → NamesAreKnown names decls → IsReady names decls
ready_is names decls formed known = record {
  small = small_is decls formed;
  known = known;
  labels = distinct_front decls.labels _ (distinct_back (map (λ (p : Protocol). p.sym) decls.inst.protocols) _ formed.names.distinct);
  tags = λ label. of_label decls formed (λ p. AreDistinct (map (λ (t : Tag). t.sym) p.tags)) tt (λ p is. is.tag_names.distinct) label;
  fields = λ label. of_label decls formed (λ p. AreDistinct (map (λ (f : FieldDecl). f.sym) p.fields)) tt (λ p is. is.field_names.distinct) label;
}
