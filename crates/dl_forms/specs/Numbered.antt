-- Names that have a number.
use Rattle.std.specs.Prelude.{◌≡◌, ℕ, ◌<◌, List, map, length}
use Rattle.std.specs.List.{AllByRecursion as Each}
use Rattle.dl_model.specs.declared.protocol.FieldDecl.{FieldDecl}
use Rattle.dl_model.specs.declared.protocol.Protocol.{Protocol}
use Rattle.dl_model.specs.declared.protocol.Instances.{Instances}
use Rattle.dl_forms.specs.declared.scope.SortDecl.{SortDecl}
use Rattle.dl_forms.specs.declared.scope.Scope.{Scope}
use Rattle.dl_forms.specs.Table.{NameTable}
use Rattle.dl_forms.specs.Scope.{tag_syms}

abbrev pub AreBelow : ℕ → List ℕ → Type 0
AreBelow count syms = Each (λ sym. sym < count) syms

pub record ProtocolIsNumbered (count : ℕ) (protocol : Protocol) : Type 0 where
  pub sym : protocol.sym < count
  pub fields : AreBelow count (map (λ (f : FieldDecl). f.sym) protocol.fields)
  pub tags : AreBelow count (tag_syms protocol)

pub record SortIsNumbered (count : ℕ) (sort : SortDecl) : Type 0 where
  pub sym : sort.sym < count
  pub values : AreBelow count sort.values

-- Each name of the scope and of the declarations has a number in the table.
pub record AreNumbered (names : NameTable) (scope : Scope) (inst : Instances) : Type 0 where
  pub vars : AreBelow (length names.texts) (map (λ v. v.0) scope.vars)
  pub messages : AreBelow (length names.texts) (map (λ m. m.0) scope.messages)
  pub words : AreBelow (length names.texts) (map (λ w. w.0) scope.words)
  pub labels : AreBelow (length names.texts) scope.labels
  pub declared : AreBelow (length names.texts) scope.declared
  pub protocols : Each (ProtocolIsNumbered (length names.texts)) inst.protocols
  pub sorts : Each (SortIsNumbered (length names.texts)) names.sorts
  pub marks : length names.marks ≡ length names.texts
