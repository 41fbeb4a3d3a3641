-- What the reader knows of the declarations and the names.
use Rattle.std.specs.Prelude.{ℕ, List, map}
use Rattle.dl_model.specs.declared.protocol.Tag.{Tag}
use Rattle.dl_model.specs.declared.protocol.FieldDecl.{FieldDecl}
use Rattle.dl_model.specs.declared.file.Decls.{Decls}
use Rattle.dl_model.specs.Lookup.{protocol_at}
use Rattle.dl_model.specs.Formed.{AreDistinct}
use Rattle.dl_report.specs.Layout.{Text}
use Rattle.dl_report.specs.Fitting.{NamesAreKnown}
use Rattle.dl_report.specs.Small.{IsSmall}

pub record IsReady (names : List Text) (decls : Decls) : Type 0 where
  pub small : IsSmall decls
  pub known : NamesAreKnown names decls
  pub labels : AreDistinct decls.labels
  pub tags : (label : ℕ) → AreDistinct (map (λ (t : Tag). t.sym) (protocol_at decls.inst label).tags)
  pub fields : (label : ℕ) → AreDistinct (map (λ (f : FieldDecl). f.sym) (protocol_at decls.inst label).fields)
