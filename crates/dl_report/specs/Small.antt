-- How many nodes, labels, tags, fields and arguments formed declarations have at most.
use Rattle.std.specs.Prelude.{ℕ, ◌≤◌, ℤ, pos, negsuc, length}
use Rattle.dl_model.specs.declared.file.Decls.{Decls}
use Rattle.dl_model.specs.Lookup.{protocol_at, tag_at}

pub record IsSmall (decls : Decls) : Type 0 where
  pub nodes : decls.inst.nodes ≤ 16
  pub labels : length decls.labels ≤ 16
  pub tags : (label : ℕ) → length (protocol_at decls.inst label).tags ≤ 16
  pub fields : (label : ℕ) → length (protocol_at decls.inst label).fields ≤ 16
  pub args : (label tag : ℕ) → length (tag_at decls.inst label tag).args ≤ 8

-- a number that is no node
abbrev pub IsNoNode : ℕ → ℤ → Type 0
IsNoNode nodes (pos n) = nodes ≤ n
IsNoNode nodes (negsuc n) = Unit {0}
