-- Which nodes have an end after a serial run.
use Rattle.std.specs.Prelude.{◌≡◌, ℕ, true, is_some, List, map}
use Rattle.std.specs.List.{AllByRecursion as Each, filter, range_with_len}
use Rattle.dl_model.specs.declared.file.Decls.{Decls}
use Rattle.dl_model.specs.Lookup.{program_of}
use Rattle.dl_nodes.specs.declared.bare.Bare.{Bare}
use Rattle.dl_nodes.specs.declared.begin.Run.{Run}

-- the nodes with a program, in the order of the node list
abbrev pub program_nodes : Decls → List ℕ
program_nodes decls = filter (λ node. is_some (program_of decls node)) (range_with_len 0 decls.inst.nodes)

-- Each node with a program is there once, in the order of the node list, and has an end.
pub record HaveEnded (decls : Decls) (run : Run) : Type 0 where
  pub nodes : map (λ (bare : Bare). bare.node) run.nodes.items ≡ program_nodes decls
  pub ends : Each (λ (bare : Bare). is_some bare.end ≡ true) run.nodes.items
