-- A file with one node and nothing else.
use Rattle.std.specs.Prelude.{ℕ, Some, None, List, [], ◌∷◌, ◌++◌, codes, replicate}
use Rattle.dl_model.specs.declared.file.Decls.{Decls}

abbrev pub bare : Decls
bare = record {
  inst = record { nodes = 1; protocols = []; of = [] };
  labels = [];
  hooks = [];
  worlds = [];
  invariants = [];
  procs = [];
  deploy = None;
}

-- the texts of its names: the node is called `a`
abbrev pub bare_names : List (List ℕ)
bare_names = replicate 18 [] ++ (codes "a" ∷ [])
