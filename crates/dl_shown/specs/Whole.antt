-- A whole file as it is written.
use Rattle.std.specs.Prelude.{ℕ, pos, ◌∷◌, map, slice_get, codes}
use Rattle.dl_tree.specs.declared.tree.Tree.{Tree}
use Rattle.dl_model.specs.declared.file.Decls.{Decls}
use Rattle.dl_model.specs.Words.{first_name}
use Rattle.dl_forms.specs.Table.{NameTable}
use Rattle.dl_forms.specs.Show.{number, form}
use Rattle.dl_file.specs.declared.file.ItemKind.{ItemKind}
use Rattle.dl_file.specs.declared.file.ItemKind.TheVariants as kind
use Rattle.dl_file.specs.declared.file.Item.{Item}
use Rattle.dl_file.specs.declared.file.File.{File}
use Rattle.dl_shown.specs.Shown.{nothing_there, shown_if, sort_of, nodes_from, protocol_of, instance_of, hook_of, world_of, invariant_of, deploy_of}
use Rattle.dl_shown.specs.Programs.{proc_of}
use Rattle.dl_shown.specs.Scripts.{proof_of}

-- the item with this number among those of its kind; a proof isn't among the declarations
abbrev pub declaration_of : NameTable → Decls → ItemKind → ℕ → Tree
declaration_of names decls kind.Sort at = shown_if (sort_of names) (slice_get names.sorts at)
declaration_of names decls kind.Protocol at = shown_if (protocol_of names decls at) (slice_get decls.inst.protocols at)
declaration_of names decls kind.Label at = instance_of names decls at
declaration_of names decls kind.Hook at = shown_if (hook_of names decls) (slice_get decls.hooks at)
declaration_of names decls kind.World at = shown_if (world_of names decls) (slice_get decls.worlds at)
declaration_of names decls kind.Invariant at = shown_if (invariant_of names decls) (slice_get decls.invariants at)
declaration_of names decls kind.Procedure at = shown_if (proc_of names decls) (slice_get decls.procs at)
declaration_of names decls kind.Deploy at = shown_if (deploy_of names decls) decls.deploy
declaration_of names decls kind.Proof at = nothing_there

abbrev pub item_by_kind : NameTable → File → ItemKind → ℕ → Tree
item_by_kind names file kind.Proof at = shown_if (proof_of names file.decls) (slice_get file.proofs at)
item_by_kind names file other at = declaration_of names file.decls other at

abbrev pub item_of : NameTable → File → Item → Tree
item_of names file item = item_by_kind names file item.kind item.at

-- what a file is in the notation; the table has the texts of its names and the sorts that it declares
abbrev pub shown_file : NameTable → File → Tree
shown_file names file = form (codes "disel") (number (pos 1) ∷ form (codes "nodes") (nodes_from names first_name file.decls.inst.nodes) ∷ map (item_of names file) file.items)
