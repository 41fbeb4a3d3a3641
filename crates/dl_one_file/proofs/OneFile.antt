-- A tree means at most one file.
use Rattle.std.proofs.Common.{◌≡◌, true, None}
use Rattle.dl_tree.specs.declared.tree.Tree.{Tree}
use Rattle.dl_file.specs.declared.file.File.{File}
use Rattle.dl_notation.specs.declared.role.ListRole.TheVariants as list
use Rattle.dl_notation.specs.Environment.{nothing}
use Rattle.dl_notation.specs.Judge.{OfNames, list_fault}
use Rattle.dl_means.specs.Means.{Means}
use Rattle.dl_faults.specs.Given.{FileIsFormed}
use Rattle.dl_one_file.specs.Plain.{is_plain_tree}
use Rattle.dl_one_file.proofs.Files.{same-file}
use Rattle.dl_one_file.proofs.PlainItems.{faultless-plain}

pub plain-one-file : (tree : Tree) (a b : File) → is_plain_tree tree ≡ true → Means tree a → Means tree b → FileIsFormed a → FileIsFormed b → a ≡ b
plain-one-file tree a b plain means-a means-b formed-a formed-b =
    same-file tree a b means-a means-b formed-a.decls formed-b.decls formed-a.deployed formed-b.deployed plain

pub one-file : (tree : Tree) (a b : File) → list_fault tree (OfNames nothing) list.File ≡ None → Means tree a → Means tree b → FileIsFormed a → FileIsFormed b → a ≡ b
one-file tree a b faultless means-a means-b formed-a formed-b =
    plain-one-file tree a b (faultless-plain tree faultless) means-a means-b formed-a formed-b
