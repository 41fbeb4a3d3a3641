-- What is written of an accepted tree, and of each text that spells it.
use Rattle.std.proofs.Common.{◌≡◌, ℕ, Bool, List, Option, Some, None, Result, Ok, Err, IfOk, refl, subst}
use Rattle.std.specs.Io.KnownBytes.{Appends}
use Rattle.dl_io.specs.Whole.{WritesFront}
use Rattle.dl_tree.specs.declared.tree.Tree.{Tree}
use Rattle.dl_tree.specs.Spelling.{Spells}
use Rattle.dl_model.specs.Worlds.{KeepsWorlds}
use Rattle.dl_model.specs.declared.history.Order.{Order}
use Rattle.dl_file.specs.declared.answer.Accepted.{Accepted}
use Rattle.dl_file.specs.declared.answer.Fault.{Fault}
use Rattle.dl_file.specs.declared.file.File.{File}
use Rattle.dl_faults.specs.declared.wrong.Wrong.{Wrong}
use Rattle.dl_faults.specs.Verdict.{or_else}
use Rattle.dl_faults.specs.Worlds.{world_fault}
use Rattle.dl_faults.specs.Obligations.{obligation_fault}
use Rattle.dl_faults.proofs.Kept.{worlds-kept}
use Rattle.dl_check.specs.Answers.{IsAcceptedAs}
use Rattle.dl_run.specs.Reports.{IsReported}
use Rattle.dl_top.specs.declared.request.Command.{Command}
use Rattle.dl_top.specs.declared.request.Command.TheVariants.{Run}
use Rattle.dl_top.specs.Endings.{IsTextOf, IsOutputOfTree}

text-of : (command : Command) (text output : List ℕ) (ended : Bool) (tree : Tree) → Spells text tree → IsOutputOfTree command tree output ended → IsTextOf (Some command) text output ended
text-of command text output ended tree spelled (counts, is, written) =
    (tree, counts, record { spelled = spelled; known = is; safe = is.accepted.safe }, written)

-- what is written of an accepted tree is written of each text that spells it
pub text-of-tree : {V : Type 0} (items : V → List ℕ) (ended : V → Bool) (command : Command) (text : List ℕ) (tree : Tree) (result : Result V Fault) → Spells text tree →
    IfOk result (λ output. IsOutputOfTree command tree (items output) (ended output)) → IfOk result (λ output. IsTextOf (Some command) text (items output) (ended output))
text-of-tree items ended command text tree (Ok output) spelled h = text-of command text (items output) (ended output) tree spelled h
text-of-tree items ended command text tree (Err fault) spelled h = tt

-- ---- a run of an accepted file

no-early : (early late : Option Wrong) → or_else early late ≡ None → early ≡ None
no-early None late e = refl
no-early (Some wrong) late e = cc

-- an accepted file keeps to its worlds
pub accepted-worlds : (tree : Tree) (file : File) (counts : Accepted) → IsAcceptedAs tree file counts → KeepsWorlds file.decls
accepted-worlds tree file counts is = (worlds-kept file is.read.formed.decls).0 (no-early (world_fault file) (obligation_fault file) is.faultless)

-- the report of its run is what the command writes of the tree
pub report-of-tree : {V : Type 0} (items : V → List ℕ) (ended : V → Bool) (serial : Bool) (budget : ℕ) (order : Order) (tree : Tree) (file : File) (counts : Accepted) (result : Result V Fault) →
    IsAcceptedAs tree file counts → IfOk result (λ output. IsReported file budget order (items output) (ended output)) →
    IfOk result (λ output. IsOutputOfTree (Run serial budget order) tree (items output) (ended output))
report-of-tree items ended serial budget order tree file counts (Ok output) is h = (counts, record { file = file; accepted = is }, h)
report-of-tree items ended serial budget order tree file counts (Err fault) is h = tt

-- ---- what was written

-- the text was written whole
pub whole-written : (command : Command) (text given output : List ℕ) (ended told : Bool) (old new : Option (List ℕ)) → given ≡ output → ended ≡ told → IsTextOf (Some command) text output ended → Appends old new given →
    (x : List ℕ) × IsTextOf (Some command) text x told × Appends old new x
whole-written command text given output ended told old new same is h a =
    (output, subst (λ (e : Bool). IsTextOf (Some command) text output e) is h, subst (λ (bs : List ℕ). Appends old new bs) same a)

-- a front of it was
pub front-written : (command : Command) (text given output : List ℕ) (ended : Bool) (old new : Option (List ℕ)) → given ≡ output → IsTextOf (Some command) text output ended → WritesFront old new given →
    (x : List ℕ) × (e : Bool) × IsTextOf (Some command) text x e × WritesFront old new x
front-written command text given output ended old new same h w = (output, ended, h, subst (λ (bs : List ℕ). WritesFront old new bs) same w)
