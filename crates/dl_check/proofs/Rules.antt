-- A text is refused for one of the rules.
use Rattle.std.proofs.Common.{◌≡◌, ℕ, true, false, List, Option, Some, subst, ◌⊎◌, inl, inr}
use Rattle.dl_tree.specs.declared.tree.Place.{Place}
use Rattle.dl_tree.specs.declared.tree.Tree.{Tree}
use Rattle.dl_tree.specs.Faults.{fault_of}
use Rattle.dl_check.specs.Answers.{HasWrong, IsRefused}
use Rattle.dl_check.specs.Rules.{is_tree_rule}
use Rattle.dl_check.proofs.TextRules.{text-ruled}
use Rattle.dl_check.proofs.FormRules.{HasRule}
use Rattle.dl_check.proofs.TreeRules.{tree-has}
use Rattle.dl_check.proofs.FileRules.{FirstIsRuled, file-ruled}

wrong-ruled : (t : Tree) (rule : ℕ) (place : Place) (what : Option Tree) → HasWrong t rule place what → is_tree_rule rule ≡ true
wrong-ruled t rule place what h = subst FirstIsRuled h.first (file-ruled h.file)

pub tree-ruled : (t : Tree) (rule : ℕ) (place : Place) (what : Option Tree) → IsRefused t rule place what → is_tree_rule rule ≡ true
tree-ruled t rule place what (inl h) = subst HasRule h.0 (tree-has t)
tree-ruled t rule place what (inr h) = wrong-ruled t rule place what h

no-false : false ≡ true → ⊥
no-false e = cc

-- no rule is the ninth
pub none-unbuilt : (text : List ℕ) (t : Tree) (place : Place) (what : Option Tree) → (fault_of text ≡ Some (9, place)) ⊎ IsRefused t 9 place what → ⊥
none-unbuilt text t place what (inl h) = no-false (text-ruled text 9 place h)
none-unbuilt text t place what (inr h) = no-false (tree-ruled t 9 place what h)
