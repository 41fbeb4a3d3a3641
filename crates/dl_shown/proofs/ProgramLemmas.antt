-- Commands within commands, one after another.
use Rattle.std.proofs.Common.{◌≡◌, ℕ, List, [], ◌∷◌, ◌++◌, map, refl, sym, ap, ◌∙◌}
use Rattle.std.specs.Prelude.{codes}
use mathlib.Core.Former.{Count}
use Rattle.dl_term.specs.declared.syntax.Formula.{Formula}
use Rattle.dl_tree.specs.declared.tree.Tree.{Tree}
use Rattle.dl_model.specs.declared.program.Command.{Command, If', While', Row_of-Command, end_of-Command, more_of-Command, items-the_row-Command as items, items_hidden-the_row-Command-0 as items_hidden}
use Rattle.dl_model.specs.declared.program.Command.TheVariants.{If, While}
use Rattle.dl_model.specs.declared.file.Decls.{Decls}
use Rattle.dl_forms.specs.Table.{NameTable}
use Rattle.dl_forms.specs.Show.{form, symbol}
use Rattle.dl_shown.specs.Shown.{listed}
use Rattle.dl_shown.specs.Programs.{note_of, command_of, commands_of}

abbrev left_of : Command → (n : Count) × Row_of-Command n
left_of (If' test _ left _ right) = (_, left)
left_of _ = (_, end_of-Command)

abbrev right_of : Command → (n : Count) × Row_of-Command n
right_of (If' test _ left _ right) = (_, right)
right_of _ = (_, end_of-Command)

abbrev body_of : Command → (n : Count) × Row_of-Command n
body_of (While' test note _ body) = (_, body)
body_of _ = (_, end_of-Command)

commands-items : (names : NameTable) (decls : Decls) (n : Count) (row : Row_of-Command n) → commands_of names decls row ≡ map (command_of names decls) (items n row)
commands-items names decls n end_of-Command = refl
commands-items names decls n (more_of-Command command rest) = ap (λ trees. command_of names decls command ∷ trees) (commands-items names decls _ rest)

module _ (names : NameTable) (decls : Decls) where
  block : (word : List ℕ) (n : Count) (row : Row_of-Command n) (commands : List Command) → items n row ≡ commands → form word (commands_of names decls row) ≡ form word (map (command_of names decls) commands)
  block word n row commands is = ap (form word) (commands-items names decls n row ∙ ap (map (command_of names decls)) is)

  pub if-shown : (test : Formula) (chosen other : List Command) → command_of names decls (If test chosen other) ≡
      form (codes "if") (note_of names decls test ∷ form (codes "then") (map (command_of names decls) chosen) ∷ form (codes "else") (map (command_of names decls) other) ∷ [])
  if-shown test chosen other =
      let left = left_of (If test chosen other) in
      let right = right_of (If test chosen other) in
      ap (λ t. form (codes "if") (note_of names decls test ∷ t ∷ form (codes "else") (commands_of names decls right.1) ∷ [])) (block (codes "then") left.0 left.1 chosen (items_hidden chosen))
      ∙ ap (λ t. form (codes "if") (note_of names decls test ∷ form (codes "then") (map (command_of names decls) chosen) ∷ t ∷ [])) (block (codes "else") right.0 right.1 other (items_hidden other))

  pub while-shown : (test note : Formula) (body : List Command) → command_of names decls (While test note body) ≡
      form (codes "while") (note_of names decls test ∷ note_of names decls note ∷ map (command_of names decls) body)
  while-shown test note body =
      let row = body_of (While test note body) in
      ap (λ trees. form (codes "while") (note_of names decls test ∷ note_of names decls note ∷ trees)) (commands-items names decls row.0 row.1 ∙ ap (map (command_of names decls)) (items_hidden body))

  -- a choice that is built part by part
  pub if-built : (command : Command) (test : Formula) (chosen other first second : List Command) (begun halfway whole : List Tree) (tree : Tree) →
      command ≡ If test chosen other → first ≡ chosen → second ≡ other → begun ≡ symbol (codes "if") ∷ note_of names decls test ∷ [] →
      halfway ≡ begun ++ form (codes "then") (map (command_of names decls) first) ∷ [] → whole ≡ halfway ++ form (codes "else") (map (command_of names decls) second) ∷ [] →
      tree ≡ listed whole → tree ≡ command_of names decls command
  if-built command test chosen other first second begun halfway whole tree is first_is second_is begun_is halfway_is whole_is tree_is =
      let left : List Command → Tree = λ (commands : List Command). form (codes "then") (map (command_of names decls) commands) in
      let right : List Command → Tree = λ (commands : List Command). form (codes "else") (map (command_of names decls) commands) in
      let all : Tree → Tree → Tree = λ (t e : Tree). form (codes "if") (note_of names decls test ∷ t ∷ e ∷ []) in
      tree_is
      ∙ (ap listed (whole_is ∙ ap (λ (parts : List Tree). parts ++ right second ∷ []) (halfway_is ∙ ap (λ (parts : List Tree). parts ++ left first ∷ []) begun_is))
      ∙ (ap (λ (commands : List Command). all (left commands) (right second)) first_is
      ∙ (ap (λ (commands : List Command). all (left chosen) (right commands)) second_is
      ∙ (sym (if-shown test chosen other) ∙ sym (ap (command_of names decls) is)))))
