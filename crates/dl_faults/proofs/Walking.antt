-- The commands of a list, as the commands of a block.
use Rattle.std.proofs.Common.{◌≡◌, ℕ, ◌+◌, List, [], ◌∷◌, ◌++◌, drop, refl, ap, sym, ◌∙◌}
use Rattle.std.specs.List.{flat_map, enumerate_from}
use Rattle.dl_term.specs.declared.syntax.Formula.{Formula}
use Rattle.dl_tree.specs.declared.tree.Tree.{Tree}
use Rattle.dl_model.specs.declared.program.Command.{Command, Send, Await, Poll, Read, Set, If', While', Call, Row_of-Command, end_of-Command, more_of-Command, items-the_row-Command, items_hidden-the_row-Command-0}
use Rattle.dl_model.specs.declared.program.Command.TheVariants.{If as IfOf, While as WhileOf}
use Rattle.dl_model.specs.declared.file.World.{World}
use Rattle.dl_model.specs.Block.{Block, block_of, followed, row_block}
use Rattle.dl_file.specs.declared.file.File.{File}
use Rattle.dl_faults.specs.declared.wrong.Wrong.{Wrong}
use Rattle.dl_faults.specs.Places.{parts_of}
use Rattle.dl_faults.specs.ProgramPlaces.{tree_at, part_at, behind}
use Rattle.dl_faults.specs.Programs.{formula_wrong, block_wrong}
use Rattle.dl_faults.specs.Code.{command_wrong, numbered_wrong, commands_wrong}

module _ (file : File) (world : World) (whole : Tree) where
  followed-wrong : (trees : List Tree) (n : ℕ) (command : Command) (rest : Block) →
      block_wrong file world whole trees n (followed command rest) ≡ command_wrong file world whole (tree_at whole trees n) command ++ block_wrong file world whole trees (n + 1) rest
  followed-wrong trees n (Send note label tag to args) rest = refl
  followed-wrong trees n (Await note label tag sender args) rest = refl
  followed-wrong trees n (Poll note got label tag sender args) rest = refl
  followed-wrong trees n (Read note into label field index) rest = refl
  followed-wrong trees n (Set target value) rest = refl
  followed-wrong trees n (If' test s left t right) rest = refl
  followed-wrong trees n (While' test note s body) rest = refl
  followed-wrong trees n (Call note frame into callee args) rest = refl

  from-number : (trees : List Tree) (n : ℕ) (commands : List Command) → flat_map (numbered_wrong file world whole trees) (enumerate_from n commands) ≡ block_wrong file world whole trees n (block_of commands)
  from-number trees n [] = refl
  from-number trees n (command ∷ commands) =
      ap (λ (wrongs : List Wrong). command_wrong file world whole (tree_at whole trees n) command ++ wrongs) (from-number trees (n + 1) commands)
      ∙ sym (followed-wrong trees n command (block_of commands))

  -- the commands of a list
  pub commands-told : (trees : List Tree) (commands : List Command) → commands_wrong file world whole trees commands ≡ block_wrong file world whole trees 0 (block_of commands)
  commands-told trees commands = from-number trees 0 commands

row_blocks : (n : _) (row : Row_of-Command n) → block_of (items-the_row-Command n row) ≡ row_block row
row_blocks n end_of-Command = refl
row_blocks n (more_of-Command command rest) = ap (followed command) (row_blocks _ rest)

abbrev pub yes_row : Command → (n : _) × Row_of-Command n
yes_row (If' test s left t right) = (_, left)
yes_row _ = (_, end_of-Command)

abbrev pub no_row : Command → (n : _) × Row_of-Command n
no_row (If' test s left t right) = (_, right)
no_row _ = (_, end_of-Command)

abbrev pub body_row : Command → (n : _) × Row_of-Command n
body_row (While' test note s body) = (_, body)
body_row _ = (_, end_of-Command)

pub yes-block : (test : Formula) (chosen other : List Command) → row_block (yes_row (IfOf test chosen other)).1 ≡ block_of chosen
yes-block test chosen other = let row = yes_row (IfOf test chosen other) in sym (row_blocks row.0 row.1) ∙ ap block_of (items_hidden-the_row-Command-0 chosen)

pub no-block : (test : Formula) (chosen other : List Command) → row_block (no_row (IfOf test chosen other)).1 ≡ block_of other
no-block test chosen other = let row = no_row (IfOf test chosen other) in sym (row_blocks row.0 row.1) ∙ ap block_of (items_hidden-the_row-Command-0 other)

pub body-block : (test note : Formula) (body : List Command) → row_block (body_row (WhileOf test note body)).1 ≡ block_of body
body-block test note body = let row = body_row (WhileOf test note body) in sym (row_blocks row.0 row.1) ∙ ap block_of (items_hidden-the_row-Command-0 body)

module _ (file : File) (world : World) (whole tree : Tree) where
  abbrev on_yes : List Tree
  on_yes = behind (part_at tree 2)

  abbrev on_no : List Tree
  on_no = behind (part_at tree 3)

  -- a choice, by the commands of its sides
  pub if-wrong : (test : Formula) (chosen other : List Command) →
      command_wrong file world whole tree (IfOf test chosen other) ≡ commands_wrong file world whole on_yes chosen ++ commands_wrong file world whole on_no other
  if-wrong test chosen other =
      ap (λ b. block_wrong file world whole on_yes 0 b ++ block_wrong file world whole on_no 0 (row_block (no_row (IfOf test chosen other)).1)) (yes-block test chosen other)
      ∙ ap (λ b. block_wrong file world whole on_yes 0 (block_of chosen) ++ block_wrong file world whole on_no 0 b) (no-block test chosen other)
      ∙ ap (λ (wrongs : List Wrong). wrongs ++ block_wrong file world whole on_no 0 (block_of other)) (sym (commands-told file world whole on_yes chosen))
      ∙ ap (λ (wrongs : List Wrong). commands_wrong file world whole on_yes chosen ++ wrongs) (sym (commands-told file world whole on_no other))

  -- a loop, by the commands of its body
  pub while-wrong : (test note : Formula) (body : List Command) →
      command_wrong file world whole tree (WhileOf test note body) ≡ formula_wrong world (part_at tree 2) note ++ commands_wrong file world whole (drop 3 (parts_of tree)) body
  while-wrong test note body =
      ap (λ b. formula_wrong world (part_at tree 2) note ++ block_wrong file world whole (drop 3 (parts_of tree)) 0 b) (body-block test note body)
      ∙ ap (λ (wrongs : List Wrong). formula_wrong world (part_at tree 2) note ++ wrongs) (sym (commands-told file world whole (drop 3 (parts_of tree)) body))
