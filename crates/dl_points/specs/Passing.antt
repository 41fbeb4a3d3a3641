-- What commands ask for, as the code goes backwards through them, and which commands it has to look at.
use Rattle.std.specs.Prelude.{ℕ, suc, Bool, true, false, ◌&&◌, ◌||◌, if◌then◌else◌, List, [], ◌∷◌}
use Rattle.dl_term.specs.declared.syntax.Formula.{Formula, And, Implies, Not}
use Rattle.dl_model.specs.declared.program.Command.{Command, Send, Await, Poll, Read, Set, If', While', Call}
use Rattle.dl_model.specs.Block.{Block, Done, Sends, Awaits, Polls, Reads, Sets, Ifs, Whiles, Calls, block_of, row_block}
use Rattle.dl_subst.specs.Substitution.{substituted}
use Rattle.dl_points.specs.declared.backward.Trail.{Trail, Returns, Repeats, Runs'}
use Rattle.dl_triples.specs.Points.{pre_of, post_of}

-- ---- what a command asks for

abbrev pub pre_of_command : Command → (after : Formula) → Formula
pre_of_command (Send note label tag to args) after = note
pre_of_command (Await note label tag sender args) after = note
pre_of_command (Poll note got label tag sender args) after = note
pre_of_command (Read note into label field index) after = note
pre_of_command (Set target value) after = substituted after target value
pre_of_command (If' test _ left _ right) after =
    And (Implies test (pre_of (row_block left) after)) (Implies (Not test) (pre_of (row_block right) after))
pre_of_command (While' test note _ body) after = note
pre_of_command (Call note frame into callee args) after = note

abbrev pub pre_of_commands : List Command → (after : Formula) → Formula
pre_of_commands [] after = after
pre_of_commands (command ∷ commands) after = pre_of_command command (pre_of_commands commands after)

-- ---- which commands matter: those up to the first one that no way passes without a point

abbrev pub block_passes : Block → Bool
block_passes Done = true
block_passes (Sends note label tag to args rest) = false
block_passes (Awaits note label tag sender args rest) = false
block_passes (Polls note got label tag sender args rest) = false
block_passes (Reads note into label field index rest) = false
block_passes (Sets target value rest) = block_passes rest
block_passes (Ifs test left right rest) = (block_passes left || block_passes right) && block_passes rest
block_passes (Whiles test note body rest) = false
block_passes (Calls note frame into callee args rest) = false

abbrev pub command_passes : Command → Bool
command_passes (Send note label tag to args) = false
command_passes (Await note label tag sender args) = false
command_passes (Poll note got label tag sender args) = false
command_passes (Read note into label field index) = false
command_passes (Set target value) = true
command_passes (If' test _ left _ right) = block_passes (row_block left) || block_passes (row_block right)
command_passes (While' test note _ body) = false
command_passes (Call note frame into callee args) = false

abbrev pub reach_of : List Command → ℕ
reach_of [] = 0
reach_of (command ∷ commands) = if command_passes command then suc (reach_of commands) else 1

-- ---- what comes after a command

-- what has to hold where the trail begins
abbrev pub after_of : Trail → Formula
after_of (Returns proc) = post_of proc.now
after_of (Repeats note) = note.now
after_of (Runs' p outer commands) = pre_of (block_of commands.now) (after_of outer)
