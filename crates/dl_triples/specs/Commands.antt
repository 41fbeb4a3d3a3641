-- The points and the obligations of commands, as the code goes through them.
use Rattle.std.specs.Prelude.{ℕ, ◌+◌, List, [], ◌∷◌, ◌++◌}
use Rattle.dl_model.specs.declared.program.Command.{Command, Send, Await, Poll, Read, Set, If', While', Call}
use Rattle.dl_model.specs.declared.file.Decls.{Decls}
use Rattle.dl_model.specs.Block.{row_block}
use Rattle.dl_model.specs.Formed.{points}
use Rattle.dl_sequent.specs.declared.duty.Duty.{Duty}
use Rattle.dl_triples.specs.Duties.{duties_of_send, duties_of_await, duties_of_poll, duties_of_read, duties_of_loop, duties_of_call, duties_of_block}

-- the points of a command, without those of what follows it
abbrev pub command_points : Command → ℕ
command_points (Send note label tag to args) = 1
command_points (Await note label tag sender args) = 1
command_points (Poll note got label tag sender args) = 1
command_points (Read note into label field index) = 1
command_points (Set target value) = 0
command_points (If' test _ left _ right) = points (row_block left) + points (row_block right)
command_points (While' test note _ body) = 1 + points (row_block body)
command_points (Call note frame into callee args) = 1

abbrev pub points_of_commands : List Command → ℕ
points_of_commands [] = 0
points_of_commands (command ∷ commands) = command_points command + points_of_commands commands

-- the obligations of a command whose first point has this number
abbrev pub duties_of_command : Decls → ℕ → ℕ → Command → List Duty
duties_of_command decls proc k (Send note label tag to args) = duties_of_send decls proc k note
duties_of_command decls proc k (Await note label tag sender args) = duties_of_await decls proc k note
duties_of_command decls proc k (Poll note got label tag sender args) = duties_of_poll decls proc k note
duties_of_command decls proc k (Read note into label field index) = duties_of_read decls proc k note
duties_of_command decls proc k (Set target value) = []
duties_of_command decls proc k (If' test _ left _ right) =
    duties_of_block decls proc k (row_block left) ++ duties_of_block decls proc (k + points (row_block left)) (row_block right)
duties_of_command decls proc k (While' test note _ body) = duties_of_loop decls proc k note ++ duties_of_block decls proc (k + 1) (row_block body)
duties_of_command decls proc k (Call note frame into callee args) = duties_of_call decls proc k note frame

abbrev pub duties_of_commands : Decls → ℕ → ℕ → List Command → List Duty
duties_of_commands decls proc k [] = []
duties_of_commands decls proc k (command ∷ commands) =
    duties_of_command decls proc k command ++ duties_of_commands decls proc (k + command_points command) commands
