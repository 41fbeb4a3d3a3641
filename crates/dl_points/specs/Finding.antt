-- Where a point stands, and what has to hold after it, as the code looks for them. Points go by their numbers from 0 on.
use Rattle.std.specs.Prelude.{ℕ, zero, suc, ◌+◌, ◌-◌, nat_lt, if◌then◌else◌}
use Rattle.dl_term.specs.declared.syntax.Formula.{Formula, True}
use Rattle.dl_model.specs.declared.program.Command.{Command, Send, Await, Poll, Read, Set, If', While', Call}
use Rattle.dl_model.specs.Block.{Block, Done, Sends, Awaits, Polls, Reads, Sets, Ifs, Whiles, Calls, followed, row_block}
use Rattle.dl_model.specs.Formed.{points}
use Rattle.dl_triples.specs.Points.{pre_of}

abbrev pub at_zero : {X : Type 0} → X → (ℕ → X) → ℕ → X
at_zero x f zero = x
at_zero x f (suc k) = f k

-- the block that begins with the point, and no command where there is no such point
abbrev pub found_in : Block → ℕ → Block
found_in Done k = Done
found_in (Sends note label tag to args rest) k = if nat_lt k 1 then Sends note label tag to args rest else found_in rest (k - 1)
found_in (Awaits note label tag sender args rest) k = if nat_lt k 1 then Awaits note label tag sender args rest else found_in rest (k - 1)
found_in (Polls note got label tag sender args rest) k = if nat_lt k 1 then Polls note got label tag sender args rest else found_in rest (k - 1)
found_in (Reads note into label field index rest) k = if nat_lt k 1 then Reads note into label field index rest else found_in rest (k - 1)
found_in (Sets target value rest) k = found_in rest k
found_in (Ifs test left right rest) k =
    if nat_lt k (points left + points right) then (if nat_lt k (points left) then found_in left k else found_in right (k - points left))
    else found_in rest (k - (points left + points right))
found_in (Whiles test note body rest) k =
    if nat_lt k (1 + points body) then at_zero (Whiles test note body rest) (λ n. found_in body n) k else found_in rest (k - (1 + points body))
found_in (Calls note frame into callee args rest) k = if nat_lt k 1 then Calls note frame into callee args rest else found_in rest (k - 1)

-- the same for a point of one of two sides
abbrev pub found_in_sides : Block → Block → ℕ → Block
found_in_sides left right k = if nat_lt k (points left) then found_in left k else found_in right (k - points left)

-- the same for a point of a command, with the commands that follow it
abbrev pub found_at : Command → (rest : Block) → ℕ → Block
found_at (Send note label tag to args) rest k = Sends note label tag to args rest
found_at (Await note label tag sender args) rest k = Awaits note label tag sender args rest
found_at (Poll note got label tag sender args) rest k = Polls note got label tag sender args rest
found_at (Read note into label field index) rest k = Reads note into label field index rest
found_at (Set target value) rest k = Done
found_at (If' test _ left _ right) rest k = found_in_sides (row_block left) (row_block right) k
found_at (While' test note _ body) rest k = at_zero (Whiles test note (row_block body) rest) (λ n. found_in (row_block body) n) k
found_at (Call note frame into callee args) rest k = Calls note frame into callee args rest

-- what has to hold after the point, where `after` has to hold at the end of the block
abbrev pub next_in : Block → (after : Formula) → ℕ → Formula
next_in Done after k = True
next_in (Sends note label tag to args rest) after k = if nat_lt k 1 then pre_of rest after else next_in rest after (k - 1)
next_in (Awaits note label tag sender args rest) after k = if nat_lt k 1 then pre_of rest after else next_in rest after (k - 1)
next_in (Polls note got label tag sender args rest) after k = if nat_lt k 1 then pre_of rest after else next_in rest after (k - 1)
next_in (Reads note into label field index rest) after k = if nat_lt k 1 then pre_of rest after else next_in rest after (k - 1)
next_in (Sets target value rest) after k = next_in rest after k
next_in (Ifs test left right rest) after k =
    if nat_lt k (points left + points right) then (if nat_lt k (points left) then next_in left (pre_of rest after) k else next_in right (pre_of rest after) (k - points left))
    else next_in rest after (k - (points left + points right))
next_in (Whiles test note body rest) after k =
    if nat_lt k (1 + points body) then at_zero (pre_of rest after) (λ n. next_in body note n) k else next_in rest after (k - (1 + points body))
next_in (Calls note frame into callee args rest) after k = if nat_lt k 1 then pre_of rest after else next_in rest after (k - 1)

-- the same for a point of one of two sides
abbrev pub next_in_sides : Block → Block → (after : Formula) → ℕ → Formula
next_in_sides left right after k = if nat_lt k (points left) then next_in left after k else next_in right after (k - points left)

-- the same for a point of a command, where `next` has to hold after the command
abbrev pub next_at : Command → (next : Formula) → ℕ → Formula
next_at (Send note label tag to args) next k = next
next_at (Await note label tag sender args) next k = next
next_at (Poll note got label tag sender args) next k = next
next_at (Read note into label field index) next k = next
next_at (Set target value) next k = next
next_at (If' test _ left _ right) next k = next_in_sides (row_block left) (row_block right) next k
next_at (While' test note _ body) next k = at_zero next (λ n. next_in (row_block body) note n) k
next_at (Call note frame into callee args) next k = next
