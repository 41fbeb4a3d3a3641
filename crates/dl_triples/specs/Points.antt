-- The formula that a block of commands asks for where it begins, and the points of a block: its commands that have an annotation.
use Rattle.std.specs.Prelude.{ℕ, zero, suc, List, [], ◌∷◌, ◌++◌, slice_get, unwrap_or}
use Rattle.dl_term.specs.declared.syntax.Formula.{Formula, True, Not, And, Implies}
use Rattle.dl_model.specs.declared.program.Proc.{Proc}
use Rattle.dl_model.specs.Block.{Block, Done, Sends, Awaits, Polls, Reads, Sets, Ifs, Whiles, Calls, block_of}
use Rattle.dl_model.specs.Words.{result_word}
use Rattle.dl_subst.specs.Substitution.{substituted}

-- ---- what a block asks for

-- What has to hold where the block begins, so that `after` holds at its end, if no point comes before: the annotation of the first
-- point on each way. A number that is assigned is put for its local, and a choice asks for what the chosen side asks for.
abbrev pub pre_of : Block → (after : Formula) → Formula
pre_of Done after = after
pre_of (Sends note label tag to args rest) after = note
pre_of (Awaits note label tag sender args rest) after = note
pre_of (Polls note got label tag sender args rest) after = note
pre_of (Reads note into label field index rest) after = note
pre_of (Sets target value rest) after = substituted (pre_of rest after) target value
pre_of (Ifs test left right rest) after = And (Implies test (pre_of left (pre_of rest after))) (Implies (Not test) (pre_of right (pre_of rest after)))
pre_of (Whiles test note body rest) after = note
pre_of (Calls note frame into callee args rest) after = note

-- the postcondition, with what the procedure returns as `result`
abbrev pub post_of : Proc → Formula
post_of proc = substituted proc.post result_word proc.result

-- ---- points

-- A point: the block that begins with its command, and what has to hold at the end of this block. That is the annotation of the loop
-- for the body of a loop, what the rest of the commands ask for for a side of a choice, and the postcondition for the whole body.
pub record Point : Type 0 where
  pub block : Block
  pub after : Formula

-- the points of a block, in the order in which they are written
abbrev pub points_of : Block → (after : Formula) → List Point
points_of Done after = []
points_of (Sends note label tag to args rest) after = record { block = Sends note label tag to args rest; after = after } ∷ points_of rest after
points_of (Awaits note label tag sender args rest) after = record { block = Awaits note label tag sender args rest; after = after } ∷ points_of rest after
points_of (Polls note got label tag sender args rest) after = record { block = Polls note got label tag sender args rest; after = after } ∷ points_of rest after
points_of (Reads note into label field index rest) after = record { block = Reads note into label field index rest; after = after } ∷ points_of rest after
points_of (Sets target value rest) after = points_of rest after
points_of (Ifs test left right rest) after = points_of left (pre_of rest after) ++ (points_of right (pre_of rest after) ++ points_of rest after)
points_of (Whiles test note body rest) after = record { block = Whiles test note body rest; after = after } ∷ (points_of body note ++ points_of rest after)
points_of (Calls note frame into callee args rest) after = record { block = Calls note frame into callee args rest; after = after } ∷ points_of rest after

abbrev pub no_point : Point
no_point = record { block = Done; after = True }

-- the points of a procedure
abbrev pub points_in : Proc → List Point
points_in proc = points_of (block_of proc.body) (post_of proc)

abbrev pub numbered : List Point → ℕ → Point
numbered points zero = no_point
numbered points (suc k) = unwrap_or (slice_get points k) no_point

-- Points are numbered from 1 on.
abbrev pub point_at : Proc → ℕ → Point
point_at proc k = numbered (points_in proc) k

-- ---- what stands at a point

-- its annotation
abbrev pub note_of : Block → Formula
note_of (Sends note label tag to args rest) = note
note_of (Awaits note label tag sender args rest) = note
note_of (Polls note got label tag sender args rest) = note
note_of (Reads note into label field index rest) = note
note_of (Whiles test note body rest) = note
note_of (Calls note frame into callee args rest) = note
note_of _ = True

-- what a call holds on to
abbrev pub frame_of : Block → Formula
frame_of (Calls note frame into callee args rest) = frame
frame_of _ = True

-- the commands that follow
abbrev pub rest_of : Block → Block
rest_of (Sends note label tag to args rest) = rest
rest_of (Awaits note label tag sender args rest) = rest
rest_of (Polls note got label tag sender args rest) = rest
rest_of (Reads note into label field index rest) = rest
rest_of (Whiles test note body rest) = rest
rest_of (Calls note frame into callee args rest) = rest
rest_of _ = Done

-- what has to hold after the point
abbrev pub next_of : Point → Formula
next_of point = pre_of (rest_of point.block) point.after
