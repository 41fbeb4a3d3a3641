-- The points of procedures as lists, which the code makes once. Only the crate's private clauses cite them.
use Rattle.std.specs.Prelude.{ℕ, Bool, true, not, List, [], map, slice_get, unwrap_or}
use Rattle.dl_model.specs.declared.program.Command.{Command}
use Rattle.dl_model.specs.declared.program.Proc.{Proc}
use Rattle.dl_model.specs.Block.{Done, followed, block_of}
use Rattle.dl_sequent.specs.declared.duty.Duty.{Duty}
use Rattle.dl_sequent.specs.declared.duty.Duty.TheVariants as duty
use Rattle.dl_means.specs.Points.{send_points, is_send_in}

-- of each point of a command, of commands and of each procedure whether it is a send
abbrev pub flags_of : Command → List Bool
flags_of command = send_points (followed command Done)

abbrev pub flags_in : List Command → List Bool
flags_in commands = send_points (block_of commands)

abbrev pub flags_of_all : List Proc → List (List Bool)
flags_of_all procs = map (λ (proc : Proc). flags_in proc.body) procs

-- by these, whether a point is a send, and whether the name of an obligation fits its point
abbrev pub is_flagged : List (List Bool) → ℕ → ℕ → Bool
is_flagged points proc point = is_send_in (unwrap_or (slice_get points proc) []) point

abbrev pub fits_flags : List (List Bool) → Duty → Bool
fits_flags points (duty.AfterSend proc point) = is_flagged points proc point
fits_flags points (duty.AfterRead proc point) = not (is_flagged points proc point)
fits_flags points _ = true
