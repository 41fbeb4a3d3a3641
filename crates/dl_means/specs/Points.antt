-- The points of a procedure: its commands with an annotation, from 1 on, in the order in which they are written.
use Rattle.std.specs.Prelude.{ℕ, zero, suc, Bool, true, false, not, List, [], ◌∷◌, ◌++◌, slice_get, unwrap_or}
use Rattle.dl_model.specs.declared.file.Decls.{Decls}
use Rattle.dl_model.specs.Block.{Block, Done, Sends, Awaits, Polls, Reads, Sets, Ifs, Whiles, Calls, block_of}
use Rattle.dl_model.specs.Lookup.{proc_at}
use Rattle.dl_sequent.specs.declared.duty.Duty.{Duty}
use Rattle.dl_sequent.specs.declared.duty.Duty.TheVariants as duty

-- of each point whether it is a send
abbrev pub send_points : Block → List Bool
send_points Done = []
send_points (Sends note label tag to args rest) = true ∷ send_points rest
send_points (Awaits note label tag sender args rest) = false ∷ send_points rest
send_points (Polls note got label tag sender args rest) = false ∷ send_points rest
send_points (Reads note into label field index rest) = false ∷ send_points rest
send_points (Sets target value rest) = send_points rest
send_points (Ifs test left right rest) = send_points left ++ (send_points right ++ send_points rest)
send_points (Whiles test note body rest) = false ∷ send_points body ++ send_points rest
send_points (Calls note frame into callee args rest) = false ∷ send_points rest

abbrev pub is_send_in : List Bool → ℕ → Bool
is_send_in points zero = false
is_send_in points (suc k) = unwrap_or (slice_get points k) false

-- the point of this number is a send
abbrev pub is_send : Decls → ℕ → ℕ → Bool
is_send decls proc point = is_send_in (send_points (block_of (proc_at decls.procs proc).body)) point

-- what follows a send, and what follows a read, are written alike
abbrev pub fits_point : Decls → Duty → Bool
fits_point decls (duty.AfterSend proc point) = is_send decls proc point
fits_point decls (duty.AfterRead proc point) = not (is_send decls proc point)
fits_point decls _ = true
