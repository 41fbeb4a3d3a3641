-- Which obligations the procedures and the deployment of a file have, in their order.
use Rattle.std.specs.Prelude.{ℕ, ◌+◌, Bool, true, false, List, [], ◌∷◌, ◌++◌, Option, Some, None, map, slice_get, unwrap_or}
use Rattle.std.specs.List.{flat_map}
use Rattle.dl_term.specs.declared.syntax.Lab.{Lab}
use Rattle.dl_term.specs.declared.syntax.Lab.TheVariants.{At}
use Rattle.dl_term.specs.declared.syntax.Formula.{Formula}
use Rattle.dl_model.specs.declared.protocol.Transition.{Transition}
use Rattle.dl_model.specs.declared.protocol.Tag.{Tag}
use Rattle.dl_model.specs.declared.protocol.Protocol.{Protocol}
use Rattle.dl_model.specs.declared.file.World.{World}
use Rattle.dl_model.specs.declared.file.Program.{Program}
use Rattle.dl_model.specs.declared.file.Decls.{Decls}
use Rattle.dl_model.specs.Block.{Block, Done, Sends, Awaits, Polls, Reads, Sets, Ifs, Whiles, Calls, block_of}
use Rattle.dl_model.specs.Formed.{points}
use Rattle.dl_model.specs.Lookup.{protocol_at, no_tag, proc_at, deploy_of, world_of}
use Rattle.dl_sequent.specs.declared.duty.Duty.{Duty}
use Rattle.dl_sequent.specs.declared.duty.Duty.TheVariants.{Start, Guard, AfterSend, Got, Miss, AfterRead, Body, Exit, Enter, Leave, Stable, Frame, Deploy}
use Rattle.dl_inv.specs.Touched.{Touch}
use Rattle.dl_inv.specs.Duties.{send_touch, receive_touch, if_touched, positions}

-- ---- steps of other nodes. A field or row of `me` is not touched by them.

abbrev pub by_another : Touch → Touch
by_another touch = record touch { spares_me = true }

abbrev pub receive_of_another : Duty → Lab → ℕ → Formula → Option Transition → List Duty
receive_of_another duty label tag f (Some transition) = if_touched (by_another (receive_touch label tag transition)) f duty
receive_of_another duty label tag f None = []

-- The steps of a tag that touch a formula: its send, and then its receive. `duty` is the obligation of the one and of the other.
abbrev pub steps_of_another : (Bool → Duty) → Lab → ℕ → Formula → Tag → List Duty
steps_of_another duty label tag f declared =
    if_touched (by_another (send_touch label tag declared.send)) f (duty false) ++ receive_of_another (duty true) label tag f declared.receive

-- the same for each tag of a protocol, in their order
abbrev pub steps_of_others : (ℕ → Bool → Duty) → Lab → Formula → Protocol → List Duty
steps_of_others duty label f protocol =
    flat_map (λ tag. steps_of_another (duty tag) label tag f (unwrap_or (slice_get protocol.tags tag) no_tag)) (positions protocol.tags)

-- the same for each label of a world
abbrev pub steps_of_world : Decls → World → (ℕ → ℕ → Bool → Duty) → Formula → List Duty
steps_of_world decls world duty f = flat_map (λ label. steps_of_others (duty label) (At label) f (protocol_at decls.inst label)) world.labels

-- no step of another node makes the formula at a point false: the annotation, or the postcondition for the point 0
abbrev pub stability : Decls → ℕ → ℕ → Formula → List Duty
stability decls proc k f = steps_of_world decls (world_of decls proc) (Stable proc k) f

-- no step of another node makes false what a call holds on to
abbrev pub frame_stability : Decls → ℕ → ℕ → Formula → List Duty
frame_stability decls proc k f = steps_of_world decls (world_of decls proc) (Frame proc k) f

-- ---- the obligations of a procedure

-- those of a send, its guard and what holds after it, and the stability of its annotation
abbrev pub duties_of_send : Decls → ℕ → ℕ → Formula → List Duty
duties_of_send decls proc k note = Guard proc k ∷ AfterSend proc k ∷ stability decls proc k note

abbrev pub duties_of_await : Decls → ℕ → ℕ → Formula → List Duty
duties_of_await decls proc k note = Got proc k ∷ stability decls proc k note

abbrev pub duties_of_poll : Decls → ℕ → ℕ → Formula → List Duty
duties_of_poll decls proc k note = Got proc k ∷ Miss proc k ∷ stability decls proc k note

abbrev pub duties_of_read : Decls → ℕ → ℕ → Formula → List Duty
duties_of_read decls proc k note = AfterRead proc k ∷ stability decls proc k note

-- those of a loop, without those of its body
abbrev pub duties_of_loop : Decls → ℕ → ℕ → Formula → List Duty
duties_of_loop decls proc k note = Body proc k ∷ Exit proc k ∷ stability decls proc k note

-- those of a call, and the stability of its annotation and of what it holds on to
abbrev pub duties_of_call : Decls → ℕ → ℕ → (note frame : Formula) → List Duty
duties_of_call decls proc k note frame = Enter proc k ∷ Leave proc k ∷ (stability decls proc k note ++ frame_stability decls proc k frame)

-- The obligations of the points of a block, the first of which has this number.
abbrev pub duties_of_block : Decls → ℕ → ℕ → Block → List Duty
duties_of_block decls proc k Done = []
duties_of_block decls proc k (Sends note label tag to args rest) = duties_of_send decls proc k note ++ duties_of_block decls proc (k + 1) rest
duties_of_block decls proc k (Awaits note label tag sender args rest) = duties_of_await decls proc k note ++ duties_of_block decls proc (k + 1) rest
duties_of_block decls proc k (Polls note got label tag sender args rest) = duties_of_poll decls proc k note ++ duties_of_block decls proc (k + 1) rest
duties_of_block decls proc k (Reads note into label field index rest) = duties_of_read decls proc k note ++ duties_of_block decls proc (k + 1) rest
duties_of_block decls proc k (Sets target value rest) = duties_of_block decls proc k rest
duties_of_block decls proc k (Ifs test left right rest) =
    (duties_of_block decls proc k left ++ duties_of_block decls proc (k + points left) right)
    ++ duties_of_block decls proc (k + (points left + points right)) rest
duties_of_block decls proc k (Whiles test note body rest) =
    (duties_of_loop decls proc k note ++ duties_of_block decls proc (k + 1) body) ++ duties_of_block decls proc (k + (1 + points body)) rest
duties_of_block decls proc k (Calls note frame into callee args rest) = duties_of_call decls proc k note frame ++ duties_of_block decls proc (k + 1) rest

-- what its precondition gives, its points, and the stability of its postcondition
abbrev pub duties_of_proc : Decls → ℕ → List Duty
duties_of_proc decls proc =
    Start proc ∷ (duties_of_block decls proc 1 (block_of (proc_at decls.procs proc).body) ++ stability decls proc 0 (proc_at decls.procs proc).post)

-- ---- the list

-- each deployed node, in the order of the deployment
abbrev pub duties_of_deployment : Decls → List Duty
duties_of_deployment decls = map (λ (program : Program). Deploy program.node) (deploy_of decls).programs

-- the procedures in their order, and then the deployed nodes
abbrev pub duties_of : Decls → List Duty
duties_of decls = flat_map (duties_of_proc decls) (positions decls.procs) ++ duties_of_deployment decls
