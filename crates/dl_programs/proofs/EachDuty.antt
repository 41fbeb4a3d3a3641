-- What holds of each obligation that a procedure may have holds of those that it has.
use Rattle.std.proofs.Common.{ℕ, ◌+◌, Bool, true, false, if◌then◌else◌, Option, Some, None, List, [], ◌∷◌, ◌++◌, slice_get, unwrap_or}
use Rattle.std.specs.List.{AllByRecursion as Each}
use Rattle.dl_term.specs.declared.syntax.Lab.{Lab}
use Rattle.dl_term.specs.declared.syntax.Lab.TheVariants.{At}
use Rattle.dl_term.specs.declared.syntax.Formula.{Formula}
use Rattle.dl_model.specs.declared.protocol.Transition.{Transition}
use Rattle.dl_model.specs.declared.protocol.Tag.{Tag}
use Rattle.dl_model.specs.declared.protocol.Protocol.{Protocol}
use Rattle.dl_model.specs.declared.file.World.{World}
use Rattle.dl_model.specs.declared.file.Decls.{Decls}
use Rattle.dl_model.specs.Block.{Block, Done, Sends, Awaits, Polls, Reads, Sets, Ifs, Whiles, Calls, block_of}
use Rattle.dl_model.specs.Formed.{points}
use Rattle.dl_model.specs.Lookup.{protocol_at, no_tag, proc_at, world_of}
use Rattle.dl_sequent.specs.declared.duty.Duty.{Duty}
use Rattle.dl_sequent.specs.declared.duty.Duty.TheVariants.{Start, Guard, AfterSend, Got, Miss, AfterRead, Body, Exit, Enter, Leave, Stable, Frame}
use Rattle.dl_inv.specs.Touched.{is_touched}
use Rattle.dl_inv.specs.Duties.{send_touch, receive_touch, if_touched, positions}
use Rattle.dl_inv.proofs.Lists.{each-append, each-flat}
use Rattle.dl_triples.specs.Duties.{by_another, receive_of_another, steps_of_another, steps_of_others, steps_of_world, stability, frame_stability, duties_of_send, duties_of_await, duties_of_poll, duties_of_read, duties_of_loop, duties_of_call, duties_of_block, duties_of_proc}

pub everywhere : {X : Type 0} (P : X → Type 0) (xs : List X) → ((x : X) → P x) → Each P xs
everywhere P [] h = tt
everywhere P (x ∷ xs) h = (h x, everywhere P xs h)

-- each obligation that the procedure with this number may have
pub record OfProc (P : Duty → Type 0) (p : ℕ) : Type 0 where
  pub start : P (Start p)
  pub guard : (k : ℕ) → P (Guard p k)
  pub after_send : (k : ℕ) → P (AfterSend p k)
  pub got : (k : ℕ) → P (Got p k)
  pub miss : (k : ℕ) → P (Miss p k)
  pub after_read : (k : ℕ) → P (AfterRead p k)
  pub body : (k : ℕ) → P (Body p k)
  pub exit : (k : ℕ) → P (Exit p k)
  pub enter : (k : ℕ) → P (Enter p k)
  pub leave : (k : ℕ) → P (Leave p k)
  pub stable : (k label tag : ℕ) (receive : Bool) → P (Stable p k label tag receive)
  pub frame : (k label tag : ℕ) (receive : Bool) → P (Frame p k label tag receive)

module _ (P : Duty → Type 0) where
  pub one-if : (b : Bool) (duty : Duty) → P duty → Each P (if b then duty ∷ [] else [])
  one-if true duty h = (h, tt)
  one-if false duty h = tt

  of-receive : (duty : Duty) (label : Lab) (tag : ℕ) (f : Formula) (o : Option Transition) → P duty → Each P (receive_of_another duty label tag f o)
  of-receive duty label tag f (Some t) h = one-if (is_touched (by_another (receive_touch label tag t)) f) duty h
  of-receive duty label tag f None h = tt

  of-tag : (duty : Bool → Duty) (label : Lab) (tag : ℕ) (f : Formula) (t : Tag) → ((receive : Bool) → P (duty receive)) → Each P (steps_of_another duty label tag f t)
  of-tag duty label tag f t h =
      each-append P (if_touched (by_another (send_touch label tag t.send)) f (duty false)) (receive_of_another (duty true) label tag f t.receive)
      (one-if (is_touched (by_another (send_touch label tag t.send)) f) (duty false) (h false)) (of-receive (duty true) label tag f t.receive (h true))

  of-tags : (duty : ℕ → Bool → Duty) (label : Lab) (f : Formula) (protocol : Protocol) → ((tag : ℕ) (receive : Bool) → P (duty tag receive)) → Each P (steps_of_others duty label f protocol)
  of-tags duty label f protocol h =
      each-flat P (λ tag. steps_of_another (duty tag) label tag f (unwrap_or (slice_get protocol.tags tag) no_tag)) (positions protocol.tags)
      (everywhere (λ tag. Each P (steps_of_another (duty tag) label tag f (unwrap_or (slice_get protocol.tags tag) no_tag))) (positions protocol.tags)
      (λ tag. of-tag (duty tag) label tag f (unwrap_or (slice_get protocol.tags tag) no_tag) (h tag)))

  of-world : (d : Decls) (world : World) (duty : ℕ → ℕ → Bool → Duty) (f : Formula) → ((label tag : ℕ) (receive : Bool) → P (duty label tag receive)) → Each P (steps_of_world d world duty f)
  of-world d world duty f h =
      each-flat P (λ label. steps_of_others (duty label) (At label) f (protocol_at d.inst label)) world.labels
      (everywhere (λ label. Each P (steps_of_others (duty label) (At label) f (protocol_at d.inst label))) world.labels (λ label. of-tags (duty label) (At label) f (protocol_at d.inst label) (h label)))

  module _ (d : Decls) (p : ℕ) (each : OfProc P p) where
    of-note : (k : ℕ) (f : Formula) → Each P (stability d p k f)
    of-note k f = of-world d (world_of d p) (Stable p k) f (each.stable k)

    of-frame : (k : ℕ) (f : Formula) → Each P (frame_stability d p k f)
    of-frame k f = of-world d (world_of d p) (Frame p k) f (each.frame k)

    of-block : (block : Block) (k : ℕ) → Each P (duties_of_block d p k block)
    of-block Done k = tt
    of-block (Sends note label tag to args rest) k =
        each-append P (duties_of_send d p k note) (duties_of_block d p (k + 1) rest) (each.guard k, (each.after_send k, of-note k note)) (of-block rest (k + 1))
    of-block (Awaits note label tag sender args rest) k =
        each-append P (duties_of_await d p k note) (duties_of_block d p (k + 1) rest) (each.got k, of-note k note) (of-block rest (k + 1))
    of-block (Polls note got label tag sender args rest) k =
        each-append P (duties_of_poll d p k note) (duties_of_block d p (k + 1) rest) (each.got k, (each.miss k, of-note k note)) (of-block rest (k + 1))
    of-block (Reads note into label field index rest) k =
        each-append P (duties_of_read d p k note) (duties_of_block d p (k + 1) rest) (each.after_read k, of-note k note) (of-block rest (k + 1))
    of-block (Sets target value rest) k = of-block rest k
    of-block (Ifs test left right rest) k =
        each-append P (duties_of_block d p k left ++ duties_of_block d p (k + points left) right) (duties_of_block d p (k + (points left + points right)) rest)
        (each-append P (duties_of_block d p k left) (duties_of_block d p (k + points left) right) (of-block left k) (of-block right (k + points left)))
        (of-block rest (k + (points left + points right)))
    of-block (Whiles test note body rest) k =
        each-append P (duties_of_loop d p k note ++ duties_of_block d p (k + 1) body) (duties_of_block d p (k + (1 + points body)) rest)
        (each-append P (duties_of_loop d p k note) (duties_of_block d p (k + 1) body) (each.body k, (each.exit k, of-note k note)) (of-block body (k + 1)))
        (of-block rest (k + (1 + points body)))
    of-block (Calls note frame into callee args rest) k =
        each-append P (duties_of_call d p k note frame) (duties_of_block d p (k + 1) rest)
        (each.enter k, (each.leave k, each-append P (stability d p k note) (frame_stability d p k frame) (of-note k note) (of-frame k frame)))
        (of-block rest (k + 1))

    pub of-proc : Each P (duties_of_proc d p)
    of-proc = (
      each.start,
      each-append P (duties_of_block d p 1 (block_of (proc_at d.procs p).body)) (stability d p 0 (proc_at d.procs p).post)
          (of-block (block_of (proc_at d.procs p).body) 1) (of-note 0 (proc_at d.procs p).post),
    )
