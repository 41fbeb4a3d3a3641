use Rattle.std.proofs.Common.{refl}
use Rattle.dl_shown.proofs.programs.procedure.Goals as goal

pub returns : goal.returns
returns c =
    rw (c.list.ensures, c.in_ok-push-8.ensures.ok, c.in_ok-returned.ensures, c.in_ok-push-7.ensures.ok, c.in_ok-block.ensures, c.in_ok-push-6.ensures.ok, c.in_ok-claim-2.ensures, c.in_ok-push-5.ensures.ok, c.in_ok-claim.ensures, c.in_ok-push-4.ensures.ok, c.in_ok-named.ensures, c.in_ok-push-3.ensures.ok, c.in_ok-arguments.ensures, c.in_ok-push-2.ensures.ok, c.in_ok-world.ensures, c.in_ok-push.ensures.ok, c.in_ok-name.ensures, c.in_ok-parts.ensures, c.as_slice.ensures, c.as_slice-2.ensures, c.as_slice-3.ensures) refl
