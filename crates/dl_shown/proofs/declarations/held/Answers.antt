use Rattle.std.proofs.Common.{refl}
use Rattle.dl_shown.proofs.declarations.held.Goals as goal

pub returns : goal.returns
returns c =
    rw (c.list.ensures, c.in_ok-push-3.ensures.ok, c.in_ok-formula.ensures, c.in_ok-push-2.ensures.ok, c.in_ok-world.ensures, c.in_ok-push.ensures.ok, c.in_ok-name.ensures, c.in_ok-parts.ensures) refl
