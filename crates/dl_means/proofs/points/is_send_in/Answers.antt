use Rattle.std.proofs.Common.{◌-◌, ◌∙◌, refl, arith}
use Rattle.dl_means.proofs.CommandLemmas.{positive-point, zero-point}
use Rattle.dl_means.proofs.points.is_send_in.Goals as goal

pub returns-then-point-eq0 : goal.returns-then-point-eq0
returns-then-point-eq0 c = zero-point c.args.points.now c.args.point (omega arith)

pub returns : goal.returns
returns c = c.flag_at.ensures ∙ positive-point c.args.points.now c.args.point (c.args.point - 1) (omega arith) refl
