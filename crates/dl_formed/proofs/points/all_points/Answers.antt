use Rattle.std.proofs.Common.{◌≡◌, ◌<◌, ◌≤◌, List, length, min, refl, ◌∙◌, ap, arith}
use Rattle.dl_model.specs.declared.program.Command.{Command}
use Rattle.dl_model.specs.declared.program.Proc.{Proc}
use Rattle.dl_formed.specs.Programs.{points_of, points_of_procs}
use Rattle.dl_formed.proofs.Running.{sum-ends, sum-here}
use Rattle.dl_formed.proofs.points.all_points.Goals as goal

pub loop-proc-preserved : goal.loop-proc-preserved
loop-proc-preserved c =
    let within : c.loop-proc.proc-index < length c.args.procs.now = omega arith in
    let inner : c.points_of.result ≡ min (points_of c.proc-item.result.body) 18446744073709551615 =
    c.points_of.ensures ∙ ap (λ (commands : List Command). min (points_of commands) 18446744073709551615) c.as_slice.ensures in (
      omega (arith, c.saturating_add-points.ensures),
      sum-here points_of_procs (λ (proc : Proc). points_of proc.body) c.args.procs.now c.loop-proc.proc-index c.loop-proc.points c.proc-item.result c.points_of.result c.saturating_add-points.result
          (λ y ys. refl) within c.proc-item.is inner c.saturating_add-points.ensures c.loop-proc.invariant.1,
    )

pub returns : goal.returns
returns c =
    let past : length c.args.procs.now ≤ c.loop-proc.proc-index = omega arith in
    sum-ends points_of_procs c.args.procs.now c.loop-proc.proc-index c.loop-proc.points refl past c.loop-proc.invariant.0 c.loop-proc.invariant.1
