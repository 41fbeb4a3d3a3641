use Rattle.std.proofs.Common.{sym, ◌∙◌, ap, arith}
use Rattle.dl_model.specs.declared.program.Command.{Command}
use Rattle.std.proofs.Common.{List, ◌-◌}
use Rattle.dl_model.specs.Block.{block_of}
use Rattle.dl_points.specs.Finding.{found_in}
use Rattle.dl_points.proofs.Finding.{point-found, point-none}
use Rattle.dl_points.proofs.points.commands_from.Goals as goal

pub returns-then-point-eq0 : goal.returns-then-point-eq0
returns-then-point-eq0 c = point-none c.args.proc.now c.args.point c.if-point-eq0.true

pub returns : goal.returns
returns c =
    c.find.ensures ∙ (ap (λ (cs : List Command). found_in (block_of cs) (c.args.point - 1)) c.as_slice.ensures ∙ point-found c.args.proc.now c.args.point (omega (arith, c.if-point-eq0.false)))
