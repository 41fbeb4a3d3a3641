use Rattle.std.proofs.Common.{sym, ◌∙◌, ap, arith}
use Rattle.dl_triples.specs.Points.{note_of}
use Rattle.dl_triples.specs.Built.{stays_at}
use Rattle.dl_built.proofs.Whole.{stays-later}
use Rattle.dl_built.proofs.others.stays.Goals as goal

pub returns-then-point-eq0 : goal.returns-then-point-eq0
returns-then-point-eq0 c = sym (ap (stays_at c.args.proc.now) c.if-point-eq0.true)

pub returns : goal.returns
returns c = c.note_at.ensures ∙ ap note_of c.commands_from.ensures ∙ stays-later c.args.proc.now c.args.point (omega (arith, c.if-point-eq0.false))
