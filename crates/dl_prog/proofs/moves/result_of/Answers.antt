use Rattle.std.proofs.Common.{◌≡◌, Some, sym, ◌∙◌, ap}
use Rattle.std.specs.Prelude.{slice_get}
use Rattle.std.specs.Option.{option_copied}
use Rattle.dl_prog.proofs.moves.result_of.Goals as goal

pub number-requires : goal.number-requires
number-requires c =
    let there : slice_get c.args.procs.now c.from.result ≡ Some c.in-Some.proc.now = sym c.at.ensures ∙ ap option_copied c.in-Some.is in
    (c.requires.each c.from.result c.in-Some.proc.now there).result
