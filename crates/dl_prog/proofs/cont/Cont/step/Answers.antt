use Rattle.std.proofs.Common.{◌≡◌, None, List, sym, ◌∙◌, ap}
use Rattle.std.specs.Prelude.{slice_get}
use Rattle.std.specs.Option.{option_copied}
use Rattle.dl_model.specs.declared.program.Command.{Command}
use Rattle.dl_prog.specs.Places.{commands_in}
use Rattle.dl_prog.proofs.Moving.{none-past}
use Rattle.dl_prog.proofs.cont.Cont.step.Goals as goal

pub leave-requires-clause-past : goal.leave-requires-clause-past
leave-requires-clause-past c =
    let procs = c.args.procs.now in
    let old = c.args.self.now in
    let gone : slice_get (commands_in procs old.steps.items) old.at ≡ None =
    sym (c.command_at.ensures.value ∙ ap (λ (cs : List Command). slice_get cs old.at) c.requires.commands) ∙ ap option_copied c.in-None.is in
    none-past (commands_in procs old.steps.items) old.at gone
