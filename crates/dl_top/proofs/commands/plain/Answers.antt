use Rattle.std.proofs.Common.{◌≡◌, None}
use Rattle.dl_top.specs.Words.{command_of, served}
use Rattle.dl_top.specs.Lines.{usage_line}
use Rattle.dl_top.proofs.Reading.{answers-usage}
use Rattle.dl_top.proofs.commands.plain.Goals as goal

pub returns-in-None-clause-answer : goal.returns-in-None-clause-answer
returns-in-None-clause-answer g c =
    let none : served (command_of c.args.words.now) ≡ None = cc in
    let line : c.as_bytes.result.now ≡ usage_line = c.as_bytes.ensures.value in
    rw none (answers-usage 1048576 _ _ _ _ _ _ (rw line at c.write_line.ensures.line))
