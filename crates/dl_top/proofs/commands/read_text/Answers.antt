use Rattle.std.proofs.Common.{◌≡◌, ◌<◌, ◌≤◌, Some, length, subst}
use Rattle.std.proofs.KnownBytes.{Appends-nil}
use Rattle.dl_io.specs.Whole.{IsLimitOf}
use Rattle.dl_top.specs.Lines.{too_long_line}
use Rattle.dl_top.proofs.Reading.{answers-no-memory, answers-read, answers-too-long}
use Rattle.dl_top.proofs.commands.read_text.Goals as goal

pub returns-in-Ok-clause-answer : goal.returns-in-Ok-clause-answer
returns-in-Ok-clause-answer g c =
    answers-read (λ v. v.items) c.in-Ok.text c.as_slice.result.now (Some c.args.command) 1048576 _ _ _ _ _ _ _ _ _ c.in-Ok.ensures.whole c.as_slice.ensures.value
    c.answer_text.ensures.status c.answer_text.ensures.write_fault c.answer_text.ensures.written

pub returns-in-Err-TooLong-clause-answer : goal.returns-in-Err-TooLong-clause-answer
returns-in-Err-TooLong-clause-answer g c =
    let read = c.in-Err-TooLong.ensures.whole in
    let line : c.as_bytes-in-Err-TooLong.result.now ≡ too_long_line = c.as_bytes-in-Err-TooLong.ensures.value in
    let long : 1048576 < length read.given = subst (IsLimitOf read.given 1048576) c.in-Err-TooLong.field-0-is read.answer in
    answers-too-long (Some c.args.command) 1048576 _ _ _ _ _ _ _ _ read.given read.consumed long (rw line at c.write_line-in-Err-TooLong.ensures.line)

pub returns-in-Err-Memory-clause-answer : goal.returns-in-Err-Memory-clause-answer
returns-in-Err-Memory-clause-answer g c =
    let read = c.in-Err-Memory.ensures.whole in
    let short : length read.given ≤ 1048576 = subst (IsLimitOf read.given 1048576) c.in-Err-Memory.field-0-is read.answer in
    answers-no-memory (Some c.args.command) 1048576 _ _ _ _ _ _ _ _ read.given read.consumed short (Appends-nil (g.K.Sink.written c.args.sink.now))
