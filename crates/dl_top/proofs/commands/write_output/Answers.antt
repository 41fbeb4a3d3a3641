use Rattle.std.proofs.Common.{true, false}
use Rattle.dl_top.proofs.Accepting.{front-written, whole-written}
use Rattle.dl_top.proofs.commands.write_output.Goals as goal

pub returns-then-output-clause-written : goal.returns-then-output-clause-written
returns-then-output-clause-written g c =
    whole-written c.args.command c.args.text.now c.as_slice.result.now c.args.output.now.text.items c.args.output.now.ended true (g.K.Sink.written c.args.sink.now) (g.K.Sink.written c.write_all.new.sink) c.as_slice.ensures.value
    c.if-output.true c.requires c.in-Ok.ensures.all

pub returns-else-output-clause-written : goal.returns-else-output-clause-written
returns-else-output-clause-written g c =
    whole-written c.args.command c.args.text.now c.as_slice.result.now c.args.output.now.text.items c.args.output.now.ended false (g.K.Sink.written c.args.sink.now) (g.K.Sink.written c.write_all.new.sink) c.as_slice.ensures.value
    c.if-output.false c.requires c.in-Ok.ensures.all

pub returns-in-Err-clause-written : goal.returns-in-Err-clause-written
returns-in-Err-clause-written g c =
    front-written c.args.command c.args.text.now c.as_slice.result.now c.args.output.now.text.items c.args.output.now.ended (g.K.Sink.written c.args.sink.now) (g.K.Sink.written c.write_all.new.sink) c.as_slice.ensures.value c.requires
    c.in-Err.ensures.prefix
