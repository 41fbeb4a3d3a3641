use Rattle.std.proofs.Common.{◌≡◌, ◌-◌, pos, take, drop, replicate, length}
use Rattle.dl_report.specs.Reading.{integers_from}
use Rattle.dl_report.proofs.Loops.{onto}
use Rattle.dl_report.proofs.call.args.Given as goal

abbrev pub invariant-loop-at : goal.invariant-loop-at
invariant-loop-at l = record {
  read : onto (take l.at l.values) (integers_from (l.count - l.at) l.words) ≡ integers_from l.count l.fn.words;
  rest : drop l.at l.values ≡ replicate (8 - l.at) (pos 0);
  many : length l.values ≡ 8;
}
