use Rattle.std.proofs.Common.{◌≡◌, ◌-◌}
use Rattle.dl_report.specs.Reading.{node_from, node_in}
use Rattle.dl_report.proofs.named.node_in.Given as goal

abbrev pub invariant-loop-node : goal.invariant-loop-node
invariant-loop-node l = node_from l.names l.word l.node (l.decls.inst.nodes - l.node) ≡ node_in l.names l.decls l.word
