use Rattle.std.proofs.Common.{◌∙◌, sym}
use Rattle.dl_sequent.proofs.Bounded.{node-term-sound}
use Rattle.dl_sequent.proofs.ranges.is_node_term.Goals as goal

pub returns-clause-sound : goal.returns-clause-sound
returns-clause-sound c = λ grounded h. node-term-sound c.args.inst.now c.args.sequent.now c.args.term.now grounded (sym c.is_within_nodes.ensures ∙ h)
