use Rattle.std.proofs.Common.{◌≡◌, true}
use Rattle.dl_term.specs.Meaning.{every_below}
use Rattle.dl_formed.specs.Decided.{is_sorted_at}
use Rattle.dl_formed.proofs.protocols.first_is_sorted.Given as goal

abbrev pub invariant-loop-node : goal.invariant-loop-node
invariant-loop-node l = every_below l.node (is_sorted_at l.field) ≡ true
