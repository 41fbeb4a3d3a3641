use Rattle.std.proofs.Common.{◌≡◌, ◌∷◌, ℤ, drop}
use Rattle.std.specs.Prelude.{pos, codes}
use Rattle.std.specs.List.{list_any}
use Rattle.dl_notation.specs.Values.{is_outside, node_values, value}
use Rattle.dl_rules.proofs.values.is_first_outside.Given as goal

abbrev pub invariant-loop-node : goal.invariant-loop-node
invariant-loop-node l = record {
  counted : l.me ≡ pos l._node-index;
  outside : list_any (λ (me : ℤ). is_outside l.walk.scope.sort (value l.tree ((codes "me", me) ∷ l.walk.words.entries))) (node_values l._node-index (drop l._node-index l.walk.nodes))
      ≡ list_any (λ (me : ℤ). is_outside l.walk.scope.sort (value l.tree ((codes "me", me) ∷ l.walk.words.entries))) (node_values 0 l.walk.nodes);
}
