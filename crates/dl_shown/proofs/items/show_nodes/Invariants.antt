use Rattle.std.proofs.Common.{◌≡◌, ◌++◌, ◌∷◌, ◌+◌, ◌-◌}
use Rattle.std.specs.Prelude.{codes}
use Rattle.dl_model.specs.Words.{first_name}
use Rattle.dl_forms.specs.Show.{symbol}
use Rattle.dl_shown.specs.Shown.{nodes_from}
use Rattle.dl_shown.proofs.items.show_nodes.Given as goal

abbrev pub invariant-loop-at : goal.invariant-loop-at
invariant-loop-at l =
    l.parts ++ nodes_from l.names (first_name + l.at) (l.decls.inst.nodes - l.at) ≡ symbol (codes "nodes") ∷ nodes_from l.names first_name l.decls.inst.nodes
