-- The list of the nodes, one after another.
use Rattle.std.proofs.Common.{◌≡◌, ℕ, suc, ◌+◌, ◌-◌, ◌<◌, List, [], ◌∷◌, ◌++◌, append_assoc, sym, ap, ◌∙◌, arith}
use Rattle.dl_tree.specs.declared.tree.Tree.{Tree}
use Rattle.dl_forms.specs.Table.{NameTable}
use Rattle.dl_shown.specs.Shown.{name_of, nodes_from}

pub next_node : (names : NameTable) (first node count : ℕ) (parts new whole : List Tree) → node < count →
    parts ++ nodes_from names (first + node) (count - node) ≡ whole → new ≡ parts ++ name_of names (first + node) ∷ [] →
    new ++ nodes_from names (first + (node + 1)) (count - (node + 1)) ≡ whole
next_node names first node count parts new whole within before is =
    let left : count - node ≡ suc (count - (node + 1)) = omega (arith, within) in
    let at : first + (node + 1) ≡ suc (first + node) = omega arith in
    ap (λ p. p ++ nodes_from names (first + (node + 1)) (count - (node + 1))) is
    ∙ (append_assoc parts (name_of names (first + node) ∷ []) (nodes_from names (first + (node + 1)) (count - (node + 1)))
    ∙ (ap (λ s. parts ++ name_of names (first + node) ∷ nodes_from names s (count - (node + 1))) at
    ∙ (sym (ap (λ k. parts ++ nodes_from names (first + node) k) left) ∙ before)))
