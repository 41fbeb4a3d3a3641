-- What the items before a place have declared: the nodes, the sorts with their enumerators, and the worlds.
use Rattle.std.specs.Prelude.{ℕ, suc, ℤ, pos, List, [], ◌∷◌, ◌++◌, length, codes, if◌then◌else◌}
use Rattle.dl_term.specs.declared.syntax.Sort.{Sort}
use Rattle.dl_tree.specs.declared.tree.Tree.{Tree}
use Rattle.dl_forms.specs.Context.{Text}
use Rattle.dl_forms.specs.Judge.{text_of}
use Rattle.dl_notation.specs.Trees.{parts_of, begins_with}
use Rattle.dl_notation.specs.Environment.{WorldNames, Environment, nothing}
use Rattle.dl_notation.specs.Behind.{names_behind_word, declared_sort, declared_world}

-- a constant with its value
abbrev pub with_word : Environment → Text → ℤ → Environment
with_word env text v = record env { words = env.words ++ (text, v) ∷ [] }

-- a node has its index for its value
abbrev pub with_node : Environment → Text → Environment
with_node env text = record (with_word env text (pos (length env.nodes))) { nodes = env.nodes ++ text ∷ [] }

abbrev pub with_nodes : Environment → List Text → Environment
with_nodes env [] = env
with_nodes env (text ∷ texts) = with_nodes (with_node env text) texts

-- the enumerators of a sort have the numbers from 0 on
abbrev pub with_enumerators : Environment → ℕ → List Text → Environment
with_enumerators env at [] = env
with_enumerators env at (text ∷ texts) = with_enumerators (with_word env text (pos at)) (suc at) texts

-- the enumerators of `(enum c ..)`
abbrev pub enumerators_in : Tree → List Text
enumerators_in body = if begins_with (codes "enum") body then names_behind_word body else []

abbrev pub with_named_sort : Environment → Text → Sort → Environment
with_named_sort env text sort = record env { sorts = env.sorts ++ (text, sort) ∷ [] }

abbrev pub with_sort : Environment → Text → Tree → Environment
with_sort env text body = with_named_sort (with_enumerators env 0 (enumerators_in body)) text (declared_sort (parts_of body))

abbrev pub with_world : Environment → Text → WorldNames → Environment
with_world env text world = record env { worlds = env.worlds ++ (text, world) ∷ [] }

-- behind a sort and behind a world, by the parts of its item
abbrev pub behind_sort : Environment → List Tree → Environment
behind_sort env (word ∷ name ∷ body ∷ rest) = with_sort env (text_of name) body
behind_sort env _ = env

abbrev pub behind_world : Environment → List Tree → Environment
behind_world env (word ∷ name ∷ parts) = with_world env (text_of name) (declared_world env parts)
behind_world env _ = env

-- behind an item
abbrev pub behind_item : Environment → Tree → Environment
behind_item env item =
    if begins_with (codes "sort") item then behind_sort env (parts_of item) else
    if begins_with (codes "world") item then behind_world env (parts_of item) else env

-- what stands before the first item, by the list of nodes
abbrev pub at_first : Tree → Environment
at_first nodes = with_nodes nothing (names_behind_word nodes)
