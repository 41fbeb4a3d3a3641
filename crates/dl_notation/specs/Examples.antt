-- Small files, each with one fault of names and sorts, and one without.
use Rattle.std.specs.Prelude.{ℕ, ℤ, pos, List, [], ◌∷◌, codes}
use Rattle.dl_tree.specs.declared.tree.Place.{Place}
use Rattle.dl_tree.specs.declared.tree.Tree.{Tree}
use Rattle.dl_tree.specs.declared.tree.Tree.TheVariants as tree
use Rattle.dl_forms.specs.Context.{Text}

-- a place of the first line
abbrev pub column : ℕ → Place
column col = record { line = 1; col = col }

abbrev pub symbol : Text → ℕ → Tree
symbol text col = tree.Sym text (column col)

abbrev pub number : ℤ → ℕ → Tree
number v col = tree.Num v (column col)

abbrev pub parts : ℕ → List Tree → Tree
parts col items = tree.List items (column col)

-- A node's name is declared again as a sort.
-- (disel 1 (nodes a) (sort a (range 0 1)) (deploy w))
abbrev pub declared_twice : Tree
declared_twice = parts 1 (symbol (codes "disel") 2 ∷ number (pos 1) 8 ∷ parts 10 (symbol (codes "nodes") 11 ∷ symbol (codes "a") 17 ∷ []) ∷ parts 20 (symbol (codes "sort") 21 ∷ symbol (codes "a") 26 ∷ parts 28 (symbol (codes "range") 29 ∷ number (pos 0) 35 ∷ number (pos 1) 37 ∷ []) ∷ []) ∷ parts 41 (symbol (codes "deploy") 42 ∷ symbol (codes "w") 49 ∷ []) ∷ [])

-- A range without 0.
-- (disel 1 (nodes a) (sort s (range 1 2)) (deploy w))
abbrev pub no_zero : Tree
no_zero = parts 1 (symbol (codes "disel") 2 ∷ number (pos 1) 8 ∷ parts 10 (symbol (codes "nodes") 11 ∷ symbol (codes "a") 17 ∷ []) ∷ parts 20 (symbol (codes "sort") 21 ∷ symbol (codes "s") 26 ∷ parts 28 (symbol (codes "range") 29 ∷ number (pos 1) 35 ∷ number (pos 2) 37 ∷ []) ∷ []) ∷ parts 41 (symbol (codes "deploy") 42 ∷ symbol (codes "w") 49 ∷ []) ∷ [])

-- The second node's first value is 2.
-- (disel 1 (nodes a b) (protocol p (field n bool (+ me me))) (deploy w))
abbrev pub first_outside : Tree
first_outside = parts 1 (symbol (codes "disel") 2 ∷ number (pos 1) 8 ∷ parts 10 (symbol (codes "nodes") 11 ∷ symbol (codes "a") 17 ∷ symbol (codes "b") 19 ∷ []) ∷ parts 22 (symbol (codes "protocol") 23 ∷ symbol (codes "p") 32 ∷ parts 34 (symbol (codes "field") 35 ∷ symbol (codes "n") 41 ∷ symbol (codes "bool") 43 ∷ parts 48 (symbol (codes "+") 49 ∷ symbol (codes "me") 51 ∷ symbol (codes "me") 54 ∷ []) ∷ []) ∷ []) ∷ parts 60 (symbol (codes "deploy") 61 ∷ symbol (codes "w") 68 ∷ []) ∷ [])

-- A label of a protocol that isn't known.
-- (disel 1 (nodes a) (label l p) (deploy w))
abbrev pub no_protocol_known : Tree
no_protocol_known = parts 1 (symbol (codes "disel") 2 ∷ number (pos 1) 8 ∷ parts 10 (symbol (codes "nodes") 11 ∷ symbol (codes "a") 17 ∷ []) ∷ parts 20 (symbol (codes "label") 21 ∷ symbol (codes "l") 27 ∷ symbol (codes "p") 29 ∷ []) ∷ parts 32 (symbol (codes "deploy") 33 ∷ symbol (codes "w") 40 ∷ []) ∷ [])

-- A quantifier binds the name of an argument of a tag.
-- (disel 1 (nodes a) (protocol p (tag t ((x int)) (send true)) (coherence (all x true))) (deploy w))
abbrev pub bound_elsewhere : Tree
bound_elsewhere = parts 1 (symbol (codes "disel") 2 ∷ number (pos 1) 8 ∷ parts 10 (symbol (codes "nodes") 11 ∷ symbol (codes "a") 17 ∷ []) ∷ parts 20 (symbol (codes "protocol") 21 ∷ symbol (codes "p") 30 ∷ parts 32 (symbol (codes "tag") 33 ∷ symbol (codes "t") 37 ∷ parts 39 (parts 40 (symbol (codes "x") 41 ∷ symbol (codes "int") 43 ∷ []) ∷ []) ∷ parts 49 (symbol (codes "send") 50 ∷ symbol (codes "true") 55 ∷ []) ∷ []) ∷ parts 62 (symbol (codes "coherence") 63 ∷ parts 73 (symbol (codes "all") 74 ∷ symbol (codes "x") 78 ∷ symbol (codes "true") 80 ∷ []) ∷ []) ∷ []) ∷ parts 88 (symbol (codes "deploy") 89 ∷ symbol (codes "w") 96 ∷ []) ∷ [])

-- A transition sets a field twice.
-- (disel 1 (nodes a) (protocol p (field n int 0) (tag t () (send true (set n 1) (set n 2)))) (deploy w))
abbrev pub updated_twice : Tree
updated_twice = parts 1 (symbol (codes "disel") 2 ∷ number (pos 1) 8 ∷ parts 10 (symbol (codes "nodes") 11 ∷ symbol (codes "a") 17 ∷ []) ∷ parts 20 (symbol (codes "protocol") 21 ∷ symbol (codes "p") 30 ∷ parts 32 (symbol (codes "field") 33 ∷ symbol (codes "n") 39 ∷ symbol (codes "int") 41 ∷ number (pos 0) 45 ∷ []) ∷ parts 48 (symbol (codes "tag") 49 ∷ symbol (codes "t") 53 ∷ parts 55 [] ∷ parts 58 (symbol (codes "send") 59 ∷ symbol (codes "true") 64 ∷ parts 69 (symbol (codes "set") 70 ∷ symbol (codes "n") 74 ∷ number (pos 1) 76 ∷ []) ∷ parts 79 (symbol (codes "set") 80 ∷ symbol (codes "n") 84 ∷ number (pos 2) 86 ∷ []) ∷ []) ∷ []) ∷ []) ∷ parts 92 (symbol (codes "deploy") 93 ∷ symbol (codes "w") 100 ∷ []) ∷ [])

-- A hook gives one name too many.
-- (disel 1 (nodes a) (protocol p (tag t () (send true))) (label l p) (hook h l l t (x) true) (deploy w))
abbrev pub names_missing : Tree
names_missing = parts 1 (symbol (codes "disel") 2 ∷ number (pos 1) 8 ∷ parts 10 (symbol (codes "nodes") 11 ∷ symbol (codes "a") 17 ∷ []) ∷ parts 20 (symbol (codes "protocol") 21 ∷ symbol (codes "p") 30 ∷ parts 32 (symbol (codes "tag") 33 ∷ symbol (codes "t") 37 ∷ parts 39 [] ∷ parts 42 (symbol (codes "send") 43 ∷ symbol (codes "true") 48 ∷ []) ∷ []) ∷ []) ∷ parts 56 (symbol (codes "label") 57 ∷ symbol (codes "l") 63 ∷ symbol (codes "p") 65 ∷ []) ∷ parts 68 (symbol (codes "hook") 69 ∷ symbol (codes "h") 74 ∷ symbol (codes "l") 76 ∷ symbol (codes "l") 78 ∷ symbol (codes "t") 80 ∷ parts 82 (symbol (codes "x") 83 ∷ []) ∷ symbol (codes "true") 86 ∷ []) ∷ parts 92 (symbol (codes "deploy") 93 ∷ symbol (codes "w") 100 ∷ []) ∷ [])

-- A world that is composed of itself.
-- (disel 1 (nodes a) (world w (compose w w)) (deploy w))
abbrev pub of_itself : Tree
of_itself = parts 1 (symbol (codes "disel") 2 ∷ number (pos 1) 8 ∷ parts 10 (symbol (codes "nodes") 11 ∷ symbol (codes "a") 17 ∷ []) ∷ parts 20 (symbol (codes "world") 21 ∷ symbol (codes "w") 27 ∷ parts 29 (symbol (codes "compose") 30 ∷ symbol (codes "w") 38 ∷ symbol (codes "w") 40 ∷ []) ∷ []) ∷ parts 44 (symbol (codes "deploy") 45 ∷ symbol (codes "w") 52 ∷ []) ∷ [])

-- A local has the name of a parameter.
-- (disel 1 (nodes a) (world w (labels) (hooks)) (proc q w ((x int)) (locals x) (pre true) (post true) (body) (return 0)) (deploy w))
abbrev pub shadowed_local : Tree
shadowed_local = parts 1 (symbol (codes "disel") 2 ∷ number (pos 1) 8 ∷ parts 10 (symbol (codes "nodes") 11 ∷ symbol (codes "a") 17 ∷ []) ∷ parts 20 (symbol (codes "world") 21 ∷ symbol (codes "w") 27 ∷ parts 29 (symbol (codes "labels") 30 ∷ []) ∷ parts 38 (symbol (codes "hooks") 39 ∷ []) ∷ []) ∷ parts 47 (symbol (codes "proc") 48 ∷ symbol (codes "q") 53 ∷ symbol (codes "w") 55 ∷ parts 57 (parts 58 (symbol (codes "x") 59 ∷ symbol (codes "int") 61 ∷ []) ∷ []) ∷ parts 67 (symbol (codes "locals") 68 ∷ symbol (codes "x") 75 ∷ []) ∷ parts 78 (symbol (codes "pre") 79 ∷ symbol (codes "true") 83 ∷ []) ∷ parts 89 (symbol (codes "post") 90 ∷ symbol (codes "true") 95 ∷ []) ∷ parts 101 (symbol (codes "body") 102 ∷ []) ∷ parts 108 (symbol (codes "return") 109 ∷ number (pos 0) 116 ∷ []) ∷ []) ∷ parts 120 (symbol (codes "deploy") 121 ∷ symbol (codes "w") 128 ∷ []) ∷ [])

-- A second proof of an obligation.
-- (disel 1 (nodes a) (world w (labels) (hooks)) (invariant i w true) (deploy w) (proof (init i) (names) (close)) (proof (init i) (names) (close)))
abbrev pub proved_twice : Tree
proved_twice = parts 1 (symbol (codes "disel") 2 ∷ number (pos 1) 8 ∷ parts 10 (symbol (codes "nodes") 11 ∷ symbol (codes "a") 17 ∷ []) ∷ parts 20 (symbol (codes "world") 21 ∷ symbol (codes "w") 27 ∷ parts 29 (symbol (codes "labels") 30 ∷ []) ∷ parts 38 (symbol (codes "hooks") 39 ∷ []) ∷ []) ∷ parts 47 (symbol (codes "invariant") 48 ∷ symbol (codes "i") 58 ∷ symbol (codes "w") 60 ∷ symbol (codes "true") 62 ∷ []) ∷ parts 68 (symbol (codes "deploy") 69 ∷ symbol (codes "w") 76 ∷ []) ∷ parts 79 (symbol (codes "proof") 80 ∷ parts 86 (symbol (codes "init") 87 ∷ symbol (codes "i") 92 ∷ []) ∷ parts 95 (symbol (codes "names") 96 ∷ []) ∷ parts 103 (symbol (codes "close") 104 ∷ []) ∷ []) ∷ parts 112 (symbol (codes "proof") 113 ∷ parts 119 (symbol (codes "init") 120 ∷ symbol (codes "i") 125 ∷ []) ∷ parts 128 (symbol (codes "names") 129 ∷ []) ∷ parts 136 (symbol (codes "close") 137 ∷ []) ∷ []) ∷ [])

-- A script uses a hypothesis where it is still to be proved.
-- (disel 1 (nodes a) (world w (labels) (hooks)) (invariant i w true) (deploy w) (proof (init i) (names) (have true h (by h) (by h))))
abbrev pub named_early : Tree
named_early = parts 1 (symbol (codes "disel") 2 ∷ number (pos 1) 8 ∷ parts 10 (symbol (codes "nodes") 11 ∷ symbol (codes "a") 17 ∷ []) ∷ parts 20 (symbol (codes "world") 21 ∷ symbol (codes "w") 27 ∷ parts 29 (symbol (codes "labels") 30 ∷ []) ∷ parts 38 (symbol (codes "hooks") 39 ∷ []) ∷ []) ∷ parts 47 (symbol (codes "invariant") 48 ∷ symbol (codes "i") 58 ∷ symbol (codes "w") 60 ∷ symbol (codes "true") 62 ∷ []) ∷ parts 68 (symbol (codes "deploy") 69 ∷ symbol (codes "w") 76 ∷ []) ∷ parts 79 (symbol (codes "proof") 80 ∷ parts 86 (symbol (codes "init") 87 ∷ symbol (codes "i") 92 ∷ []) ∷ parts 95 (symbol (codes "names") 96 ∷ []) ∷ parts 103 (symbol (codes "have") 104 ∷ symbol (codes "true") 109 ∷ symbol (codes "h") 114 ∷ parts 116 (symbol (codes "by") 117 ∷ symbol (codes "h") 120 ∷ []) ∷ parts 123 (symbol (codes "by") 124 ∷ symbol (codes "h") 127 ∷ []) ∷ []) ∷ []) ∷ [])

-- The counter: a file without a fault.
-- (disel 1 (nodes a) (protocol p (field n int 0) (tag t () (send true (set n 1)))) (label c p) (world w (labels c) (hooks)) (invariant i w (all x (<= 0 (get c n x)))) (deploy w))
abbrev pub counter : Tree
counter = parts 1 (symbol (codes "disel") 2 ∷ number (pos 1) 8 ∷ parts 10 (symbol (codes "nodes") 11 ∷ symbol (codes "a") 17 ∷ []) ∷ parts 20 (symbol (codes "protocol") 21 ∷ symbol (codes "p") 30 ∷ parts 32 (symbol (codes "field") 33 ∷ symbol (codes "n") 39 ∷ symbol (codes "int") 41 ∷ number (pos 0) 45 ∷ []) ∷ parts 48 (symbol (codes "tag") 49 ∷ symbol (codes "t") 53 ∷ parts 55 [] ∷ parts 58 (symbol (codes "send") 59 ∷ symbol (codes "true") 64 ∷ parts 69 (symbol (codes "set") 70 ∷ symbol (codes "n") 74 ∷ number (pos 1) 76 ∷ []) ∷ []) ∷ []) ∷ []) ∷ parts 82 (symbol (codes "label") 83 ∷ symbol (codes "c") 89 ∷ symbol (codes "p") 91 ∷ []) ∷ parts 94 (symbol (codes "world") 95 ∷ symbol (codes "w") 101 ∷ parts 103 (symbol (codes "labels") 104 ∷ symbol (codes "c") 111 ∷ []) ∷ parts 114 (symbol (codes "hooks") 115 ∷ []) ∷ []) ∷ parts 123 (symbol (codes "invariant") 124 ∷ symbol (codes "i") 134 ∷ symbol (codes "w") 136 ∷ parts 138 (symbol (codes "all") 139 ∷ symbol (codes "x") 143 ∷ parts 145 (symbol (codes "<=") 146 ∷ number (pos 0) 149 ∷ parts 151 (symbol (codes "get") 152 ∷ symbol (codes "c") 156 ∷ symbol (codes "n") 158 ∷ symbol (codes "x") 160 ∷ []) ∷ []) ∷ []) ∷ []) ∷ parts 166 (symbol (codes "deploy") 167 ∷ symbol (codes "w") 174 ∷ []) ∷ [])
