-- Nine small texts as trees, each item as it stands in its text.
use Rattle.std.specs.Prelude.{ℕ, ℤ, pos, List, [], ◌∷◌, codes}
use Rattle.dl_tree.specs.declared.tree.Place.{Place}
use Rattle.dl_tree.specs.declared.tree.Tree.{Tree}
use Rattle.dl_tree.specs.declared.tree.Tree.TheVariants as tree

-- each with its line and column
abbrev pub place : ℕ → ℕ → Place
place line col = record { line = line; col = col }

abbrev pub word : ℕ → ℕ → List ℕ → Tree
word line col text = tree.Sym text (place line col)

abbrev pub number : ℕ → ℕ → ℤ → Tree
number line col v = tree.Num v (place line col)

abbrev pub list : ℕ → ℕ → List Tree → Tree
list line col parts = tree.List parts (place line col)

-- ---- what they begin with

-- (nodes a)
abbrev pub nodes : Tree
nodes = list 2 3 (
    word 2 4 (codes "nodes") ∷ word 2 10 (codes "a") ∷ []
    )

-- (protocol game (tag ping () (send true)))
abbrev pub game : Tree
game = list 3 3 (
    word 3 4 (codes "protocol") ∷ word 3 13 (codes "game") ∷
    list 3 18 (word 3 19 (codes "tag") ∷ word 3 23 (codes "ping") ∷ list 3 28 [] ∷ list 3 31 (word 3 32 (codes "send") ∷ word 3 37 (codes "true") ∷ []) ∷ []) ∷ []
    )

-- (label g game)
abbrev pub label_g : Tree
label_g = list 4 3 (
    word 4 4 (codes "label") ∷ word 4 10 (codes "g") ∷ word 4 12 (codes "game") ∷ []
    )

-- `(disel 1`, the node, and further items
abbrev pub whole : List Tree → Tree
whole items = list 1 1 (word 1 2 (codes "disel") ∷ number 1 8 (pos 1) ∷ nodes ∷ items)

-- ---- a file whose invariant is proved

-- (world w (labels g) (hooks))
abbrev pub world_w : Tree
world_w = list 5 3 (
    word 5 4 (codes "world") ∷ word 5 10 (codes "w") ∷ list 5 12 (word 5 13 (codes "labels") ∷ word 5 20 (codes "g") ∷ []) ∷ list 5 23 (word 5 24 (codes "hooks") ∷ []) ∷ []
    )

-- (invariant pos w (each m g ping (<= 0 (id m))))
abbrev pub ids : Tree
ids = list 6 3 (
    word 6 4 (codes "invariant") ∷ word 6 14 (codes "pos") ∷ word 6 18 (codes "w") ∷
    list 6 20 (word 6 21 (codes "each") ∷ word 6 26 (codes "m") ∷ word 6 28 (codes "g") ∷ word 6 30 (codes "ping") ∷ list 6 35 (word 6 36 (codes "<=") ∷ number 6 39 (pos 0) ∷ list 6 41 (word 6 42 (codes "id") ∷ word 6 45 (codes "m") ∷ []) ∷ []) ∷ []) ∷ []
    )

-- (deploy w)
abbrev pub deploy_w : Tree
deploy_w = list 7 3 (
    word 7 4 (codes "deploy") ∷ word 7 11 (codes "w") ∷ []
    )

-- (proof (step pos g ping send) (names s d) (split (by pos) (range (len g) h (by h))))
abbrev pub proof_item : Tree
proof_item = list 8 3 (
    word 8 4 (codes "proof") ∷
    list 8 10 (word 8 11 (codes "step") ∷ word 8 16 (codes "pos") ∷ word 8 20 (codes "g") ∷ word 8 22 (codes "ping") ∷ word 8 27 (codes "send") ∷ []) ∷
    list 8 33 (word 8 34 (codes "names") ∷ word 8 40 (codes "s") ∷ word 8 42 (codes "d") ∷ []) ∷
    list 8 45 (word 8 46 (codes "split") ∷ list 8 52 (word 8 53 (codes "by") ∷ word 8 56 (codes "pos") ∷ []) ∷ list 8 61 (word 8 62 (codes "range") ∷ list 8 68 (word 8 69 (codes "len") ∷ word 8 73 (codes "g") ∷ []) ∷ word 8 76 (codes "h") ∷ list 8 78 (word 8 79 (codes "by") ∷ word 8 82 (codes "h") ∷ []) ∷ []) ∷ []) ∷ []
    )

-- (proof (step pos g ping send) (names s d) (split (by pos) (close)))
abbrev pub unfinished_item : Tree
unfinished_item = list 8 3 (
    word 8 4 (codes "proof") ∷
    list 8 10 (word 8 11 (codes "step") ∷ word 8 16 (codes "pos") ∷ word 8 20 (codes "g") ∷ word 8 22 (codes "ping") ∷ word 8 27 (codes "send") ∷ []) ∷
    list 8 33 (word 8 34 (codes "names") ∷ word 8 40 (codes "s") ∷ word 8 42 (codes "d") ∷ []) ∷
    list 8 45 (word 8 46 (codes "split") ∷ list 8 52 (word 8 53 (codes "by") ∷ word 8 56 (codes "pos") ∷ []) ∷ list 8 61 (word 8 62 (codes "close") ∷ []) ∷ []) ∷ []
    )

-- (proof (step pos g ping receive) (names r k) (close))
abbrev pub extra_item : Tree
extra_item = list 9 3 (
    word 9 4 (codes "proof") ∷
    list 9 10 (word 9 11 (codes "step") ∷ word 9 16 (codes "pos") ∷ word 9 20 (codes "g") ∷ word 9 22 (codes "ping") ∷ word 9 27 (codes "receive") ∷ []) ∷
    list 9 36 (word 9 37 (codes "names") ∷ word 9 43 (codes "r") ∷ word 9 45 (codes "k") ∷ []) ∷ list 9 48 (word 9 49 (codes "close") ∷ []) ∷ []
    )

-- ---- two labels, and a hook from the one to the other

-- (label l game)
abbrev pub label_l : Tree
label_l = list 5 3 (
    word 5 4 (codes "label") ∷ word 5 10 (codes "l") ∷ word 5 12 (codes "game") ∷ []
    )

-- (hook k g l ping () true)
abbrev pub hook_k : Tree
hook_k = list 6 3 (
    word 6 4 (codes "hook") ∷ word 6 9 (codes "k") ∷ word 6 11 (codes "g") ∷ word 6 13 (codes "l") ∷ word 6 15 (codes "ping") ∷ list 6 20 [] ∷
    word 6 23 (codes "true") ∷ []
    )

-- (world w (labels l) (hooks k))
abbrev pub world_of_client : Tree
world_of_client = list 7 3 (
    word 7 4 (codes "world") ∷ word 7 10 (codes "w") ∷ list 7 12 (word 7 13 (codes "labels") ∷ word 7 20 (codes "l") ∷ []) ∷
    list 7 23 (word 7 24 (codes "hooks") ∷ word 7 30 (codes "k") ∷ []) ∷ []
    )

-- (deploy w)
abbrev pub deploy_client : Tree
deploy_client = list 8 3 (
    word 8 4 (codes "deploy") ∷ word 8 11 (codes "w") ∷ []
    )

-- (world w (labels g l) (hooks k))
abbrev pub world_of_both : Tree
world_of_both = list 7 3 (
    word 7 4 (codes "world") ∷ word 7 10 (codes "w") ∷ list 7 12 (word 7 13 (codes "labels") ∷ word 7 20 (codes "g") ∷ word 7 22 (codes "l") ∷ []) ∷
    list 7 25 (word 7 26 (codes "hooks") ∷ word 7 32 (codes "k") ∷ []) ∷ []
    )

-- (world v (labels l) (hooks))
abbrev pub world_without : Tree
world_without = list 8 3 (
    word 8 4 (codes "world") ∷ word 8 10 (codes "v") ∷ list 8 12 (word 8 13 (codes "labels") ∷ word 8 20 (codes "l") ∷ []) ∷ list 8 23 (word 8 24 (codes "hooks") ∷ []) ∷ []
    )

-- (invariant pos v (each m l ping true))
abbrev pub covered_item : Tree
covered_item = list 9 3 (
    word 9 4 (codes "invariant") ∷ word 9 14 (codes "pos") ∷ word 9 18 (codes "v") ∷
    list 9 20 (word 9 21 (codes "each") ∷ word 9 26 (codes "m") ∷ word 9 28 (codes "l") ∷ word 9 30 (codes "ping") ∷ word 9 35 (codes "true") ∷ []) ∷ []
    )

-- (invariant pos v (all x (or (= x 0) (each m g ping true))))
abbrev pub outside_item : Tree
outside_item = list 9 3 (
    word 9 4 (codes "invariant") ∷ word 9 14 (codes "pos") ∷ word 9 18 (codes "v") ∷
    list 9 20 (word 9 21 (codes "all") ∷ word 9 25 (codes "x") ∷ list 9 27 (word 9 28 (codes "or") ∷ list 9 31 (word 9 32 (codes "=") ∷ word 9 34 (codes "x") ∷ number 9 36 (pos 0) ∷ []) ∷ list 9 39 (word 9 40 (codes "each") ∷ word 9 45 (codes "m") ∷ word 9 47 (codes "g") ∷ word 9 49 (codes "ping") ∷ word 9 54 (codes "true") ∷ []) ∷ []) ∷ []) ∷ []
    )

-- (invariant pos w (each m l ping true))
abbrev pub lacking_item : Tree
lacking_item = list 9 3 (
    word 9 4 (codes "invariant") ∷ word 9 14 (codes "pos") ∷ word 9 18 (codes "w") ∷
    list 9 20 (word 9 21 (codes "each") ∷ word 9 26 (codes "m") ∷ word 9 28 (codes "l") ∷ word 9 30 (codes "ping") ∷ word 9 35 (codes "true") ∷ []) ∷ []
    )

-- (deploy w)
abbrev pub deploy_both : Tree
deploy_both = list 10 3 (
    word 10 4 (codes "deploy") ∷ word 10 11 (codes "w") ∷ []
    )

-- (deploy v)
abbrev pub deploy_without : Tree
deploy_without = list 10 3 (
    word 10 4 (codes "deploy") ∷ word 10 11 (codes "v") ∷ []
    )

-- ---- a protocol with a coherence and two tags

-- (protocol duel (tag ping () (send true)) (tag pong () (send true)) (coherence (= (len self) 0)))
abbrev pub duel : Tree
duel = list 3 3 (
    word 3 4 (codes "protocol") ∷ word 3 13 (codes "duel") ∷
    list 3 18 (word 3 19 (codes "tag") ∷ word 3 23 (codes "ping") ∷ list 3 28 [] ∷ list 3 31 (word 3 32 (codes "send") ∷ word 3 37 (codes "true") ∷ []) ∷ []) ∷
    list 3 44 (word 3 45 (codes "tag") ∷ word 3 49 (codes "pong") ∷ list 3 54 [] ∷ list 3 57 (word 3 58 (codes "send") ∷ word 3 63 (codes "true") ∷ []) ∷ []) ∷
    list 3 70 (word 3 71 (codes "coherence") ∷ list 3 81 (word 3 82 (codes "=") ∷ list 3 84 (word 3 85 (codes "len") ∷ word 3 89 (codes "self") ∷ []) ∷ number 3 95 (pos 0) ∷ []) ∷ []) ∷ []
    )

-- (label g duel)
abbrev pub label_duel : Tree
label_duel = list 4 3 (
    word 4 4 (codes "label") ∷ word 4 10 (codes "g") ∷ word 4 12 (codes "duel") ∷ []
    )

-- (deploy w)
abbrev pub deploy_duel : Tree
deploy_duel = list 6 3 (
    word 6 4 (codes "deploy") ∷ word 6 11 (codes "w") ∷ []
    )
