-- Seven small texts with procedures as trees, each item as it stands in its text.
use Rattle.std.specs.Prelude.{pos, List, [], ◌∷◌, codes}
use Rattle.dl_tree.specs.declared.tree.Tree.{Tree}
use Rattle.dl_faults.specs.Trees.{word, number, list}

-- `(disel 1`, the nodes, and further items
abbrev pub whole : List Tree → Tree
whole items = list 1 1 (word 1 2 (codes "disel") ∷ number 1 8 (pos 1) ∷ list 2 3 (word 2 4 (codes "nodes") ∷ word 2 10 (codes "a") ∷ word 2 12 (codes "b") ∷ []) ∷ items)

-- (protocol game (tag ping () (send true) (receive true)))
abbrev pub talk : Tree
talk = list 3 3 (
    word 3 4 (codes "protocol") ∷ word 3 13 (codes "game") ∷
    list 3 18 (
    word 3 19 (codes "tag") ∷ word 3 23 (codes "ping") ∷ list 3 28 [] ∷ list 3 31 (word 3 32 (codes "send") ∷ word 3 37 (codes "true") ∷ []) ∷
    list 3 43 (word 3 44 (codes "receive") ∷ word 3 52 (codes "true") ∷ []) ∷ []
    ) ∷ []
    )

-- (label g game)
abbrev pub label_g : Tree
label_g = list 4 3 (word 4 4 (codes "label") ∷ word 4 10 (codes "g") ∷ word 4 12 (codes "game") ∷ [])

-- (label l game)
abbrev pub label_l : Tree
label_l = list 5 3 (word 5 4 (codes "label") ∷ word 5 10 (codes "l") ∷ word 5 12 (codes "game") ∷ [])

-- (hook k g l ping () true)
abbrev pub hook_k : Tree
hook_k = list 6 3 (
    word 6 4 (codes "hook") ∷ word 6 9 (codes "k") ∷ word 6 11 (codes "g") ∷ word 6 13 (codes "l") ∷ word 6 15 (codes "ping") ∷ list 6 20 [] ∷
    word 6 23 (codes "true") ∷ []
    )

-- (world w (labels g l) (hooks k))
abbrev pub world_w : Tree
world_w = list 7 3 (
    word 7 4 (codes "world") ∷ word 7 10 (codes "w") ∷ list 7 12 (word 7 13 (codes "labels") ∷ word 7 20 (codes "g") ∷ word 7 22 (codes "l") ∷ []) ∷
    list 7 25 (word 7 26 (codes "hooks") ∷ word 7 32 (codes "k") ∷ []) ∷ []
    )

-- (world v (labels g) (hooks))
abbrev pub world_of_g : Tree
world_of_g = list 8 3 (
    word 8 4 (codes "world") ∷ word 8 10 (codes "v") ∷ list 8 12 (word 8 13 (codes "labels") ∷ word 8 20 (codes "g") ∷ []) ∷
    list 8 23 (word 8 24 (codes "hooks") ∷ []) ∷ []
    )

-- (proc near v () (locals f) (pre true) (post true) (body (send true g ping b) (await true g ping f ())) (return 0))
abbrev pub near : Tree
near = list 9 3 (
    word 9 4 (codes "proc") ∷ word 9 9 (codes "near") ∷ word 9 14 (codes "v") ∷ list 9 16 [] ∷
    list 9 19 (word 9 20 (codes "locals") ∷ word 9 27 (codes "f") ∷ []) ∷ list 9 30 (word 9 31 (codes "pre") ∷ word 9 35 (codes "true") ∷ []) ∷
    list 9 41 (word 9 42 (codes "post") ∷ word 9 47 (codes "true") ∷ []) ∷
    list 9 53 (
    word 9 54 (codes "body") ∷
    list 9 59 (
    word 9 60 (codes "send") ∷ word 9 65 (codes "true") ∷ word 9 70 (codes "g") ∷ word 9 72 (codes "ping") ∷ word 9 77 (codes "b") ∷ []
    ) ∷
    list 9 80 (
    word 9 81 (codes "await") ∷ word 9 87 (codes "true") ∷ word 9 92 (codes "g") ∷ word 9 94 (codes "ping") ∷ word 9 99 (codes "f") ∷
    list 9 101 [] ∷ []
    ) ∷ []
    ) ∷
    list 9 106 (word 9 107 (codes "return") ∷ number 9 114 (pos 0) ∷ []) ∷ []
    )

-- (proc far w () (locals r) (pre true) (post true) (body (call true true r near)) (return r))
abbrev pub far : Tree
far = list 10 3 (
    word 10 4 (codes "proc") ∷ word 10 9 (codes "far") ∷ word 10 13 (codes "w") ∷ list 10 15 [] ∷
    list 10 18 (word 10 19 (codes "locals") ∷ word 10 26 (codes "r") ∷ []) ∷ list 10 29 (word 10 30 (codes "pre") ∷ word 10 34 (codes "true") ∷ []) ∷
    list 10 40 (word 10 41 (codes "post") ∷ word 10 46 (codes "true") ∷ []) ∷
    list 10 52 (
    word 10 53 (codes "body") ∷
    list 10 58 (
    word 10 59 (codes "call") ∷ word 10 64 (codes "true") ∷ word 10 69 (codes "true") ∷ word 10 74 (codes "r") ∷ word 10 76 (codes "near") ∷ []
    ) ∷ []
    ) ∷
    list 10 83 (word 10 84 (codes "return") ∷ word 10 91 (codes "r") ∷ []) ∷ []
    )

-- (deploy w (a far))
abbrev pub deploy_far : Tree
deploy_far = list 11 3 (word 11 4 (codes "deploy") ∷ word 11 11 (codes "w") ∷ list 11 13 (word 11 14 (codes "a") ∷ word 11 16 (codes "far") ∷ []) ∷ [])

-- (proc near v () (locals f) (pre true) (post true) (body (send true g ping b) (await (<= 0 (len l)) g ping f ())) (return 0))
abbrev pub near_noting : Tree
near_noting = list 9 3 (
    word 9 4 (codes "proc") ∷ word 9 9 (codes "near") ∷ word 9 14 (codes "v") ∷ list 9 16 [] ∷
    list 9 19 (word 9 20 (codes "locals") ∷ word 9 27 (codes "f") ∷ []) ∷ list 9 30 (word 9 31 (codes "pre") ∷ word 9 35 (codes "true") ∷ []) ∷
    list 9 41 (word 9 42 (codes "post") ∷ word 9 47 (codes "true") ∷ []) ∷
    list 9 53 (
    word 9 54 (codes "body") ∷
    list 9 59 (
    word 9 60 (codes "send") ∷ word 9 65 (codes "true") ∷ word 9 70 (codes "g") ∷ word 9 72 (codes "ping") ∷ word 9 77 (codes "b") ∷ []
    ) ∷
    list 9 80 (
    word 9 81 (codes "await") ∷
    list 9 87 (word 9 88 (codes "<=") ∷ number 9 91 (pos 0) ∷ list 9 93 (word 9 94 (codes "len") ∷ word 9 98 (codes "l") ∷ []) ∷ []) ∷
    word 9 102 (codes "g") ∷ word 9 104 (codes "ping") ∷ word 9 109 (codes "f") ∷ list 9 111 [] ∷ []
    ) ∷ []
    ) ∷
    list 9 116 (word 9 117 (codes "return") ∷ number 9 124 (pos 0) ∷ []) ∷ []
    )

-- (proc near v () (locals f) (pre true) (post true) (body (send true l ping b) (await true g ping f ())) (return 0))
abbrev pub near_sending : Tree
near_sending = list 9 3 (
    word 9 4 (codes "proc") ∷ word 9 9 (codes "near") ∷ word 9 14 (codes "v") ∷ list 9 16 [] ∷
    list 9 19 (word 9 20 (codes "locals") ∷ word 9 27 (codes "f") ∷ []) ∷ list 9 30 (word 9 31 (codes "pre") ∷ word 9 35 (codes "true") ∷ []) ∷
    list 9 41 (word 9 42 (codes "post") ∷ word 9 47 (codes "true") ∷ []) ∷
    list 9 53 (
    word 9 54 (codes "body") ∷
    list 9 59 (
    word 9 60 (codes "send") ∷ word 9 65 (codes "true") ∷ word 9 70 (codes "l") ∷ word 9 72 (codes "ping") ∷ word 9 77 (codes "b") ∷ []
    ) ∷
    list 9 80 (
    word 9 81 (codes "await") ∷ word 9 87 (codes "true") ∷ word 9 92 (codes "g") ∷ word 9 94 (codes "ping") ∷ word 9 99 (codes "f") ∷
    list 9 101 [] ∷ []
    ) ∷ []
    ) ∷
    list 9 106 (word 9 107 (codes "return") ∷ number 9 114 (pos 0) ∷ []) ∷ []
    )

-- (proc far w () (locals r) (pre true) (post true) (body (call true (<= 0 (len g)) r near)) (return r))
abbrev pub far_framing : Tree
far_framing = list 10 3 (
    word 10 4 (codes "proc") ∷ word 10 9 (codes "far") ∷ word 10 13 (codes "w") ∷ list 10 15 [] ∷
    list 10 18 (word 10 19 (codes "locals") ∷ word 10 26 (codes "r") ∷ []) ∷ list 10 29 (word 10 30 (codes "pre") ∷ word 10 34 (codes "true") ∷ []) ∷
    list 10 40 (word 10 41 (codes "post") ∷ word 10 46 (codes "true") ∷ []) ∷
    list 10 52 (
    word 10 53 (codes "body") ∷
    list 10 58 (
    word 10 59 (codes "call") ∷ word 10 64 (codes "true") ∷
    list 10 69 (word 10 70 (codes "<=") ∷ number 10 73 (pos 0) ∷ list 10 75 (word 10 76 (codes "len") ∷ word 10 80 (codes "g") ∷ []) ∷ []) ∷
    word 10 84 (codes "r") ∷ word 10 86 (codes "near") ∷ []
    ) ∷ []
    ) ∷
    list 10 93 (word 10 94 (codes "return") ∷ word 10 101 (codes "r") ∷ []) ∷ []
    )

-- (world v (labels l) (hooks))
abbrev pub world_of_l : Tree
world_of_l = list 8 3 (
    word 8 4 (codes "world") ∷ word 8 10 (codes "v") ∷ list 8 12 (word 8 13 (codes "labels") ∷ word 8 20 (codes "l") ∷ []) ∷
    list 8 23 (word 8 24 (codes "hooks") ∷ []) ∷ []
    )

-- (proc near v () (locals f) (pre true) (post true) (body (send true l ping b) (await true l ping f ())) (return 0))
abbrev pub near_at_l : Tree
near_at_l = list 9 3 (
    word 9 4 (codes "proc") ∷ word 9 9 (codes "near") ∷ word 9 14 (codes "v") ∷ list 9 16 [] ∷
    list 9 19 (word 9 20 (codes "locals") ∷ word 9 27 (codes "f") ∷ []) ∷ list 9 30 (word 9 31 (codes "pre") ∷ word 9 35 (codes "true") ∷ []) ∷
    list 9 41 (word 9 42 (codes "post") ∷ word 9 47 (codes "true") ∷ []) ∷
    list 9 53 (
    word 9 54 (codes "body") ∷
    list 9 59 (
    word 9 60 (codes "send") ∷ word 9 65 (codes "true") ∷ word 9 70 (codes "l") ∷ word 9 72 (codes "ping") ∷ word 9 77 (codes "b") ∷ []
    ) ∷
    list 9 80 (
    word 9 81 (codes "await") ∷ word 9 87 (codes "true") ∷ word 9 92 (codes "l") ∷ word 9 94 (codes "ping") ∷ word 9 99 (codes "f") ∷
    list 9 101 [] ∷ []
    ) ∷ []
    ) ∷
    list 9 106 (word 9 107 (codes "return") ∷ number 9 114 (pos 0) ∷ []) ∷ []
    )

-- (proc far v () (locals r) (pre true) (post true) (body (call true true r near)) (return r))
abbrev pub far_in_v : Tree
far_in_v = list 10 3 (
    word 10 4 (codes "proc") ∷ word 10 9 (codes "far") ∷ word 10 13 (codes "v") ∷ list 10 15 [] ∷
    list 10 18 (word 10 19 (codes "locals") ∷ word 10 26 (codes "r") ∷ []) ∷ list 10 29 (word 10 30 (codes "pre") ∷ word 10 34 (codes "true") ∷ []) ∷
    list 10 40 (word 10 41 (codes "post") ∷ word 10 46 (codes "true") ∷ []) ∷
    list 10 52 (
    word 10 53 (codes "body") ∷
    list 10 58 (
    word 10 59 (codes "call") ∷ word 10 64 (codes "true") ∷ word 10 69 (codes "true") ∷ word 10 74 (codes "r") ∷ word 10 76 (codes "near") ∷ []
    ) ∷ []
    ) ∷
    list 10 83 (word 10 84 (codes "return") ∷ word 10 91 (codes "r") ∷ []) ∷ []
    )

-- (proc near v () (locals f) (pre true) (post (= result 1)) (body (send true g ping b) (await true g ping f ())) (return 0))
abbrev pub near_promising : Tree
near_promising = list 9 3 (
    word 9 4 (codes "proc") ∷ word 9 9 (codes "near") ∷ word 9 14 (codes "v") ∷ list 9 16 [] ∷
    list 9 19 (word 9 20 (codes "locals") ∷ word 9 27 (codes "f") ∷ []) ∷ list 9 30 (word 9 31 (codes "pre") ∷ word 9 35 (codes "true") ∷ []) ∷
    list 9 41 (word 9 42 (codes "post") ∷ list 9 47 (word 9 48 (codes "=") ∷ word 9 50 (codes "result") ∷ number 9 57 (pos 1) ∷ []) ∷ []) ∷
    list 9 61 (
    word 9 62 (codes "body") ∷
    list 9 67 (
    word 9 68 (codes "send") ∷ word 9 73 (codes "true") ∷ word 9 78 (codes "g") ∷ word 9 80 (codes "ping") ∷ word 9 85 (codes "b") ∷ []
    ) ∷
    list 9 88 (
    word 9 89 (codes "await") ∷ word 9 95 (codes "true") ∷ word 9 100 (codes "g") ∷ word 9 102 (codes "ping") ∷ word 9 107 (codes "f") ∷
    list 9 109 [] ∷ []
    ) ∷ []
    ) ∷
    list 9 114 (word 9 115 (codes "return") ∷ number 9 122 (pos 0) ∷ []) ∷ []
    )
