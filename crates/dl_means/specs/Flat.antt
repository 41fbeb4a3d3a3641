-- A tree in which names of sorts, compositions of worlds and deployed constants are written out, and the parts of each protocol are grouped.
-- It has no places.
use Rattle.std.specs.Prelude.{ℤ, Bool, ◌||◌, List, [], ◌∷◌, ◌++◌, map, filter, Option, Some, None, codes, if◌then◌else◌}
use Rattle.dl_term.specs.declared.syntax.Sort.{Sort}
use Rattle.dl_tree.specs.declared.tree.Tree.{Tree, Num, Sym, List'}
use Rattle.dl_forms.specs.Context.{Text, look_up}
use Rattle.dl_forms.specs.Show.{bare, symbol, number, form}
use Rattle.dl_notation.specs.Trees.{parts_of, begins_with}
use Rattle.dl_notation.specs.Environment.{WorldNames, Environment, sort_named}
use Rattle.dl_notation.specs.Behind.{declared_world}
use Rattle.dl_shown.specs.Shown.{listed, range_of}
use Rattle.dl_means.specs.Before.{behind_item, at_first}

-- ---- sorts

abbrev pub flat_range : Text → Option Sort → Tree
flat_range text (Some sort) = range_of sort
flat_range text None = symbol text

-- the name of a sort, in a sort's position
abbrev pub flat_sort : Environment → Tree → Tree
flat_sort env (Sym text p) = flat_range text (sort_named env text)
flat_sort env (Num v p) = number v
flat_sort env (List' s row p) = bare (List' s row p)

-- a name with its sort
abbrev pub flat_argument_of : Environment → Tree → List Tree → Tree
flat_argument_of env tree (name ∷ sort ∷ []) = listed (bare name ∷ flat_sort env sort ∷ [])
flat_argument_of env tree _ = bare tree

abbrev pub flat_argument : Environment → Tree → Tree
flat_argument env tree = flat_argument_of env tree (parts_of tree)

abbrev pub flat_arguments : Environment → Tree → Tree
flat_arguments env tree = listed (map (flat_argument env) (parts_of tree))

-- ---- protocols

abbrev pub is_field : Tree → Bool
is_field part = begins_with (codes "field") part || begins_with (codes "row") part

abbrev pub is_tag : Tree → Bool
is_tag part = begins_with (codes "tag") part

abbrev pub is_coherence : Tree → Bool
is_coherence part = begins_with (codes "coherence") part

abbrev pub flat_field : Environment → Tree → List Tree → Tree
flat_field env part (word ∷ name ∷ sort ∷ rest) = listed (bare word ∷ bare name ∷ flat_sort env sort ∷ map bare rest)
flat_field env part _ = bare part

abbrev pub flat_tag : Environment → Tree → List Tree → Tree
flat_tag env part (word ∷ name ∷ arguments ∷ rest) = listed (bare word ∷ bare name ∷ flat_arguments env arguments ∷ map bare rest)
flat_tag env part _ = bare part

-- fields and rows, then tags, then the coherence, each group in its order
abbrev pub flat_parts : Environment → List Tree → List Tree
flat_parts env parts =
    map (λ part. flat_field env part (parts_of part)) (filter is_field parts)
    ++ (map (λ part. flat_tag env part (parts_of part)) (filter is_tag parts) ++ map bare (filter is_coherence parts))

-- ---- items

abbrev pub flat_protocol : Environment → Tree → List Tree → Tree
flat_protocol env item (word ∷ name ∷ parts) = listed (bare word ∷ bare name ∷ flat_parts env parts)
flat_protocol env item _ = bare item

-- the labels and the hooks of a world, also of one that is composed of two
abbrev pub world_parts : WorldNames → List Tree
world_parts world = form (codes "labels") (map symbol world.labels) ∷ form (codes "hooks") (map symbol world.hooks) ∷ []

abbrev pub flat_world : Environment → Tree → List Tree → Tree
flat_world env item (word ∷ name ∷ parts) = listed (bare word ∷ bare name ∷ world_parts (declared_world env parts))
flat_world env item _ = bare item

abbrev pub flat_procedure : Environment → Tree → List Tree → Tree
flat_procedure env item (word ∷ name ∷ world ∷ parameters ∷ rest) = listed (bare word ∷ bare name ∷ bare world ∷ flat_arguments env parameters ∷ map bare rest)
flat_procedure env item _ = bare item

-- a node or an enumerator stands for its number
abbrev pub flat_value : Text → Option ℤ → Tree
flat_value text (Some v) = number v
flat_value text None = symbol text

abbrev pub flat_constant : Environment → Tree → Tree
flat_constant env (Sym text p) = flat_value text (look_up text env.words)
flat_constant env (Num v p) = number v
flat_constant env (List' s row p) = bare (List' s row p)

abbrev pub flat_program : Environment → Tree → List Tree → Tree
flat_program env program (node ∷ procedure ∷ constants) = listed (bare node ∷ bare procedure ∷ map (flat_constant env) constants)
flat_program env program _ = bare program

abbrev pub flat_deployment : Environment → Tree → List Tree → Tree
flat_deployment env item (word ∷ world ∷ programs) = listed (bare word ∷ bare world ∷ map (λ program. flat_program env program (parts_of program)) programs)
flat_deployment env item _ = bare item

abbrev pub flat_item : Environment → Tree → Tree
flat_item env item =
    if begins_with (codes "protocol") item then flat_protocol env item (parts_of item) else
    if begins_with (codes "world") item then flat_world env item (parts_of item) else
    if begins_with (codes "proc") item then flat_procedure env item (parts_of item) else
    if begins_with (codes "deploy") item then flat_deployment env item (parts_of item) else bare item

-- each item by what the items before it have declared
abbrev pub flat_items : Environment → List Tree → List Tree
flat_items env [] = []
flat_items env (item ∷ items) = flat_item env item ∷ flat_items (behind_item env item) items

-- ---- a file

abbrev pub flat_file : Tree → List Tree → Tree
flat_file tree (word ∷ version ∷ nodes ∷ items) = listed (bare word ∷ bare version ∷ bare nodes ∷ flat_items (at_first nodes) items)
flat_file tree _ = bare tree

unfoldable pub flat : Tree → Tree
flat tree = flat_file tree (parts_of tree)
