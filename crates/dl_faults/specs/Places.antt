-- Where the parts of a file stand, by its tree.
use Rattle.std.specs.Prelude.{ℕ, Bool, false, ◌||◌, if◌then◌else◌, List, [], ◌∷◌, ◌++◌, drop, filter, Option, Some, None, slice_get, unwrap_or, codes}
use Rattle.std.specs.List.{find}
use Rattle.std.specs.Str.{bytes_eq}
use Rattle.dl_tree.specs.declared.tree.Place.{Place}
use Rattle.dl_tree.specs.declared.tree.Tree.{Tree, Num, Sym, List', Row_of-Tree, end_of-Tree, more_of-Tree}
use Rattle.dl_tree.specs.TreePlace.{place_of}

-- ---- lists and their words

abbrev pub row_parts : {m : _} → Row_of-Tree m → List Tree
row_parts end_of-Tree = []
row_parts (more_of-Tree part parts) = part ∷ row_parts parts

abbrev pub parts_of : Tree → List Tree
parts_of (List' shape parts place) = row_parts parts
parts_of _ = []

abbrev pub is_word : List ℕ → Tree → Bool
is_word word (Sym name place) = bytes_eq name word
is_word word _ = false

abbrev pub first_is : List ℕ → List Tree → Bool
first_is word [] = false
first_is word (first ∷ parts) = is_word word first

-- the list begins with the word
abbrev pub begins_with : List ℕ → Tree → Bool
begins_with word tree = first_is word (parts_of tree)

-- ---- items and their parts

-- the item of this number among those that begin with the word; the whole file where there is none
abbrev pub item : Tree → List ℕ → ℕ → Tree
item file word n = unwrap_or (slice_get (filter (begins_with word) (parts_of file)) n) file

-- the first part that begins with the word
abbrev pub part_named : List ℕ → Tree → Option Tree
part_named word tree = find (begins_with word) (parts_of tree)

abbrev pub behind_word : Option Tree → List Tree
behind_word (Some list) = drop 1 (parts_of list)
behind_word None = []

-- the place of the part of this number, or of the whole where there is none
abbrev pub place_in : Tree → List Tree → ℕ → Place
place_in whole parts n = place_of (unwrap_or (slice_get parts n) whole)

-- ---- what names a label

-- a read of a field, a length, or a quantifier over messages
abbrev pub names_label : Tree → Bool
names_label tree = (begins_with (codes "get") tree || begins_with (codes "len") tree) || (begins_with (codes "each") tree || begins_with (codes "any") tree)

-- the list itself, where it names a label
abbrev pub named_list : Tree → List Tree
named_list tree = if names_label tree then tree ∷ [] else []

abbrev mutual
  -- the lists of a term or formula that name a label, in the order in which they stand
  pub label_lists : Tree → List Tree
  label_lists (Num value place) = []
  label_lists (Sym name place) = []
  label_lists (List' shape parts place) = named_list (List' shape parts place) ++ label_lists_in parts

  pub label_lists_in : {m : _} → Row_of-Tree m → List Tree
  label_lists_in end_of-Tree = []
  label_lists_in (more_of-Tree part parts) = label_lists part ++ label_lists_in parts

-- ---- places

-- the coherence of a protocol
abbrev pub coherence_place : Tree → ℕ → Place
coherence_place file p = let protocol = item file (codes "protocol") p in place_of (unwrap_or (part_named (codes "coherence") protocol) protocol)

abbrev pub invariant_place : Tree → ℕ → Place
invariant_place file i = place_of (item file (codes "invariant") i)

-- The list with this number among those of an invariant that name a label. They stand in the order of the labels in its formula.
abbrev pub label_place : Tree → ℕ → ℕ → Place
label_place file i k = let invariant = item file (codes "invariant") i in place_in invariant (label_lists invariant) k

-- the name with this number in a world's list of hooks; a composed world has no such list, and then it is the item
abbrev pub hook_place : Tree → ℕ → ℕ → Place
hook_place file w k = let world = item file (codes "world") w in place_in world (behind_word (part_named (codes "hooks") world)) k
