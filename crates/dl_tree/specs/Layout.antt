-- The layout of a tree.
use Rattle.std.specs.Prelude.{◌≡◌, ℕ, pos, Bool, false, ◌&&◌, if◌then◌else◌, List, [], ◌∷◌, ◌++◌, codes}
use Rattle.std.specs.Fmt.{signed_decimal}
use Rattle.std.specs.Ordering.{int_eq}
use Rattle.std.specs.Str.{bytes_eq}
use Rattle.dl_tree.specs.declared.tree.Tree.{Tree, Num, Sym, List', Row_of-Tree, end_of-Tree, more_of-Tree}
use Rattle.dl_tree.specs.Spelling.{Spells}

abbrev mutual
  -- a tree on one line: the parts of a list are separated by one space
  pub one_line : Tree → List ℕ
  one_line (Num value place) = signed_decimal value
  one_line (Sym name place) = name
  one_line (List' shape parts place) = 40 ∷ (parts_line parts ++ (41 ∷ []))

  pub parts_line : {m : _} → Row_of-Tree m → List ℕ
  parts_line end_of-Tree = []
  parts_line (more_of-Tree part parts) = one_line part ++ further_parts parts

  pub further_parts : {m : _} → Row_of-Tree m → List ℕ
  further_parts end_of-Tree = []
  further_parts (more_of-Tree part parts) = 32 ∷ (one_line part ++ further_parts parts)

-- each item on a line of its own after two spaces
abbrev pub item_lines : {m : _} → Row_of-Tree m → List ℕ
item_lines end_of-Tree = []
item_lines (more_of-Tree part parts) = 32 ∷ 32 ∷ (one_line part ++ (10 ∷ item_lines parts))

abbrev pub is_head : Tree → Bool
is_head (Sym name place) = bytes_eq name (codes "disel")
is_head _ = false

abbrev pub is_version : Tree → Bool
is_version (Num value place) = int_eq value (pos 1)
is_version _ = false

abbrev pub file_lines : {m : _} → Tree → Tree → Row_of-Tree m → List ℕ
file_lines head version items = 40 ∷ (one_line head ++ (32 ∷ (one_line version ++ (10 ∷ (item_lines items ++ (41 ∷ 10 ∷ []))))))

-- the layout of a whole tree with these parts, which is a file's where it has the head, the version and further parts
abbrev pub list_layout : {m : _} → Row_of-Tree m → List ℕ
list_layout (more_of-Tree head (more_of-Tree version (more_of-Tree item items))) =
    if is_head head && is_version version
    then file_lines head version (more_of-Tree item items)
    else 40 ∷ (parts_line (more_of-Tree head (more_of-Tree version (more_of-Tree item items))) ++ (41 ∷ []))
list_layout parts = 40 ∷ (parts_line parts ++ (41 ∷ []))

abbrev pub layout : Tree → List ℕ
layout (Num value place) = one_line (Num value place)
layout (Sym name place) = one_line (Sym name place)
layout (List' shape parts place) = list_layout parts

abbrev mutual
  -- the same tree, places aside
  pub SamePlacesAside : Tree → Tree → Type 0
  SamePlacesAside (Num value place) (Num other_value elsewhere) = value ≡ other_value
  SamePlacesAside (Sym name place) (Sym other elsewhere) = name ≡ other
  SamePlacesAside (List' shape parts place) (List' _ others elsewhere) = SameParts parts others
  SamePlacesAside _ _ = ⊥

  pub SameParts : {m n : _} → Row_of-Tree m → Row_of-Tree n → Type 0
  SameParts end_of-Tree end_of-Tree = Unit {0}
  SameParts (more_of-Tree part parts) (more_of-Tree other others) = SamePlacesAside part other × SameParts parts others
  SameParts _ _ = ⊥

-- where some text spells the tree, this one spells it too, places aside
abbrev pub SpellsAgain : List ℕ → Tree → Type 0
SpellsAgain again tree = (text : List ℕ) → Spells text tree → (other : Tree) × Spells again other × SamePlacesAside tree other
