-- The names of a tree, in the order in which they stand.
use Rattle.std.specs.Prelude.{List, [], ◌∷◌, ◌++◌, Option, Some, None}
use Rattle.dl_tree.specs.declared.tree.Tree.{Tree, Num, Sym, List'}
use Rattle.dl_tree.specs.declared.tree.Tree.TheOpen.{Tree-F}
use Rattle.dl_tree.specs.declared.tree.Tree.TheOpen as layer
use Rattle.dl_tree.specs.declared.tree.Tree.TheFolds.{para-Tree}
use Rattle.dl_forms.specs.declared.position.Position.TheVariants as position
use Rattle.dl_forms.specs.Context.{Text}
use Rattle.dl_forms.specs.Judge.{text_of}
use Rattle.dl_forms.specs.Naming.{names_in}
use Rattle.dl_notation.specs.declared.role.Role.{Role}
use Rattle.dl_notation.specs.declared.role.Role.TheVariants.{Number, Name, Constant, Way, Formula, Term}
use Rattle.dl_notation.specs.declared.role.Role.TheVariants as role
use Rattle.dl_notation.specs.declared.role.ListRole.{ListRole}
use Rattle.dl_notation.specs.Notation.{Form}
use Rattle.dl_notation.specs.Trees.{laid_out}

abbrev pub symbols_of : Tree → List Text
symbols_of (Sym name p) = name ∷ []
symbols_of (Num v p) = []
symbols_of (List' s row p) = []

abbrev pub Namer : Type 0
Namer = ListRole → List Text

abbrev pub part_namer : Role → Tree × Namer → List Text
part_namer (Number n) part = []
part_namer (Name n) part = symbols_of part.0
part_namer Constant part = symbols_of part.0
part_namer Way part = []
part_namer (Formula f) part = names_in part.0 position.Formula
part_namer (Term t) part = names_in part.0 position.Term
part_namer (role.List l) part = part.1 l

abbrev pub parts_namer : List Role → Option Role → List (Tree × Namer) → List Text
parts_namer (q ∷ qs) rest (part ∷ parts) = part_namer q part ++ parts_namer qs rest parts
parts_namer [] (Some q) (part ∷ parts) = part_namer q part ++ parts_namer [] (Some q) parts
parts_namer _ _ _ = []

abbrev pub laid_namer : Option (Form × Text × List (Tree × Namer)) → List Text
laid_namer (Some laid) = parts_namer laid.0.fixed laid.0.rest laid.2
laid_namer None = []

abbrev pub layer_namer : Tree-F (Tree × Namer) → Namer
layer_namer (layer.Num v p) l = []
layer_namer (layer.Sym name p) l = []
layer_namer (layer.List parts p) l = laid_namer (laid_out (λ part. text_of part.0) l parts)

-- the names of a list, as often as they stand there; the words that forms begin with are none
unfoldable pub names_of_list : Tree → ListRole → List Text
names_of_list = para-Tree Namer layer_namer

-- the same of the parts of a list
abbrev pub names_of_part : Role → Tree → List Text
names_of_part q part = part_namer q (part, names_of_list part)

abbrev pub names_of_parts : List Role → Option Role → List Tree → List Text
names_of_parts (q ∷ qs) rest (part ∷ parts) = names_of_part q part ++ names_of_parts qs rest parts
names_of_parts [] (Some q) (part ∷ parts) = names_of_part q part ++ names_of_parts [] (Some q) parts
names_of_parts _ _ _ = []

abbrev pub names_of_laid : Option (Form × Text × List Tree) → List Text
names_of_laid (Some laid) = names_of_parts laid.0.fixed laid.0.rest laid.2
names_of_laid None = []
