-- The words that forms begin with.
use Rattle.std.specs.Prelude.{ℕ, List, codes, if◌then◌else◌}
use Rattle.std.specs.Str.{bytes_eq}
use Rattle.dl_tree.specs.declared.tree.Tree.{Tree, Num, Sym, List'}
use Rattle.dl_forms.specs.declared.head.Head.{Head}
use Rattle.dl_forms.specs.declared.head.Head.TheVariants.{Get, Len, Id, From, To, Live, Arg, Add, Sub, Mul, If, Eq, Lt, Le, Not, And, Or, Implies, All, Some, Each, Any, Other}

unfoldable pub head_named : List ℕ → Head
head_named name =
    if bytes_eq name (codes "get") then Get else
    if bytes_eq name (codes "len") then Len else
    if bytes_eq name (codes "id") then Id else
    if bytes_eq name (codes "from") then From else
    if bytes_eq name (codes "to") then To else
    if bytes_eq name (codes "live") then Live else
    if bytes_eq name (codes "arg") then Arg else
    if bytes_eq name (codes "+") then Add else
    if bytes_eq name (codes "-") then Sub else
    if bytes_eq name (codes "*") then Mul else
    if bytes_eq name (codes "if") then If else
    if bytes_eq name (codes "=") then Eq else
    if bytes_eq name (codes "<") then Lt else
    if bytes_eq name (codes "<=") then Le else
    if bytes_eq name (codes "not") then Not else
    if bytes_eq name (codes "and") then And else
    if bytes_eq name (codes "or") then Or else
    if bytes_eq name (codes "implies") then Implies else
    if bytes_eq name (codes "all") then All else
    if bytes_eq name (codes "some") then Some else
    if bytes_eq name (codes "each") then Each else
    if bytes_eq name (codes "any") then Any else Other

abbrev pub head_of : Tree → Head
head_of (Sym name p) = head_named name
head_of (Num v p) = Other
head_of (List' s row p) = Other
