-- Where a tree stands.
use Rattle.dl_tree.specs.declared.tree.Place.{Place}
use Rattle.dl_tree.specs.declared.tree.Tree.{Tree, Num, Sym, List'}

-- the place of a tree's first byte
abbrev pub place_of : Tree → Place
place_of (Num value place) = place
place_of (Sym name place) = place
place_of (List' shape parts place) = place
