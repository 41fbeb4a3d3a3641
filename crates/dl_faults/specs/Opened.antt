-- What opens a tree that is written out.
use Rattle.dl_tree.specs.declared.tree.Tree.TheBlock as block

unfoldable pub opened : Unit {0}
unfolding block.hidden-the_row-Tree-0
opened = tt
