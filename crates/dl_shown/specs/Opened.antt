-- What opens a script that the code takes apart.
use Rattle.dl_sequent.specs.declared.script.Rule.TheBlock as block

unfoldable pub scripts : Unit {0}
unfolding block.hidden-the_row-Script-0 block.shape-the_row-Script-0 block.shown-the_row-Script-0 denote.Hole.Carrier.hidden
scripts = tt
