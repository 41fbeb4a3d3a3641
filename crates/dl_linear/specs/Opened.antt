-- What opens a certificate that the code takes apart.
use Rattle.dl_linear.specs.declared.certificate.Certificate.TheBlock as block

unfoldable pub opened : Unit {0}
unfolding block.hidden-the_row-Certificate-1 block.shape-the_row-Certificate-1 block.shown-the_row-Certificate-1 block.hidden-the_row-Multiple-0 block.shape-the_row-Multiple-0 block.shown-the_row-Multiple-0 denote.Hole.Carrier.hidden
opened = tt
