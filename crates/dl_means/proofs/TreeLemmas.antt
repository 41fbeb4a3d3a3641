-- Parts of trees, and trees without places.
use Rattle.dl_forms.proofs.NameLemmas.{bare-Sym}
use Rattle.dl_forms.proofs.TermLemmas.{bare-Num, bare-List}
use Rattle.dl_notation.proofs.TreeLemmas.{parts_of-Num, parts_of-Sym, parts_of-List}

pub ruleset trees = (parts_of-Num, parts_of-Sym, parts_of-List)

pub ruleset bares = (bare-Num, bare-Sym, bare-List)
