-- What computes on a tree that is written out.
use Rattle.dl_forms.proofs.NameLemmas.{bare-Sym}
use Rattle.dl_forms.proofs.TermLemmas.{bare-Num, bare-List}
use Rattle.dl_forms.proofs.NamingLemmas.{names_in-Num, names_in-Sym, names_in-List}
use Rattle.dl_notation.proofs.TreeLemmas.{parts_of-Num, parts_of-Sym, parts_of-List}
use Rattle.dl_notation.proofs.NamingLemmas.{names_of_list-Num, names_of_list-Sym, names_of_list-List}

pub ruleset computing = (
  bare-Num,
  bare-Sym,
  bare-List,
  names_in-Num,
  names_in-Sym,
  names_in-List,
  parts_of-Num,
  parts_of-Sym,
  parts_of-List,
  names_of_list-Num,
  names_of_list-Sym,
  names_of_list-List,
)
