use Rattle.std.proofs.Common.{◌≡◌, drop}
use Rattle.std.specs.List.{list_all}
use Rattle.dl_means.specs.Known.{words_of}
use Rattle.dl_means.specs.Says.{says_term}
use Rattle.dl_means.proofs.commands.says_terms.Given as goal

abbrev pub invariant-loop-term : goal.invariant-loop-term
invariant-loop-term l =
    list_all (says_term l.names (words_of l.words)) (drop l.term-index l.terms) ≡ list_all (says_term l.names (words_of l.words)) l.terms
