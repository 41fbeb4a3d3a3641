use Rattle.std.proofs.Common.{◌≡◌, drop}
use Rattle.dl_forms.specs.Table.{numbered}
use Rattle.dl_forms.proofs.TableLemmas.{texts_of}
use Rattle.dl_forms.proofs.table.Names.number_all.Given as goal

abbrev pub invariant-loop-word : goal.invariant-loop-word
invariant-loop-word l = numbered l.self (texts_of (drop l.word-index l.words)) ≡ numbered l.initial.self (texts_of l.initial.words)
