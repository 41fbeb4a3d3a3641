use Rattle.std.proofs.Common.{◌≤◌, length, sym, subst}
use Rattle.dl_tree.proofs.FaultLemmas.{symbol_length}
use Rattle.dl_tree.proofs.SpellLemmas.{symbol_is_utf8}
use Rattle.dl_tree.proofs.reader.name_of.Goals as goal

pub new-requires : goal.new-requires
new-requires c = subst (λ text. length text ≤ 64) (sym c.in-Ok.ensures.cases.0) (symbol_length c.args.symbol.now c.requires)

pub unreachable-requires : goal.unreachable-requires
unreachable-requires c = absurd (c.in-Err.ensures.cases.0 (symbol_is_utf8 c.args.symbol.now c.requires))
