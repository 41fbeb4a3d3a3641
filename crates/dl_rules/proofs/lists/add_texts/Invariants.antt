use Rattle.std.proofs.Common.{◌≡◌, ◌++◌, drop}
use Rattle.dl_notation.specs.Obligations.{texts_of}
use Rattle.dl_rules.proofs.lists.add_texts.Given as goal

abbrev pub invariant-loop-part : goal.invariant-loop-part
invariant-loop-part l = l.texts.items ++ texts_of (drop l.part-index l.parts) ≡ l.initial.texts.items ++ texts_of l.parts
