use Rattle.std.proofs.Common.{◌≡◌, ◌++◌, drop}
use Rattle.dl_notation.specs.Obligations.{texts_of}
use Rattle.dl_means.proofs.worlds.texts_of.Given as goal

abbrev pub invariant-loop-part : goal.invariant-loop-part
invariant-loop-part l =
    l.texts ++ texts_of (drop l.part-index l.parts) ≡ texts_of l.parts
