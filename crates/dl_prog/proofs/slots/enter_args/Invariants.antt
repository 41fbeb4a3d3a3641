use Rattle.std.proofs.Common.{◌≡◌, ◌+◌, take, drop, length}
use Rattle.dl_model.specs.Lookup.{arg_names}
use Rattle.dl_model.specs.Words.{me_names, with_numbers}
use Rattle.dl_prog.specs.Slots.{named}
use Rattle.dl_prog.proofs.slots.enter_args.Given as goal

abbrev pub invariant-loop-at : goal.invariant-loop-at
invariant-loop-at l =
    (length l.slots ≡ 25)
    × (with_numbers (named (take (l.first + l.at) l.slots)) (arg_names (drop l.at l.params)) (drop l.at l.args) ≡ with_numbers (me_names 0 l.me) (arg_names l.params) l.args)
    × (take 16 l.slots ≡ take 16 l.fn.slots)
