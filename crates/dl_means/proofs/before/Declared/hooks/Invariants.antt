use Rattle.std.proofs.Common.{◌≡◌, drop, map}
use Rattle.dl_forms.specs.Context.{look_up}
use Rattle.dl_means.specs.Seen.{seen_named}
use Rattle.dl_means.proofs.before.Declared.hooks.Given as goal

abbrev pub invariant-loop-named : goal.invariant-loop-named
invariant-loop-named l =
    look_up l.name (map seen_named (drop l.named-index l.named-items)) ≡ look_up l.name (map seen_named l.named-items)
