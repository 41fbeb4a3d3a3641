use Rattle.std.proofs.Common.{◌≡◌, ◌++◌, drop}
use Rattle.dl_scope.proofs.declared.add_tags.Given as goal

abbrev pub invariant-loop-tag : goal.invariant-loop-tag
invariant-loop-tag l = l.tags ++ drop l.tag-index l.more ≡ l.initial.tags ++ l.more
