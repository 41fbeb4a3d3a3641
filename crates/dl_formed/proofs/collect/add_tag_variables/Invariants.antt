use Rattle.std.proofs.Common.{◌≡◌, ◌++◌, drop}
use Rattle.dl_formed.specs.Collected.{tag_variables}
use Rattle.dl_formed.proofs.collect.add_tag_variables.Given as goal

abbrev pub invariant-loop-tag : goal.invariant-loop-tag
invariant-loop-tag l = l.names ++ tag_variables (drop l.tag-index l.tags) ≡ l.initial.names ++ tag_variables l.tags
