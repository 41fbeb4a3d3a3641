use Rattle.std.proofs.Common.{is_some, ◌∙◌, ap}
use Rattle.dl_kernel.proofs.CleanLemmas.{sort-known}
use Rattle.dl_kernel.proofs.scope.is_variable.Goals as goal

pub returns : goal.returns
returns c = c.is_some.ensures ∙ ap is_some c.sort_of.ensures ∙ sort-known c.args.vars.now c.args.name
