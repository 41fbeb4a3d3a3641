use Rattle.dl_model.specs.Runs.{initial}
use Rattle.dl_model.proofs.Prefixes.{leads-parts}
use Rattle.dl_model.proofs.laws.prefixes_are_runs.Goals as goal

pub returns : goal.returns
returns c decls entries more after run = leads-parts decls entries more (initial decls) after run
