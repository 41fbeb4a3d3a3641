use Rattle.dl_model.specs.Runs.{initial}
use Rattle.dl_history.proofs.Passing.{leads-through}
use Rattle.dl_history.proofs.laws.run_tells_state.Goals as goal

pub returns : goal.returns
returns c decls entries after = leads-through decls entries (initial decls) after
