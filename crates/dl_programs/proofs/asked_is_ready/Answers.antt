use Rattle.dl_model.specs.Lookup.{proc_at}
use Rattle.dl_sound.specs.Obligations.{truth}
use Rattle.dl_programs.proofs.Ready.{pre-ready}
use Rattle.dl_programs.proofs.asked_is_ready.Goals as goal

pub returns : goal.returns
returns c = λ d number block after names state formed known asked. pre-ready d number (proc_at d.procs number) block after (truth after) names state formed known.0 (λ n e. e) asked
