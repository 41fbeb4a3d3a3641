use Rattle.std.specs.List.{flat_map}
use Rattle.dl_model.proofs.Small.{each-back}
use Rattle.dl_inv.specs.Duties.{positions}
use Rattle.dl_triples.specs.Duties.{duties_of_proc, duties_of_deployment}
use Rattle.dl_triples.specs.Taken.{IsMet}
use Rattle.dl_programs.proofs.Deployed.{deployed-means}
use Rattle.dl_programs.proofs.Programs.{programs-mean}
use Rattle.dl_programs.proofs.obligations_of_programs_mean.Goals as goal

pub returns : goal.returns
returns c = record {
  procs = programs-mean;
  deployed = λ d formed met node program e. deployed-means d formed (each-back (IsMet d) (flat_map (duties_of_proc d) (positions d.procs)) (duties_of_deployment d) met) node program e;
}
