-- Where the obligations of procedures and of the deployment are valid, they say what they mean, and every run is safe.
use Rattle.std.proofs.Common.{◌≡◌, ℕ, suc, ◌+◌, ◌<◌, length, unwrap_or, ap, ◌∙◌, arith}
use Rattle.std.specs.List.{AllByRecursion as Each, flat_map}
use Rattle.dl_model.specs.declared.program.Proc.{Proc}
use Rattle.dl_model.specs.declared.file.Decls.{Decls}
use Rattle.dl_model.specs.Block.{block_of}
use Rattle.dl_model.specs.Lookup.{proc_at}
use Rattle.dl_model.specs.Formed.{ProcIsFormed, IsFormed}
use Rattle.dl_model.specs.Safe.{EachRunIsSafe}
use Rattle.dl_model.specs.Worlds.{KeepsWorlds}
use Rattle.dl_model.proofs.Small.{each-front, each-back}
use Rattle.dl_inv.specs.Duties.{positions, duties_of as duties_of_states}
use Rattle.dl_inv.specs.Taken.{IsMet as IsMetBelow}
use Rattle.dl_sound.specs.Obligations.{at_end, ProcObligations}
use Rattle.dl_sound.proofs.Bridge.{state-needs, program-needs, all-obligations}
use Rattle.dl_sound.proofs.Safe.{runs-safe}
use Rattle.dl_sound.proofs.Valid.{obligations-mean}
use Rattle.dl_sound.proofs.Members.{has-position, flat-at}
use Rattle.dl_triples.specs.Points.{no_point, post_of, points_in, point_at}
use Rattle.dl_triples.specs.Duties.{duties_of_block, stability, duties_of_proc, duties_of_deployment, duties_of}
use Rattle.dl_triples.specs.Taken.{IsMet}
use Rattle.dl_programs.proofs.Ready.{known-post, end-ready}
use Rattle.dl_programs.proofs.Places.{started}
use Rattle.dl_programs.proofs.Calls.{proc-there}
use Rattle.dl_programs.proofs.Points.{AtPoints}
use Rattle.dl_programs.proofs.Stability.{post-stable}
use Rattle.dl_programs.proofs.Blocks.{block-means}
use Rattle.dl_programs.proofs.Deployed.{deployed-means}

all-points : (proc : Proc) → AtPoints proc 1 (points_in proc)
all-points proc = record { at = λ i p e. let m : 1 + i ≡ suc i = omega arith in ap (point_at proc) m ∙ ap (λ o. unwrap_or o no_point) e }

pub programs-mean : (d : Decls) → IsFormed d → Each (IsMet d) (duties_of d) → (number : ℕ) → number < length d.procs → ProcObligations d number
programs-mean d formed met number less =
    let proc = proc_at d.procs number in
    let there = proc-there d.procs number less in
    let is_formed : ProcIsFormed d number proc = formed.procs number proc there in
    let mine = flat-at (IsMet d) (duties_of_proc d) (positions d.procs) number (each-front (IsMet d) (flat_map (duties_of_proc d) (positions d.procs)) (duties_of_deployment d) met) (has-position d.procs number less) in
    record {
      start = started d formed number there mine.0.2;
      body = block-means d formed number there (block_of proc.body) 1 (post_of proc) (at_end d number) is_formed.body (known-post d formed number there) (λ n state e. end-ready d formed number there n state e) (omega arith) (all-points proc)
          (each-front (IsMet d) (duties_of_block d number 1 (block_of proc.body)) (stability d number 0 proc.post) mine.1);
      post = post-stable d formed number is_formed.post.0 (each-back (IsMet d) (duties_of_block d number 1 (block_of proc.body)) (stability d number 0 proc.post) mine.1);
    }

pub programs-safe : (d : Decls) → IsFormed d → KeepsWorlds d → Each (IsMetBelow d) (duties_of_states d) → Each (IsMet d) (duties_of d) → EachRunIsSafe d
programs-safe d formed worlds states met =
    runs-safe d (state-needs d formed worlds) (program-needs d formed worlds) (all-obligations d (record {
      states = obligations-mean d formed states;
      procs = programs-mean d formed met;
      deployed = deployed-means d formed (each-back (IsMet d) (flat_map (duties_of_proc d) (positions d.procs)) (duties_of_deployment d) met);
    }))
