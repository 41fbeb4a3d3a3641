use Rattle.std.proofs.Common.{[], map, ap, ◌∙◌, arith}
use Rattle.std.specs.List.{range_with_len}
use Rattle.dl_faults.specs.Places.{coherence_place, invariant_place}
use Rattle.dl_faults.specs.Spots.{spots_of}
use Rattle.dl_verdict.specs.Keys.{key_of_proof, with_keys}
use Rattle.dl_verdict.proofs.Tables.{once-kept}
use Rattle.dl_verdict.proofs.known.known_of.Goals as goal

pub coherence_places-requires : goal.coherence_places-requires
coherence_places-requires c = let few = c.requires.decls.small.protocols in omega (few, c.len.ensures, arith)

pub invariant_places-requires : goal.invariant_places-requires
invariant_places-requires c = let few = c.requires.decls.small.invariants in omega (few, c.len-2.ensures, arith)

pub proc_places-requires : goal.proc_places-requires
proc_places-requires c = let few = c.requires.decls.small.procs in omega (few, c.len-3.ensures, arith)

pub returns-clause-known : goal.returns-clause-known
returns-clause-known c =
    let file = c.args.file.now in
    record {
      proofs = c.in_ok-proofs.ensures ∙ (ap (λ proofs. with_keys [] (map key_of_proof proofs)) c.as_slice.ensures ∙ once-kept file.proofs c.requires.once);
      coherences = c.in_ok-coherences.ensures ∙ ap (λ n. map (coherence_place file.tree) (range_with_len 0 n)) c.len.ensures;
      invariants = c.in_ok-invariants.ensures ∙ ap (λ n. map (invariant_place file.tree) (range_with_len 0 n)) c.len-2.ensures;
      procs = c.in_ok-procs.ensures ∙ ap (λ n. map (spots_of file.tree) (range_with_len 0 n)) c.len-3.ensures;
    }
