use Rattle.std.proofs.Common.{◌≡◌, drop, map}
use Rattle.dl_formed_file.specs.Keys.{key_of_proof, with_keys}
use Rattle.dl_formed_file.proofs.keys.add_proofs.Given as goal

abbrev pub invariant-loop-proof : goal.invariant-loop-proof
invariant-loop-proof l = with_keys l.set.keys (map key_of_proof (drop l.proof-index l.proofs)) ≡ with_keys l.initial.set.keys (map key_of_proof l.proofs)
