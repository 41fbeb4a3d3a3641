use Rattle.std.proofs.Common.{◌≡◌, drop}
use Rattle.std.specs.List.{list_all}
use Rattle.dl_formed_file.specs.Decided.{proof_is_formed}
use Rattle.dl_formed_file.proofs.names.are_formed.Given as goal

abbrev pub invariant-loop-proof : goal.invariant-loop-proof
invariant-loop-proof l = list_all (proof_is_formed l.decls l.bound.keys) (drop l.proof-index l.proofs) ≡ list_all (proof_is_formed l.decls l.bound.keys) l.proofs
