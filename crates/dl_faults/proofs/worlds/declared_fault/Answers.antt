use Rattle.std.proofs.Common.{arith}
use Rattle.std.specs.List.{flat_map, enumerate_from}
use Rattle.dl_faults.specs.Worlds.{world_wrong, invariant_wrong}
use Rattle.dl_faults.proofs.Stages.{both-parts}
use Rattle.dl_faults.proofs.worlds.declared_fault.Goals as goal

pub hooks_of_worlds_fault-of_hooks-requires : goal.hooks_of_worlds_fault-of_hooks-requires
hooks_of_worlds_fault-of_hooks-requires c = let few = c.requires.formed.small.worlds in omega (few, arith)

pub invariants_fault-requires-clause-few : goal.invariants_fault-requires-clause-few
invariants_fault-requires-clause-few c = let few = c.requires.formed.small.invariants in omega (few, arith)

pub returns : goal.returns
returns c =
    let file = c.args.file.now in
    both-parts (flat_map (world_wrong file) (enumerate_from 0 file.decls.worlds)) (flat_map (invariant_wrong file) (enumerate_from 0 file.decls.invariants))
    c.hooks_of_worlds_fault-of_hooks.result c.in_ok-of_invariants.of_invariants c.earlier_of.result
    c.hooks_of_worlds_fault-of_hooks.ensures c.in_ok-of_invariants.ensures c.earlier_of.ensures
