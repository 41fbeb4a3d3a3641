-- The test of a file's declarations is true exactly where they are formed.
use Rattle.std.proofs.Common.{◌≡◌, ℕ, ◌≤◌, Bool, true, List, ◌++◌, length, sym, subst, ◌∙◌}
use Rattle.std.specs.Prelude.{nat_le, Some, slice_get, Result, Ok, Err, IfOk, ◌↔◌}
use Rattle.std.specs.declared.alloc.AllocError.{AllocError}
use Rattle.std.specs.List.{flat_map, AllByRecursion as Each}
use Rattle.dl_model.specs.declared.program.Proc.{Proc}
use Rattle.dl_model.specs.declared.file.Invariant.{Invariant}
use Rattle.dl_model.specs.declared.file.Decls.{Decls}
use Rattle.dl_model.specs.Formed.{AreNames, HookIsFormed, WorldIsFormed, InvariantIsFormed, ProcIsFormed, DeployIsFormed, FileIsSmall, InstancesAreFormed, IsFormed, declared_names, file_bound, file_variables, all_points}
use Rattle.dl_formed.specs.Decided.{hook_is_formed, world_is_formed, invariant_is_formed, protocol_is_apart, hook_is_apart, invariant_is_apart}
use Rattle.dl_formed.specs.Programs.{points_of_procs, proc_is_apart}
use Rattle.dl_formed.specs.Whole.{has_few_items, items_are_formed, binds_none_of, file_is_formed}
use Rattle.dl_formed.proofs.Deciding.{Says, said, two, at_most, equal, each, each_at, joined, flattened}
use Rattle.dl_formed.proofs.Knowing.{IsOther, apart}
use Rattle.dl_formed.proofs.Judging.{names_say, instances_say, hook_says, world_says, invariant_says, protocol_apart, bound_of_protocol, bound_of_hook, bound_of_invariant, bound_of_proc}
use Rattle.dl_formed.proofs.Running.{procs_say, deployment_says, proc_apart, points-agree}

apart_says : (decls : Decls) (names : List ℕ) → Says (binds_none_of names decls) (Each (IsOther names) (file_bound decls))
apart_says decls names =
    let in_protocols = flattened bound_of_protocol (protocol_is_apart names) (IsOther names) (protocol_apart names) decls.inst.protocols in
    let in_hooks = flattened bound_of_hook (hook_is_apart names) (IsOther names) (λ hook. apart names hook.formula) decls.hooks in
    let in_invariants = flattened bound_of_invariant (invariant_is_apart names) (IsOther names) (λ invariant. apart names invariant.formula) decls.invariants in
    let in_procs = flattened bound_of_proc (proc_is_apart names) (IsOther names) (proc_apart names) decls.procs in
    joined (IsOther names) (flat_map bound_of_protocol decls.inst.protocols)
    (flat_map bound_of_hook decls.hooks ++ (flat_map bound_of_invariant decls.invariants ++ flat_map bound_of_proc decls.procs)) in_protocols
    (joined (IsOther names) (flat_map bound_of_hook decls.hooks) (flat_map bound_of_invariant decls.invariants ++ flat_map bound_of_proc decls.procs) in_hooks
    (joined (IsOther names) (flat_map bound_of_invariant decls.invariants) (flat_map bound_of_proc decls.procs) in_invariants in_procs))

points_say : (procs : List Proc) → Says (nat_le (points_of_procs procs) 1048576) (all_points procs ≤ 1048576)
points_say procs = subst (λ n. Says (nat_le (points_of_procs procs) 1048576) (n ≤ 1048576)) (points-agree procs) (at_most (points_of_procs procs) 1048576)

abbrev Counts : Decls → Type 0
Counts decls =
    (1 ≤ decls.inst.nodes) × ((decls.inst.nodes ≤ 16) × ((length decls.inst.of ≤ 16) × ((length decls.inst.protocols ≤ 64) ×
    ((length decls.hooks ≤ 64) × ((length decls.worlds ≤ 64) × ((length decls.invariants ≤ 64) × ((length decls.procs ≤ 64) × (all_points decls.procs ≤ 1048576))))))))

small_says : (decls : Decls) → Says (has_few_items decls) (FileIsSmall decls)
small_says decls =
    said (Counts decls) (FileIsSmall decls)
    (λ w. record {
      some_node = w.0;
      nodes = w.1.0;
      labels = w.1.1.0;
      protocols = w.1.1.1.0;
      hooks = w.1.1.1.1.0;
      worlds = w.1.1.1.1.1.0;
      invariants = w.1.1.1.1.1.1.0;
      procs = w.1.1.1.1.1.1.1.0;
      points = w.1.1.1.1.1.1.1.1;
    })
    (λ r. (r.some_node, (r.nodes, (r.labels, (r.protocols, (r.hooks, (r.worlds, (r.invariants, (r.procs, r.points)))))))))
    (two (at_most 1 decls.inst.nodes) (two (at_most decls.inst.nodes 16) (two (at_most (length decls.inst.of) 16) (two (at_most (length decls.inst.protocols) 64)
    (two (at_most (length decls.hooks) 64) (two (at_most (length decls.worlds) 64) (two (at_most (length decls.invariants) 64) (two (at_most (length decls.procs) 64)
    (points_say decls.procs)))))))))

abbrev InvariantsAreFormed : Decls → Type 0
InvariantsAreFormed decls = (i : ℕ) (invariant : Invariant) → slice_get decls.invariants i ≡ Some invariant → InvariantIsFormed decls invariant

abbrev ProcsAreFormed : Decls → Type 0
ProcsAreFormed decls = (number : ℕ) (proc : Proc) → slice_get decls.procs number ≡ Some proc → ProcIsFormed decls number proc

abbrev Parts : Decls → Type 0
Parts decls =
    InstancesAreFormed decls.inst × (Each (HookIsFormed decls.inst) decls.hooks × (Each (WorldIsFormed decls) decls.worlds × (InvariantsAreFormed decls ×
    (ProcsAreFormed decls × DeployIsFormed decls decls.deploy))))

parts_say : (decls : Decls) → Says (items_are_formed decls) (Parts decls)
parts_say decls =
    two (instances_say decls.inst)
    (two (each (hook_is_formed decls.inst) (HookIsFormed decls.inst) (hook_says decls.inst) decls.hooks)
    (two (each (world_is_formed (length decls.inst.of) (length decls.hooks)) (WorldIsFormed decls) (world_says decls) decls.worlds)
    (two (each_at (invariant_is_formed decls.inst (length decls.worlds)) (InvariantIsFormed decls) (invariant_says decls) decls.invariants)
    (two (procs_say decls) (deployment_says decls decls.deploy)))))

abbrev Whole : Decls → Type 0
Whole decls =
    FileIsSmall decls × ((length decls.labels ≡ length decls.inst.of) × (Parts decls × (AreNames (declared_names decls) × Each (IsOther (file_variables decls)) (file_bound decls))))

whole_there : (decls : Decls) → Whole decls → IsFormed decls
whole_there decls w = record {
  small = w.0;
  inst = w.1.1.0.0;
  label_names = w.1.0;
  hooks = w.1.1.0.1.0;
  worlds = w.1.1.0.1.1.0;
  invariants = w.1.1.0.1.1.1.0;
  procs = w.1.1.0.1.1.1.1.0;
  deploy = w.1.1.0.1.1.1.1.1;
  names = w.1.1.1.0;
  apart = w.1.1.1.1;
}

whole_back : (decls : Decls) → IsFormed decls → Whole decls
whole_back decls f = (f.small, (f.label_names, ((f.inst, (f.hooks, (f.worlds, (f.invariants, (f.procs, f.deploy))))), (f.names, f.apart))))

formed_says : (decls : Decls) → Says (file_is_formed decls) (IsFormed decls)
formed_says decls =
    said (Whole decls) (IsFormed decls) (whole_there decls) (whole_back decls)
    (two (small_says decls) (two (equal (length decls.labels) (length decls.inst.of)) (two (parts_say decls)
    (two (names_say (declared_names decls)) (apart_says decls (file_variables decls))))))

-- where the test was decided
pub formed-where : (result : Result Bool AllocError) (decls : Decls) → IfOk result (λ formed. formed ≡ file_is_formed decls) →
    IfOk result (λ formed. (formed ≡ true) ↔ IsFormed decls)
formed-where (Ok formed) decls e = let s = formed_says decls in (λ t. s.there (sym e ∙ t), λ w. e ∙ s.back w)
formed-where (Err x) decls e = tt
