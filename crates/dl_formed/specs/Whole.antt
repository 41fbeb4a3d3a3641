-- Whether the declarations of a file are formed, as a test.
use Rattle.std.specs.Prelude.{ℕ, nat_le, Bool, ◌&&◌, ◌==◌, List, length}
use Rattle.std.specs.List.{list_all}
use Rattle.dl_model.specs.declared.file.Decls.{Decls}
use Rattle.dl_model.specs.Formed.{declared_names, file_variables}
use Rattle.dl_formed.specs.Decided.{are_names, instances_are_formed, hook_is_formed, world_is_formed, invariant_is_formed, protocol_is_apart, hook_is_apart, invariant_is_apart}
use Rattle.dl_formed.specs.Programs.{points_of_procs, procs_are_formed, deployment_is_formed, proc_is_apart}

-- there is a node, and no count is past its limit
abbrev pub has_few_items : Decls → Bool
has_few_items decls =
    nat_le 1 decls.inst.nodes && (nat_le decls.inst.nodes 16 && (nat_le (length decls.inst.of) 16 &&
    (nat_le (length decls.inst.protocols) 64 && (nat_le (length decls.hooks) 64 && (nat_le (length decls.worlds) 64 &&
    (nat_le (length decls.invariants) 64 && (nat_le (length decls.procs) 64 && nat_le (points_of_procs decls.procs) 1048576)))))))

-- the items, each by itself
abbrev pub items_are_formed : Decls → Bool
items_are_formed decls =
    instances_are_formed decls.inst && (list_all (hook_is_formed decls.inst) decls.hooks &&
    (list_all (world_is_formed (length decls.inst.of) (length decls.hooks)) decls.worlds &&
    (list_all (invariant_is_formed decls.inst (length decls.worlds)) decls.invariants &&
    (procs_are_formed decls 0 decls.procs && deployment_is_formed decls decls.deploy))))

-- no quantifier of the file binds one of these names
abbrev pub binds_none_of : List ℕ → Decls → Bool
binds_none_of names decls =
    list_all (protocol_is_apart names) decls.inst.protocols &&
    (list_all (hook_is_apart names) decls.hooks && (list_all (invariant_is_apart names) decls.invariants && list_all (proc_is_apart names) decls.procs))

abbrev pub file_is_formed : Decls → Bool
file_is_formed decls =
    has_few_items decls && ((length decls.labels == length decls.inst.of) &&
    (items_are_formed decls && (are_names (declared_names decls) && binds_none_of (file_variables decls) decls)))
