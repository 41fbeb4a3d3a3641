use Rattle.std.proofs.Common.{◌≡◌, length, sym, subst, arith}
use Rattle.std.specs.List.{All}
use Rattle.std.proofs.lemmas.List.{take_at}
use Rattle.std.proofs.lemmas.Grind.{common_steps}
use Rattle.dl_state.specs.Kept.{HasSpare, SlotCanGrow}
use Rattle.dl_state.proofs.SlotLemmas.{can-grow, all-max}
use Rattle.dl_state.proofs.world.WorldState.reserve.Goals as goal

pub reserve_each-requires : goal.reserve_each-requires
reserve_each-requires c = subst (All (SlotCanGrow c.args.more)) (sym c.as_mut_slice.ensures.value) (can-grow c.args.more c.self.inside c.args.self.now c.self.view_is c.requires)

pub invariant_of-self : goal.invariant_of-self
invariant_of-self c =
    let count : length c.reserve_each.new.labels ≡ c.self.inside.labels.len = grind (arith, common_steps) in
    subst (All (HasSpare c.self.inside.spare)) (sym (take_at c.reserve_each.new.labels _ c.self.inside.labels.len count))
    (c.reserve_each.ensures.kept c.self.inside.spare (subst (All (HasSpare c.self.inside.spare)) (sym c.as_mut_slice.ensures.value) c.self.invariant))

pub invariant_of-self-2 : goal.invariant_of-self-2
invariant_of-self-2 c =
    let count : length c.reserve_each.new.labels ≡ c.self.inside.labels.len = grind (arith, common_steps) in
    subst (All (HasSpare c.max-self-inside.result)) (sym (take_at c.reserve_each.new.labels _ c.self.inside.labels.len count))
    (all-max c.self.inside.spare c.args.more c.max-self-inside.result c.reserve_each.new.labels c.max-self-inside.ensures
    (c.reserve_each.ensures.kept c.self.inside.spare (subst (All (HasSpare c.self.inside.spare)) (sym c.as_mut_slice.ensures.value) c.self.invariant))
    c.in_ok-reserve_each.ensures.room)
