use Rattle.std.proofs.Common.{refl}
use Rattle.dl_term.specs.Syntax.{opened as formula_opened}
use Rattle.dl_linear.specs.Opened.{opened as certificate_opened}
use Rattle.dl_kernel.specs.Opened.{opened}
use Rattle.dl_kernel.proofs.laws.rules_compute.Goals as goal

pub returns : goal.returns
unfolding formula_opened certificate_opened opened
returns c = record {
  by = refl;
  by_another = refl;
  by_nothing = refl;
  close = refl;
  close_false = refl;
  close_open = refl;
  split = refl;
  split_or = refl;
  pick = refl;
  pick_third = refl;
  intro = refl;
  intro_not = refl;
  intro_taken = refl;
  opens = refl;
  open_each = refl;
  open_old = refl;
  open_bound = refl;
  give = refl;
  give_variable = refl;
  give_outside = refl;
  parts = refl;
  parts_one_name = refl;
  cases = refl;
  cases_and = refl;
  apply = refl;
  apply_not = refl;
  apply_or = refl;
  instance = refl;
  instance_message = refl;
  instance_outside = refl;
  instance_unknown = refl;
  unpack = refl;
  unpack_old = refl;
  have = refl;
  have_unknown = refl;
  decide = refl;
  decide_bound = refl;
  rewrite = refl;
  rewrite_message = refl;
  rewrite_itself = refl;
  reduce = refl;
  reduce_not = refl;
  reduce_itself = refl;
  range = refl;
  range_id = refl;
  range_none = refl;
  linear = refl;
  linear_undivided = refl;
  linear_own_goal = refl;
}
