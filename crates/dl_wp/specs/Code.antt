-- What the code's own types stand for: a step, and the names bound around a place.
use Rattle.std.specs.Prelude.{ℕ, pos, Option, Some, None}
use Rattle.dl_model.specs.Lookup.{arg_names}
use Rattle.dl_wp.specs.declared.plan.Sight.{Sight}
use Rattle.dl_wp.specs.declared.plan.Plan.{Plan}
use Rattle.dl_wp.specs.declared.plan.Motion.{Motion}
use Rattle.dl_wp.specs.declared.plan.Motion.TheVariants.{Sends as CodeSends, Receives as CodeReceives}
use Rattle.dl_wp.specs.declared.bound.Bound.{Bound, Nothing, Variable', Message'}
use Rattle.dl_term.specs.declared.syntax.Term.{Term, Num}
use Rattle.dl_model.specs.declared.protocol.Update.{Update}
use Rattle.dl_subst.specs.Change.{Change}
use Rattle.dl_wp.specs.Steps.{Move, Sends, Receives, Step, names_in_step, as_seen, seen_index}
use Rattle.dl_wp.specs.Captures.{Around, nothing_around, under_variable, under_message}

abbrev pub named_in : Sight → ℕ → Term
named_in sight = names_in_step sight.node.now sight.word sight.other.now (arg_names sight.params.now) sight.args.now

abbrev pub sight_of : Sight → Change
sight_of sight = as_seen sight.label (named_in sight)

abbrev pub move_of : Motion → Move
move_of (CodeSends new) = Sends new.now
move_of (CodeReceives msg) = Receives msg

abbrev pub step_of : Plan → Step
step_of plan = record {
  label = plan.sight.label;
  tag = plan.tag;
  node = plan.sight.node.now;
  named = named_in plan.sight;
  updates = plan.updates.now;
  move = move_of plan.motion;
}

abbrev pub around_of : Bound → Around
around_of Nothing = nothing_around
around_of (Variable' p outer x) = under_variable (around_of outer) x
around_of (Message' p outer m is) = under_message (around_of outer) m is

-- where an update writes, or 0 where there is none
abbrev pub index_in : Step → Option Update → Term
index_in step (Some u) = seen_index step u.index
index_in step None = Num (pos 0)
