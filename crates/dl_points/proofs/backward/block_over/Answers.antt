use Rattle.std.proofs.Common.{◌≡◌, sym, ◌∙◌, ap}
use Rattle.dl_term.specs.Measures.{is_oversized}
use Rattle.dl_model.specs.Block.{block_of}
use Rattle.dl_triples.specs.Points.{pre_of}
use Rattle.dl_points.specs.Passing.{pre_of_commands}
use Rattle.dl_inv.proofs.Listing.{where-done}
use Rattle.dl_points.proofs.Backwards.{commands-pre}
use Rattle.dl_points.proofs.backward.block_over.Goals as goal

pub returns-clause-made : goal.returns-clause-made
returns-clause-made c =
    let commands = c.args.commands.now in
    where-done c.pre_over.result (c.pre_over.new.formula ≡ pre_of_commands commands c.args.formula.now) (c.pre_over.new.formula ≡ pre_of (block_of commands) c.args.formula.now) c.pre_over.ensures.made
    (λ e. e ∙ commands-pre commands c.args.formula.now)

pub returns-clause-limit : goal.returns-clause-limit
returns-clause-limit c h = sym (ap is_oversized (commands-pre c.args.commands.now c.args.formula.now)) ∙ c.pre_over.ensures.limit h
