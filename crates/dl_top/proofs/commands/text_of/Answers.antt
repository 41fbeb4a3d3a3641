use Rattle.dl_top.proofs.Accepting.{text-of-tree}
use Rattle.dl_top.proofs.commands.text_of.Goals as goal

pub returns-in-Ok-clause-output : goal.returns-in-Ok-clause-output
returns-in-Ok-clause-output c =
    text-of-tree (λ output. output.text.items) (λ output. output.ended) c.args.command c.args.text.now c.in-Ok.tree c.output_of.result c.in-Ok.ensures.tree c.output_of.ensures.output
