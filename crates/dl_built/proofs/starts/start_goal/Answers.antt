use Rattle.dl_model.specs.Block.{block_of}
use Rattle.dl_model.specs.declared.program.Command.{Command}
use Rattle.dl_term.specs.Measures.{is_oversized}
use Rattle.dl_term.specs.declared.syntax.Lab.TheVariants.{Own}
use Rattle.dl_points.proofs.Sized.{larger-too, put-fits-in}
use Rattle.dl_triples.specs.Obligations.{put}
use Rattle.dl_triples.specs.Points.{post_of, pre_of}
use Rattle.std.proofs.Common.{List, [], ap, rules, sym, Err, ◌∙◌, ◌≡◌}
use Rattle.dl_inv.specs.declared.sequents.BuildFault.{BuildFault}
use Rattle.dl_built.proofs.starts.start_goal.Goals as goal

pub returns-clause-made : goal.returns-clause-made
returns-clause-made c =
    let proc = c.args.proc.now in
    let asked : c.after_over.new.formula ≡ pre_of (block_of proc.body) (post_of proc) =
    c.in_ok-after_over.ensures.made ∙ ap (λ (cs : List Command). pre_of (block_of cs) (post_of proc)) c.as_slice.ensures in
    c.in_ok-terms_over.ensures ∙ (λ i. put (asked i) (c.as_slice-2.ensures i) [])

pub returns-in_err-after_over-clause-limit : goal.returns-in_err-after_over-clause-limit
returns-in_err-after_over-clause-limit c h =
    let same : c.from_residual.result ≡ Err c.in_err-after_over.field-0.0 = search rules in
    let was : c.after_over.result ≡ Err BuildFault.Limit = cc (h, same, c.in_err-after_over.was) in
    let proc = c.args.proc.now in
    let asked : pre_of (block_of c.as_slice.result.now) (post_of proc) ≡ pre_of (block_of proc.body) (post_of proc) =
    ap (λ (cs : List Command). pre_of (block_of cs) (post_of proc)) c.as_slice.ensures in
    larger-too (pre_of (block_of proc.body) (post_of proc)) (put (pre_of (block_of proc.body) (post_of proc)) proc.locals []) (put-fits-in (pre_of (block_of proc.body) (post_of proc)) proc.locals [] Own)
    (sym (ap is_oversized asked) ∙ c.after_over.ensures.limit was)
