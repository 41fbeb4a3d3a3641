use Rattle.std.proofs.Common.{◌≡◌, true, false, sym, ◌∙◌, ap, rules, Err}
use Rattle.dl_term.specs.Measures.{is_oversized}
use Rattle.dl_model.specs.Block.{block_of}
use Rattle.dl_triples.specs.Points.{post_of, pre_of}
use Rattle.dl_points.specs.declared.backward.Trail.{the_lemmas}
use Rattle.dl_points.specs.Passing.{after_of, block_passes}
use Rattle.dl_inv.specs.declared.sequents.BuildFault.{BuildFault}
use Rattle.dl_inv.proofs.Listing.{where-done}
use Rattle.dl_points.proofs.Sized.{larger-too, block-fits}
use Rattle.dl_points.proofs.Backwards.{commands-passes, stops}
use Rattle.dl_points.proofs.backward.+after.Goals as goal

pub after_over-requires : goal.after_over-requires
after_over-requires t c = search (rules, the_lemmas)

pub returns-in-Returns-clause-made : goal.returns-in-Returns-clause-made
returns-in-Returns-clause-made t c =
    let is : post_of c.in-Returns.proc.now ≡ after_of c.args.trail.now = sym (ap after_of c.in-Returns.is) in
    where-done c.post_over.result (c.post_over.new.formula ≡ post_of c.in-Returns.proc.now) (c.post_over.new.formula ≡ after_of c.args.trail.now) c.post_over.ensures.made (λ e. e ∙ is)

pub returns-in-Returns-clause-limit : goal.returns-in-Returns-clause-limit
returns-in-Returns-clause-limit t c h = ap (λ trail. is_oversized (after_of trail)) c.in-Returns.is ∙ c.post_over.ensures.limit h

pub returns-then-not-all_pass-clause-made : goal.returns-then-not-all_pass-clause-made
returns-then-not-all_pass-clause-made t c =
    let commands = c.in-Runs.commands.now in
    let block = block_of commands in
    let outer = after_of c.in-Runs.outer.now in
    let is : pre_of block outer ≡ after_of c.args.trail.now = sym (ap after_of c.in-Runs.is) in
    let none : block_passes block ≡ false = sym (commands-passes commands) ∙ (sym c.all_pass.ensures ∙ c.if-not-all_pass.true) in
    where-done c.block_over.result (c.block_over.new.formula ≡ pre_of block c.args.formula.now) (c.block_over.new.formula ≡ after_of c.args.trail.now) c.block_over.ensures.made
    (λ e. e ∙ (stops block c.args.formula.now outer none ∙ is))

pub returns-then-not-all_pass-clause-limit : goal.returns-then-not-all_pass-clause-limit
returns-then-not-all_pass-clause-limit t c h =
    let commands = c.in-Runs.commands.now in
    let block = block_of commands in
    let outer = after_of c.in-Runs.outer.now in
    let is : after_of c.args.trail.now ≡ pre_of block outer = ap after_of c.in-Runs.is in
    let none : block_passes block ≡ false = sym (commands-passes commands) ∙ (sym c.all_pass.ensures ∙ c.if-not-all_pass.true) in
    ap is_oversized (is ∙ sym (stops block c.args.formula.now outer none)) ∙ c.block_over.ensures.limit h

pub returns-in_err-after_over-in-Runs-clause-limit : goal.returns-in_err-after_over-in-Runs-clause-limit
returns-in_err-after_over-in-Runs-clause-limit t c h =
    let same : c.from_residual.result ≡ Err c.in_err-after_over-in-Runs.field-0.0 = search rules in
    let was : c.after_over.result ≡ Err BuildFault.Limit = cc (h, same, c.in_err-after_over-in-Runs.was) in
    let commands = c.in-Runs.commands.now in
    let block = block_of commands in
    let outer = after_of c.in-Runs.outer.now in
    let is : after_of c.args.trail.now ≡ pre_of block outer = ap after_of c.in-Runs.is in
    let all : block_passes block ≡ true = sym (commands-passes commands) ∙ (sym c.all_pass.ensures ∙ c.if-not-all_pass.false) in
    ap is_oversized is ∙ larger-too outer (pre_of block outer) (block-fits block outer all) (c.after_over.ensures.limit was)

pub returns-in_ok-after_over-in-Runs-clause-made : goal.returns-in_ok-after_over-in-Runs-clause-made
returns-in_ok-after_over-in-Runs-clause-made t c =
    let block = block_of c.in-Runs.commands.now in
    let outer = after_of c.in-Runs.outer.now in
    let is : pre_of block outer ≡ after_of c.args.trail.now = sym (ap after_of c.in-Runs.is) in
    where-done c.block_over-in-Runs.result (c.block_over-in-Runs.new.formula ≡ pre_of block c.after_over.new.formula) (c.block_over-in-Runs.new.formula ≡ after_of c.args.trail.now)
    c.block_over-in-Runs.ensures.made (λ e. e ∙ (ap (λ f. pre_of block f) c.in_ok-after_over-in-Runs.ensures.made ∙ is))

pub returns-in_ok-after_over-in-Runs-clause-limit : goal.returns-in_ok-after_over-in-Runs-clause-limit
returns-in_ok-after_over-in-Runs-clause-limit t c h =
    let block = block_of c.in-Runs.commands.now in
    let is : after_of c.args.trail.now ≡ pre_of block (after_of c.in-Runs.outer.now) = ap after_of c.in-Runs.is in
    ap is_oversized is ∙ sym (ap (λ f. is_oversized (pre_of block f)) c.in_ok-after_over-in-Runs.ensures.made) ∙ c.block_over-in-Runs.ensures.limit h
