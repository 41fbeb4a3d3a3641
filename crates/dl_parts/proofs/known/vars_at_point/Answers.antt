use Rattle.std.proofs.Common.{◌≡◌, ◌∙◌, arith}
use Rattle.dl_model.specs.Words.{result_word}
use Rattle.dl_inv.proofs.Building.{where-ok}
use Rattle.dl_triples.specs.Obligations.{vars_of}
use Rattle.dl_triples.specs.Built.{vars_after, vars_at}
use Rattle.dl_parts.proofs.Parts.{vars-first, vars-later}
use Rattle.dl_parts.proofs.known.vars_at_point.Goals as goal

pub returns-then-point-eq0 : goal.returns-then-point-eq0
returns-then-point-eq0 c =
    let decls = c.args.decls.now in
    let proc = c.args.proc.now in
    where-ok c.vars_with.result (λ vars. vars ≡ vars_after decls proc result_word) (λ vars. vars ≡ vars_at decls proc c.args.point) c.vars_with.ensures
    (λ vars e. e ∙ vars-first decls proc c.args.point c.if-point-eq0.true)

pub returns : goal.returns
returns c =
    let decls = c.args.decls.now in
    let proc = c.args.proc.now in
    where-ok c.vars_in.result (λ vars. vars ≡ vars_of decls proc) (λ vars. vars ≡ vars_at decls proc c.args.point) c.vars_in.ensures
    (λ vars e. e ∙ vars-later decls proc c.args.point (omega (arith, c.if-point-eq0.false)))
