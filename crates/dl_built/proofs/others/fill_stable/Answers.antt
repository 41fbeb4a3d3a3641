use Rattle.std.proofs.Common.{◌≡◌, sym, ◌∙◌, ap}
use Rattle.dl_term.specs.Measures.{is_oversized}
use Rattle.dl_term.specs.declared.syntax.Formula.{Formula}
use Rattle.dl_inv.proofs.Listing.{where-done}
use Rattle.dl_triples.specs.Obligations.{kept_sequent}
use Rattle.dl_triples.specs.Built.{vars_at, stays_at, step_captures}
use Rattle.dl_built.proofs.others.fill_stable.Goals as goal

pub fill_kept-filled-requires-clause-quiet : goal.fill_kept-filled-requires-clause-quiet
fill_kept-filled-requires-clause-quiet c =
    let is = c.stays-formula.ensures in
    ap (λ (f : Formula). step_captures c.args.decls.now f c.args.label c.args.tag c.args.receive c.args.names.now) is ∙ c.requires.quiet

pub returns-clause-made : goal.returns-clause-made
returns-clause-made c =
    let decls = c.args.decls.now in
    let proc = c.args.proc.now in
    let vars = vars_at decls proc c.args.point in
    let is = c.stays-formula.ensures in
    where-done c.fill_kept-filled.result (c.fill_kept-filled.new.made ≡ kept_sequent decls proc vars c.stays-formula.result.now c.args.label c.args.tag c.args.receive c.args.names.now)
    (c.fill_kept-filled.new.made ≡ kept_sequent decls proc vars (stays_at proc c.args.point) c.args.label c.args.tag c.args.receive c.args.names.now) c.fill_kept-filled.ensures.made
    (λ e. e ∙ ap (λ (f : Formula). kept_sequent decls proc vars f c.args.label c.args.tag c.args.receive c.args.names.now) is)

pub returns-clause-limit : goal.returns-clause-limit
returns-clause-limit c h =
    let decls = c.args.decls.now in
    let proc = c.args.proc.now in
    let vars = vars_at decls proc c.args.point in
    let is = c.stays-formula.ensures in
    sym (ap (λ (f : Formula). is_oversized (kept_sequent decls proc vars f c.args.label c.args.tag c.args.receive c.args.names.now).goal) is) ∙ c.fill_kept-filled.ensures.limit h
