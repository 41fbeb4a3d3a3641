use Rattle.std.proofs.Common.{◌≡◌, sym, ◌∙◌, ap}
use Rattle.dl_term.specs.Measures.{is_oversized}
use Rattle.dl_model.specs.declared.program.Proc.{Proc}
use Rattle.dl_model.specs.Lookup.{proc_at}
use Rattle.dl_triples.specs.Built.{captured_in, sequent_in}
use Rattle.dl_inv.proofs.Listing.{where-done}
use Rattle.dl_built.proofs.sequents.fill_proc.Goals as goal

pub fill_in-filled-requires-clause-quiet : goal.fill_in-filled-requires-clause-quiet
fill_in-filled-requires-clause-quiet c = ap (λ (p : Proc). captured_in c.args.decls.now p c.args.duty.now c.args.names.now) c.proc_of-proc.ensures ∙ c.requires.quiet

pub returns-clause-made : goal.returns-clause-made
returns-clause-made c =
    let decls = c.args.decls.now in
    let proc = proc_at decls.procs c.args.number in
    where-done c.fill_in-filled.result (c.fill_in-filled.new.made ≡ sequent_in decls c.proc_of-proc.result.now c.args.duty.now c.args.names.now)
    (c.fill_in-filled.new.made ≡ sequent_in decls proc c.args.duty.now c.args.names.now) c.fill_in-filled.ensures.made
    (λ e. e ∙ ap (λ (p : Proc). sequent_in decls p c.args.duty.now c.args.names.now) c.proc_of-proc.ensures)

pub returns-clause-limit : goal.returns-clause-limit
returns-clause-limit c h =
    sym (ap (λ (p : Proc). is_oversized (sequent_in c.args.decls.now p c.args.duty.now c.args.names.now).goal) c.proc_of-proc.ensures) ∙ c.fill_in-filled.ensures.limit h
