use Rattle.std.proofs.Common.{◌≡◌, sym, ◌∙◌, ap}
use Rattle.dl_term.specs.Measures.{is_oversized}
use Rattle.dl_model.specs.declared.sequent.Sequent.{Sequent}
use Rattle.dl_model.specs.Lookup.{proc_at}
use Rattle.dl_triples.specs.Obligations.{sequent_of}
use Rattle.dl_triples.specs.Built.{other_sequent, sequent_in}
use Rattle.dl_inv.proofs.Listing.{where-done}
use Rattle.dl_built.proofs.Whole.{of-proc, captured-of-proc, of-none}
use Rattle.dl_built.proofs.sequents.fill.Goals as goal

pub fill_proc-requires-clause-quiet : goal.fill_proc-requires-clause-quiet
fill_proc-requires-clause-quiet c = captured-of-proc c.args.decls.now c.args.duty.now c.args.names.now c.in-Some.number (sym c.proc_number.ensures ∙ c.in-Some.is) ∙ c.requires.quiet

pub returns-in-Some-clause-made : goal.returns-in-Some-clause-made
returns-in-Some-clause-made c =
    let decls = c.args.decls.now in
    let is = of-proc decls c.args.duty.now c.args.names.now c.in-Some.number (sym c.proc_number.ensures ∙ c.in-Some.is) in
    where-done c.fill_proc.result (c.fill_proc.new.made ≡ sequent_in decls (proc_at decls.procs c.in-Some.number) c.args.duty.now c.args.names.now) (c.fill_proc.new.made ≡ sequent_of decls c.args.duty.now c.args.names.now)
    c.fill_proc.ensures.made (λ e. e ∙ is)

pub returns-in-Some-clause-limit : goal.returns-in-Some-clause-limit
returns-in-Some-clause-limit c h =
    let is = of-proc c.args.decls.now c.args.duty.now c.args.names.now c.in-Some.number (sym c.proc_number.ensures ∙ c.in-Some.is) in
    sym (ap (λ (s : Sequent). is_oversized s.goal) is) ∙ c.fill_proc.ensures.limit h

pub returns-in-None-clause-made : goal.returns-in-None-clause-made
returns-in-None-clause-made c =
    let decls = c.args.decls.now in
    let is = of-none decls c.args.duty.now c.args.names.now (sym c.proc_number.ensures ∙ c.in-None.is) in
    where-done c.fill_other.result (c.fill_other.new.made ≡ other_sequent decls c.args.duty.now) (c.fill_other.new.made ≡ sequent_of decls c.args.duty.now c.args.names.now)
    c.fill_other.ensures.made (λ e. e ∙ is)

pub returns-in-None-clause-limit : goal.returns-in-None-clause-limit
returns-in-None-clause-limit c h =
    let is = of-none c.args.decls.now c.args.duty.now c.args.names.now (sym c.proc_number.ensures ∙ c.in-None.is) in
    sym (ap (λ (s : Sequent). is_oversized s.goal) is) ∙ c.fill_other.ensures.limit h
