use Rattle.std.proofs.Common.{◌==◌, if◌then◌else◌, true, sym, ◌∙◌, ap}
use Rattle.std.specs.List.{position}
use Rattle.dl_model.specs.declared.sequent.Hypothesis.{Hypothesis}
use Rattle.dl_sequent.specs.Clean.{is_clean}
use Rattle.dl_kernel.proofs.CleanLemmas.{fits}
use Rattle.dl_kernel.proofs.ChangeLemmas.{clean-put, put-at, put-nowhere}
use Rattle.dl_kernel.proofs.changes.put_fact.Goals as goal

pub set-requires : goal.set-requires
set-requires c =
    let there = sym (c.in-Some.ensures ∙ ap (position (λ (h : Hypothesis). h.name == c.args.at)) c.as_slice.ensures) in
    (put-at c.args.sequent.now.facts c.args.at c.in-Some.place c.args.formula there).0

pub returns-in-Some-clause-new : goal.returns-in-Some-clause-new
returns-in-Some-clause-new c =
    let there = sym (c.in-Some.ensures ∙ ap (position (λ (h : Hypothesis). h.name == c.args.at)) c.as_slice.ensures) in
    let put = put-at c.args.sequent.now.facts c.args.at c.in-Some.place c.args.formula there in
    λ i. record c.args.sequent.now { facts = (c.set.ensures ∙ put.1) i }

pub returns-in-Some-clause-clean : goal.returns-in-Some-clause-clean
returns-in-Some-clause-clean c =
    let s = c.args.sequent.now in
    let there = sym (c.in-Some.ensures ∙ ap (position (λ (h : Hypothesis). h.name == c.args.at)) c.as_slice.ensures) in
    let put = put-at s.facts c.args.at c.in-Some.place c.args.formula there in
    c.is_fit-fits.ensures
    ∙ ap (λ b. if b then fits s c.args.formula else true) (sym put.2)
    ∙ clean-put s c.args.at c.args.formula c.requires.clean
    ∙ ap (λ hs. is_clean (record s { facts = hs })) (sym (c.set.ensures ∙ put.1))

pub returns-in-None-clause-new : goal.returns-in-None-clause-new
returns-in-None-clause-new c =
    let nowhere = sym (c.in-None.ensures ∙ ap (position (λ (h : Hypothesis). h.name == c.args.at)) c.as_slice.ensures) in
    λ i. record c.args.sequent.now { facts = sym (put-nowhere c.args.sequent.now.facts c.args.at c.args.formula nowhere).0 i }
