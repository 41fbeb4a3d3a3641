use Rattle.std.proofs.Common.{Ok, rules, refl, sym, ap, ◌∙◌}
use Rattle.dl_sequent.specs.declared.script.Rule.{the_lemmas, By, Close, Linear, Split, Cases, Apply, Have, Decide, Pick, Intro, Open, Give, Parts, Inst, Unpack, Rewrite, Reduce, Range}
use Rattle.dl_kernel.specs.Opened.{opened}
use Rattle.dl_kernel.specs.Steps.{closes, after}
use Rattle.dl_kernel.proofs.AnswerLemmas.{one-stops, one-goes, one-goes-clean, first-stops, first-goes, first-goes-clean, or-step, no-script, says, one-script, one-script-clean, two-scripts-clean, two-scripts-go-clean, two-scripts-stop, two-scripts-go}
use Rattle.dl_kernel.proofs.KindLemmas.{other-has-one, none-is-left}
use Rattle.dl_kernel.proofs.prover.+prove.Goals as goal

pub prove-returns-in-By : goal.prove-returns-in-By
prove-returns-in-By t c =
    no-script c.args.inst.now c.args.script.now.place c.args.sequent.now c.args.script.now.rule (By c.in-By.hyp) c.is_by.result c.end.result c.in-By.is refl (ap closes (sym c.is_by.ensures)) c.end.ensures

pub prove-returns-in-Close : goal.prove-returns-in-Close
prove-returns-in-Close t c =
    no-script c.args.inst.now c.args.script.now.place c.args.sequent.now c.args.script.now.rule Close c.is_closed.result c.end-in-Close.result c.in-Close.is refl (ap closes (sym c.is_closed.ensures)) c.end-in-Close.ensures

pub prove-returns-in-Ok : goal.prove-returns-in-Ok
prove-returns-in-Ok t c =
    no-script c.args.inst.now c.args.script.now.place c.args.sequent.now c.args.script.now.rule (Linear c.in-Linear.first c.in-Linear.second) c.in-Ok.fine c.end-in-Ok.result c.in-Linear.is refl (ap closes (sym c.in-Ok.ensures)) c.end-in-Ok.ensures

pub prove-prove_with_one-requires : goal.prove-prove_with_one-requires
prove-prove_with_one-requires t c =
    (search (rules, the_lemmas), (c.requires.clean, other-has-one c.args.script.now.rule (record { by = c.in_default.not-By; close = c.in_default.not-Close; linear = c.in_default.not-Linear; split = c.in_default.not-Split; cases = c.in_default.not-Cases; apply = c.in_default.not-Apply; have = c.in_default.not-Have; decide = c.in_default.not-Decide })))

pub prove-prove_first-requires : goal.prove-prove_first-requires
unfolding opened
prove-prove_first-requires t c = (search (rules, the_lemmas), two-scripts-clean c.args.inst.now c.args.sequent.now c.split-one.new.sequent (Split c.in-Split.left c.in-Split.right) c.split-one.result c.split-one.ensures)

pub prove-prove-requires : goal.prove-prove-requires
unfolding opened
prove-prove-requires t c = (search (rules, the_lemmas), two-scripts-go-clean c.args.inst.now c.args.script.now.place c.args.sequent.now c.split-one.new.sequent (Split c.in-Split.left c.in-Split.right) c.get.result.now c.split-one.result c.prove_first.result c.split-one.ensures c.in-Ok-prove_first.is c.prove_first.ensures)

pub prove-returns-in-Ok-prove_first : goal.prove-returns-in-Ok-prove_first
unfolding opened
prove-returns-in-Ok-prove_first t c = two-scripts-go c.args.inst.now c.args.script.now.place c.args.sequent.now c.split-one.new.sequent c.args.script.now.rule (Split c.in-Split.left c.in-Split.right) c.in-Split.left c.in-Split.right c.get.result.now c.get-in-Ok-prove_first.result.now c.split-one.result c.prove_first.result c.prove.result c.in-Split.is refl c.get.ensures c.get-in-Ok-prove_first.ensures c.split-one.ensures c.in-Ok-prove_first.is c.prove_first.ensures c.prove.ensures

pub prove-returns-in-Err-prove_first : goal.prove-returns-in-Err-prove_first
unfolding opened
prove-returns-in-Err-prove_first t c = two-scripts-stop c.args.inst.now c.args.script.now.place c.args.sequent.now c.split-one.new.sequent c.args.script.now.rule (Split c.in-Split.left c.in-Split.right) c.in-Split.left c.in-Split.right c.get.result.now c.split-one.result c.prove_first.result c.in-Err-prove_first.fault c.in-Split.is refl c.get.ensures c.split-one.ensures c.in-Err-prove_first.is c.prove_first.ensures

pub prove-prove_first-requires-in-Cases : goal.prove-prove_first-requires-in-Cases
unfolding opened
prove-prove_first-requires-in-Cases t c = (search (rules, the_lemmas), two-scripts-clean c.args.inst.now c.args.sequent.now c.cases-one.new.sequent (Cases c.in-Cases.hyp c.in-Cases.name c.in-Cases.left c.in-Cases.right) c.cases-one.result c.cases-one.ensures)

pub prove-prove-requires-in-Ok-prove_first-2 : goal.prove-prove-requires-in-Ok-prove_first-2
unfolding opened
prove-prove-requires-in-Ok-prove_first-2 t c = (search (rules, the_lemmas), two-scripts-go-clean c.args.inst.now c.args.script.now.place c.args.sequent.now c.cases-one.new.sequent (Cases c.in-Cases.hyp c.in-Cases.name c.in-Cases.left c.in-Cases.right) c.get-in-Cases.result.now c.cases-one.result c.prove_first-in-Cases.result c.cases-one.ensures c.in-Ok-prove_first-2.is c.prove_first-in-Cases.ensures)

pub prove-returns-in-Ok-prove_first-2 : goal.prove-returns-in-Ok-prove_first-2
unfolding opened
prove-returns-in-Ok-prove_first-2 t c = two-scripts-go c.args.inst.now c.args.script.now.place c.args.sequent.now c.cases-one.new.sequent c.args.script.now.rule (Cases c.in-Cases.hyp c.in-Cases.name c.in-Cases.left c.in-Cases.right) c.in-Cases.left c.in-Cases.right c.get-in-Cases.result.now c.get-in-Ok-prove_first-2.result.now c.cases-one.result c.prove_first-in-Cases.result c.prove-in-Ok-prove_first-2.result c.in-Cases.is refl c.get-in-Cases.ensures c.get-in-Ok-prove_first-2.ensures c.cases-one.ensures c.in-Ok-prove_first-2.is c.prove_first-in-Cases.ensures c.prove-in-Ok-prove_first-2.ensures

pub prove-returns-in-Err-prove_first-2 : goal.prove-returns-in-Err-prove_first-2
unfolding opened
prove-returns-in-Err-prove_first-2 t c = two-scripts-stop c.args.inst.now c.args.script.now.place c.args.sequent.now c.cases-one.new.sequent c.args.script.now.rule (Cases c.in-Cases.hyp c.in-Cases.name c.in-Cases.left c.in-Cases.right) c.in-Cases.left c.in-Cases.right c.get-in-Cases.result.now c.cases-one.result c.prove_first-in-Cases.result c.in-Err-prove_first-2.fault c.in-Cases.is refl c.get-in-Cases.ensures c.cases-one.ensures c.in-Err-prove_first-2.is c.prove_first-in-Cases.ensures

pub prove-prove_first-requires-in-Apply : goal.prove-prove_first-requires-in-Apply
unfolding opened
prove-prove_first-requires-in-Apply t c = (search (rules, the_lemmas), two-scripts-clean c.args.inst.now c.args.sequent.now c.apply-one.new.sequent (Apply c.in-Apply.hyp c.in-Apply.name c.in-Apply.first c.in-Apply.then) c.apply-one.result c.apply-one.ensures)

pub prove-prove-requires-in-Ok-prove_first-3 : goal.prove-prove-requires-in-Ok-prove_first-3
unfolding opened
prove-prove-requires-in-Ok-prove_first-3 t c = (search (rules, the_lemmas), two-scripts-go-clean c.args.inst.now c.args.script.now.place c.args.sequent.now c.apply-one.new.sequent (Apply c.in-Apply.hyp c.in-Apply.name c.in-Apply.first c.in-Apply.then) c.get-in-Apply.result.now c.apply-one.result c.prove_first-in-Apply.result c.apply-one.ensures c.in-Ok-prove_first-3.is c.prove_first-in-Apply.ensures)

pub prove-returns-in-Ok-prove_first-3 : goal.prove-returns-in-Ok-prove_first-3
unfolding opened
prove-returns-in-Ok-prove_first-3 t c = two-scripts-go c.args.inst.now c.args.script.now.place c.args.sequent.now c.apply-one.new.sequent c.args.script.now.rule (Apply c.in-Apply.hyp c.in-Apply.name c.in-Apply.first c.in-Apply.then) c.in-Apply.first c.in-Apply.then c.get-in-Apply.result.now c.get-in-Ok-prove_first-3.result.now c.apply-one.result c.prove_first-in-Apply.result c.prove-in-Ok-prove_first-3.result c.in-Apply.is refl c.get-in-Apply.ensures c.get-in-Ok-prove_first-3.ensures c.apply-one.ensures c.in-Ok-prove_first-3.is c.prove_first-in-Apply.ensures c.prove-in-Ok-prove_first-3.ensures

pub prove-returns-in-Err-prove_first-3 : goal.prove-returns-in-Err-prove_first-3
unfolding opened
prove-returns-in-Err-prove_first-3 t c = two-scripts-stop c.args.inst.now c.args.script.now.place c.args.sequent.now c.apply-one.new.sequent c.args.script.now.rule (Apply c.in-Apply.hyp c.in-Apply.name c.in-Apply.first c.in-Apply.then) c.in-Apply.first c.in-Apply.then c.get-in-Apply.result.now c.apply-one.result c.prove_first-in-Apply.result c.in-Err-prove_first-3.fault c.in-Apply.is refl c.get-in-Apply.ensures c.apply-one.ensures c.in-Err-prove_first-3.is c.prove_first-in-Apply.ensures

pub prove-prove_first-requires-in-Have : goal.prove-prove_first-requires-in-Have
unfolding opened
prove-prove_first-requires-in-Have t c = (search (rules, the_lemmas), two-scripts-clean c.args.inst.now c.args.sequent.now c.have-one.new.sequent (Have c.in-Have.formula c.in-Have.name c.in-Have.first c.in-Have.then) c.have-one.result c.have-one.ensures)

pub prove-prove-requires-in-Ok-prove_first-4 : goal.prove-prove-requires-in-Ok-prove_first-4
unfolding opened
prove-prove-requires-in-Ok-prove_first-4 t c = (search (rules, the_lemmas), two-scripts-go-clean c.args.inst.now c.args.script.now.place c.args.sequent.now c.have-one.new.sequent (Have c.in-Have.formula c.in-Have.name c.in-Have.first c.in-Have.then) c.get-in-Have.result.now c.have-one.result c.prove_first-in-Have.result c.have-one.ensures c.in-Ok-prove_first-4.is c.prove_first-in-Have.ensures)

pub prove-returns-in-Ok-prove_first-4 : goal.prove-returns-in-Ok-prove_first-4
unfolding opened
prove-returns-in-Ok-prove_first-4 t c = two-scripts-go c.args.inst.now c.args.script.now.place c.args.sequent.now c.have-one.new.sequent c.args.script.now.rule (Have c.in-Have.formula c.in-Have.name c.in-Have.first c.in-Have.then) c.in-Have.first c.in-Have.then c.get-in-Have.result.now c.get-in-Ok-prove_first-4.result.now c.have-one.result c.prove_first-in-Have.result c.prove-in-Ok-prove_first-4.result c.in-Have.is refl c.get-in-Have.ensures c.get-in-Ok-prove_first-4.ensures c.have-one.ensures c.in-Ok-prove_first-4.is c.prove_first-in-Have.ensures c.prove-in-Ok-prove_first-4.ensures

pub prove-returns-in-Err-prove_first-4 : goal.prove-returns-in-Err-prove_first-4
unfolding opened
prove-returns-in-Err-prove_first-4 t c = two-scripts-stop c.args.inst.now c.args.script.now.place c.args.sequent.now c.have-one.new.sequent c.args.script.now.rule (Have c.in-Have.formula c.in-Have.name c.in-Have.first c.in-Have.then) c.in-Have.first c.in-Have.then c.get-in-Have.result.now c.have-one.result c.prove_first-in-Have.result c.in-Err-prove_first-4.fault c.in-Have.is refl c.get-in-Have.ensures c.have-one.ensures c.in-Err-prove_first-4.is c.prove_first-in-Have.ensures

pub prove-prove_first-requires-in-Decide : goal.prove-prove_first-requires-in-Decide
unfolding opened
prove-prove_first-requires-in-Decide t c = (search (rules, the_lemmas), two-scripts-clean c.args.inst.now c.args.sequent.now c.decide-one.new.sequent (Decide c.in-Decide.formula c.in-Decide.name c.in-Decide.yes c.in-Decide.no) c.decide-one.result c.decide-one.ensures)

pub prove-prove-requires-in-Ok-prove_first-5 : goal.prove-prove-requires-in-Ok-prove_first-5
unfolding opened
prove-prove-requires-in-Ok-prove_first-5 t c = (search (rules, the_lemmas), two-scripts-go-clean c.args.inst.now c.args.script.now.place c.args.sequent.now c.decide-one.new.sequent (Decide c.in-Decide.formula c.in-Decide.name c.in-Decide.yes c.in-Decide.no) c.get-in-Decide.result.now c.decide-one.result c.prove_first-in-Decide.result c.decide-one.ensures c.in-Ok-prove_first-5.is c.prove_first-in-Decide.ensures)

pub prove-returns-in-Ok-prove_first-5 : goal.prove-returns-in-Ok-prove_first-5
unfolding opened
prove-returns-in-Ok-prove_first-5 t c = two-scripts-go c.args.inst.now c.args.script.now.place c.args.sequent.now c.decide-one.new.sequent c.args.script.now.rule (Decide c.in-Decide.formula c.in-Decide.name c.in-Decide.yes c.in-Decide.no) c.in-Decide.yes c.in-Decide.no c.get-in-Decide.result.now c.get-in-Ok-prove_first-5.result.now c.decide-one.result c.prove_first-in-Decide.result c.prove-in-Ok-prove_first-5.result c.in-Decide.is refl c.get-in-Decide.ensures c.get-in-Ok-prove_first-5.ensures c.decide-one.ensures c.in-Ok-prove_first-5.is c.prove_first-in-Decide.ensures c.prove-in-Ok-prove_first-5.ensures

pub prove-returns-in-Err-prove_first-5 : goal.prove-returns-in-Err-prove_first-5
unfolding opened
prove-returns-in-Err-prove_first-5 t c = two-scripts-stop c.args.inst.now c.args.script.now.place c.args.sequent.now c.decide-one.new.sequent c.args.script.now.rule (Decide c.in-Decide.formula c.in-Decide.name c.in-Decide.yes c.in-Decide.no) c.in-Decide.yes c.in-Decide.no c.get-in-Decide.result.now c.decide-one.result c.prove_first-in-Decide.result c.in-Err-prove_first-5.fault c.in-Decide.is refl c.get-in-Decide.ensures c.decide-one.ensures c.in-Err-prove_first-5.is c.prove_first-in-Decide.ensures

pub prove_with_one-prove_one-requires : goal.prove_with_one-prove_one-requires
unfolding opened
prove_with_one-prove_one-requires t c = (search (rules, the_lemmas), one-script-clean c.args.inst.now c.args.sequent.now c.pick.new.sequent (Pick c.in-Pick.part c.in-Pick.then) (Ok c.pick.result) c.pick.ensures)

pub prove_with_one-returns-in-Pick : goal.prove_with_one-returns-in-Pick
unfolding opened
prove_with_one-returns-in-Pick t c = one-script c.args.inst.now c.args.script.now.place c.args.sequent.now c.pick.new.sequent c.args.script.now.rule (Pick c.in-Pick.part c.in-Pick.then) c.in-Pick.then c.get.result.now (Ok c.pick.result) c.prove_one.result c.in-Pick.is refl c.get.ensures c.pick.ensures c.prove_one.ensures

pub prove_with_one-prove_one-requires-in-Intro : goal.prove_with_one-prove_one-requires-in-Intro
unfolding opened
prove_with_one-prove_one-requires-in-Intro t c = (search (rules, the_lemmas), one-script-clean c.args.inst.now c.args.sequent.now c.intro.new.sequent (Intro c.in-Intro.name c.in-Intro.then) c.or_memory-made.result (or-step c.or_memory-made.result c.intro.result c.intro.new.sequent (after c.args.inst.now c.args.sequent.now (Intro c.in-Intro.name c.in-Intro.then)) c.or_memory-made.ensures c.intro.ensures))

pub prove_with_one-returns-in-Intro : goal.prove_with_one-returns-in-Intro
unfolding opened
prove_with_one-returns-in-Intro t c = one-script c.args.inst.now c.args.script.now.place c.args.sequent.now c.intro.new.sequent c.args.script.now.rule (Intro c.in-Intro.name c.in-Intro.then) c.in-Intro.then c.get-in-Intro.result.now c.or_memory-made.result c.prove_one-in-Intro.result c.in-Intro.is refl c.get-in-Intro.ensures (or-step c.or_memory-made.result c.intro.result c.intro.new.sequent (after c.args.inst.now c.args.sequent.now (Intro c.in-Intro.name c.in-Intro.then)) c.or_memory-made.ensures c.intro.ensures) c.prove_one-in-Intro.ensures

pub prove_with_one-prove_one-requires-in-Open : goal.prove_with_one-prove_one-requires-in-Open
unfolding opened
prove_with_one-prove_one-requires-in-Open t c = (search (rules, the_lemmas), one-script-clean c.args.inst.now c.args.sequent.now c.open-made.new.sequent (Open c.in-Open.var c.in-Open.then) c.open-made.result c.open-made.ensures)

pub prove_with_one-returns-in-Open : goal.prove_with_one-returns-in-Open
unfolding opened
prove_with_one-returns-in-Open t c = one-script c.args.inst.now c.args.script.now.place c.args.sequent.now c.open-made.new.sequent c.args.script.now.rule (Open c.in-Open.var c.in-Open.then) c.in-Open.then c.get-in-Open.result.now c.open-made.result c.prove_one-in-Open.result c.in-Open.is refl c.get-in-Open.ensures c.open-made.ensures c.prove_one-in-Open.ensures

pub prove_with_one-prove_one-requires-in-Give : goal.prove_with_one-prove_one-requires-in-Give
unfolding opened
prove_with_one-prove_one-requires-in-Give t c = (search (rules, the_lemmas), one-script-clean c.args.inst.now c.args.sequent.now c.give-made.new.sequent (Give c.in-Give.what c.in-Give.then) c.give-made.result c.give-made.ensures)

pub prove_with_one-returns-in-Give : goal.prove_with_one-returns-in-Give
unfolding opened
prove_with_one-returns-in-Give t c = one-script c.args.inst.now c.args.script.now.place c.args.sequent.now c.give-made.new.sequent c.args.script.now.rule (Give c.in-Give.what c.in-Give.then) c.in-Give.then c.get-in-Give.result.now c.give-made.result c.prove_one-in-Give.result c.in-Give.is refl c.get-in-Give.ensures c.give-made.ensures c.prove_one-in-Give.ensures

pub prove_with_one-prove_one-requires-in-Parts : goal.prove_with_one-prove_one-requires-in-Parts
unfolding opened
prove_with_one-prove_one-requires-in-Parts t c = (search (rules, the_lemmas), one-script-clean c.args.inst.now c.args.sequent.now c.parts.new.sequent (Parts c.in-Parts.hyp c.in-Parts.left c.in-Parts.right c.in-Parts.then) c.or_memory-made-in-Parts.result (or-step c.or_memory-made-in-Parts.result c.parts.result c.parts.new.sequent (after c.args.inst.now c.args.sequent.now (Parts c.in-Parts.hyp c.in-Parts.left c.in-Parts.right c.in-Parts.then)) c.or_memory-made-in-Parts.ensures c.parts.ensures))

pub prove_with_one-returns-in-Parts : goal.prove_with_one-returns-in-Parts
unfolding opened
prove_with_one-returns-in-Parts t c = one-script c.args.inst.now c.args.script.now.place c.args.sequent.now c.parts.new.sequent c.args.script.now.rule (Parts c.in-Parts.hyp c.in-Parts.left c.in-Parts.right c.in-Parts.then) c.in-Parts.then c.get-in-Parts.result.now c.or_memory-made-in-Parts.result c.prove_one-in-Parts.result c.in-Parts.is refl c.get-in-Parts.ensures (or-step c.or_memory-made-in-Parts.result c.parts.result c.parts.new.sequent (after c.args.inst.now c.args.sequent.now (Parts c.in-Parts.hyp c.in-Parts.left c.in-Parts.right c.in-Parts.then)) c.or_memory-made-in-Parts.ensures c.parts.ensures) c.prove_one-in-Parts.ensures

pub prove_with_one-prove_one-requires-in-Inst : goal.prove_with_one-prove_one-requires-in-Inst
unfolding opened
prove_with_one-prove_one-requires-in-Inst t c = (search (rules, the_lemmas), one-script-clean c.args.inst.now c.args.sequent.now c.inst-made.new.sequent (Inst c.in-Inst.hyp c.in-Inst.what c.in-Inst.name c.in-Inst.then) c.inst-made.result c.inst-made.ensures)

pub prove_with_one-returns-in-Inst : goal.prove_with_one-returns-in-Inst
unfolding opened
prove_with_one-returns-in-Inst t c = one-script c.args.inst.now c.args.script.now.place c.args.sequent.now c.inst-made.new.sequent c.args.script.now.rule (Inst c.in-Inst.hyp c.in-Inst.what c.in-Inst.name c.in-Inst.then) c.in-Inst.then c.get-in-Inst.result.now c.inst-made.result c.prove_one-in-Inst.result c.in-Inst.is refl c.get-in-Inst.ensures c.inst-made.ensures c.prove_one-in-Inst.ensures

pub prove_with_one-prove_one-requires-in-Unpack : goal.prove_with_one-prove_one-requires-in-Unpack
unfolding opened
prove_with_one-prove_one-requires-in-Unpack t c = (search (rules, the_lemmas), one-script-clean c.args.inst.now c.args.sequent.now c.unpack-made.new.sequent (Unpack c.in-Unpack.hyp c.in-Unpack.var c.in-Unpack.name c.in-Unpack.then) c.unpack-made.result c.unpack-made.ensures)

pub prove_with_one-returns-in-Unpack : goal.prove_with_one-returns-in-Unpack
unfolding opened
prove_with_one-returns-in-Unpack t c = one-script c.args.inst.now c.args.script.now.place c.args.sequent.now c.unpack-made.new.sequent c.args.script.now.rule (Unpack c.in-Unpack.hyp c.in-Unpack.var c.in-Unpack.name c.in-Unpack.then) c.in-Unpack.then c.get-in-Unpack.result.now c.unpack-made.result c.prove_one-in-Unpack.result c.in-Unpack.is refl c.get-in-Unpack.ensures c.unpack-made.ensures c.prove_one-in-Unpack.ensures

pub prove_with_one-prove_one-requires-in-Rewrite : goal.prove_with_one-prove_one-requires-in-Rewrite
unfolding opened
prove_with_one-prove_one-requires-in-Rewrite t c = (search (rules, the_lemmas), one-script-clean c.args.inst.now c.args.sequent.now c.rewrite-made.new.sequent (Rewrite c.in-Rewrite.hyp c.in-Rewrite.at c.in-Rewrite.then) c.rewrite-made.result c.rewrite-made.ensures)

pub prove_with_one-returns-in-Rewrite : goal.prove_with_one-returns-in-Rewrite
unfolding opened
prove_with_one-returns-in-Rewrite t c = one-script c.args.inst.now c.args.script.now.place c.args.sequent.now c.rewrite-made.new.sequent c.args.script.now.rule (Rewrite c.in-Rewrite.hyp c.in-Rewrite.at c.in-Rewrite.then) c.in-Rewrite.then c.get-in-Rewrite.result.now c.rewrite-made.result c.prove_one-in-Rewrite.result c.in-Rewrite.is refl c.get-in-Rewrite.ensures c.rewrite-made.ensures c.prove_one-in-Rewrite.ensures

pub prove_with_one-prove_one-requires-in-Reduce : goal.prove_with_one-prove_one-requires-in-Reduce
unfolding opened
prove_with_one-prove_one-requires-in-Reduce t c = (search (rules, the_lemmas), one-script-clean c.args.inst.now c.args.sequent.now c.reduce.new.sequent (Reduce c.in-Reduce.hyp c.in-Reduce.at c.in-Reduce.then) c.or_memory-made-in-Reduce.result (or-step c.or_memory-made-in-Reduce.result c.reduce.result c.reduce.new.sequent (after c.args.inst.now c.args.sequent.now (Reduce c.in-Reduce.hyp c.in-Reduce.at c.in-Reduce.then)) c.or_memory-made-in-Reduce.ensures c.reduce.ensures))

pub prove_with_one-returns-in-Reduce : goal.prove_with_one-returns-in-Reduce
unfolding opened
prove_with_one-returns-in-Reduce t c = one-script c.args.inst.now c.args.script.now.place c.args.sequent.now c.reduce.new.sequent c.args.script.now.rule (Reduce c.in-Reduce.hyp c.in-Reduce.at c.in-Reduce.then) c.in-Reduce.then c.get-in-Reduce.result.now c.or_memory-made-in-Reduce.result c.prove_one-in-Reduce.result c.in-Reduce.is refl c.get-in-Reduce.ensures (or-step c.or_memory-made-in-Reduce.result c.reduce.result c.reduce.new.sequent (after c.args.inst.now c.args.sequent.now (Reduce c.in-Reduce.hyp c.in-Reduce.at c.in-Reduce.then)) c.or_memory-made-in-Reduce.ensures c.reduce.ensures) c.prove_one-in-Reduce.ensures

pub prove_with_one-prove_one-requires-in-Range : goal.prove_with_one-prove_one-requires-in-Range
unfolding opened
prove_with_one-prove_one-requires-in-Range t c = (search (rules, the_lemmas), one-script-clean c.args.inst.now c.args.sequent.now c.range.new.sequent (Range c.in-Range.term c.in-Range.name c.in-Range.then) c.or_memory-made-in-Range.result (or-step c.or_memory-made-in-Range.result c.range.result c.range.new.sequent (after c.args.inst.now c.args.sequent.now (Range c.in-Range.term c.in-Range.name c.in-Range.then)) c.or_memory-made-in-Range.ensures c.range.ensures))

pub prove_with_one-returns-in-Range : goal.prove_with_one-returns-in-Range
unfolding opened
prove_with_one-returns-in-Range t c = one-script c.args.inst.now c.args.script.now.place c.args.sequent.now c.range.new.sequent c.args.script.now.rule (Range c.in-Range.term c.in-Range.name c.in-Range.then) c.in-Range.then c.get-in-Range.result.now c.or_memory-made-in-Range.result c.prove_one-in-Range.result c.in-Range.is refl c.get-in-Range.ensures (or-step c.or_memory-made-in-Range.result c.range.result c.range.new.sequent (after c.args.inst.now c.args.sequent.now (Range c.in-Range.term c.in-Range.name c.in-Range.then)) c.or_memory-made-in-Range.ensures c.range.ensures) c.prove_one-in-Range.ensures

pub prove_with_one-unreachable-requires : goal.prove_with_one-unreachable-requires
prove_with_one-unreachable-requires t c =
    none-is-left c.args.script.now.rule (record { pick = c.in_default.not-Pick; intro = c.in_default.not-Intro; opens = c.in_default.not-Open; give = c.in_default.not-Give; parts = c.in_default.not-Parts; inst = c.in_default.not-Inst; unpack = c.in_default.not-Unpack; rewrite = c.in_default.not-Rewrite; reduce = c.in_default.not-Reduce; range = c.in_default.not-Range }) c.requires.one

pub prove_one-prove-requires : goal.prove_one-prove-requires
prove_one-prove-requires t c = (search (rules, the_lemmas), one-goes-clean c.args.place c.args.made c.args.sequent.now (sym c.in-Ok.is ∙ c.goes_on.ensures) c.requires.clean)

pub prove_one-returns-in-Ok : goal.prove_one-returns-in-Ok
prove_one-returns-in-Ok t c = one-goes c.prove.result c.args.place (says c.args.inst.now c.args.then.now) c.args.made c.args.sequent.now (sym c.in-Ok.is ∙ c.goes_on.ensures) c.prove.ensures

pub prove_one-returns-in-Err : goal.prove_one-returns-in-Err
prove_one-returns-in-Err t c = one-stops c.args.place (says c.args.inst.now c.args.then.now) c.args.made c.args.sequent.now c.in-Err.fault (sym c.in-Err.is ∙ c.goes_on.ensures)

pub prove_first-prove-answer-requires : goal.prove_first-prove-answer-requires
prove_first-prove-answer-requires t c = (search (rules, the_lemmas), first-goes-clean c.args.place c.args.one c.args.other.now c.in-Ok.one (sym c.in-Ok.is ∙ c.first_of_two.ensures) c.requires.clean)

pub prove_first-returns-in-Ok : goal.prove_first-returns-in-Ok
prove_first-returns-in-Ok t c = first-goes c.prove-answer.result c.args.place (says c.args.inst.now c.args.first.now) c.args.one c.args.other.now c.in-Ok.one (sym c.in-Ok.is ∙ c.first_of_two.ensures) c.prove-answer.ensures

pub prove_first-returns-in-Err : goal.prove_first-returns-in-Err
prove_first-returns-in-Err t c = first-stops c.args.place (says c.args.inst.now c.args.first.now) c.args.one c.args.other.now c.in-Err.fault (sym c.in-Err.is ∙ c.first_of_two.ensures)
