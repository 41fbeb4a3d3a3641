use Rattle.std.proofs.Common.{inl, sym, refl, None}
use Rattle.dl_kernel.proofs.StepLemmas.{found-name, no-name}
use Rattle.dl_kernel.proofs.EnterLemmas.{named-in}
use Rattle.dl_kernel.proofs.InstanceLemmas.{made-no_limit, memory-no_limit}
use Rattle.dl_kernel.proofs.quantifiers.name_in.Goals as goal

pub returns-then-fine-clause-made : goal.returns-then-fine-clause-made
returns-then-fine-clause-made c =
    named-in c.args.inst.now c.args.sequent.now c.add_name.new.sequent c.args.name c.args.quantified.now c.at_new.result
    (found-name c.in-Ok.fine c.add_name.new.sequent _ c.if-fine.true c.in-Ok.ensures) c.at_new.ensures.made

pub returns-then-fine-clause-limit : goal.returns-then-fine-clause-limit
returns-then-fine-clause-limit c = λ e. (sym (found-name c.in-Ok.fine c.add_name.new.sequent _ c.if-fine.true c.in-Ok.ensures), c.at_new.ensures.limit e)

pub returns-else-fine-clause-made : goal.returns-else-fine-clause-made
returns-else-fine-clause-made c = inl (sym (no-name c.in-Ok.fine c.add_name.new.sequent _ c.if-fine.false c.in-Ok.ensures))

pub returns-else-fine-clause-limit : goal.returns-else-fine-clause-limit
returns-else-fine-clause-limit c = made-no_limit _ None refl

pub returns-in-Err-clause-limit : goal.returns-in-Err-clause-limit
returns-in-Err-clause-limit c = memory-no_limit _ refl
