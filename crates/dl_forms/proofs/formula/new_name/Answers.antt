use Rattle.std.proofs.Common.{◌≡◌, true, false, arith, sym, ◌∙◌, subst}
use Rattle.std.proofs.lemmas.Grind.{common_steps}
use Rattle.dl_forms.specs.Context.{is_among}
use Rattle.dl_forms.specs.Judge.{is_name}
use Rattle.dl_forms.specs.Scope.{bindings, taken}
use Rattle.dl_forms.specs.Read.{BindsVariable, BindsMessage}
use Rattle.dl_forms.proofs.FormulaLemmas.{binds_variable, binds_message}
use Rattle.dl_forms.proofs.formula.new_name.Goals as goal

pub returns-in-Some-clause-variable : goal.returns-in-Some-clause-variable
returns-in-Some-clause-variable c =
    let named : is_name c.in-Sym.name ≡ true = grind (arith, common_steps) in
    let free : is_among c.in-Sym.name (taken c.args.around.now.names.now c.args.around.now.scope.now c.args.around.now.inst.now (bindings c.args.bound.now)) ≡ false =
    sym c.is_taken.ensures ∙ c.if-is_taken.false in
    subst (λ tree. BindsVariable c.args.around.now.names.now c.args.around.now.scope.now c.args.around.now.inst.now (bindings c.args.bound.now) tree c.in-Some.sym) (sym c.in-Sym.is)
    (binds_variable c.args.around.now.names.now c.args.around.now.scope.now c.args.around.now.inst.now (bindings c.args.bound.now) c.in-Sym.name c.in-Sym.place c.in-Some.sym named free c.in-Some.ensures.text)

pub returns-in-Some-clause-message : goal.returns-in-Some-clause-message
returns-in-Some-clause-message c =
    let named : is_name c.in-Sym.name ≡ true = grind (arith, common_steps) in
    let free : is_among c.in-Sym.name (taken c.args.around.now.names.now c.args.around.now.scope.now c.args.around.now.inst.now (bindings c.args.bound.now)) ≡ false =
    sym c.is_taken.ensures ∙ c.if-is_taken.false in
    subst (λ tree. BindsMessage c.args.around.now.names.now c.args.around.now.scope.now c.args.around.now.inst.now (bindings c.args.bound.now) tree c.in-Some.sym) (sym c.in-Sym.is)
    (binds_message c.args.around.now.names.now c.args.around.now.scope.now c.args.around.now.inst.now (bindings c.args.bound.now) c.in-Sym.name c.in-Sym.place c.in-Some.sym named free c.in-Some.ensures.text)
