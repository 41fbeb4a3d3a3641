use Rattle.std.proofs.Common.{◌≡◌, ◌++◌, ◌∙◌, ap, sym, refl}
use Rattle.dl_model.specs.Spoken.{bound_names}
use Rattle.dl_forms.specs.Table.{NameTable, all_marked}
use Rattle.dl_forms.proofs.TableLemmas.{all_marked-append, names-And, names-Or, names-Implies}
use Rattle.dl_forms.proofs.api.+mark_bound.Goals as goal

pub returns-in-And : goal.returns-in-And
returns-in-And t c =
    let names : bound_names c.args.formula.now ≡ bound_names c.get-in-And.result.now ++ bound_names c.get-in-And-2.result.now =
    ap bound_names c.in-And.is ∙ names-And c.in-And.left c.in-And.right ∙ rw (c.get-in-And.ensures, c.get-in-And-2.ensures) refl in
    c.mark_bound-in-And-2.ensures
    ∙ ap (λ (n : NameTable). all_marked n (bound_names c.get-in-And-2.result.now)) c.mark_bound-in-And.ensures
    ∙ all_marked-append c.args.names.now (bound_names c.get-in-And.result.now) (bound_names c.get-in-And-2.result.now)
    ∙ ap (all_marked c.args.names.now) (sym names)

pub returns-in-Or : goal.returns-in-Or
returns-in-Or t c =
    let names : bound_names c.args.formula.now ≡ bound_names c.get-in-Or.result.now ++ bound_names c.get-in-Or-2.result.now =
    ap bound_names c.in-Or.is ∙ names-Or c.in-Or.left c.in-Or.right ∙ rw (c.get-in-Or.ensures, c.get-in-Or-2.ensures) refl in
    c.mark_bound-in-Or-2.ensures
    ∙ ap (λ (n : NameTable). all_marked n (bound_names c.get-in-Or-2.result.now)) c.mark_bound-in-Or.ensures
    ∙ all_marked-append c.args.names.now (bound_names c.get-in-Or.result.now) (bound_names c.get-in-Or-2.result.now)
    ∙ ap (all_marked c.args.names.now) (sym names)

pub returns-in-Implies : goal.returns-in-Implies
returns-in-Implies t c =
    let names : bound_names c.args.formula.now ≡ bound_names c.get-in-Implies.result.now ++ bound_names c.get-in-Implies-2.result.now =
    ap bound_names c.in-Implies.is ∙ names-Implies c.in-Implies.left c.in-Implies.right ∙ rw (c.get-in-Implies.ensures, c.get-in-Implies-2.ensures) refl in
    c.mark_bound-in-Implies-2.ensures
    ∙ ap (λ (n : NameTable). all_marked n (bound_names c.get-in-Implies-2.result.now)) c.mark_bound-in-Implies.ensures
    ∙ all_marked-append c.args.names.now (bound_names c.get-in-Implies.result.now) (bound_names c.get-in-Implies-2.result.now)
    ∙ ap (all_marked c.args.names.now) (sym names)
