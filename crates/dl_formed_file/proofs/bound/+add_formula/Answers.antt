use Rattle.std.proofs.Common.{◌≡◌, ℕ, List, ◌++◌, ◌∙◌, ap, sym, refl}
use Rattle.dl_model.specs.Spoken.{bound_names}
use Rattle.dl_formed_file.specs.Bound.{with_names}
use Rattle.dl_formed_file.proofs.BoundLemmas.{names_added, names-And, names-Or, names-Implies}
use Rattle.dl_formed_file.proofs.bound.+add_formula.Goals as goal

pub returns-in_ok-add_formula-in-And-2 : goal.returns-in_ok-add_formula-in-And-2
returns-in_ok-add_formula-in-And-2 t c =
    let names : bound_names c.args.formula.now ≡ bound_names c.get-in-And.result.now ++ bound_names c.get-in-And-2.result.now =
    ap bound_names c.in-And.is ∙ names-And c.in-And.left c.in-And.right ∙ rw (c.get-in-And.ensures, c.get-in-And-2.ensures) refl in
    c.in_ok-add_formula-in-And-2.ensures
    ∙ ap (λ (set : List ℕ). with_names set (bound_names c.get-in-And-2.result.now)) c.in_ok-add_formula-in-And.ensures
    ∙ names_added c.args.set.now.keys (bound_names c.get-in-And.result.now) (bound_names c.get-in-And-2.result.now)
    ∙ ap (with_names c.args.set.now.keys) (sym names)

pub returns-in_ok-add_formula-in-Or-2 : goal.returns-in_ok-add_formula-in-Or-2
returns-in_ok-add_formula-in-Or-2 t c =
    let names : bound_names c.args.formula.now ≡ bound_names c.get-in-Or.result.now ++ bound_names c.get-in-Or-2.result.now =
    ap bound_names c.in-Or.is ∙ names-Or c.in-Or.left c.in-Or.right ∙ rw (c.get-in-Or.ensures, c.get-in-Or-2.ensures) refl in
    c.in_ok-add_formula-in-Or-2.ensures
    ∙ ap (λ (set : List ℕ). with_names set (bound_names c.get-in-Or-2.result.now)) c.in_ok-add_formula-in-Or.ensures
    ∙ names_added c.args.set.now.keys (bound_names c.get-in-Or.result.now) (bound_names c.get-in-Or-2.result.now)
    ∙ ap (with_names c.args.set.now.keys) (sym names)

pub returns-in_ok-add_formula-in-Implies-2 : goal.returns-in_ok-add_formula-in-Implies-2
returns-in_ok-add_formula-in-Implies-2 t c =
    let names : bound_names c.args.formula.now ≡ bound_names c.get-in-Implies.result.now ++ bound_names c.get-in-Implies-2.result.now =
    ap bound_names c.in-Implies.is ∙ names-Implies c.in-Implies.left c.in-Implies.right ∙ rw (c.get-in-Implies.ensures, c.get-in-Implies-2.ensures) refl in
    c.in_ok-add_formula-in-Implies-2.ensures
    ∙ ap (λ (set : List ℕ). with_names set (bound_names c.get-in-Implies-2.result.now)) c.in_ok-add_formula-in-Implies.ensures
    ∙ names_added c.args.set.now.keys (bound_names c.get-in-Implies.result.now) (bound_names c.get-in-Implies-2.result.now)
    ∙ ap (with_names c.args.set.now.keys) (sym names)
