use Rattle.std.proofs.Common.{rules, ◌≡◌, sym, ap, ◌∙◌, Some, None, ℕ, Option}
use Rattle.dl_forms.proofs.TakenLemmas.{mark_of, marked-position}
use Rattle.dl_forms.proofs.taken.has_marked.Goals as goal

pub returns-in-Some : goal.returns-in-Some
returns-in-Some c =
    let marks = c.args.names.now.marks in
    c.marked.ensures
    ∙ ap (λ (o : Option ℕ). mark_of c.args.quantified o c.args.names.now.marks) (sym c.in-Some.is ∙ c.known.ensures.first)
    ∙ marked-position c.args.quantified c.args.name.now c.args.names.now.texts c.args.names.now.marks c.known.ensures.distinct c.known.ensures.aligned

pub returns-in-None : goal.returns-in-None
returns-in-None c =
    ap (λ (o : Option ℕ). mark_of c.args.quantified o c.args.names.now.marks) (sym c.in-None.is ∙ c.known.ensures.first)
    ∙ marked-position c.args.quantified c.args.name.now c.args.names.now.texts c.args.names.now.marks c.known.ensures.distinct c.known.ensures.aligned
