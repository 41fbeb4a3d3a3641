use Rattle.std.proofs.Common.{◌≡◌, ap, sym, ◌∙◌, subst}
use Rattle.dl_model.specs.declared.protocol.Instances.{Instances}
use Rattle.dl_model.specs.Formed.{InstancesAreFormed}
use Rattle.dl_soup.specs.Given.{ShapeIsGiven}
use Rattle.dl_soup.specs.Seen.{Seen}
use Rattle.dl_nodes.proofs.BeginLemmas.{fresh, if-ok}
use Rattle.dl_nodes.proofs.begin.shaped_soup.Goals as goal

pub make-requires-clause-formed : goal.make-requires-clause-formed
make-requires-clause-formed c = subst InstancesAreFormed (sym c.in_ok-inst.ensures) c.requires.formed.inst

pub make-requires-clause-shape : goal.make-requires-clause-shape
make-requires-clause-shape c = subst (λ (inst : Instances). ShapeIsGiven inst c.args.shape.now) (sym c.in_ok-inst.ensures) c.requires.shape

pub returns : goal.returns
returns c =
    let shape = c.args.shape.now in
    if-ok (λ (s : Seen). s ≡ fresh c.in_ok-inst.inst shape c.args.order c.args.room) (λ (s : Seen). s ≡ fresh c.args.decls.now.inst shape c.args.order c.args.room) c.make.result c.make.ensures.soup
    (λ s e. e ∙ ap (λ (inst : Instances). fresh inst shape c.args.order c.args.room) c.in_ok-inst.ensures)
