use Rattle.std.proofs.Common.{◌≡◌, ap}
use Rattle.dl_soup.specs.Seen.{Seen}
use Rattle.dl_nodes.specs.Begun.{IsFirst}
use Rattle.dl_nodes.proofs.BeginLemmas.{begun-first, fresh, if-ok, shape-given}
use Rattle.dl_nodes.proofs.begin.begin_soup.Goals as goal

pub shaped_soup-soup-requires-clause-shape : goal.shaped_soup-soup-requires-clause-shape
shaped_soup-soup-requires-clause-shape c = shape-given c.args.decls.now c.in_ok-shape.shape c.in_ok-shape.ensures.filled c.in_ok-shape.ensures.first

pub returns-clause-first : goal.returns-clause-first
returns-clause-first c =
    let decls = c.args.decls.now in
    let shape = c.in_ok-shape.shape in
    if-ok (λ (s : Seen). s ≡ fresh decls.inst shape c.args.order c.args.room) (IsFirst decls c.args.order) c.shaped_soup-soup.result c.shaped_soup-soup.ensures
    (λ s e. begun-first decls c.args.order c.args.room shape s e c.in_ok-shape.ensures.first)

pub returns-clause-room : goal.returns-clause-room
returns-clause-room c =
    let decls = c.args.decls.now in
    let shape = c.in_ok-shape.shape in
    if-ok (λ (s : Seen). s ≡ fresh decls.inst shape c.args.order c.args.room) (λ (s : Seen). s.spare ≡ c.args.room) c.shaped_soup-soup.result c.shaped_soup-soup.ensures (λ s e. ap (λ (t : Seen). t.spare) e)
