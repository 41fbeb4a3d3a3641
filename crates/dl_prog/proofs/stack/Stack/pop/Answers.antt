use Rattle.std.proofs.Common.{◌+◌, drop, ap, ◌∙◌}
use Rattle.dl_prog.specs.Stack.{Path}
use Rattle.dl_prog.proofs.PlaceLemmas.{drop-one}
use Rattle.dl_prog.proofs.stack.Stack.pop.Goals as goal

pub returns : goal.returns
returns c =
    (λ i. record { items = drop-one c.self.inside.cells.items c.self.inside.low i; spare = c.self.inside.low + 1 })
    ∙ ap (λ (path : Path). record { items = drop 1 path.items; spare = path.spare + 1 }) c.self.view_is
