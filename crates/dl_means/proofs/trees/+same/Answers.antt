use Rattle.dl_means.proofs.trees.+same.Goals as goal

pub same_list-returns-then-same_place : goal.same_list-returns-then-same_place
same_list-returns-then-same_place t c = λ h.
    let places = c.same_place.ensures.equal c.if-same_place.true in
    let parts = c.same_parts.ensures h in
    let slice = c.as_slice.ensures in
    let is = c.in-List.is in
    cc
