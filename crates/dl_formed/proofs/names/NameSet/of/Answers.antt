use Rattle.std.proofs.Common.{rules, ◌≡◌, ◌+◌, List, ℕ, Bool, false, drop, get_or, replicate, sym, subst, arith}
use Rattle.std.proofs.lemmas.List.{drop_more}
use Rattle.dl_formed.proofs.Marking.{MarksBefore, none-marked, one-marked}
use Rattle.dl_formed.proofs.names.NameSet.of.Goals as goal

pub loop-name-init : goal.loop-name-init
loop-name-init c =
    let unmarked : c.in_ok-marks.marks.items ≡ replicate c.room_for.result false = search rules in
    subst (λ (marks : List Bool). MarksBefore c.args.names.now c.args.names.now marks) (sym unmarked)
    (none-marked c.args.names.now c.room_for.result c.room_for.ensures)

pub loop-name-preserved : goal.loop-name-preserved
loop-name-preserved c =
    let i = c.loop-name.name-index in
    let names : List ℕ = c.args.names.now in
    one-marked (get_or names i 0) (drop (i + 1) names) names c.loop-name.marks.items
    (subst (λ (rest : List ℕ). MarksBefore rest names c.loop-name.marks.items) (drop_more names i 0 (omega arith)) c.loop-name.invariant)
