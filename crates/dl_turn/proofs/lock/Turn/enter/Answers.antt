use Rattle.std.proofs.Common.{◌≡◌, ℕ, List, ap, ◌∙◌, subst}
use Rattle.dl_turn.specs.Lists.{StartsWith, entries_of}
use Rattle.dl_turn.proofs.ListsLemmas.{StartsWith-grown, entries_of-grown}
use Rattle.dl_turn.proofs.lock.Turn.enter.Goals as goal

pub returns-clause-begins : goal.returns-clause-begins
returns-clause-begins g c =
    let log : List (ℕ × g.row.T-Item.Denot) = g.T.Book.entries c.wait.result.value in
    subst (λ (seen : List (ℕ × g.row.T-Item.Denot)). StartsWith log seen) (ap (λ me. me.0.seen) c.draw-turn.ensures.drew.2) (StartsWith-grown _ _ log c.wait.ensures.grown)

pub returns-clause-own : goal.returns-clause-own
returns-clause-own g c =
    let log : List (ℕ × g.row.T-Item.Denot) = g.T.Book.entries c.wait.result.value in
    let drew = c.draw-turn.ensures.drew.2 in
    subst (λ (z : ℕ × List (ℕ × g.row.T-Item.Denot)). entries_of z.0 log ≡ entries_of z.0 z.1) (λ k. ((ap (λ me. me.0.number) drew ∙ c.requires.of.2) k, ap (λ me. me.0.seen) drew k)) (entries_of-grown _ _ log c.wait.ensures.grown)
