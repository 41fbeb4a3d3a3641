use Rattle.std.proofs.Common.{rules, ◌≡◌, ℕ, List, ◌++◌, map, length, take, drop, sym, ap, ◌∙◌, subst}
use Rattle.std.proofs.Math.Seq.{take-append_seam}
use Rattle.std.proofs.lemmas.List.{length-map}
use Rattle.dl_turn.specs.declared.lock.Seat.{Seat}
use Rattle.dl_turn.specs.declared.tests.Log.{Log}
use Rattle.dl_turn.specs.Seats.{number_of, numbers_of, AreAll}
use Rattle.dl_turn.proofs.SeatsLemmas.{AreAll-numbers}
use Rattle.dl_turn.proofs.tests.check_turns.Goals as goal

pub close-log-requires-clause-all : goal.close-log-requires-clause-all
close-log-requires-clause-all g c =
    let new : List (Seat Log ℕ ℕ) = c.append_in_threads.new.seats in
    let old : List (Seat Log ℕ ℕ) = c.in-Ok.seats.items in
    let numbers : map number_of new ≡ map number_of old = search rules in
    let long : length new ≡ c.in-Ok.seats.len = search (rules, length-map) in
    let all : map number_of new ≡ numbers_of c.in-Ok.lock = numbers ∙ search rules in
    subst (λ (l : List (Seat Log ℕ ℕ)). AreAll c.in-Ok.lock l) (sym (ap (λ (k : ℕ). take k (new ++ drop (length new) old)) (sym long) ∙ take-append_seam new (drop (length new) old))) (AreAll-numbers c.in-Ok.lock new all)
