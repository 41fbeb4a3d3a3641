use Rattle.std.proofs.Common.{rules}
use Rattle.dl_turn.proofs.SeatsLemmas.{numbers-same}
use Rattle.dl_turn.proofs.tests.append_in_threads.Goals as goal

pub returns-clause-numbers : goal.returns-clause-numbers
returns-clause-numbers g c = numbers-same c.args.seats.now c.start_threads.new.seats (search rules, λ k d b. (c.start_threads.ensures k d b).0)
