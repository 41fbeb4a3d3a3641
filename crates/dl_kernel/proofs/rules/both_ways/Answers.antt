use Rattle.dl_kernel.proofs.rules.both_ways.Goals as goal

pub returns : goal.returns
returns c = λ i. record { left = c.in_ok-left.ensures i; right = c.in_ok-right.ensures i }
