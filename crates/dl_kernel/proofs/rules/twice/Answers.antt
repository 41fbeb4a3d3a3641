use Rattle.dl_kernel.proofs.rules.twice.Goals as goal

pub returns-in-Ok : goal.returns-in-Ok
returns-in-Ok c = λ i. record { left = c.in_ok-left.ensures i; right = c.in-Ok.ensures i }
