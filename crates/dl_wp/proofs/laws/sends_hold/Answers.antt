use Rattle.dl_wp.proofs.SendLaw.{sent-holds}
use Rattle.dl_wp.proofs.laws.sends_hold.Goals as goal

pub returns : goal.returns
returns c inst own step after names state label node to args formed sorted known owned about there send enabled clear =
    sent-holds inst own step names state label node to args formed sorted known owned there send enabled after about clear
