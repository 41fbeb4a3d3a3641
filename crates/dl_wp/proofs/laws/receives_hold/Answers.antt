use Rattle.dl_wp.proofs.ReceiveLaw.{received-holds}
use Rattle.dl_wp.proofs.laws.receives_hold.Goals as goal

pub returns : goal.returns
returns c inst own step after names state label node id formed sorted known owned about there receive receivable clear =
    received-holds inst own step names state label node id formed sorted known owned there receive receivable after about clear
