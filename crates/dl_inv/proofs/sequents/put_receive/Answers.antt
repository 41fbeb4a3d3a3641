use Rattle.std.proofs.Common.{◌≡◌, ap, ◌∙◌}
use Rattle.dl_inv.specs.Obligations.{receive_known}
use Rattle.dl_inv.specs.Built.{receive_with}
use Rattle.dl_inv.proofs.Listing.{where-done}
use Rattle.dl_inv.proofs.sequents.put_receive.Goals as goal

pub returns : goal.returns
returns c =
    let decls = c.args.decls.now in
    let claim = c.args.claim.now in
    where-done c.put_receive_facts.result (c.put_receive_facts.new.made ≡ receive_with decls claim c.args.step.now c.put_receive_known.new.made)
    (c.put_receive_facts.new.made ≡ receive_with decls claim c.args.step.now (receive_known decls.inst claim.own claim.label c.args.tag c.args.names.now)) c.put_receive_facts.ensures
    (λ e. e ∙ ap (λ known. receive_with decls claim c.args.step.now known) c.in_ok-put_receive_known.ensures)
