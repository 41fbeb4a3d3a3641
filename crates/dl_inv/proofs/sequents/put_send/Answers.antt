use Rattle.std.proofs.Common.{◌≡◌, ap, ◌∙◌}
use Rattle.dl_inv.specs.Obligations.{send_known}
use Rattle.dl_inv.specs.Built.{send_with}
use Rattle.dl_inv.proofs.Listing.{where-done}
use Rattle.dl_inv.proofs.sequents.put_send.Goals as goal

pub returns : goal.returns
returns c =
    let decls = c.args.decls.now in
    let claim = c.args.claim.now in
    where-done c.put_send_facts.result (c.put_send_facts.new.made ≡ send_with decls claim c.args.step.now c.put_send_known.new.made)
    (c.put_send_facts.new.made ≡ send_with decls claim c.args.step.now (send_known decls.inst claim.own claim.label c.args.tag c.args.names.now)) c.put_send_facts.ensures
    (λ e. e ∙ ap (λ known. send_with decls claim c.args.step.now known) c.in_ok-put_send_known.ensures)
