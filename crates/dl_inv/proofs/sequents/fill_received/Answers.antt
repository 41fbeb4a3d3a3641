use Rattle.std.proofs.Common.{◌≡◌, ap, sym, ◌∙◌}
use Rattle.dl_wp.specs.declared.steps.ReceiveStep.{ReceiveStep}
use Rattle.dl_term.specs.Measures.{is_oversized}
use Rattle.dl_wp.specs.Before.{before_received}
use Rattle.dl_inv.specs.Built.{received}
use Rattle.dl_inv.proofs.Listing.{where-done}
use Rattle.dl_inv.proofs.Kept.{received-is}
use Rattle.dl_inv.proofs.sequents.fill_received.Goals as goal

pub returns-clause-made : goal.returns-clause-made
returns-clause-made c =
    let decls = c.args.decls.now in
    let claim = c.args.claim.now in
    where-done c.put_receive_goal.result (c.put_receive_goal.new.made ≡ record c.put_receive.new.made { goal = before_received decls.inst claim.own c.args.step.now claim.formula.now })
    (c.put_receive_goal.new.made ≡ received decls claim c.args.tag c.args.names.now) c.put_receive_goal.ensures.made
    (λ e. received-is decls claim c.args.tag c.args.names.now c.put_receive.new.made c.put_receive_goal.new.made c.args.step.now c.requires.step c.in_ok-put_receive.ensures e)

pub returns-clause-limit : goal.returns-clause-limit
returns-clause-limit c h = sym (ap (λ (s : ReceiveStep). is_oversized (before_received c.args.decls.now.inst c.args.claim.now.own s c.args.claim.now.formula.now)) c.requires.step) ∙ c.put_receive_goal.ensures.limit h
