use Rattle.std.proofs.Common.{◌≡◌, ap, sym, ◌∙◌}
use Rattle.dl_wp.specs.declared.steps.SendStep.{SendStep}
use Rattle.dl_term.specs.Measures.{is_oversized}
use Rattle.dl_wp.specs.Before.{before_sent}
use Rattle.dl_inv.specs.Built.{sent}
use Rattle.dl_inv.proofs.Listing.{where-done}
use Rattle.dl_inv.proofs.Kept.{sent-is}
use Rattle.dl_inv.proofs.sequents.fill_sent.Goals as goal

pub returns-clause-made : goal.returns-clause-made
returns-clause-made c =
    let decls = c.args.decls.now in
    let claim = c.args.claim.now in
    where-done c.put_send_goal.result (c.put_send_goal.new.made ≡ record c.put_send.new.made { goal = before_sent decls.inst claim.own c.args.step.now claim.formula.now })
    (c.put_send_goal.new.made ≡ sent decls claim c.args.tag c.args.names.now) c.put_send_goal.ensures.made
    (λ e. sent-is decls claim c.args.tag c.args.names.now c.put_send.new.made c.put_send_goal.new.made c.args.step.now c.requires.step c.in_ok-put_send.ensures e)

pub returns-clause-limit : goal.returns-clause-limit
returns-clause-limit c h = sym (ap (λ (s : SendStep). is_oversized (before_sent c.args.decls.now.inst c.args.claim.now.own s c.args.claim.now.formula.now)) c.requires.step) ∙ c.put_send_goal.ensures.limit h
