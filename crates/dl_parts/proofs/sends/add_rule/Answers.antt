use Rattle.std.proofs.Common.{◌≡◌, ◌++◌, map, filter, ap, ◌∙◌}
use Rattle.dl_model.specs.declared.sequent.Hypothesis.{Hypothesis}
use Rattle.dl_inv.specs.Code.{says_something}
use Rattle.dl_inv.specs.Steps.{send_hypotheses}
use Rattle.dl_triples.specs.Obligations.{send_rule}
use Rattle.dl_inv.proofs.Listing.{where-done}
use Rattle.dl_parts.proofs.Parts.{rule-same}
use Rattle.dl_parts.proofs.sends.add_rule.Goals as goal

pub returns : goal.returns
returns c =
    let decls = c.args.decls.now in
    let known = c.args.known.now in
    let step = c.args.step.now in
    where-done c.add_send_parts.result (c.add_send_parts.new.parts ≡ c.args.parts.now ++ filter says_something (map (λ (h : Hypothesis). h.formula) (send_hypotheses decls.inst known step)))
    (c.add_send_parts.new.parts ≡ c.args.parts.now ++ filter says_something (send_rule decls known c.args.label c.args.tag step)) c.add_send_parts.ensures
    (λ e. e ∙ ap (λ xs. c.args.parts.now ++ filter says_something xs) (rule-same decls known c.args.label c.args.tag step c.requires.own c.requires.label c.requires.tag))
