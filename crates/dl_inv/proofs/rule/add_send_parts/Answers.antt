use Rattle.std.proofs.Common.{◌≡◌, ◌++◌, filter, map, ap, ◌∙◌}
use Rattle.std.specs.Prelude.{unwrap_or}
use Rattle.std.specs.Option.{option_copied}
use Rattle.dl_term.specs.declared.syntax.Formula.{False}
use Rattle.dl_model.specs.declared.sequent.Hypothesis.{Hypothesis}
use Rattle.dl_model.specs.declared.protocol.Tag.{Tag}
use Rattle.dl_model.specs.declared.protocol.Transition.{Transition}
use Rattle.dl_model.specs.Words.{to_word}
use Rattle.dl_inv.specs.Code.{says_something}
use Rattle.dl_inv.specs.Steps.{send_hypotheses}
use Rattle.dl_inv.proofs.Listing.{where-done}
use Rattle.dl_inv.proofs.Building.{rule_with, send-rule}
use Rattle.dl_inv.proofs.rule.add_send_parts.Goals as goal

pub returns : goal.returns
returns c =
    let step = c.args.step.now in
    let sends = c.send_of-send.ensures ∙ ap (λ (t : Tag). t.send) c.tag_of-tag.ensures in
    let params = c.params_of.ensures ∙ ap (λ (t : Tag). t.args) c.tag_of-tag.ensures in
    let guard = c.guard_of.ensures ∙ ap (λ (t : Transition). t.guard) sends in
    let updates = c.updates_of.ensures ∙ ap (λ (t : Transition). t.updates) sends in
    let rule = rule_with c.args.inst.now c.args.known.now step.label step.sender to_word step.to c.params_of.result.now c.as_slice.result.now
    (unwrap_or (option_copied c.guard_of.result) False) (option_copied c.spoken_of.result) c.updates_of.result.now in
    where-done c.add_rule_parts.result (c.add_rule_parts.new.parts ≡ c.args.parts.now ++ filter says_something (map (λ (h : Hypothesis). h.formula) rule))
    (c.add_rule_parts.new.parts ≡ c.args.parts.now ++ filter says_something (map (λ (h : Hypothesis). h.formula) (send_hypotheses c.args.inst.now c.args.known.now step)))
    c.add_rule_parts.ensures
    (λ e. e ∙ ap (λ xs. c.args.parts.now ++ filter says_something (map (λ (h : Hypothesis). h.formula) xs)) (send-rule c.args.inst.now c.args.known.now step _ _ _ _ _ params c.as_slice.ensures guard c.spoken_of.ensures updates))
