use Rattle.std.proofs.Common.{◌≡◌, ◌++◌, ap, ◌∙◌}
use Rattle.std.specs.Prelude.{unwrap_or}
use Rattle.std.specs.Option.{option_copied}
use Rattle.dl_term.specs.declared.syntax.Formula.{False}
use Rattle.dl_model.specs.declared.protocol.Tag.{Tag}
use Rattle.dl_model.specs.declared.protocol.Transition.{Transition}
use Rattle.std.proofs.Common.{◌∷◌, [], append_assoc}
use Rattle.dl_model.specs.Lookup.{receive_of}
use Rattle.dl_model.specs.Words.{from_word}
use Rattle.dl_inv.specs.Words.{mine_word}
use Rattle.dl_inv.specs.Steps.{called, is_mine, receive_hypotheses}
use Rattle.dl_inv.proofs.Listing.{where-done}
use Rattle.dl_inv.proofs.Building.{rule_with, receive-rule}
use Rattle.dl_inv.proofs.rule.add_receive_of.Goals as goal

pub returns : goal.returns
returns c =
    let step = c.args.step.now in
    let receives = c.receive_of-receive.ensures ∙ ap (λ (t : Tag). receive_of t) c.tag_of-tag.ensures in
    let params = c.params_of.ensures ∙ ap (λ (t : Tag). t.args) c.tag_of-tag.ensures in
    let guard = c.guard_of.ensures ∙ ap (λ (t : Transition). t.guard) receives in
    let updates = c.updates_of.ensures ∙ ap (λ (t : Transition). t.updates) receives in
    let rule = rule_with c.args.inst.now c.args.known.now step.label step.receiver from_word c.args.sender.now c.params_of.result.now c.args.args.now
    (unwrap_or (option_copied c.guard_of.result) False) (option_copied c.spoken_of.result) c.updates_of.result.now in
    let mine = called mine_word (is_mine step) in
    let first : c.add_fact.new.facts ≡ c.args.facts.now ++ mine ∷ [] = c.in_ok-add_fact.ensures ∙ ap (λ f. c.args.facts.now ++ called mine_word f ∷ []) c.in_ok-mine.ensures in
    where-done c.add_rule.result (c.add_rule.new.facts ≡ c.add_fact.new.facts ++ rule) (c.add_rule.new.facts ≡ c.args.facts.now ++ receive_hypotheses c.args.inst.now c.args.known.now step)
    c.add_rule.ensures
    (λ e. e ∙ (ap (λ xs. xs ++ rule) first ∙ (append_assoc c.args.facts.now (mine ∷ []) rule
    ∙ ap (λ xs. c.args.facts.now ++ xs) (receive-rule c.args.inst.now c.args.known.now step _ _ _ _ _ _ c.requires.sender params c.requires.args guard c.spoken_of.ensures updates))))
