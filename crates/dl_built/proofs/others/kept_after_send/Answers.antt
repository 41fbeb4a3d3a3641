use Rattle.dl_inv.specs.Obligations.{send_known, shows}
use Rattle.dl_inv.specs.Steps.{all_hooks, called, send_hypotheses}
use Rattle.dl_inv.specs.Words.{hooks_word}
use Rattle.dl_model.specs.Lookup.{world_at}
use Rattle.dl_model.specs.declared.sequent.Hypothesis.{Hypothesis}
use Rattle.dl_model.specs.declared.sequent.Sequent.{Sequent}
use Rattle.dl_term.specs.Measures.{is_oversized}
use Rattle.dl_term.specs.declared.syntax.Lab.TheVariants.{At}
use Rattle.dl_inv.proofs.Listing.{where-done}
use Rattle.dl_parts.proofs.Shown.{shown-with}
use Rattle.dl_triples.specs.Built.{vars_at}
use Rattle.dl_triples.specs.Obligations.{beside, facts_at, is_other, kept_by_send}
use Rattle.dl_wp.specs.Before.{before_sent}
use Rattle.dl_wp.specs.Captures.{captures, nothing_around}
use Rattle.dl_wp.specs.Steps.{send_step}
use Rattle.dl_wp.specs.declared.steps.SendStep.{SendStep}
use Rattle.std.proofs.Common.{List, None, [], ap, sym, ◌++◌, ◌∙◌, ◌∷◌, ◌≡◌}
use Rattle.dl_built.proofs.others.kept_after_send.Goals as goal

pub put_send_facts-requires-clause-label : goal.put_send_facts-requires-clause-label
put_send_facts-requires-clause-label c = ap (λ (s : SendStep). s.label) c.requires.step

pub put_before_send-requires : goal.put_before_send-requires
put_before_send-requires c = ap (λ (s : SendStep). captures (send_step c.args.decls.now.inst None s) nothing_around c.args.formula.now) c.requires.step ∙ c.requires.quiet

pub returns-clause-made : goal.returns-clause-made
returns-clause-made c =
    let decls = c.args.decls.now in
    let proc = c.args.proc.now in
    let step = c.args.step.now in
    let vars = vars_at decls proc c.args.point in
    let given = beside vars (send_known decls.inst None (At c.args.label) c.args.tag c.args.names.now) in
    let facts : Sequent → SendStep → List Hypothesis = λ s t. facts_at decls proc c.args.formula.now ++ (is_other t.sender ∷ (send_hypotheses decls.inst s t ++ called hooks_word (all_hooks decls (world_at decls proc.world) c.args.label c.args.tag t) ∷ [])) in
    let asks = λ (t : SendStep). before_sent decls.inst None t c.args.formula.now in
    where-done c.put_before_send.result (c.put_before_send.new.made ≡ record c.put_send_facts.new.made { goal = asks step }) (c.put_before_send.new.made ≡ kept_by_send decls proc vars c.args.formula.now c.args.label c.args.tag c.args.names.now) c.put_before_send.ensures.made
    (λ e. shown-with given c.put_beside.new.made c.put_send_facts.new.made c.put_before_send.new.made (λ (s : Sequent). facts s step) (asks step)
    (c.in_ok-put_beside.ensures ∙ ap (λ (s : Sequent). beside vars s) c.in_ok-put_send_known.ensures) c.in_ok-put_send_facts.ensures e
    ∙ (λ i. shows given (facts given (c.requires.step i)) (asks (c.requires.step i))))

pub returns-clause-limit : goal.returns-clause-limit
returns-clause-limit c h =
    sym (ap (λ (s : SendStep). is_oversized (before_sent c.args.decls.now.inst None s c.args.formula.now)) c.requires.step) ∙ c.put_before_send.ensures.limit h
