use Rattle.dl_inv.specs.Obligations.{receive_known, shows}
use Rattle.dl_inv.specs.Steps.{receive_hypotheses}
use Rattle.dl_model.specs.declared.sequent.Hypothesis.{Hypothesis}
use Rattle.dl_model.specs.declared.sequent.Sequent.{Sequent}
use Rattle.dl_term.specs.Measures.{is_oversized}
use Rattle.dl_term.specs.declared.syntax.Lab.TheVariants.{At}
use Rattle.dl_inv.proofs.Listing.{where-done}
use Rattle.dl_parts.proofs.Shown.{shown-with}
use Rattle.dl_triples.specs.Built.{vars_at}
use Rattle.dl_triples.specs.Obligations.{beside, facts_at, is_other, kept_by_receive}
use Rattle.dl_wp.specs.Before.{before_received}
use Rattle.dl_wp.specs.Captures.{captures, nothing_around}
use Rattle.dl_wp.specs.Steps.{receive_step}
use Rattle.dl_wp.specs.declared.steps.ReceiveStep.{ReceiveStep}
use Rattle.std.proofs.Common.{List, None, ap, sym, ◌++◌, ◌∙◌, ◌∷◌, ◌≡◌}
use Rattle.dl_built.proofs.others.kept_after_receive.Goals as goal

pub put_before_receive-requires : goal.put_before_receive-requires
put_before_receive-requires c = ap (λ (s : ReceiveStep). captures (receive_step c.args.decls.now.inst None s) nothing_around c.args.formula.now) c.requires.step ∙ c.requires.quiet

pub returns-clause-made : goal.returns-clause-made
returns-clause-made c =
    let decls = c.args.decls.now in
    let proc = c.args.proc.now in
    let step = c.args.step.now in
    let vars = vars_at decls proc c.args.point in
    let given = beside vars (receive_known decls.inst None (At c.args.label) c.args.tag c.args.names.now) in
    let facts : Sequent → ReceiveStep → List Hypothesis = λ s t. facts_at decls proc c.args.formula.now ++ (is_other t.receiver ∷ receive_hypotheses decls.inst s t) in
    let asks = λ (t : ReceiveStep). before_received decls.inst None t c.args.formula.now in
    where-done c.put_before_receive.result (c.put_before_receive.new.made ≡ record c.put_receive_facts.new.made { goal = asks step }) (c.put_before_receive.new.made ≡ kept_by_receive decls proc vars c.args.formula.now c.args.label c.args.tag c.args.names.now) c.put_before_receive.ensures.made
    (λ e. shown-with given c.put_beside.new.made c.put_receive_facts.new.made c.put_before_receive.new.made (λ (s : Sequent). facts s step) (asks step)
    (c.in_ok-put_beside.ensures ∙ ap (λ (s : Sequent). beside vars s) c.in_ok-put_receive_known.ensures) c.in_ok-put_receive_facts.ensures e
    ∙ (λ i. shows given (facts given (c.requires.step i)) (asks (c.requires.step i))))

pub returns-clause-limit : goal.returns-clause-limit
returns-clause-limit c h =
    sym (ap (λ (s : ReceiveStep). is_oversized (before_received c.args.decls.now.inst None s c.args.formula.now)) c.requires.step) ∙ c.put_before_receive.ensures.limit h
