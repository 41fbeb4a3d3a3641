use Rattle.std.proofs.Common.{◌≡◌, Some, None, refl, ap, sym, ◌∙◌}
use Rattle.dl_term.specs.declared.syntax.Lab.TheVariants.{Own}
use Rattle.dl_term.specs.Measures.{is_oversized}
use Rattle.dl_model.specs.declared.sequent.Sequent.{Sequent}
use Rattle.dl_sequent.specs.declared.duty.Duty.TheVariants.{StepProtocol}
use Rattle.dl_inv.specs.declared.sequents.Claim.{Claim}
use Rattle.dl_inv.specs.Built.{kept}
use Rattle.dl_inv.specs.Obligations.{sequent_of}
use Rattle.dl_inv.proofs.Listing.{where-done}
use Rattle.dl_inv.proofs.Kept.{protocol-kept, protocol-quiet}
use Rattle.dl_inv.proofs.sequents.step_of_coherence.Goals as goal

pub fill_step-requires : goal.fill_step-requires
fill_step-requires c =
    let claim : Claim = record { own = Some c.args.protocol; label = Own; name = 3; formula = c.coherence_of.result; home = None } in
    protocol-quiet c.args.decls.now claim c.args.protocol c.args.tag c.args.names.now c.args.receive refl refl c.coherence_of.ensures ∙ c.requires.quiet

pub returns-clause-made : goal.returns-clause-made
returns-clause-made c =
    let decls = c.args.decls.now in
    let claim : Claim = record { own = Some c.args.protocol; label = Own; name = 3; formula = c.coherence_of.result; home = None } in
    where-done c.fill_step.result (c.fill_step.new.made ≡ kept decls claim c.args.tag c.args.receive c.args.names.now)
    (c.fill_step.new.made ≡ sequent_of decls (StepProtocol c.args.protocol c.args.tag c.args.receive) c.args.names.now) c.fill_step.ensures.made
    (λ e. e ∙ protocol-kept decls claim c.args.protocol c.args.tag c.args.names.now c.args.receive refl refl refl c.coherence_of.ensures refl)

pub returns-clause-limit : goal.returns-clause-limit
returns-clause-limit c =
    let decls = c.args.decls.now in
    let claim : Claim = record { own = Some c.args.protocol; label = Own; name = 3; formula = c.coherence_of.result; home = None } in
    λ h. sym (ap (λ (s : Sequent). is_oversized s.goal) (protocol-kept decls claim c.args.protocol c.args.tag c.args.names.now c.args.receive refl refl refl c.coherence_of.ensures refl)) ∙ c.fill_step.ensures.limit h
