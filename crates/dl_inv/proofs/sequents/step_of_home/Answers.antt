use Rattle.std.proofs.Common.{◌≡◌, refl, ap, sym, ◌∙◌}
use Rattle.dl_term.specs.Measures.{is_oversized}
use Rattle.dl_model.specs.declared.sequent.Sequent.{Sequent}
use Rattle.dl_model.specs.declared.file.Invariant.{Invariant}
use Rattle.dl_model.specs.Lookup.{world_at}
use Rattle.dl_sequent.specs.declared.duty.Duty.TheVariants.{StepInvariant}
use Rattle.dl_inv.specs.declared.sequents.Home.{Home}
use Rattle.dl_inv.specs.Built.{kept}
use Rattle.dl_inv.specs.Obligations.{sequent_of}
use Rattle.dl_inv.proofs.Listing.{where-done}
use Rattle.dl_inv.proofs.Kept.{invariant-kept, invariant-quiet}
use Rattle.dl_inv.proofs.sequents.step_of_home.Goals as goal

pub fill_step-requires : goal.fill_step-requires
fill_step-requires c =
    let home : Home = record { position = c.args.position; world = c.extent_of.result; label = c.args.label } in
    let formula = c.invariant_claim-claim.ensures.formula ∙ ap (λ (v : Invariant). v.formula) c.requires.here in
    invariant-quiet c.args.decls.now c.invariant_claim-claim.result home c.args.position c.args.label c.args.tag c.args.names.now c.args.receive
    c.invariant_claim-claim.ensures.own c.invariant_claim-claim.ensures.label formula ∙ c.requires.quiet

pub returns-clause-made : goal.returns-clause-made
returns-clause-made c =
    let decls = c.args.decls.now in
    let home : Home = record { position = c.args.position; world = c.extent_of.result; label = c.args.label } in
    let claim = c.invariant_claim-claim.result in
    let name = c.invariant_claim-claim.ensures.name ∙ ap (λ (v : Invariant). v.sym) c.requires.here in
    let formula = c.invariant_claim-claim.ensures.formula ∙ ap (λ (v : Invariant). v.formula) c.requires.here in
    let labels = c.extent_of.ensures.labels ∙ ap (λ (v : Invariant). (world_at decls v.world).labels) c.requires.here in
    let hooks = c.extent_of.ensures.hooks ∙ ap (λ (v : Invariant). (world_at decls v.world).hooks) c.requires.here in
    where-done c.fill_step.result (c.fill_step.new.made ≡ kept decls claim c.args.tag c.args.receive c.args.names.now)
    (c.fill_step.new.made ≡ sequent_of decls (StepInvariant c.args.position c.args.label c.args.tag c.args.receive) c.args.names.now) c.fill_step.ensures.made
    (λ e. e ∙ invariant-kept decls claim home c.args.position c.args.label c.args.tag c.args.names.now c.args.receive
    c.invariant_claim-claim.ensures.own c.invariant_claim-claim.ensures.label name formula c.invariant_claim-claim.ensures.home refl refl labels hooks)

pub returns-clause-limit : goal.returns-clause-limit
returns-clause-limit c =
    let decls = c.args.decls.now in
    let home : Home = record { position = c.args.position; world = c.extent_of.result; label = c.args.label } in
    let claim = c.invariant_claim-claim.result in
    let name = c.invariant_claim-claim.ensures.name ∙ ap (λ (v : Invariant). v.sym) c.requires.here in
    let formula = c.invariant_claim-claim.ensures.formula ∙ ap (λ (v : Invariant). v.formula) c.requires.here in
    let labels = c.extent_of.ensures.labels ∙ ap (λ (v : Invariant). (world_at decls v.world).labels) c.requires.here in
    let hooks = c.extent_of.ensures.hooks ∙ ap (λ (v : Invariant). (world_at decls v.world).hooks) c.requires.here in
    λ h. sym (ap (λ (s : Sequent). is_oversized s.goal) (invariant-kept decls claim home c.args.position c.args.label c.args.tag c.args.names.now c.args.receive
    c.invariant_claim-claim.ensures.own c.invariant_claim-claim.ensures.label name formula c.invariant_claim-claim.ensures.home refl refl labels hooks)) ∙ c.fill_step.ensures.limit h
