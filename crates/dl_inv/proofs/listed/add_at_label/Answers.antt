use Rattle.std.proofs.Common.{◌≡◌, ◌++◌, List, sym, ◌∙◌, ap}
use Rattle.std.specs.Prelude.{slice_get, Some}
use Rattle.std.specs.Option.{option_copied}
use Rattle.dl_term.specs.declared.syntax.Lab.TheVariants.{At}
use Rattle.dl_model.specs.Scopes.{protocol_found}
use Rattle.dl_sequent.specs.declared.duty.Duty.{Duty}
use Rattle.dl_sequent.specs.declared.duty.Duty.TheVariants.{StepInvariant}
use Rattle.dl_inv.specs.Duties.{steps_of_tags, steps_at_label}
use Rattle.dl_inv.proofs.Listing.{label-few, label-steps, where-done}
use Rattle.dl_inv.proofs.listed.add_at_label.Goals as goal

pub add_steps-requires : goal.add_steps-requires
add_steps-requires c =
    let inst = c.args.decls.now.inst in
    label-few inst (slice_get inst.of c.args.label) c.in-Some.protocol.now c.requires.formed (sym c.find_protocol.ensures ∙ ap option_copied c.in-Some.is)

pub returns : goal.returns
returns c =
    let decls = c.args.decls.now in
    let found : protocol_found decls.inst (slice_get decls.inst.of c.args.label) ≡ Some c.in-Some.protocol.now = sym c.find_protocol.ensures ∙ ap option_copied c.in-Some.is in
    let steps : List Duty = steps_of_tags (StepInvariant c.args.position c.args.label) (At c.args.label) c.args.invariant.now.formula c.in-Some.protocol.now in
    let is = label-steps decls c.args.position c.args.label c.args.invariant.now c.in-Some.protocol.now c.requires.here found in
    where-done c.add_steps.result (c.add_steps.new.list ≡ c.args.list.now ++ steps) (c.add_steps.new.list ≡ c.args.list.now ++ steps_at_label decls c.args.position c.args.label)
    c.add_steps.ensures (λ e. e ∙ ap (λ xs. c.args.list.now ++ xs) (sym is))
