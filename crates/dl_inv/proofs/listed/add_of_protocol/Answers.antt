use Rattle.std.proofs.Common.{◌≡◌, ◌∷◌, ◌++◌, [], List, sym, ◌∙◌, ap}
use Rattle.std.specs.Prelude.{slice_get, Some}
use Rattle.std.specs.Option.{option_copied}
use Rattle.dl_term.specs.declared.syntax.Lab.TheVariants.{Own}
use Rattle.dl_sequent.specs.declared.duty.Duty.{Duty}
use Rattle.dl_sequent.specs.declared.duty.Duty.TheVariants.{InitProtocol, StepProtocol}
use Rattle.dl_inv.specs.Duties.{steps_of_tags, duties_of_protocol}
use Rattle.dl_inv.proofs.Listing.{found-few, protocol-duties, joined, where-done}
use Rattle.dl_inv.proofs.listed.add_of_protocol.Goals as goal

pub add_steps-requires : goal.add_steps-requires
add_steps-requires c =
    let at : slice_get c.args.decls.now.inst.protocols c.args.protocol ≡ Some c.in-Some.declared.now =
    cc (ap option_copied c.in-Some.is, c.at.ensures, c.as_slice.ensures, c.from.ensures) in
    found-few c.args.decls.now.inst c.args.protocol c.in-Some.declared.now c.requires at

pub returns : goal.returns
returns c =
    let at : slice_get c.args.decls.now.inst.protocols c.args.protocol ≡ Some c.in-Some.declared.now =
    cc (ap option_copied c.in-Some.is, c.at.ensures, c.as_slice.ensures, c.from.ensures) in
    let steps : List Duty = steps_of_tags (StepProtocol c.args.protocol) Own c.in-Some-coherence.coherence c.in-Some.declared.now in
    let is = protocol-duties c.args.decls.now c.args.protocol c.in-Some.declared.now c.in-Some-coherence.coherence at c.in-Some-coherence.is in
    where-done c.add_steps.result (c.add_steps.new.list ≡ c.push.new.self ++ steps) (c.add_steps.new.list ≡ c.args.list.now ++ duties_of_protocol c.args.decls.now c.args.protocol)
    c.add_steps.ensures
    (λ e. joined c.args.list.now (InitProtocol c.args.protocol ∷ []) steps c.push.new.self c.add_steps.new.list c.in_ok-push.ensures.ok e ∙ ap (λ xs. c.args.list.now ++ xs) (sym is))
