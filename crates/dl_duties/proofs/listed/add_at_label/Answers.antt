use Rattle.std.proofs.Common.{◌≡◌, ◌++◌, List, sym, ◌∙◌, ap}
use Rattle.std.specs.Prelude.{slice_get, Some}
use Rattle.std.specs.Option.{option_copied}
use Rattle.dl_term.specs.declared.syntax.Lab.TheVariants.{At}
use Rattle.dl_model.specs.Scopes.{protocol_found}
use Rattle.dl_sequent.specs.declared.duty.Duty.{Duty}
use Rattle.dl_triples.specs.Duties.{steps_of_others}
use Rattle.dl_duties.specs.Moves.{kept_duty, steps_at}
use Rattle.dl_inv.proofs.Listing.{label-few, where-done}
use Rattle.dl_duties.proofs.Listing.{label-steps}
use Rattle.dl_duties.proofs.listed.add_at_label.Goals as goal

pub add_of_tags-requires : goal.add_of_tags-requires
add_of_tags-requires c =
    let inst = c.args.decls.now.inst in
    label-few inst (slice_get inst.of c.args.label) c.in-Some.protocol.now c.requires (sym c.find_protocol.ensures ∙ ap option_copied c.in-Some.is)

pub returns : goal.returns
returns c =
    let decls = c.args.decls.now in
    let found : protocol_found decls.inst (slice_get decls.inst.of c.args.label) ≡ Some c.in-Some.protocol.now = sym c.find_protocol.ensures ∙ ap option_copied c.in-Some.is in
    let steps : List Duty = steps_of_others (kept_duty c.args.kept c.args.label) (At c.args.label) c.args.formula.now c.in-Some.protocol.now in
    let is = label-steps decls (kept_duty c.args.kept) c.args.formula.now c.args.label c.in-Some.protocol.now found in
    where-done c.add_of_tags.result (c.add_of_tags.new.list ≡ c.args.list.now ++ steps)
    (c.add_of_tags.new.list ≡ c.args.list.now ++ steps_at decls (kept_duty c.args.kept) c.args.formula.now c.args.label) c.add_of_tags.ensures
    (λ e. e ∙ ap (λ xs. c.args.list.now ++ xs) (sym is))
