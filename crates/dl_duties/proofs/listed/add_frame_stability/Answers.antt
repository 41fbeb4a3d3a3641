use Rattle.std.proofs.Common.{◌≡◌, ◌++◌, ◌∙◌, ℕ, List, ap}
use Rattle.std.specs.List.{flat_map}
use Rattle.dl_sequent.specs.declared.duty.Duty.{Duty}
use Rattle.dl_sequent.specs.declared.duty.Duty.TheVariants.{Frame}
use Rattle.dl_duties.specs.Moves.{steps_at}
use Rattle.dl_triples.specs.Duties.{frame_stability}
use Rattle.dl_inv.proofs.Listing.{where-done}
use Rattle.dl_duties.proofs.listed.add_frame_stability.Goals as goal

pub returns : goal.returns
returns c =
    let decls = c.args.decls.now in
    let made : List ℕ → List Duty = λ labels. c.args.list.now ++ flat_map (steps_at decls (Frame c.args.proc c.args.point) c.args.frame.now) labels in
    where-done c.add_at_labels.result (c.add_at_labels.new.list ≡ made c.labels_of-labels.result.now) (c.add_at_labels.new.list ≡ c.args.list.now ++ frame_stability decls c.args.proc c.args.point c.args.frame.now)
    c.add_at_labels.ensures (λ e. e ∙ ap made c.labels_of-labels.ensures)
