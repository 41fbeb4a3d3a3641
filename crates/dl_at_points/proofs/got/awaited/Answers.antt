use Rattle.std.proofs.Common.{◌≡◌, ◌∷◌, sym, ◌∙◌}
use Rattle.dl_term.specs.Measures.{is_oversized}
use Rattle.dl_triples.specs.Obligations.{got_sequent, terms_of_message}
use Rattle.dl_triples.specs.Points.{next_of, point_at}
use Rattle.dl_inv.proofs.Listing.{where-done}
use Rattle.dl_triples.specs.Built.{receive_captures}
use Rattle.dl_at_points.proofs.got.awaited.Goals as goal

pub got_with-filled-requires-clause-quiet : goal.got_with-filled-requires-clause-quiet
got_with-filled-requires-clause-quiet c =
    let decls = c.args.decls.now in
    let proc = c.args.proc.now in
    let next = next_of (point_at proc c.args.point) in
    let targets : c.as_slice.result.now ≡ c.args.sender ∷ c.args.args.now = c.as_slice.ensures ∙ c.in_ok-targets.ensures in
    let terms : c.as_slice-2.result.now ≡ terms_of_message c.args.msg = c.as_slice-2.ensures ∙ c.in_ok-terms.ensures in
    (λ i. receive_captures decls c.args.label c.args.tag c.args.msg (targets i) (terms i) next) ∙ c.requires.quiet

pub returns-clause-made : goal.returns-clause-made
returns-clause-made c =
    let decls = c.args.decls.now in
    let proc = c.args.proc.now in
    let next = next_of (point_at proc c.args.point) in
    let targets : c.as_slice.result.now ≡ c.args.sender ∷ c.args.args.now = c.as_slice.ensures ∙ c.in_ok-targets.ensures in
    let terms : c.as_slice-2.result.now ≡ terms_of_message c.args.msg = c.as_slice-2.ensures ∙ c.in_ok-terms.ensures in
    where-done c.got_with-filled.result (c.got_with-filled.new.made ≡ got_sequent decls proc c.args.note.now c.args.label c.args.tag c.args.msg c.as_slice.result.now c.as_slice-2.result.now next)
    (c.got_with-filled.new.made ≡ got_sequent decls proc c.args.note.now c.args.label c.args.tag c.args.msg (c.args.sender ∷ c.args.args.now) (terms_of_message c.args.msg) next) c.got_with-filled.ensures.made
    (λ e. e ∙ (λ i. got_sequent decls proc c.args.note.now c.args.label c.args.tag c.args.msg (targets i) (terms i) next))

pub returns-clause-limit : goal.returns-clause-limit
returns-clause-limit c h =
    let decls = c.args.decls.now in
    let proc = c.args.proc.now in
    let next = next_of (point_at proc c.args.point) in
    let targets : c.as_slice.result.now ≡ c.args.sender ∷ c.args.args.now = c.as_slice.ensures ∙ c.in_ok-targets.ensures in
    let terms : c.as_slice-2.result.now ≡ terms_of_message c.args.msg = c.as_slice-2.ensures ∙ c.in_ok-terms.ensures in
    sym (λ i. is_oversized (got_sequent decls proc c.args.note.now c.args.label c.args.tag c.args.msg (targets i) (terms i) next).goal) ∙ c.got_with-filled.ensures.limit h
