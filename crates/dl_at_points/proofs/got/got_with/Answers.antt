use Rattle.std.proofs.Common.{◌≡◌, ℕ, sym, ap, ◌∙◌}
use Rattle.dl_term.specs.Measures.{is_oversized}
use Rattle.dl_wp.specs.declared.steps.ReceiveStep.{ReceiveStep}
use Rattle.dl_triples.specs.Obligations.{got_sequent}
use Rattle.dl_triples.specs.Points.{next_of, point_at}
use Rattle.dl_inv.proofs.Listing.{where-done}
use Rattle.dl_triples.specs.Built.{receive_captures}
use Rattle.dl_at_points.proofs.got.got_with.Goals as goal

pub got_by-filled-requires-clause-quiet : goal.got_by-filled-requires-clause-quiet
got_by-filled-requires-clause-quiet c =
    let decls = c.args.decls.now in
    let proc = c.args.proc.now in
    let next = next_of (point_at proc c.args.point) in
    let msg : c.taking-step.result.msg ≡ c.args.msg = ap (λ (s : ReceiveStep). s.msg) c.taking-step.ensures in
    ap (λ (m : ℕ). receive_captures decls c.args.label c.args.tag m c.args.targets.now c.args.terms.now next) msg ∙ c.requires.quiet

pub returns-clause-made : goal.returns-clause-made
returns-clause-made c =
    let decls = c.args.decls.now in
    let proc = c.args.proc.now in
    let next = next_of (point_at proc c.args.point) in
    let msg : c.taking-step.result.msg ≡ c.args.msg = ap (λ (s : ReceiveStep). s.msg) c.taking-step.ensures in
    where-done c.got_by-filled.result (c.got_by-filled.new.made ≡ got_sequent decls proc c.args.note.now c.args.label c.args.tag c.taking-step.result.msg c.args.targets.now c.args.terms.now next)
    (c.got_by-filled.new.made ≡ got_sequent decls proc c.args.note.now c.args.label c.args.tag c.args.msg c.args.targets.now c.args.terms.now next) c.got_by-filled.ensures.made
    (λ e. e ∙ ap (λ (m : ℕ). got_sequent decls proc c.args.note.now c.args.label c.args.tag m c.args.targets.now c.args.terms.now next) msg)

pub returns-clause-limit : goal.returns-clause-limit
returns-clause-limit c h =
    let decls = c.args.decls.now in
    let proc = c.args.proc.now in
    let next = next_of (point_at proc c.args.point) in
    let msg : c.taking-step.result.msg ≡ c.args.msg = ap (λ (s : ReceiveStep). s.msg) c.taking-step.ensures in
    sym (ap (λ (m : ℕ). is_oversized (got_sequent decls proc c.args.note.now c.args.label c.args.tag m c.args.targets.now c.args.terms.now next).goal) msg) ∙ c.got_by-filled.ensures.limit h
