use Rattle.dl_model.specs.Block.{block_of, followed}
use Rattle.dl_model.specs.declared.program.Command.{Command}
use Rattle.dl_model.specs.declared.sequent.Sequent.{Sequent}
use Rattle.dl_term.specs.Measures.{is_oversized}
use Rattle.dl_term.specs.declared.syntax.Term.{Term}
use Rattle.dl_inv.proofs.Listing.{where-done}
use Rattle.dl_triples.specs.Built.{send_captures}
use Rattle.dl_triples.specs.Obligations.{sending, sent_at, sent_sequent}
use Rattle.dl_triples.specs.Points.{next_of, point_at}
use Rattle.dl_wp.specs.Captures.{captures, nothing_around}
use Rattle.dl_wp.specs.Steps.{send_step}
use Rattle.std.proofs.Common.{List, None, ap, sym, ◌∙◌, ◌≡◌}
use Rattle.dl_at_points.proofs.sent.fill_sent.Goals as goal

pub sent_to-requires-clause-quiet : goal.sent_to-requires-clause-quiet
sent_to-requires-clause-quiet c =
    let decls = c.args.decls.now in
    let proc = c.args.proc.now in
    let rest = block_of c.args.rest.now in
    let next = next_of (point_at proc c.args.point) in
    ap (λ (xs : List Term). captures (send_step decls.inst None (sending c.in-Send.label c.in-Send.tag c.in-Send.to xs)) nothing_around next) c.as_slice.ensures
    ∙ (sym (ap (λ (x : Command). send_captures decls (followed x rest) next) c.in-Send.is) ∙ c.requires.quiet)

pub returns-in-Send-clause-made : goal.returns-in-Send-clause-made
returns-in-Send-clause-made c =
    let decls = c.args.decls.now in
    let proc = c.args.proc.now in
    let rest = block_of c.args.rest.now in
    let next = next_of (point_at proc c.args.point) in
    let made : List Term → Sequent = λ xs. sent_sequent decls proc c.in-Send.note c.in-Send.label c.in-Send.tag (sending c.in-Send.label c.in-Send.tag c.in-Send.to xs) next in
    where-done c.sent_to.result (c.sent_to.new.made ≡ made c.as_slice.result.now) (c.sent_to.new.made ≡ sent_at decls proc (followed c.args.command.now rest) next) c.sent_to.ensures.made (λ e. e ∙ (ap made c.as_slice.ensures ∙ sym (ap (λ (x : Command). sent_at decls proc (followed x rest) next) c.in-Send.is)))

pub returns-in-Send-clause-limit : goal.returns-in-Send-clause-limit
returns-in-Send-clause-limit c h =
    let decls = c.args.decls.now in
    let proc = c.args.proc.now in
    let rest = block_of c.args.rest.now in
    let next = next_of (point_at proc c.args.point) in
    let made : List Term → Sequent = λ xs. sent_sequent decls proc c.in-Send.note c.in-Send.label c.in-Send.tag (sending c.in-Send.label c.in-Send.tag c.in-Send.to xs) next in
    sym (ap (λ (s : Sequent). is_oversized s.goal) (ap made c.as_slice.ensures ∙ sym (ap (λ (x : Command). sent_at decls proc (followed x rest) next) c.in-Send.is))) ∙ c.sent_to.ensures.limit h
