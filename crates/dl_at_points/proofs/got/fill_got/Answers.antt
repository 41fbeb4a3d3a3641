use Rattle.dl_model.specs.Block.{block_of, followed}
use Rattle.dl_model.specs.declared.program.Command.{Command}
use Rattle.dl_model.specs.declared.sequent.Sequent.{Sequent}
use Rattle.dl_term.specs.Measures.{is_oversized}
use Rattle.dl_term.specs.declared.syntax.Term.{Num}
use Rattle.dl_inv.proofs.Listing.{where-done}
use Rattle.dl_triples.specs.Built.{got_captures, receive_captures}
use Rattle.dl_triples.specs.Obligations.{got_at, got_sequent, terms_of_message}
use Rattle.dl_triples.specs.Points.{next_of, point_at}
use Rattle.std.proofs.Common.{List, ap, pos, sym, ℕ, ◌∙◌, ◌∷◌, ◌≡◌}
use Rattle.dl_at_points.proofs.got.fill_got.Goals as goal

pub awaited-requires-clause-quiet : goal.awaited-requires-clause-quiet
awaited-requires-clause-quiet c =
    let decls = c.args.decls.now in
    let proc = c.args.proc.now in
    let rest = block_of c.args.rest.now in
    let next = next_of (point_at proc c.args.point) in
    ap (λ (xs : List ℕ). receive_captures decls c.in-Await.label c.in-Await.tag c.args.msg (c.in-Await.sender ∷ xs) (terms_of_message c.args.msg) next) c.as_slice.ensures
    ∙ (sym (ap (λ (x : Command). got_captures decls (followed x rest) c.args.msg next) c.in-Await.is) ∙ c.requires.quiet)

pub polled-requires-clause-quiet : goal.polled-requires-clause-quiet
polled-requires-clause-quiet c =
    let decls = c.args.decls.now in
    let proc = c.args.proc.now in
    let rest = block_of c.args.rest.now in
    let next = next_of (point_at proc c.args.point) in
    ap (λ (xs : List ℕ). receive_captures decls c.in-Poll.label c.in-Poll.tag c.args.msg (c.in-Poll.got ∷ c.in-Poll.sender ∷ xs) (Num (pos 1) ∷ terms_of_message c.args.msg) next) c.as_slice-in-Poll.ensures
    ∙ (sym (ap (λ (x : Command). got_captures decls (followed x rest) c.args.msg next) c.in-Poll.is) ∙ c.requires.quiet)

pub returns-in-Await-clause-made : goal.returns-in-Await-clause-made
returns-in-Await-clause-made c =
    let decls = c.args.decls.now in
    let proc = c.args.proc.now in
    let rest = block_of c.args.rest.now in
    let next = next_of (point_at proc c.args.point) in
    let made : List ℕ → Sequent = λ xs. got_sequent decls proc c.in-Await.note c.in-Await.label c.in-Await.tag c.args.msg (c.in-Await.sender ∷ xs) (terms_of_message c.args.msg) next in
    where-done c.awaited.result (c.awaited.new.made ≡ made c.as_slice.result.now) (c.awaited.new.made ≡ got_at decls proc (followed c.args.command.now rest) c.args.msg next) c.awaited.ensures.made (λ e. e ∙ (ap made c.as_slice.ensures ∙ sym (ap (λ (x : Command). got_at decls proc (followed x rest) c.args.msg next) c.in-Await.is)))

pub returns-in-Await-clause-limit : goal.returns-in-Await-clause-limit
returns-in-Await-clause-limit c h =
    let decls = c.args.decls.now in
    let proc = c.args.proc.now in
    let rest = block_of c.args.rest.now in
    let next = next_of (point_at proc c.args.point) in
    let made : List ℕ → Sequent = λ xs. got_sequent decls proc c.in-Await.note c.in-Await.label c.in-Await.tag c.args.msg (c.in-Await.sender ∷ xs) (terms_of_message c.args.msg) next in
    sym (ap (λ (s : Sequent). is_oversized s.goal) (ap made c.as_slice.ensures ∙ sym (ap (λ (x : Command). got_at decls proc (followed x rest) c.args.msg next) c.in-Await.is))) ∙ c.awaited.ensures.limit h

pub returns-in-Poll-clause-made : goal.returns-in-Poll-clause-made
returns-in-Poll-clause-made c =
    let decls = c.args.decls.now in
    let proc = c.args.proc.now in
    let rest = block_of c.args.rest.now in
    let next = next_of (point_at proc c.args.point) in
    let made : List ℕ → Sequent = λ xs. got_sequent decls proc c.in-Poll.note c.in-Poll.label c.in-Poll.tag c.args.msg (c.in-Poll.got ∷ c.in-Poll.sender ∷ xs) (Num (pos 1) ∷ terms_of_message c.args.msg) next in
    where-done c.polled.result (c.polled.new.made ≡ made c.as_slice-in-Poll.result.now) (c.polled.new.made ≡ got_at decls proc (followed c.args.command.now rest) c.args.msg next) c.polled.ensures.made (λ e. e ∙ (ap made c.as_slice-in-Poll.ensures ∙ sym (ap (λ (x : Command). got_at decls proc (followed x rest) c.args.msg next) c.in-Poll.is)))

pub returns-in-Poll-clause-limit : goal.returns-in-Poll-clause-limit
returns-in-Poll-clause-limit c h =
    let decls = c.args.decls.now in
    let proc = c.args.proc.now in
    let rest = block_of c.args.rest.now in
    let next = next_of (point_at proc c.args.point) in
    let made : List ℕ → Sequent = λ xs. got_sequent decls proc c.in-Poll.note c.in-Poll.label c.in-Poll.tag c.args.msg (c.in-Poll.got ∷ c.in-Poll.sender ∷ xs) (Num (pos 1) ∷ terms_of_message c.args.msg) next in
    sym (ap (λ (s : Sequent). is_oversized s.goal) (ap made c.as_slice-in-Poll.ensures ∙ sym (ap (λ (x : Command). got_at decls proc (followed x rest) c.args.msg next) c.in-Poll.is))) ∙ c.polled.ensures.limit h
