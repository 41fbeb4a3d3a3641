use Rattle.dl_inv.specs.Obligations.{known}
use Rattle.dl_inv.specs.Steps.{called}
use Rattle.dl_model.specs.Lookup.{arg_names}
use Rattle.dl_model.specs.Words.{result_word}
use Rattle.dl_model.specs.declared.sequent.Hypothesis.{Hypothesis}
use Rattle.dl_subst.specs.Substitution.{substituted}
use Rattle.dl_term.specs.declared.syntax.Formula.{Formula}
use Rattle.dl_term.specs.declared.syntax.Term.{Var}
use Rattle.dl_inv.proofs.Listing.{where-done}
use Rattle.dl_parts.proofs.Shown.{shown}
use Rattle.dl_triples.specs.Built.{vars_after}
use Rattle.dl_triples.specs.Obligations.{facts_in, leave_sequent, put}
use Rattle.dl_triples.specs.Points.{next_of, point_at}
use Rattle.dl_triples.specs.Words.{frame_word, post_word}
use Rattle.std.proofs.Common.{List, None, [], ◌++◌, ◌∷◌, ◌≡◌}
use Rattle.dl_at_points.proofs.called.leave_with.Goals as goal

pub returns-clause-made : goal.returns-clause-made
returns-clause-made c =
    let decls = c.args.decls.now in
    let proc = c.args.proc.now in
    let callee = c.args.callee.now in
    let facts : List Hypothesis = facts_in decls proc ++ called post_word (put callee.post (result_word ∷ arg_names callee.params) (Var c.args.returned ∷ c.args.args.now)) ∷ called frame_word c.args.frame.now ∷ [] in
    let asks : Formula = substituted (next_of (point_at proc c.args.point)) c.args.into (Var c.args.returned) in
    where-done c.put_returned.result (c.put_returned.new.made ≡ record c.put_left_facts.new.made { goal = asks }) (c.put_returned.new.made ≡ leave_sequent decls proc c.args.frame.now c.args.into callee c.args.args.now c.args.returned (next_of (point_at proc c.args.point))) c.put_returned.ensures.made
    (λ e. shown (known (vars_after decls proc c.args.returned) [] None) c.put_known_after.new.made c.put_left_facts.new.made c.put_returned.new.made facts asks c.in_ok-put_known_after.ensures c.in_ok-put_left_facts.ensures e)
