use Rattle.dl_inv.specs.Steps.{called}
use Rattle.dl_model.specs.Block.{block_of}
use Rattle.dl_model.specs.declared.sequent.Hypothesis.{Hypothesis}
use Rattle.dl_term.specs.declared.syntax.Formula.{Formula}
use Rattle.dl_inv.proofs.Listing.{where-done}
use Rattle.dl_parts.proofs.Shown.{shown}
use Rattle.dl_triples.specs.Obligations.{facts_at, known_in, tested_sequent}
use Rattle.dl_triples.specs.Points.{pre_of}
use Rattle.dl_triples.specs.Words.{test_word}
use Rattle.std.proofs.Common.{List, [], ◌++◌, ◌∷◌, ◌≡◌}
use Rattle.dl_at_points.proofs.looped.looped.Goals as goal

pub returns-clause-made : goal.returns-clause-made
returns-clause-made c =
    let decls = c.args.decls.now in
    let proc = c.args.proc.now in
    let facts : List Hypothesis = facts_at decls proc c.args.note.now ++ called test_word c.args.test.now ∷ [] in
    let asks : Formula = pre_of (block_of c.args.body.now) c.args.note.now in
    where-done c.put_looped.result (c.put_looped.new.made ≡ record c.put_tested.new.made { goal = asks }) (c.put_looped.new.made ≡ tested_sequent decls proc c.args.note.now c.args.test.now asks) c.put_looped.ensures.made
    (λ e. shown (known_in decls proc) c.put_known.new.made c.put_tested.new.made c.put_looped.new.made facts asks c.in_ok-put_known.ensures c.in_ok-put_tested.ensures e)
