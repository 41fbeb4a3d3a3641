use Rattle.dl_model.specs.Block.{block_of}
use Rattle.dl_term.specs.declared.syntax.Formula.{Formula}
use Rattle.dl_inv.proofs.Listing.{where-done}
use Rattle.dl_parts.proofs.Shown.{shown-alone}
use Rattle.dl_triples.specs.Obligations.{facts_at, known_in, put, start_sequent}
use Rattle.dl_triples.specs.Points.{post_of, pre_of}
use Rattle.std.proofs.Common.{[], ◌≡◌}
use Rattle.dl_built.proofs.starts.fill_start.Goals as goal

pub returns-clause-made : goal.returns-clause-made
returns-clause-made c =
    let decls = c.args.decls.now in
    let proc = c.args.proc.now in
    let asks : Formula = (put (pre_of (block_of proc.body) (post_of proc)) proc.locals []) in
    where-done c.put_start.result (c.put_start.new.made ≡ record c.hold.new.made { goal = asks }) (c.put_start.new.made ≡ start_sequent decls proc) c.put_start.ensures.made
    (λ e. shown-alone (known_in decls proc) c.put_known.new.made c.hold.new.made c.put_start.new.made (facts_at decls proc proc.pre) asks c.in_ok-put_known.ensures c.in_ok-hold.ensures e)
