use Rattle.std.proofs.Common.{◌≡◌, ◌++◌, length, ap, ◌∙◌}
use Rattle.dl_model.specs.Lookup.{world_at}
use Rattle.dl_inv.specs.Code.{world_with}
use Rattle.dl_inv.specs.Facts.{facts_of}
use Rattle.dl_triples.specs.Obligations.{facts_in}
use Rattle.dl_inv.proofs.Listing.{where-done}
use Rattle.dl_parts.proofs.Parts.{facts-same}
use Rattle.dl_parts.proofs.known.add_facts_in.Goals as goal

pub returns : goal.returns
returns c =
    let decls = c.args.decls.now in
    where-done c.add_facts.result (c.add_facts.new.facts ≡ c.args.facts.now ++ facts_of decls c.len.result (world_with c.extent_of-world.result)) (c.add_facts.new.facts ≡ c.args.facts.now ++ facts_in decls c.args.proc.now)
    c.add_facts.ensures
    (λ e. e ∙ ap (λ xs. c.args.facts.now ++ xs)
    (facts-same decls c.len.result (length decls.invariants) c.extent_of-world.result (world_at decls c.args.proc.now.world) c.len.ensures c.extent_of-world.ensures.labels c.extent_of-world.ensures.hooks))
