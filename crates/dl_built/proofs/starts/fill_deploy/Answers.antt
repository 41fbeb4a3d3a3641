use Rattle.dl_model.specs.Lookup.{program_of}
use Rattle.dl_term.specs.Measures.{is_oversized}
use Rattle.dl_inv.proofs.Listing.{where-done}
use Rattle.dl_triples.specs.Obligations.{deploy_sequent, no_sequent}
use Rattle.std.proofs.Common.{None, Some, ap, sym, ◌∙◌, ◌≡◌}
use Rattle.std.specs.Option.{option_copied}
use Rattle.dl_built.proofs.starts.fill_deploy.Goals as goal

pub returns-in-Some-clause-made : goal.returns-in-Some-clause-made
returns-in-Some-clause-made c =
    let decls = c.args.decls.now in
    let node = c.args.node in
    let found : program_of decls node ≡ Some c.in-Some.program.now = sym c.program_of.ensures ∙ ap option_copied c.in-Some.is in
    where-done c.deploy.result (c.deploy.new.made ≡ deploy_sequent decls node (Some c.in-Some.program.now)) (c.deploy.new.made ≡ deploy_sequent decls node (program_of decls node)) c.deploy.ensures.made
    (λ e. e ∙ ap (deploy_sequent decls node) (sym found))

pub returns-in-Some-clause-limit : goal.returns-in-Some-clause-limit
returns-in-Some-clause-limit c h =
    let decls = c.args.decls.now in
    let node = c.args.node in
    let found : program_of decls node ≡ Some c.in-Some.program.now = sym c.program_of.ensures ∙ ap option_copied c.in-Some.is in
    ap (λ o. is_oversized (deploy_sequent decls node o).goal) found ∙ c.deploy.ensures.limit h

pub returns-in-None-clause-made : goal.returns-in-None-clause-made
returns-in-None-clause-made c =
    let decls = c.args.decls.now in
    let node = c.args.node in
    let found : program_of decls node ≡ None = sym c.program_of.ensures ∙ ap option_copied c.in-None.is in
    where-done c.put_nothing.result (c.put_nothing.new.made ≡ no_sequent) (c.put_nothing.new.made ≡ deploy_sequent decls node (program_of decls node)) c.put_nothing.ensures.made
    (λ e. e ∙ ap (deploy_sequent decls node) (sym found))
