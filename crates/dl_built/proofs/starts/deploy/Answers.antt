use Rattle.dl_model.specs.Lookup.{arg_names}
use Rattle.dl_model.specs.Words.{me_word}
use Rattle.dl_model.specs.declared.program.Proc.{Proc}
use Rattle.dl_model.specs.declared.sequent.Sequent.{Sequent}
use Rattle.dl_term.specs.Measures.{is_oversized}
use Rattle.dl_term.specs.declared.syntax.Term.{Num}
use Rattle.dl_inv.proofs.Listing.{where-done}
use Rattle.dl_triples.specs.Obligations.{deploy_sequent, no_sequent, put}
use Rattle.dl_wp.specs.First.{at_first}
use Rattle.std.proofs.Common.{List, ℤ, None, Some, ap, map, pos, sym, ◌∙◌, ◌∷◌, ◌≡◌}
use Rattle.dl_built.proofs.starts.deploy.Goals as goal

pub returns-clause-made : goal.returns-clause-made
returns-clause-made c =
    let decls = c.args.decls.now in
    let program = c.args.program.now in
    let made : Proc → List ℤ → Sequent = λ p vs. record no_sequent { goal = at_first decls.inst None (put p.pre (me_word ∷ arg_names p.params) (Num (pos c.args.node) ∷ map (λ v. Num v) vs)) } in
    where-done c.deploy_with-filled.result (c.deploy_with-filled.new.made ≡ made c.proc_of-proc.result.now c.as_slice.result.now) (c.deploy_with-filled.new.made ≡ deploy_sequent decls c.args.node (Some program))
    c.deploy_with-filled.ensures.made (λ e. e ∙ (λ i. made (c.proc_of-proc.ensures i) (c.as_slice.ensures i)))

pub returns-clause-limit : goal.returns-clause-limit
returns-clause-limit c h =
    let decls = c.args.decls.now in
    let made : Proc → List ℤ → Sequent = λ p vs. record no_sequent { goal = at_first decls.inst None (put p.pre (me_word ∷ arg_names p.params) (Num (pos c.args.node) ∷ map (λ v. Num v) vs)) } in
    sym (ap (λ (s : Sequent). is_oversized s.goal) (λ i. made (c.proc_of-proc.ensures i) (c.as_slice.ensures i))) ∙ c.deploy_with-filled.ensures.limit h
