use Rattle.dl_model.specs.Lookup.{arg_names}
use Rattle.dl_model.specs.Words.{me_word}
use Rattle.dl_term.specs.Measures.{is_oversized}
use Rattle.dl_term.specs.declared.syntax.Formula.{Formula}
use Rattle.dl_term.specs.declared.syntax.Term.{Num, Term}
use Rattle.dl_inv.proofs.Listing.{where-done}
use Rattle.dl_triples.specs.Obligations.{no_sequent, put}
use Rattle.dl_wp.specs.First.{at_first}
use Rattle.std.proofs.Common.{List, None, ap, map, pos, sym, ◌∙◌, ◌∷◌, ◌≡◌}
use Rattle.dl_built.proofs.starts.deploy_with.Goals as goal

pub returns-clause-made : goal.returns-clause-made
returns-clause-made c =
    let inst = c.args.inst.now in
    let proc = c.args.proc.now in
    let asked : List Term → Formula = λ ts. at_first inst None (put proc.pre (me_word ∷ arg_names proc.params) ts) in
    let terms : c.as_slice.result.now ≡ Num (pos c.args.node) ∷ map (λ v. Num v) c.args.constants.now = c.as_slice.ensures ∙ c.in_ok-terms.ensures in
    where-done c.put_deployed-filled.result (c.put_deployed-filled.new.made ≡ record c.put_nothing.new.made { goal = asked c.as_slice.result.now })
    (c.put_deployed-filled.new.made ≡ record no_sequent { goal = asked (Num (pos c.args.node) ∷ map (λ v. Num v) c.args.constants.now) }) c.put_deployed-filled.ensures.made
    (λ e. e ∙ (λ i. record (c.in_ok-put_nothing.ensures.made i) { goal = asked (terms i) }))

pub returns-clause-limit : goal.returns-clause-limit
returns-clause-limit c h =
    let inst = c.args.inst.now in
    let proc = c.args.proc.now in
    let terms : c.as_slice.result.now ≡ Num (pos c.args.node) ∷ map (λ v. Num v) c.args.constants.now = c.as_slice.ensures ∙ c.in_ok-terms.ensures in
    sym (ap (λ ts. is_oversized (at_first inst None (put proc.pre (me_word ∷ arg_names proc.params) ts))) terms) ∙ c.put_deployed-filled.ensures.limit h
