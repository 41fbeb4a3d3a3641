use Rattle.std.proofs.Common.{◌≡◌, ◌++◌, ◌∷◌, [], filter, ap, sym, ◌∙◌}
use Rattle.std.specs.Prelude.{unwrap_or}
use Rattle.std.specs.Option.{option_copied}
use Rattle.std.proofs.lemmas.List.Elements.{filter-append}
use Rattle.dl_term.specs.declared.syntax.Formula.{Formula, False}
use Rattle.dl_inv.specs.Steps.{all_fit}
use Rattle.dl_inv.specs.Code.{says_something, guard_put, step_in}
use Rattle.dl_inv.proofs.Listing.{joined, where-done}
use Rattle.dl_inv.proofs.rule.add_rule_parts.Goals as goal

pub returns : goal.returns
returns c =
    let scene = c.args.scene.now in
    let held : Formula = guard_put scene.sight (unwrap_or (option_copied c.args.guard) False) in
    let fits : Formula = all_fit scene.inst.now scene.known.now (step_in scene.sight) (option_copied scene.protocol) c.args.updates.now in
    let first : c.add_part.new.parts ≡ c.args.parts.now ++ filter says_something (held ∷ []) =
    c.in_ok-add_part.ensures ∙ ap (λ f. c.args.parts.now ++ filter says_something (f ∷ [])) c.in_ok-held.ensures in
    where-done c.add_part-2.result (c.add_part-2.new.parts ≡ c.add_part.new.parts ++ filter says_something (c.in_ok-fits.fits ∷ []))
    (c.add_part-2.new.parts ≡ c.args.parts.now ++ filter says_something (held ∷ fits ∷ [])) c.add_part-2.ensures
    (λ e. joined c.args.parts.now (filter says_something (held ∷ [])) (filter says_something (fits ∷ [])) c.add_part.new.parts c.add_part-2.new.parts first
    (e ∙ ap (λ f. c.add_part.new.parts ++ filter says_something (f ∷ [])) c.in_ok-fits.ensures)
    ∙ ap (λ xs. c.args.parts.now ++ xs) (sym (filter-append says_something (held ∷ []) (fits ∷ []))))
