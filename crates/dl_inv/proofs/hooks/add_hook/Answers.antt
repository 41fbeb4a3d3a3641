use Rattle.std.proofs.Common.{◌≡◌, ◌++◌, ◌∷◌, [], filter, ap, ◌∙◌}
use Rattle.std.specs.Prelude.{slice_get, Some}
use Rattle.std.specs.Option.{option_copied}
use Rattle.dl_inv.specs.Code.{says_something, hook_said}
use Rattle.dl_inv.proofs.Listing.{where-done}
use Rattle.dl_inv.proofs.Building.{hook-made}
use Rattle.dl_inv.proofs.hooks.add_hook.Goals as goal

pub returns : goal.returns
returns c =
    let send = c.args.send.now in
    let there : slice_get c.args.decls.now.hooks c.args.hook ≡ Some c.in-Some.declared.now =
    cc (ap option_copied c.in-Some.is, c.at.ensures, c.as_slice.ensures, c.from.ensures) in
    where-done c.add_part.result (c.add_part.new.parts ≡ c.args.parts.now ++ filter says_something (c.in_ok-formula.formula ∷ [])) (c.add_part.new.parts ≡ c.args.parts.now ++ hook_said c.args.decls.now send c.args.hook)
    c.add_part.ensures
    (λ e. e ∙ ap (λ xs. c.args.parts.now ++ xs) (hook-made c.args.decls.now send.label send.tag send.terms.now c.args.hook c.in-Some.declared.now c.in_ok-formula.formula there c.if-declared-send.false c.if-declared-send-2.false c.in_ok-formula.ensures))
