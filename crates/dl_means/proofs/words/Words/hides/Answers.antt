use Rattle.std.proofs.Common.{Bool, map, sym, ap, ◌∙◌}
use Rattle.std.specs.Prelude.{◌||◌}
use Rattle.dl_model.specs.Lookup.{arg_names}
use Rattle.dl_forms.specs.Context.{is_among}
use Rattle.dl_forms.specs.Scope.{text_at}
use Rattle.dl_means.proofs.WordLemmas.{among-both}
use Rattle.dl_means.proofs.words.Words.hides.Goals as goal

pub returns-then-is_parameter : goal.returns-then-is_parameter
returns-then-is_parameter c =
    let seen = c.args.self.now in
    let text = c.args.text.now in
    c.if-is_parameter.true
    ∙ sym (among-both text seen.names.now (arg_names seen.params.now) seen.locals.now
    ∙ ap (λ (b : Bool). b || is_among text (map (text_at seen.names.now) seen.locals.now)) (sym c.is_parameter.ensures ∙ c.if-is_parameter.true))

pub returns-else-is_parameter : goal.returns-else-is_parameter
returns-else-is_parameter c =
    let seen = c.args.self.now in
    let text = c.args.text.now in
    c.is_local.ensures
    ∙ sym (among-both text seen.names.now (arg_names seen.params.now) seen.locals.now
    ∙ ap (λ (b : Bool). b || is_among text (map (text_at seen.names.now) seen.locals.now)) (sym c.is_parameter.ensures ∙ c.if-is_parameter.false))
