use Rattle.std.proofs.Common.{Bool, sym, ap, ◌∙◌}
use Rattle.std.specs.Prelude.{None, if◌then◌else◌}
use Rattle.dl_forms.specs.Context.{look_up}
use Rattle.dl_means.specs.Known.{hidden_in}
use Rattle.dl_means.proofs.WordLemmas.{look_up-others}
use Rattle.dl_means.proofs.words.Words.value.Goals as goal

pub returns-then-hides : goal.returns-then-hides
returns-then-hides c =
    let text = c.args.text.now in
    let words = c.args.self.now.declared.now.words in
    sym (look_up-others text (hidden_in c.args.self.now) words ∙ ap (λ (b : Bool). if b then None else look_up text words) (sym c.hides.ensures ∙ c.if-hides.true))

pub returns-else-hides : goal.returns-else-hides
returns-else-hides c =
    let text = c.args.text.now in
    let words = c.args.self.now.declared.now.words in
    c.word.ensures ∙ sym (look_up-others text (hidden_in c.args.self.now) words ∙ ap (λ (b : Bool). if b then None else look_up text words) (sym c.hides.ensures ∙ c.if-hides.false))
