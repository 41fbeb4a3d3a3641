use Rattle.std.proofs.Common.{◌<◌, ◌∙◌, ap, length, arith}
use Rattle.std.proofs.lemmas.Grind.{common_steps}
use Rattle.dl_model.specs.Steps.{change, consumed}
use Rattle.dl_state.specs.Soup.{Soup}
use Rattle.dl_state.proofs.SlotLemmas.{set-changed}
use Rattle.dl_state.proofs.messages.Messages.consume.Goals as goal

pub returns : goal.returns
returns c =
    let within : c.args.id < length c.self.inside.items.items = grind (arith, common_steps) in
    let mark = ap consumed c.message.view_is in
    (λ i. record { messages = set-changed consumed c.self.inside.items.items c.args.id c.index_mut-message.result.now _ within c.index_mut-message.ensures.value mark i; spare = c.self.inside.spare })
    ∙ ap (λ (s : Soup). record { messages = change consumed s.messages c.args.id; spare = s.spare }) c.self.view_is
