use Rattle.std.proofs.Common.{◌≡◌, Some, ◌∙◌, ap, refl, None}
use Rattle.dl_sequent.specs.declared.script.Given.TheVariants.{Message}
use Rattle.dl_kernel.specs.Steps.{given_message, at_message}
use Rattle.dl_kernel.proofs.EnterLemmas.{made-as, oversized-as}
use Rattle.dl_kernel.proofs.InstanceLemmas.{message-stands, message-differs, made-no_limit}
use Rattle.dl_kernel.proofs.quantifiers.at_given_message.Goals as goal

pub returns-then-is_message_of-clause-made : goal.returns-then-is_message_of-clause-made
returns-then-is_message_of-clause-made c =
    let it : Message c.in-Message.name ≡ c.args.what.now = cc in
    let given : Some c.in-Message.name ≡ given_message c.args.what.now = ap given_message it in
    made-as c.put_message.result _ _ (message-stands c.args.sequent.now c.in-Message.name c.args.msg c.args.label c.args.tag c.args.body.now c.is_message_of.result c.is_message_of.ensures c.if-is_message_of.true ∙ ap (λ o. at_message c.args.sequent.now o c.args.msg c.args.label c.args.tag c.args.body.now) given) c.put_message.ensures.made

pub returns-then-is_message_of-clause-limit : goal.returns-then-is_message_of-clause-limit
returns-then-is_message_of-clause-limit c =
    let it : Message c.in-Message.name ≡ c.args.what.now = cc in
    let given : Some c.in-Message.name ≡ given_message c.args.what.now = ap given_message it in
    oversized-as _ _ (message-stands c.args.sequent.now c.in-Message.name c.args.msg c.args.label c.args.tag c.args.body.now c.is_message_of.result c.is_message_of.ensures c.if-is_message_of.true ∙ ap (λ o. at_message c.args.sequent.now o c.args.msg c.args.label c.args.tag c.args.body.now) given) c.put_message.ensures.limit

pub returns-else-is_message_of-clause-made : goal.returns-else-is_message_of-clause-made
returns-else-is_message_of-clause-made c =
    let it : Message c.in-Message.name ≡ c.args.what.now = cc in
    let given : Some c.in-Message.name ≡ given_message c.args.what.now = ap given_message it in
    message-differs c.args.sequent.now c.in-Message.name c.args.msg c.args.label c.args.tag c.args.body.now c.is_message_of.result c.is_message_of.ensures c.if-is_message_of.false ∙ ap (λ o. at_message c.args.sequent.now o c.args.msg c.args.label c.args.tag c.args.body.now) given

pub returns-else-is_message_of-clause-limit : goal.returns-else-is_message_of-clause-limit
returns-else-is_message_of-clause-limit c = made-no_limit _ None refl
