use Rattle.std.proofs.Common.{ap, sym, ◌∙◌, Option}
use Rattle.dl_forms.specs.Context.{Parts, is_among}
use Rattle.dl_forms.specs.Judge.{tags_in}
use Rattle.dl_rules.proofs.AmongLemmas.{tags_among}
use Rattle.dl_rules.proofs.seen.has_tag.Goals as goal

pub returns-in-Some : goal.returns-in-Some
returns-in-Some c =
    c.is_tag_of.ensures ∙ sym (tags_among c.args.tag.now c.in-Some.protocol.now.tags) ∙ ap (λ (o : Option Parts). is_among c.args.tag.now (tags_in o)) c.in-Some.ensures
