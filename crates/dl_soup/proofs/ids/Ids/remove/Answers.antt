use Rattle.std.proofs.Common.{ap, sym, ◌∙◌, rules}
use Rattle.std.specs.List.{filter}
use Rattle.std.proofs.lemmas.Fn.{filter_same}
use Rattle.dl_soup.specs.IdRows.{IdRow}
use Rattle.dl_soup.specs.Live.{is_alone, other_than}
use Rattle.dl_soup.proofs.LiveLemmas.{alone-filter}
use Rattle.dl_soup.proofs.ids.Ids.remove.Goals as goal

pub returns-clause-ids : goal.returns-clause-ids
returns-clause-ids c =
    filter_same _ (other_than c.args.id) _ (λ x b f' k. search rules) c.self.inside.items.items _ c.retain.ensures.filtered
    ∙ ap (λ (row : IdRow). filter (other_than c.args.id) row.ids) c.self.view_is

pub returns-then-is_alone-clause-ids : goal.returns-then-is_alone-clause-ids
returns-then-is_alone-clause-ids c = c.clear.ensures.items ∙ sym (alone-filter c.args.id c.args.self.now.ids (sym c.is_alone.ensures ∙ c.if-is_alone.true))
