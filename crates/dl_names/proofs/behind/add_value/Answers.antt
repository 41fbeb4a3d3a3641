use Rattle.std.proofs.Common.{sym, ◌∙◌}
use Rattle.std.specs.Str.{bytes_eq}
use Rattle.indexmap.proofs.CallerLemmas.{insert_entry-new}
use Rattle.dl_names.proofs.behind.add_value.Goals as goal

pub returns-in-None : goal.returns-in-None
returns-in-None g c = c.in-Ok.ensures.entries ∙ insert_entry-new bytes_eq c.args.map.now c.args.text c.args.value (sym c.in-Ok.ensures.old ∙ c.in-None.is)
