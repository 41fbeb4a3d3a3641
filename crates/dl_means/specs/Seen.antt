-- What contracts see of the declarations that the code keeps.
use Rattle.dl_forms.specs.Context.{Text}
use Rattle.dl_notation.specs.Environment.{WorldNames}
use Rattle.dl_means.specs.declared.worlds.WorldTexts.{WorldTexts}
use Rattle.dl_means.specs.declared.worlds.NamedWorld.{NamedWorld}

abbrev pub seen_world : WorldTexts → WorldNames
seen_world world = record { labels = world.labels; hooks = world.hooks }

abbrev pub seen_named : NamedWorld → Text × WorldNames
seen_named world = (world.name, seen_world world.world)
