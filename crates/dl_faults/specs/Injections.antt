-- What is wrong where a world can't be injected into another one.
use Rattle.std.specs.Prelude.{List, [], ◌∷◌, Result, Ok, Err}
use Rattle.dl_tree.specs.declared.tree.Place.{Place}
use Rattle.dl_world.specs.declared.inject.InjectFault.{InjectFault}
use Rattle.dl_world.specs.declared.inject.InjectFault.TheVariants.{NoLabel, NotCovered}
use Rattle.dl_faults.specs.declared.wrong.Named.TheVariants.{Hook}
use Rattle.dl_faults.specs.declared.wrong.Wrong.{Wrong}
use Rattle.dl_faults.specs.Wrong.{at, naming}

-- a world can be injected into another one, as something at this place asks for
abbrev pub injection_wrong : Place → Result (Unit {0}) InjectFault → List Wrong
injection_wrong place (Ok u) = []
injection_wrong place (Err (NoLabel label)) = at 20 place ∷ []
injection_wrong place (Err (NotCovered hook)) = naming 22 place (Hook hook) ∷ []
