-- What is wrong with the worlds of a file.
use Rattle.std.specs.Prelude.{ℕ, ◌&&◌, List, ◌++◌, Option}
use Rattle.std.specs.List.{flat_map, enumerate_from}
use Rattle.dl_term.specs.declared.syntax.Lab.{Lab}
use Rattle.dl_model.specs.declared.file.World.{World}
use Rattle.dl_model.specs.declared.file.Invariant.{Invariant}
use Rattle.dl_model.specs.Sorts.{has}
use Rattle.dl_model.specs.Lookup.{world_at, hook_at, composed}
use Rattle.dl_model.specs.Spoken.{labels_of}
use Rattle.dl_model.specs.Worlds.{is_label_of}
use Rattle.dl_world.specs.Injected.{injection}
use Rattle.dl_file.specs.declared.file.File.{File}
use Rattle.dl_faults.specs.declared.wrong.Wrong.{Wrong}
use Rattle.dl_faults.specs.Wrong.{at, unless, earliest}
use Rattle.dl_faults.specs.Places.{hook_place, label_place, invariant_place}
use Rattle.dl_faults.specs.Injections.{injection_wrong}
use Rattle.dl_faults.specs.Programs.{program_wrongs}

-- the core and the client of a hook of a world are labels of this world
abbrev pub hook_wrong : File → ℕ → World → ℕ × ℕ → List Wrong
hook_wrong file w world listed =
    let hook = hook_at file.decls listed.1 in
    unless (has world.labels hook.core && has world.labels hook.client) (at 21 (hook_place file.tree w listed.0))

abbrev pub world_wrong : File → ℕ × World → List Wrong
world_wrong file declared = flat_map (hook_wrong file declared.0 declared.1) (enumerate_from 0 declared.1.hooks)

-- A label of an invariant is one of its world. The list that names another one stands before that label's own place, so it is answered.
abbrev pub label_wrong : File → ℕ → World → ℕ × Lab → List Wrong
label_wrong file i world named = unless (is_label_of world named.1) (at 24 (label_place file.tree i named.0))

-- the world of an invariant can be injected into the world of the deployment
abbrev pub invariant_wrong : File → ℕ × Invariant → List Wrong
invariant_wrong file declared =
    let world = world_at file.decls declared.1.world in
    flat_map (label_wrong file declared.0 world) (enumerate_from 0 (labels_of declared.1.formula))
    ++ injection_wrong (invariant_place file.tree declared.0) (injection file.decls world (composed file.decls))

-- of the worlds and the invariants
abbrev pub declared_wrongs : File → List Wrong
declared_wrongs file = flat_map (world_wrong file) (enumerate_from 0 file.decls.worlds) ++ flat_map (invariant_wrong file) (enumerate_from 0 file.decls.invariants)

-- and of the procedures and the deployment
abbrev pub world_wrongs : File → List Wrong
world_wrongs file = declared_wrongs file ++ program_wrongs file

-- the first fault of the worlds
abbrev pub world_fault : File → Option Wrong
world_fault file = earliest (world_wrongs file)
