-- The faults of an invariant, and of the whole stage, by those of the parts.
use Rattle.std.proofs.Common.{◌≡◌, ℕ, List, ◌++◌, Option, ap, sym, ◌∙◌}
use Rattle.std.specs.List.{flat_map, enumerate_from}
use Rattle.dl_tree.specs.declared.tree.Place.{Place}
use Rattle.dl_model.specs.declared.file.World.{World}
use Rattle.dl_model.specs.declared.file.Invariant.{Invariant}
use Rattle.dl_model.specs.Lookup.{world_at, composed}
use Rattle.dl_model.specs.Spoken.{labels_of}
use Rattle.dl_world.specs.Injected.{injection}
use Rattle.dl_file.specs.declared.file.File.{File}
use Rattle.dl_faults.specs.declared.wrong.Wrong.{Wrong}
use Rattle.dl_faults.specs.Places.{invariant_place}
use Rattle.dl_faults.specs.Wrong.{joined, earliest}
use Rattle.dl_faults.specs.Injections.{injection_wrong}
use Rattle.dl_faults.specs.Worlds.{label_wrong, invariant_wrong}
use Rattle.dl_faults.proofs.Earliest.{earliest-parts}

-- two parts of what is wrong
pub both-parts : (front behind : List Wrong) (first second found : Option Wrong) → first ≡ earliest front → second ≡ earliest behind → found ≡ joined first second → found ≡ earliest (front ++ behind)
both-parts front behind first second found e f g = g ∙ (ap (λ o. joined o second) e ∙ (ap (joined (earliest front)) f ∙ sym (earliest-parts front behind)))

module _ (file : File) where
  pub invariant-told : (i : ℕ) (invariant : Invariant) (world large : World) (place : Place) (spoken injected found : Option Wrong) →
      world ≡ world_at file.decls invariant.world → large ≡ composed file.decls → place ≡ invariant_place file.tree i →
      spoken ≡ earliest (flat_map (label_wrong file i world) (enumerate_from 0 (labels_of invariant.formula))) →
      injected ≡ earliest (injection_wrong place (injection file.decls world large)) →
      found ≡ joined spoken injected → found ≡ earliest (invariant_wrong file (i, invariant))
  invariant-told i invariant world large place spoken injected found e f g of_labels of_injection is =
      let here = world_at file.decls invariant.world in
      both-parts (flat_map (label_wrong file i here) (enumerate_from 0 (labels_of invariant.formula)))
      (injection_wrong (invariant_place file.tree i) (injection file.decls here (composed file.decls))) spoken injected found
      (of_labels ∙ ap (λ (w : World). earliest (flat_map (label_wrong file i w) (enumerate_from 0 (labels_of invariant.formula)))) e)
      (of_injection ∙ (λ j. earliest (injection_wrong (g j) (injection file.decls (e j) (f j))))) is
