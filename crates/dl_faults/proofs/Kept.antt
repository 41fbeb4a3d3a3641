-- A file keeps to its worlds just where nothing is wrong with them.
use Rattle.std.proofs.Common.{◌≡◌, ◌↔◌, ℕ, ◌+◌, true, ◌&&◌, List, [], ◌∷◌, Some, None, refl, slice_get}
use Rattle.std.specs.List.{list_all, flat_map, enumerate_from}
use Rattle.dl_term.specs.declared.syntax.Lab.{Lab}
use Rattle.dl_model.specs.declared.file.World.{World}
use Rattle.dl_model.specs.declared.file.Invariant.{Invariant}
use Rattle.dl_model.specs.Sorts.{has}
use Rattle.dl_model.specs.Lookup.{world_at, hook_at, composed, deploy_of}
use Rattle.dl_model.specs.Spoken.{labels_of}
use Rattle.dl_model.specs.Worlds.{Injects, IsAbout, KeepsWorlds, is_label_of}
use Rattle.dl_model.specs.Formed.{IsFormed}
use Rattle.dl_model.proofs.Small.{and-left, and-right, and-both}
use Rattle.dl_inv.proofs.Lists.{each-at, each-has, each-found}
use Rattle.dl_file.specs.declared.file.File.{File}
use Rattle.dl_faults.specs.declared.wrong.Wrong.{Wrong}
use Rattle.dl_faults.specs.Places.{invariant_place}
use Rattle.dl_faults.specs.Programs.{program_wrongs}
use Rattle.dl_faults.specs.Worlds.{hook_wrong, world_wrong, label_wrong, invariant_wrong, declared_wrongs, world_wrongs, world_fault}
use Rattle.dl_faults.proofs.Nothing.{front-none, back-none, both-none, numbered-none, none-numbered, each-position, unless-fine, fine-unless}
use Rattle.dl_faults.proofs.Earliest.{none-earliest, earliest-none}
use Rattle.dl_faults.proofs.KeptPrograms.{none-injects, injects-none, procs-keep, programs-inject, programs-kept}

-- ---- labels

module _ (file : File) (i : ℕ) (world : World) where
  labels-about : (n : ℕ) (labels : List Lab) → flat_map (label_wrong file i world) (enumerate_from n labels) ≡ [] → list_all (is_label_of world) labels ≡ true
  labels-about n [] h = refl
  labels-about n (label ∷ labels) h =
      and-both (is_label_of world label) (list_all (is_label_of world) labels)
      (unless-fine (is_label_of world label) _ (front-none (label_wrong file i world (n, label)) (flat_map (label_wrong file i world) (enumerate_from (n + 1) labels)) h))
      (labels-about (n + 1) labels (back-none (label_wrong file i world (n, label)) (flat_map (label_wrong file i world) (enumerate_from (n + 1) labels)) h))

  about-labels : (n : ℕ) (labels : List Lab) → list_all (is_label_of world) labels ≡ true → flat_map (label_wrong file i world) (enumerate_from n labels) ≡ []
  about-labels n [] h = refl
  about-labels n (label ∷ labels) h =
      both-none (label_wrong file i world (n, label)) (flat_map (label_wrong file i world) (enumerate_from (n + 1) labels))
      (fine-unless (is_label_of world label) _ (and-left _ _ h))
      (about-labels (n + 1) labels (and-right (is_label_of world label) _ h))

-- ---- both ways

module _ (file : File) (formed : IsFormed file.decls) where
  module _ (none : declared_wrongs file ≡ []) where
    abbrev of_worlds : List Wrong
    of_worlds = flat_map (world_wrong file) (enumerate_from 0 file.decls.worlds)

    abbrev of_invariants : List Wrong
    of_invariants = flat_map (invariant_wrong file) (enumerate_from 0 file.decls.invariants)

    ends-inside : (w : ℕ) (world : World) → slice_get file.decls.worlds w ≡ Some world → (hook : ℕ) → has world.hooks hook ≡ true →
        (has world.labels (hook_at file.decls hook).core && has world.labels (hook_at file.decls hook).client) ≡ true
    ends-inside w world e hook m =
        let here = each-found (λ world. (k : ℕ) × (world_wrong file (k, world) ≡ [])) file.decls.worlds w world
        (numbered-none (world_wrong file) 0 file.decls.worlds (front-none of_worlds of_invariants none)) e in
        let listed = each-at (λ hook. (k : ℕ) × (hook_wrong file here.0 world (k, hook) ≡ [])) world.hooks hook
        (numbered-none (hook_wrong file here.0 world) 0 world.hooks here.1) m in
        unless-fine _ _ listed.1

    at-invariant : (i : ℕ) (invariant : Invariant) → slice_get file.decls.invariants i ≡ Some invariant → (k : ℕ) × (invariant_wrong file (k, invariant) ≡ [])
    at-invariant i invariant e =
        each-found (λ invariant. (k : ℕ) × (invariant_wrong file (k, invariant) ≡ [])) file.decls.invariants i invariant
        (numbered-none (invariant_wrong file) 0 file.decls.invariants (back-none of_worlds of_invariants none)) e

    about : (i : ℕ) (invariant : Invariant) → slice_get file.decls.invariants i ≡ Some invariant → IsAbout (world_at file.decls invariant.world) invariant.formula
    about i invariant e =
        let here = at-invariant i invariant e in
        labels-about file here.0 (world_at file.decls invariant.world) 0 (labels_of invariant.formula) (front-none _ _ here.1)

    visible : (i : ℕ) (invariant : Invariant) → slice_get file.decls.invariants i ≡ Some invariant → Injects file.decls (world_at file.decls invariant.world) (composed file.decls)
    visible i invariant e =
        let here = at-invariant i invariant e in
        none-injects file.decls formed (invariant_place file.tree here.0) invariant.world (deploy_of file.decls).world
        (back-none (flat_map (label_wrong file here.0 (world_at file.decls invariant.world)) (enumerate_from 0 (labels_of invariant.formula))) _ here.1)

  keeps : world_wrongs file ≡ [] → KeepsWorlds file.decls
  keeps none =
      let of_declared = front-none (declared_wrongs file) (program_wrongs file) none in
      let of_programs = back-none (declared_wrongs file) (program_wrongs file) none in
      record {
        cores = λ w world e hook m. and-left _ _ (ends-inside of_declared w world e hook m);
        clients = λ w world e hook m. and-right (has world.labels (hook_at file.decls hook).core) _ (ends-inside of_declared w world e hook m);
        invariants = about of_declared;
        visible = visible of_declared;
        procs = procs-keep file formed of_programs;
        programs = programs-inject file formed of_programs;
      }

  declared-kept : KeepsWorlds file.decls → declared_wrongs file ≡ []
  declared-kept all = both-none (flat_map (world_wrong file) (enumerate_from 0 file.decls.worlds)) (flat_map (invariant_wrong file) (enumerate_from 0 file.decls.invariants))
      (none-numbered (world_wrong file) 0 file.decls.worlds (each-position _ file.decls.worlds (λ w world e k.
      none-numbered (hook_wrong file k world) 0 world.hooks (each-has _ world.hooks (λ hook m j.
      fine-unless _ _ (and-both _ _ (all.cores w world e hook m) (all.clients w world e hook m)))))))
      (none-numbered (invariant_wrong file) 0 file.decls.invariants (each-position _ file.decls.invariants (λ i invariant e k.
      both-none (flat_map (label_wrong file k (world_at file.decls invariant.world)) (enumerate_from 0 (labels_of invariant.formula))) _
      (about-labels file k (world_at file.decls invariant.world) 0 (labels_of invariant.formula) (all.invariants i invariant e))
      (injects-none file.decls formed (invariant_place file.tree k) invariant.world (deploy_of file.decls).world (all.visible i invariant e)))))

  kept : KeepsWorlds file.decls → world_wrongs file ≡ []
  kept all = both-none (declared_wrongs file) (program_wrongs file) (declared-kept all) (programs-kept file formed all.procs all.programs)

pub worlds-kept : (file : File) → IsFormed file.decls → (world_fault file ≡ None) ↔ KeepsWorlds file.decls
worlds-kept file formed = (λ none. keeps file formed (none-earliest (world_wrongs file) none), λ kept_worlds. earliest-none (world_wrongs file) (kept file formed kept_worlds))
