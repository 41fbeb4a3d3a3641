-- The labels of a formula at their places.
use Rattle.std.proofs.Common.{◌≡◌, ℕ, ◌+◌, zero, suc, Bool, List, [], ◌∷◌, ◌++◌, map, slice_get, unwrap_or, refl, ap, ◌∙◌}
use Rattle.std.specs.List.{flat_map, enumerate_from}
use Rattle.dl_term.specs.declared.syntax.Lab.{Lab}
use Rattle.dl_tree.specs.declared.tree.Place.{Place}
use Rattle.dl_tree.specs.declared.tree.Tree.{Tree}
use Rattle.dl_model.specs.declared.file.World.{World}
use Rattle.dl_model.specs.Worlds.{is_label_of}
use Rattle.dl_faults.specs.declared.wrong.Wrong.{Wrong}
use Rattle.dl_faults.specs.Places.{label_lists}
use Rattle.dl_faults.specs.Wrong.{at, unless}
use Rattle.dl_faults.specs.Code.{stood_at, place_among, label_wrong_among, touched_wrong_among}
use Rattle.dl_faults.specs.Programs.{touching_wrong}

-- the place of one of several lists, or of a word in it
place-stood : (words : Bool) (whole : Tree) (lists : List Tree) (n : ℕ) → place_among (stood_at words whole) (map (stood_at words) lists) n ≡ stood_at words (unwrap_or (slice_get lists n) whole)
place-stood words whole [] n = refl
place-stood words whole (list ∷ lists) zero = refl
place-stood words whole (list ∷ lists) (suc n) = place-stood words whole lists n

module _ (words : Bool) (whole : Tree) where
  abbrev stood : ℕ → Place
  stood n = stood_at words (unwrap_or (slice_get (label_lists whole) n) whole)

  abbrev places : List Place
  places = map (stood_at words) (label_lists whole)

  module _ (f g : ℕ × Lab → List Wrong) (one : (n : ℕ) (label : Lab) → f (n, label) ≡ g (n, label)) where
    all-stood : (n : ℕ) (labels : List Lab) → flat_map f (enumerate_from n labels) ≡ flat_map g (enumerate_from n labels)
    all-stood n [] = refl
    all-stood n (label ∷ labels) =
        ap (λ (wrongs : List Wrong). wrongs ++ flat_map f (enumerate_from (n + 1) labels)) (one n label)
        ∙ ap (λ (wrongs : List Wrong). g (n, label) ++ wrongs) (all-stood (n + 1) labels)

  module _ (rule : ℕ) (world : World) where
    abbrev stood_wrong : ℕ × Lab → List Wrong
    stood_wrong named = unless (is_label_of world named.1) (at rule (stood named.0))

    -- labels outside the world, by places and labels that were found
    pub labels-stood : (at_whole : Place) (found : List Place) (labels spoken : List Lab) → at_whole ≡ stood_at words whole → found ≡ places → labels ≡ spoken →
        flat_map (label_wrong_among rule world at_whole found) (enumerate_from 0 labels) ≡ flat_map stood_wrong (enumerate_from 0 spoken)
    labels-stood at_whole found labels spoken e f g =
        rw (e, f, g) (all-stood (label_wrong_among rule world (stood_at words whole) places) stood_wrong
        (λ n label. ap (λ (place : Place). unless (is_label_of world label) (at rule place)) (place-stood words whole (label_lists whole) n)) 0 spoken)

  module _ (callee : World) where
    abbrev stood_touched : ℕ × Lab → List Wrong
    stood_touched named = touching_wrong callee (stood named.0) named.1

    -- labels of the callee's world
    pub touched-stood : (at_whole : Place) (found : List Place) (labels spoken : List Lab) → at_whole ≡ stood_at words whole → found ≡ places → labels ≡ spoken →
        flat_map (touched_wrong_among callee at_whole found) (enumerate_from 0 labels) ≡ flat_map stood_touched (enumerate_from 0 spoken)
    touched-stood at_whole found labels spoken e f g =
        rw (e, f, g) (all-stood (touched_wrong_among callee (stood_at words whole) places) stood_touched
        (λ n label. ap (λ (place : Place). touching_wrong callee place label) (place-stood words whole (label_lists whole) n)) 0 spoken)
