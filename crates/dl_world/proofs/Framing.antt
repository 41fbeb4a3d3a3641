-- Labels of two lists, and what a formula that is apart says.
use Rattle.std.proofs.Common.{◌≡◌, ◌↔◌, ℕ, Bool, true, false, cond, ◌||◌, List, [], ◌∷◌, ◌++◌, Result, Ok, Err, refl, ◌∙◌, ap}
use Rattle.std.specs.Prelude.{IsOk}
use Rattle.std.specs.Result.{result_and}
use Rattle.std.specs.List.{list_any}
use Rattle.dl_term.specs.declared.syntax.Lab.{Lab}
use Rattle.dl_term.specs.declared.syntax.Lab.TheVariants.{Own, At}
use Rattle.dl_model.specs.declared.file.World.{World}
use Rattle.dl_model.specs.Sorts.{has}
use Rattle.dl_model.specs.Worlds.{is_label_of}
use Rattle.dl_world.specs.Framed.{label_apart, labels_apart}

and-and : (p q r : Result (Unit {0}) ℕ) → result_and p (result_and q r) ≡ result_and (result_and p q) r
and-and (Ok done) q r = refl
and-and (Err label) q r = refl

pub apart_append : (labels : List ℕ) (xs ys : List Lab) → labels_apart labels (xs ++ ys) ≡ result_and (labels_apart labels xs) (labels_apart labels ys)
apart_append labels [] ys = refl
apart_append labels (x ∷ xs) ys =
    ap (result_and (label_apart labels x)) (apart_append labels xs ys) ∙ and-and (label_apart labels x) (labels_apart labels xs) (labels_apart labels ys)

pub apart-says : (world : World) (named : List Lab) → IsOk (labels_apart world.labels named) ↔ (list_any (is_label_of world) named ≡ false)
apart-says world [] = (λ h. refl, λ h. refl)
apart-says world (Own ∷ named) = apart-says world named
apart-says world (At label ∷ named) = go (has world.labels label) (apart-says world named)
  where
    go : (b : Bool) → IsOk (labels_apart world.labels named) ↔ (list_any (is_label_of world) named ≡ false) →
        IsOk (result_and (cond b (Err label) (Ok (tt {0}))) (labels_apart world.labels named)) ↔ ((b || list_any (is_label_of world) named) ≡ false)
    go true k = (λ h. cc, λ h. cc)
    go false k = k

-- two lists that were looked at one after another
pub both-apart : (labels : List ℕ) (xs ys : List Lab) (r s out : Result (Unit {0}) ℕ) →
    r ≡ labels_apart labels xs → s ≡ labels_apart labels ys → out ≡ result_and r s → out ≡ labels_apart labels (xs ++ ys)
both-apart labels xs ys r s out e f g = cc (apart_append labels xs ys)
