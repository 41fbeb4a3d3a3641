-- What an order takes.
use Rattle.std.proofs.Common.{◌≡◌, ◌<◌, ◌≤◌, ◌%◌, ◌/◌, ◌^◌, ℕ, Some, None, List, [], ◌∷◌, length, refl, ◌∙◌, inl, inr, true, arith}
use Rattle.std.specs.Prelude.{slice_get}
use Rattle.dl_model.specs.declared.history.Order.{Order}
use Rattle.dl_model.specs.declared.history.Order.TheVariants.{Oldest, Newest, Seed}
use Rattle.dl_model.specs.Sorts.{has}
use Rattle.dl_model.specs.Delivery.{choice, drawn}
use Rattle.dl_soup.specs.Replies.{taken, turned, seed_of}
use Rattle.dl_soup.proofs.LiveLemmas.{there, last-there, last-nothing, past}

-- what is taken by the generator's number is the order's choice
pub choice-is : (order : Order) (receives : ℕ) (ids : List ℕ) → taken order (turned (drawn (seed_of order) receives)) ids ≡ choice order receives ids
choice-is Oldest receives ids = refl
choice-is Newest receives ids = refl
choice-is (Seed seed) receives ids = refl

pub taken-there : (order : Order) (x : ℕ) (ids : List ℕ) (id : ℕ) → taken order x ids ≡ Some id → has ids id ≡ true
taken-there Oldest x ids id e = there ids 0 id e
taken-there Newest x ids id e = elim (last-there ids None id e) [
  | inl f ↦ cc
  | inr f ↦ f
]
taken-there (Seed seed) x ids id e = there ids ((x / (2 ^ 33)) % length ids) id e

none-drawn : (ids : List ℕ) (n : ℕ) → slice_get ids (n % length ids) ≡ None → ids ≡ []
none-drawn [] n e = refl
none-drawn (y ∷ ys) n e =
    let few : length (y ∷ ys) ≤ n % length (y ∷ ys) = past (y ∷ ys) (n % length (y ∷ ys)) e in
    let some : 0 < length (y ∷ ys) = omega arith in
    absurd (omega arith)

taken-nothing : (order : Order) (x : ℕ) (ids : List ℕ) → taken order x ids ≡ None → ids ≡ []
taken-nothing Oldest x [] e = refl
taken-nothing Oldest x (y ∷ ys) e = cc
taken-nothing Newest x ids e = last-nothing ids None e
taken-nothing (Seed seed) x ids e = none-drawn ids (x / (2 ^ 33)) e

pub choice-there : (order : Order) (receives : ℕ) (ids : List ℕ) (id : ℕ) → choice order receives ids ≡ Some id → has ids id ≡ true
choice-there order receives ids id e = taken-there order (turned (drawn (seed_of order) receives)) ids id (choice-is order receives ids ∙ e)

pub choice-nothing : (order : Order) (receives : ℕ) (ids : List ℕ) → choice order receives ids ≡ None → ids ≡ []
choice-nothing order receives ids e = taken-nothing order (turned (drawn (seed_of order) receives)) ids (choice-is order receives ids ∙ e)
