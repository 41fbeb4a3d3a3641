-- The names of a step's obligation, for a step of the model.
use Rattle.std.proofs.Common.{◌≡◌, ℕ, suc, ◌<◌, ◌-ℤ◌, ◌≤ℤ◌, ℤ, pos, negsuc, Bool, true, false, ◌==◌, if◌then◌else◌, Some, None, List, [], ◌∷◌, map, length, int_le, T, refl, ◌∙◌, ap, eq-eqb, lt-ltb, arith}
use Rattle.std.proofs.lemmas.Int.{ints}
use Rattle.std.specs.List.{AllByRecursion as Each, AllZip}
use borrow.Author.Tests.{ltb-true}
use Rattle.dl_term.specs.declared.syntax.Sort.{Sort}
use Rattle.dl_term.specs.declared.syntax.Term.{Var}
use Rattle.dl_term.specs.State.{State}
use Rattle.dl_term.specs.Names.{Names, Stored, no_names, with_number}
use Rattle.dl_term.specs.Meaning.{value}
use Rattle.dl_model.specs.Sorts.{in_sort, all_in_sorts, is_node, has}
use Rattle.dl_model.specs.Words.{with_numbers}
use Rattle.dl_model.specs.Formed.{AreDistinct}
use Rattle.dl_model.proofs.Small.{and-left, and-right, and-both, or-left, or-right}
use Rattle.dl_sequent.specs.Bounds.{node_sort}
use Rattle.dl_inv.specs.Obligations.{with_sorts}

-- the names stand for these numbers, and no message is named
abbrev pub numbered : ℕ → List ℕ → List ℤ → Names
numbered own xs vs = record { own = own; number = (with_numbers (no_names own) xs vs).number; message = λ m. None }

-- one name stands for a node, and one for a message
abbrev pub receiving : ℕ → ℕ → ℤ → ℕ → (label id : ℕ) → Names
receiving own r node k label id = record {
  own = own;
  number = λ x. if x == r then node else pos 0;
  message = λ m. if m == k then Some (Stored label id) else None;
}

later : (xs : List ℕ) (vs : List ℤ) (base : Names) (x : ℕ) → has xs x ≡ false → (with_numbers base xs vs).number x ≡ base.number x
later [] vs base x h = refl
later (y ∷ ys) [] base x h = refl
later (y ∷ ys) (v ∷ vs) base x h = later ys vs (with_number base y v) x (or-right (x == y) (has ys x) h) ∙ ap (λ b. if b then v else base.number x) (or-left (x == y) (has ys x) h)

first-number : (x : ℕ) (xs : List ℕ) (v : ℤ) (vs : List ℤ) (base : Names) → has xs x ≡ false → (with_numbers base (x ∷ xs) (v ∷ vs)).number x ≡ v
first-number x xs v vs base h = later xs vs (with_number base x v) x h ∙ ap (λ b. if b then v else base.number x) (eq-eqb x x refl)

reads_from : (xs : List ℕ) (vs : List ℤ) (base names : Names) (state : State) → ((x : ℕ) → names.number x ≡ (with_numbers base xs vs).number x) → AreDistinct xs → length xs ≡ length vs → AllZip (λ t v. value t names state ≡ v) (map (λ x. Var x) xs) vs
reads_from [] [] base names state h d e = tt
reads_from [] (v ∷ vs) base names state h d e = absurd (omega (e, arith))
reads_from (x ∷ xs) [] base names state h d e = absurd (omega (e, arith))
reads_from (x ∷ xs) (v ∷ vs) base names state h d e = (h x ∙ first-number x xs v vs base d.0, reads_from xs vs (with_number base x v) names state h d.1 (omega (e, arith)))

pub reads-all : (own : ℕ) (xs : List ℕ) (vs : List ℤ) (state : State) → AreDistinct xs → length xs ≡ length vs → AllZip (λ t v. value t (numbered own xs vs) state ≡ v) (map (λ x. Var x) xs) vs
reads-all own xs vs state d e = reads_from xs vs (no_names own) (numbered own xs vs) state (λ x. refl) d e

sorts_from : (xs : List ℕ) (sorts : List Sort) (vs : List ℤ) (base names : Names) → ((x : ℕ) → names.number x ≡ (with_numbers base xs vs).number x) → AreDistinct xs → all_in_sorts sorts vs ≡ true
    → Each (λ v. in_sort v.1 (names.number v.0) ≡ true) (with_sorts xs sorts)
sorts_from [] sorts vs base names h d e = tt
sorts_from (x ∷ xs) [] vs base names h d e = tt
sorts_from (x ∷ xs) (sort ∷ sorts) [] base names h d e = cc
sorts_from (x ∷ xs) (sort ∷ sorts) (v ∷ vs) base names h d e = (
  ap (in_sort sort) (h x ∙ first-number x xs v vs base d.0) ∙ and-left (in_sort sort v) (all_in_sorts sorts vs) e,
  sorts_from xs sorts vs (with_number base x v) names h d.1 (and-right (in_sort sort v) (all_in_sorts sorts vs) e),
)

-- each name has a number of its sort
pub sorts-fit : (own : ℕ) (xs : List ℕ) (sorts : List Sort) (vs : List ℤ) → AreDistinct xs → all_in_sorts sorts vs ≡ true → Each (λ v. in_sort v.1 ((numbered own xs vs).number v.0) ≡ true) (with_sorts xs sorts)
sorts-fit own xs sorts vs d e = sorts_from xs sorts vs (no_names own) (numbered own xs vs) (λ x. refl) d e

pub sorts-length : (sorts : List Sort) (vs : List ℤ) → all_in_sorts sorts vs ≡ true → length sorts ≡ length vs
sorts-length [] [] h = refl
sorts-length [] (v ∷ vs) h = cc
sorts-length (sort ∷ sorts) [] h = cc
sorts-length (sort ∷ sorts) (v ∷ vs) h = ap suc (sorts-length sorts vs (and-right (in_sort sort v) (all_in_sorts sorts vs) h))

-- ---- nodes

from-T : (b : Bool) → T b → b ≡ true
from-T true h = refl
from-T false h = absurd h

le-test : (a b : ℤ) → a ≤ℤ b → int_le a b ≡ true
le-test a b h = from-T (int_le a b) h.le

pub node-in-sort : (nodes : ℕ) (v : ℤ) → is_node nodes v ≡ true → in_sort (node_sort nodes) v ≡ true
node-in-sort nodes (pos n) h =
    let lt : n < nodes = ltb-true n nodes h in
    and-both _ _ (le-test (pos 0) (pos n) (omega (arith, ints))) (le-test (pos n) (pos nodes -ℤ pos 1) (omega (arith, ints)))
node-in-sort nodes (negsuc n) h = cc

pub node-is : (nodes n : ℕ) → n < nodes → is_node nodes (pos n) ≡ true
node-is nodes n h = lt-ltb n nodes h
