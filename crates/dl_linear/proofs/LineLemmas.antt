-- What a formula says is what its line says of the values of the atoms.
use Rattle.std.proofs.Common.{◌≡◌, ℕ, zero, suc, ℤ, pos, ◌+ℤ◌, ◌*ℤ◌, ◌≤ℤ◌, ◌<ℤ◌, int_lt, int_le, Bool, true, false, not, List, [], ◌∷◌, map, length, slice_index_or, Option, Some, None, IfSome, is_some, Result, Ok, Err, ◌↔◌, refl, ◌∙◌, ap, subst, arith}
use Rattle.std.proofs.lemmas.Int.{ints, by_lt_z}
use Rattle.std.proofs.lemmas.Bool.Decides.{Decides-int_eq}
use Rattle.std.specs.Int.Signed.{lt_z_yes, le_z_yes, lt_z_no}
use Rattle.std.specs.List.{All}
use Rattle.std.proofs.lemmas.List.Elements.{All-nil, All-cons, All-head, All-tail}
use Rattle.dl_term.specs.declared.syntax.Term.{Term}
use Rattle.dl_term.specs.declared.syntax.Formula.{Formula, Eq, Lt, Le, Not', more_of-Formula as one_formula, end_of-Formula as end_formula}
use Rattle.dl_term.specs.State.{State}
use Rattle.dl_term.specs.Names.{Names}
use Rattle.dl_term.specs.Meaning.{value, holds}
use Rattle.dl_linear.specs.declared.line.Line.{Line}
use Rattle.dl_linear.specs.declared.line.Lines.{Lines}
use Rattle.dl_linear.specs.declared.line.LineFault.{LineFault}
use Rattle.std.specs.Prelude.{IfOk}
use Rattle.dl_linear.specs.Rows.{dot, Meets, MeetsRows, row_of}
use Rattle.dl_linear.specs.Forms.{form, Sides, negated_sides, sides_of, coefficient, line_of, atoms_from, row_for, rows_for, lines_from, all_sides, value_at, SidesHold, AllHold, HoldsWithLine, SayTheSides, SayTheFormulas, equal_to, at_most, below}
use Rattle.dl_linear.proofs.Linear.{total, total-sub, distinct, covers, value-form}
use Rattle.dl_linear.proofs.Truth.{bool-false, bool-true, not-of, to-T, from-T}
use Rattle.dl_linear.proofs.Atoms.{CoversSides, atoms_from-distinct, atoms_from-cover}

dot-front : (n : ℕ) (c x : ℕ → ℤ) → dot (suc n) c x ≡ c 0 *ℤ x 0 +ℤ dot n (λ j. c (suc j)) (λ j. x (suc j))
dot-front zero c x = omega (arith, ints)
dot-front (suc n) c x = omega (arith, ints, dot-front n c x)

pub dot-total : (c : Term → ℤ) (xs : List Term) (names : Names) (state : State) → dot (length xs) (λ j. slice_index_or (map c xs) j (pos 0)) (value_at xs names state) ≡ total c (λ x. value x names state) xs
dot-total c [] names state = refl
dot-total c (x ∷ xs) names state =
    dot-front (length xs) (λ j. slice_index_or (map c (x ∷ xs)) j (pos 0)) (value_at (x ∷ xs) names state)
    ∙ ap (λ z. c x *ℤ value x names state +ℤ z) (dot-total c xs names state)

lt-true : (a b : ℤ) → int_lt a b ≡ true → a <ℤ b
lt-true a b h = lt_z_yes (to-T (int_lt a b) h)

le-true : (a b : ℤ) → int_le a b ≡ true → a ≤ℤ b
le-true a b h = le_z_yes (to-T (int_le a b) h)

lt-false : (a b : ℤ) → not (int_lt a b) ≡ true → b ≤ℤ a
lt-false a b h = lt_z_no (to-T (not (int_lt a b)) h)

le-test : (a b : ℤ) → a ≤ℤ b → int_le a b ≡ true
le-test a b h = from-T (int_le a b) h.le

le-false : (a b : ℤ) → not (int_le a b) ≡ true → b <ℤ a
le-false a b h = by_lt_z b a (λ lt. lt) (λ le. absurd (clash (int_le a b) h (le-test a b le)))
  where
    clash : (t : Bool) → not t ≡ true → t ≡ true → ⊥
    clash true h k = cc
    clash false h k = cc

-- what a formula with a line says is what its sides say
eq-says : (a b : Term) (names : Names) (state : State) → holds (Eq a b) names state ≡ true ↔ SidesHold names state (equal_to a b)
eq-says a b names state = (
  (λ h. let same = (Decides-int_eq (value a names state) (value b names state)).0 h in
      record { at_most = omega (arith, ints, same); equals = λ e. omega (arith, ints, same) }),
  (λ s. let same = s.equals refl in (Decides-int_eq (value a names state) (value b names state)).1 (omega (arith, ints, same))),
)

le-says : (a b : Term) (names : Names) (state : State) → int_le (value a names state) (value b names state) ≡ true ↔ SidesHold names state (at_most a b)
le-says a b names state = (
  (λ h. let le = le-true (value a names state) (value b names state) h in record { at_most = omega (arith, ints); equals = λ never. cc }),
  (λ s. let le = s.at_most in le-test (value a names state) (value b names state) (omega (arith, ints))),
)

lt-says : (a b : Term) (names : Names) (state : State) → int_lt (value a names state) (value b names state) ≡ true ↔ SidesHold names state (below a b)
lt-says a b names state = (
  (λ h. let lt = lt-true (value a names state) (value b names state) h in record { at_most = omega (arith, ints); equals = λ never. cc }),
  (λ s. let le = s.at_most in bool-true (int_lt (value a names state) (value b names state)) (λ no_lt. let ge = lt-false (value a names state) (value b names state) no_lt in omega (arith, ints))),
)

not-lt-says : (a b : Term) (names : Names) (state : State) → not (int_lt (value a names state) (value b names state)) ≡ true ↔ SidesHold names state (at_most b a)
not-lt-says a b names state = (
  (λ h. let le = lt-false (value a names state) (value b names state) h in record { at_most = omega (arith, ints); equals = λ never. cc }),
  (λ s. let le = s.at_most in not-of _ (bool-false _ (λ yes_lt. let lt = lt-true (value a names state) (value b names state) yes_lt in omega (arith, ints)))),
)

not-le-says : (a b : Term) (names : Names) (state : State) → not (int_le (value a names state) (value b names state)) ≡ true ↔ SidesHold names state (below b a)
not-le-says a b names state = (
  (λ h. let lt = le-false (value a names state) (value b names state) h in record { at_most = omega (arith, ints); equals = λ never. cc }),
  (λ s. let le = s.at_most in not-of _ (bool-false _ (λ yes_le. let other = le-true (value a names state) (value b names state) yes_le in omega (arith, ints)))),
)

-- the sides of a formula hold exactly where the formula does, if it has a line
pub sides-say : (f : Formula) (names : Names) (state : State) → HoldsWithLine names state f ↔ IfSome (sides_of f) (SidesHold names state)
sides-say (Eq a b) names state = ((λ h. (eq-says a b names state).0 (h refl)), (λ s e. (eq-says a b names state).1 s))
sides-say (Lt a b) names state = ((λ h. (lt-says a b names state).0 (h refl)), (λ s e. (lt-says a b names state).1 s))
sides-say (Le a b) names state = ((λ h. (le-says a b names state).0 (h refl)), (λ s e. (le-says a b names state).1 s))
sides-say (Not' _ (one_formula f end_formula)) names state = negated f
  where
    negated : (f : Formula) → (is_some (negated_sides f) ≡ true → not (holds f names state) ≡ true) ↔ IfSome (negated_sides f) (SidesHold names state)
    negated (Lt a b) = ((λ h. (not-lt-says a b names state).0 (h refl)), (λ s e. (not-lt-says a b names state).1 s))
    negated (Le a b) = ((λ h. (not-le-says a b names state).0 (h refl)), (λ s e. (not-le-says a b names state).1 s))
    negated _ = ((λ h. tt), (λ s e. cc))
sides-say _ names state = ((λ h. tt), (λ s e. cc))

-- the line of two sides says what the sides say
pub line-met : (atoms : List Term) (s : Sides) (names : Names) (state : State) → distinct atoms ≡ true → covers atoms s.left ≡ true → covers atoms s.right ≡ true → SidesHold names state s → Meets (length atoms) (value_at atoms names state) (row_of (line_of atoms s))
line-met atoms s names state d l r h =
    let v = λ (x : Term). value x names state in
    let sum = dot-total (coefficient s) atoms names state ∙ total-sub (λ x. form (Some x) s.left) (λ x. form (Some x) s.right) v atoms in
    let left = value-form s.left atoms names state d l in
    let right = value-form s.right atoms names state d r in
    let le = h.at_most in
    record {
      at_most = omega (arith, ints, sum, left, right, le);
      equals = λ e. (let same = h.equals e in omega (arith, ints, sum, left, right, same));
    }

-- and the sides say what their line says
pub line-back : (atoms : List Term) (s : Sides) (names : Names) (state : State) → distinct atoms ≡ true → covers atoms s.left ≡ true → covers atoms s.right ≡ true → Meets (length atoms) (value_at atoms names state) (row_of (line_of atoms s)) → SidesHold names state s
line-back atoms s names state d l r h =
    let v = λ (x : Term). value x names state in
    let sum = dot-total (coefficient s) atoms names state ∙ total-sub (λ x. form (Some x) s.left) (λ x. form (Some x) s.right) v atoms in
    let left = value-form s.left atoms names state d l in
    let right = value-form s.right atoms names state d r in
    let le = h.at_most in
    record {
      at_most = omega (arith, ints, sum, left, right, le);
      equals = λ e. (let same = h.equals e in omega (arith, ints, sum, left, right, same));
    }

abbrev RowMet : List Term → Names → State → Option Line → Type 0
RowMet atoms names state row = IfSome row (λ l. Meets (length atoms) (value_at atoms names state) (row_of l))

row-says : (atoms : List Term) (o : Option Sides) (names : Names) (state : State) → distinct atoms ≡ true → CoversSides atoms o → IfSome o (SidesHold names state) ↔ RowMet atoms names state (row_for atoms o)
row-says atoms None names state d c = ((λ h. tt), (λ h. tt))
row-says atoms (Some s) names state d c = (line-met atoms s names state d c.0 c.1, line-back atoms s names state d c.0 c.1)

-- all sides hold exactly where the values of the atoms meet all rows
pub rows-say : (atoms : List Term) (os : List (Option Sides)) (names : Names) (state : State) → distinct atoms ≡ true → All (CoversSides atoms) os → AllHold names state os ↔ MeetsRows (length atoms) (value_at atoms names state) (rows_for atoms os)
rows-say atoms [] names state d c = ((λ h. All-nil (RowMet atoms names state)), (λ h. All-nil (λ o. IfSome o (SidesHold names state))))
rows-say atoms (o ∷ os) names state d c =
    let first = row-says atoms o names state d (All-head (CoversSides atoms) o os c) in
    let rest = rows-say atoms os names state d (All-tail (CoversSides atoms) o os c) in (
      (λ h. All-cons (RowMet atoms names state) (row_for atoms o) (rows_for atoms os)
          (first.0 (All-head (λ o. IfSome o (SidesHold names state)) o os h)) (rest.0 (All-tail (λ o. IfSome o (SidesHold names state)) o os h))),
      (λ h. All-cons (λ o. IfSome o (SidesHold names state)) o os
          (first.1 (All-head (RowMet atoms names state) (row_for atoms o) (rows_for atoms os) h)) (rest.1 (All-tail (RowMet atoms names state) (row_for atoms o) (rows_for atoms os) h))),
    )

pub lines-say : (all : List (Option Sides)) → SayTheSides (lines_from all) all
lines-say all names state = rows-say (atoms_from [] all) all names state (atoms_from-distinct all [] refl) (atoms_from-cover all [])

pub all-say : (fs : List Formula) (names : Names) (state : State) → All (HoldsWithLine names state) fs ↔ AllHold names state (all_sides fs)
all-say [] names state = ((λ h. All-nil (λ o. IfSome o (SidesHold names state))), (λ h. All-nil (HoldsWithLine names state)))
all-say (f ∷ fs) names state =
    let first = sides-say f names state in
    let rest = all-say fs names state in (
      (λ h. All-cons (λ o. IfSome o (SidesHold names state)) (sides_of f) (all_sides fs)
          (first.0 (All-head (HoldsWithLine names state) f fs h)) (rest.0 (All-tail (HoldsWithLine names state) f fs h))),
      (λ h. All-cons (HoldsWithLine names state) f fs
          (first.1 (All-head (λ o. IfSome o (SidesHold names state)) (sides_of f) (all_sides fs) h)) (rest.1 (All-tail (λ o. IfSome o (SidesHold names state)) (sides_of f) (all_sides fs) h))),
    )

-- what lines say of the sides of formulas, where a call gives lines
pub formulas-said : (r : Result Lines LineFault) (os : List (Option Sides)) (fs : List Formula) → os ≡ all_sides fs → IfOk r (λ lines. SayTheSides lines os) → IfOk r (λ lines. SayTheFormulas lines fs)
formulas-said (Ok lines) os fs e say = λ names state.
    let sides = subst (λ all. SayTheSides lines all) e say names state in
    let formulas = all-say fs names state in
    ((λ h. sides.0 (formulas.0 h)), (λ h. formulas.1 (sides.1 h)))
formulas-said (Err fault) os fs e say = tt
