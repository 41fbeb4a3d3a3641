-- Each obligation of the counter is valid, and one of a false invariant is not.
use Rattle.std.proofs.Common.{◌≡◌, ℤ, pos, ◌+ℤ◌, int_le, Bool, true, false, if◌then◌else◌, [], ◌∷◌, refl, ap, sym, subst, arith}
use Rattle.std.proofs.lemmas.Int.{ints}
use Rattle.std.specs.Ordering.{int_eq}
use Rattle.std.specs.List.{AllByRecursion as Each}
use Rattle.dl_term.specs.declared.syntax.Lab.{Lab}
use Rattle.dl_term.specs.declared.syntax.Lab.TheVariants.{Own, At}
use Rattle.dl_term.specs.Syntax.{opened}
use Rattle.dl_term.specs.State.{State, field_at}
use Rattle.dl_term.specs.Names.{Names, label_of}
use Rattle.dl_term.specs.Meaning.{holds}
use Rattle.dl_term.proofs.Quantifiers.{every_below-at, every_below-all}
use Rattle.dl_model.specs.Examples.{counter}
use Rattle.dl_model.specs.Safe.{EachFreeRunMeetsInvariants}
use Rattle.dl_model.proofs.Examples.{counter-formed, counter-keeps}
use Rattle.dl_inv.specs.Duties.{duties_of}
use Rattle.dl_inv.specs.Examples.{counted_first, counted, counted_then}
use Rattle.dl_inv.specs.Taken.{IsMet}
use Rattle.std.proofs.lemmas.Bool.{false≢true}
use Rattle.dl_term.specs.Names.{no_names}
use Rattle.dl_model.specs.States.{first_state}
use Rattle.dl_model.proofs.Sorted.{first-sorted}
use Rattle.dl_sound.specs.Examples.{false_invariant}
use Rattle.dl_sound.proofs.Games.{whole_game-formed}
use Rattle.dl_sound.proofs.Bridge.{state-needs}
use Rattle.dl_sound.proofs.Kept.{free-good}
use Rattle.dl_sound.proofs.Valid.{obligations-mean}

int-same : (x y : ℤ) → int_eq x y ≡ true → x ≡ y
int-same x y h = grind (arith, ints)

first-counted : (names : Names) (state : State) → holds counted_first names state ≡ true
unfolding opened
first-counted names state = every_below-all state.nodes (λ k. true) (λ k less. refl)

one-more : (a b v w : ℤ) → int_le (pos 0) v ≡ true → (int_eq a b ≡ true → w ≡ v) → int_le (pos 0) (if int_eq a b then w +ℤ pos 1 else v) ≡ true
one-more a b v w h same = go (int_eq a b) refl
  where
    next : (v : ℤ) → int_le (pos 0) v ≡ true → int_le (pos 0) (v +ℤ pos 1) ≡ true
    next v h = grind (arith, ints)

    go : (c : Bool) → int_eq a b ≡ c → int_le (pos 0) (if c then w +ℤ pos 1 else v) ≡ true
    go true e = next w (subst (λ u. int_le (pos 0) u ≡ true) (sym (same e)) h)
    go false e = h

then-counted : (label : Lab) (names : Names) (state : State) → holds (counted label) names state ≡ true → holds (counted_then label) names state ≡ true
unfolding opened
then-counted label names state h = every_below-all state.nodes _ (λ k less.
    one-more (pos k) (names.number 40) (field_at state (label_of names.own label) 0 (pos k) (pos 0)) (field_at state (label_of names.own label) 0 (names.number 40) (pos 0))
    (every_below-at state.nodes (λ k. int_le (pos 0) (field_at state (label_of names.own label) 0 (pos k) (pos 0))) h k less)
    (λ e. ap (λ v. field_at state (label_of names.own label) 0 v (pos 0)) (sym (int-same (pos k) (names.number 40) e))))

pub counter-met : Each (IsMet counter) (duties_of counter)
unfolding opened
counter-met = (
  ([], record { count = refl; distinct = tt; unbound = tt }, λ label of state names sorted fits facts. first-counted names state),
  (
    (40 ∷ 41 ∷ [], record { count = refl; distinct = (refl, (refl, tt)); unbound = (refl, (refl, tt)) }, λ label of state names sorted fits facts. then-counted Own names state facts.0),
    (
      ([], record { count = refl; distinct = tt; unbound = tt }, λ label state names sorted fits facts. first-counted names state),
      ((40 ∷ 41 ∷ [], record { count = refl; distinct = (refl, (refl, tt)); unbound = (refl, (refl, tt)) }, λ label state names sorted fits facts. then-counted (At 0) names state facts.0), tt),
    ),
  ),
)

pub counter-good : EachFreeRunMeetsInvariants counter
counter-good = free-good counter (state-needs counter counter-formed counter-keeps) (obligations-mean counter counter-formed counter-met)

-- ---- an invariant that is false at first

pub false_invariant-unmet : Each (IsMet false_invariant) (duties_of false_invariant) → ⊥
unfolding opened
false_invariant-unmet h =
    let inst = false_invariant.inst in
    false≢true (h.0.2 0 (first_state inst) (no_names 0) (first-sorted inst whole_game-formed.inst) (record { own_label = refl; variables = tt; messages = tt }) tt)
