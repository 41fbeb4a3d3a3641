-- A choice that is told at once has the value of the choice.
use Rattle.std.proofs.Common.{◌≡◌, ℤ, Bool, true, false, not, if◌then◌else◌, Option, Some, None, refl, ◌∙◌, ap, sym}
use Rattle.std.specs.Ordering.{int_eq}
use Rattle.std.proofs.lemmas.Bool.Decides.{Decides-int_eq}
use Rattle.dl_term.specs.declared.syntax.Term.{Term, Num, Word, If}
use Rattle.dl_term.specs.Syntax.{opened}
use Rattle.dl_term.specs.State.{State}
use Rattle.dl_term.specs.Names.{Names}
use Rattle.dl_term.specs.Meaning.{value}
use Rattle.dl_term.specs.Same.{same_term}
use Rattle.dl_term.proofs.SameLemmas.{term-is}
use Rattle.dl_wp.specs.Choices.{constant, differ, pick}

constant-value : (t : Term) (v : ℤ) (names : Names) (state : State) → constant t ≡ Some v → value t names state ≡ v
constant-value (Num w) v names state e = cc
constant-value (Word x w) v names state e = cc
constant-value _ v names state e = cc

not-true : (b : Bool) → not b ≡ true → b ≡ false
not-true true e = cc
not-true false e = refl

differ-value : (a b : Term) (o p : Option ℤ) (names : Names) (state : State) → constant a ≡ o → constant b ≡ p → differ o p ≡ true → int_eq (value a names state) (value b names state) ≡ false
differ-value a b (Some v) (Some w) names state e f h =
    (λ i. int_eq (constant-value a v names state e i) (constant-value b w names state f i)) ∙ not-true (int_eq v w) h
differ-value a b (Some v) None names state e f h = cc
differ-value a b None p names state e f h = cc

chosen : (test : Bool) (x y : ℤ) (b : Bool) → test ≡ b → (if test then x else y) ≡ (if b then x else y)
chosen test x y b e = ap (λ t. if t then x else y) e

differ-case : (d : Bool) (a b x y : Term) (names : Names) (state : State) → (d ≡ true → int_eq (value a names state) (value b names state) ≡ false) → value (if d then y else If a b x y) names state ≡ (if int_eq (value a names state) (value b names state) then value x names state else value y names state)
unfolding opened
differ-case true a b x y names state h = sym (chosen _ (value x names state) (value y names state) false (h refl))
differ-case false a b x y names state h = refl

same-case : (s d : Bool) (a b x y : Term) (names : Names) (state : State) → (s ≡ true → a ≡ b) → (d ≡ true → int_eq (value a names state) (value b names state) ≡ false) → value (if s then x else if d then y else If a b x y) names state ≡ (if int_eq (value a names state) (value b names state) then value x names state else value y names state)
same-case true d a b x y names state h k =
    sym (chosen _ (value x names state) (value y names state) true ((Decides-int_eq _ _).1 (ap (λ t. value t names state) (h refl))))
same-case false d a b x y names state h k = differ-case d a b x y names state k

pub value-pick : (a b x y : Term) (names : Names) (state : State) → value (pick a b x y) names state ≡ (if int_eq (value a names state) (value b names state) then value x names state else value y names state)
value-pick a b x y names state =
    same-case (same_term a b) (differ (constant a) (constant b)) a b x y names state (term-is a b) (differ-value a b (constant a) (constant b) names state refl refl)
