-- The test of two calls decides whether they are equal.
use Rattle.std.proofs.Common.{◌≡◌, ◌↔◌, ◌==◌, ℤ, Bool, true, Option, Some, None, List, refl, ap, sym, ◌∙◌, subst, eq-eqb}
use Rattle.std.proofs.lemmas.Bool.{eqb-true}
use Rattle.std.proofs.lemmas.Bool.Decides.{Decides-int_eq}
use Rattle.std.proofs.lemmas.Slice.Eq.{slice_eq-Decides}
use Rattle.std.specs.Ordering.{int_eq}
use Rattle.std.specs.Cmp.Lexicographic.{pointwise}
use Rattle.dl_model.specs.declared.history.Args.{Args}
use Rattle.dl_model.specs.declared.history.Call.{Call}
use Rattle.dl_model.specs.declared.history.Call.TheVariants.{Send, Poll, Await, Read}
use Rattle.dl_model.proofs.Small.{and-left, and-right, and-both}
use Rattle.dl_history.specs.Same.{same_args, same_index, same_call}

pub numbers-equal : (xs ys : List ℤ) → pointwise int_eq xs ys ≡ true → xs ≡ ys
numbers-equal xs ys h = (slice_eq-Decides Decides-int_eq xs ys (pointwise int_eq xs ys) refl).0 h

pub numbers-same : (xs ys : List ℤ) → xs ≡ ys → pointwise int_eq xs ys ≡ true
numbers-same xs ys e = (slice_eq-Decides Decides-int_eq xs ys (pointwise int_eq xs ys) refl).1 e

args-equal : (a b : Args) → same_args a b ≡ true → a ≡ b
args-equal a b h =
    let count = eqb-true a.count b.count (and-left (a.count == b.count) _ h) in
    let values = numbers-equal a.values b.values (and-right (a.count == b.count) _ h) in
    λ i. record { count = count i; values = values i }

args-self : (a : Args) → same_args a a ≡ true
args-self a = and-both (a.count == a.count) _ (eq-eqb a.count a.count refl) (numbers-same a.values a.values refl)

int-equal : (x y : ℤ) → int_eq x y ≡ true → x ≡ y
int-equal x y h = (Decides-int_eq x y).0 h

int-self : (x : ℤ) → int_eq x x ≡ true
int-self x = (Decides-int_eq x x).1 refl

index-equal : (a b : Option ℤ) → same_index a b ≡ true → a ≡ b
index-equal None None h = refl
index-equal None (Some y) h = cc
index-equal (Some x) None h = cc
index-equal (Some x) (Some y) h = ap (λ v. Some v) (int-equal x y h)

index-self : (a : Option ℤ) → same_index a a ≡ true
index-self None = refl
index-self (Some x) = int-self x

call-equal : (a b : Call) → same_call a b ≡ true → a ≡ b
call-equal (Send label tag to args) (Send label' tag' to' args') h =
    let l = eqb-true label label' (and-left (label == label') _ h) in
    let rest = and-right (label == label') _ h in
    let t = eqb-true tag tag' (and-left (tag == tag') _ rest) in
    let more = and-right (tag == tag') _ rest in
    let d = int-equal to to' (and-left (int_eq to to') _ more) in
    let v = args-equal args args' (and-right (int_eq to to') _ more) in
    λ i. Send (l i) (t i) (d i) (v i)
call-equal (Send label tag to args) (Poll label' tag') h = cc
call-equal (Send label tag to args) (Await label' tag') h = cc
call-equal (Send label tag to args) (Read label' field' index') h = cc
call-equal (Poll label tag) (Send label' tag' to' args') h = cc
call-equal (Poll label tag) (Poll label' tag') h =
    let l = eqb-true label label' (and-left (label == label') _ h) in
    let t = eqb-true tag tag' (and-right (label == label') _ h) in
    λ i. Poll (l i) (t i)
call-equal (Poll label tag) (Await label' tag') h = cc
call-equal (Poll label tag) (Read label' field' index') h = cc
call-equal (Await label tag) (Send label' tag' to' args') h = cc
call-equal (Await label tag) (Poll label' tag') h = cc
call-equal (Await label tag) (Await label' tag') h =
    let l = eqb-true label label' (and-left (label == label') _ h) in
    let t = eqb-true tag tag' (and-right (label == label') _ h) in
    λ i. Await (l i) (t i)
call-equal (Await label tag) (Read label' field' index') h = cc
call-equal (Read label field index) (Send label' tag' to' args') h = cc
call-equal (Read label field index) (Poll label' tag') h = cc
call-equal (Read label field index) (Await label' tag') h = cc
call-equal (Read label field index) (Read label' field' index') h =
    let l = eqb-true label label' (and-left (label == label') _ h) in
    let rest = and-right (label == label') _ h in
    let f = eqb-true field field' (and-left (field == field') _ rest) in
    let x = index-equal index index' (and-right (field == field') _ rest) in
    λ i. Read (l i) (f i) (x i)

call-self : (a : Call) → same_call a a ≡ true
call-self (Send label tag to args) =
    and-both (label == label) _ (eq-eqb label label refl) (and-both (tag == tag) _ (eq-eqb tag tag refl) (and-both (int_eq to to) _ (int-self to) (args-self args)))
call-self (Poll label tag) = and-both (label == label) _ (eq-eqb label label refl) (eq-eqb tag tag refl)
call-self (Await label tag) = and-both (label == label) _ (eq-eqb label label refl) (eq-eqb tag tag refl)
call-self (Read label field index) = and-both (label == label) _ (eq-eqb label label refl) (and-both (field == field) _ (eq-eqb field field refl) (index-self index))

pub call-same : (a b : Call) (r : Bool) → r ≡ same_call a b → (r ≡ true) ↔ (a ≡ b)
call-same a b r e = record {
  0 = λ t. call-equal a b (sym e ∙ t);
  1 = λ q. e ∙ subst (λ c. same_call a c ≡ true) q (call-self a);
}
