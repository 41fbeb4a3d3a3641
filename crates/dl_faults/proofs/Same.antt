-- One obligation and another.
use Rattle.std.proofs.Common.{◌≡◌, ℕ, ◌==◌, Bool, true, false, ◌&&◌, refl, ap, sym, eq-eqb}
use Rattle.std.proofs.lemmas.Bool.{eqb-true}
use Rattle.dl_model.proofs.Small.{and-left, and-right, and-both}
use Rattle.dl_sequent.specs.declared.duty.Duty.{Duty}
use Rattle.dl_sequent.specs.declared.duty.Duty.TheVariants as duty
use Rattle.dl_inv.specs.Facts.{agree}
use Rattle.dl_faults.specs.Obligations.{same_duty}

pub agree-is : (a b : Bool) → agree a b ≡ true → a ≡ b
agree-is true b h = sym h
agree-is false true h = cc
agree-is false false h = refl

two-same : {X : Type 0} (make : ℕ → ℕ → X) (p q k l : ℕ) → ((p == q) && (k == l)) ≡ true → make p k ≡ make q l
two-same make p q k l h = rw (eqb-true p q (and-left _ _ h), eqb-true k l (and-right (p == q) _ h)) refl

pub same-is : (a b : Duty) → same_duty a b ≡ true → a ≡ b
same-is (duty.InitProtocol p) (duty.InitProtocol q) h = ap duty.InitProtocol (eqb-true p q h)
same-is (duty.InitInvariant i) (duty.InitInvariant j) h = ap duty.InitInvariant (eqb-true i j h)
same-is (duty.StepProtocol p tag receive) (duty.StepProtocol q other way) h =
    let names = and-left ((p == q) && (tag == other)) _ h in
    rw (eqb-true p q (and-left _ _ names), eqb-true tag other (and-right (p == q) _ names), agree-is receive way (and-right ((p == q) && (tag == other)) _ h)) refl
same-is (duty.StepInvariant i label tag receive) (duty.StepInvariant j elsewhere other way) h =
    let front = and-left ((i == j) && (label == elsewhere)) _ h in
    let back = and-right ((i == j) && (label == elsewhere)) _ h in
    rw (eqb-true i j (and-left _ _ front), eqb-true label elsewhere (and-right (i == j) _ front), eqb-true tag other (and-left _ _ back), agree-is receive way (and-right (tag == other) _ back)) refl
same-is (duty.Start p) (duty.Start q) h = ap duty.Start (eqb-true p q h)
same-is (duty.Guard p k) (duty.Guard q l) h = two-same duty.Guard p q k l h
same-is (duty.AfterSend p k) (duty.AfterSend q l) h = two-same duty.AfterSend p q k l h
same-is (duty.Got p k) (duty.Got q l) h = two-same duty.Got p q k l h
same-is (duty.Miss p k) (duty.Miss q l) h = two-same duty.Miss p q k l h
same-is (duty.AfterRead p k) (duty.AfterRead q l) h = two-same duty.AfterRead p q k l h
same-is (duty.Body p k) (duty.Body q l) h = two-same duty.Body p q k l h
same-is (duty.Exit p k) (duty.Exit q l) h = two-same duty.Exit p q k l h
same-is (duty.Enter p k) (duty.Enter q l) h = two-same duty.Enter p q k l h
same-is (duty.Leave p k) (duty.Leave q l) h = two-same duty.Leave p q k l h
same-is (duty.Stable p k label tag receive) (duty.Stable q l elsewhere other way) h =
    let front = and-left ((p == q) && (k == l)) _ h in
    let back = and-right ((p == q) && (k == l)) _ h in
    let middle = and-left ((label == elsewhere) && (tag == other)) _ back in
    rw (
      eqb-true p q (and-left _ _ front),
      eqb-true k l (and-right (p == q) _ front),
      eqb-true label elsewhere (and-left _ _ middle),
      eqb-true tag other (and-right (label == elsewhere) _ middle),
      agree-is receive way (and-right ((label == elsewhere) && (tag == other)) _ back),
    ) refl
same-is (duty.Frame p k label tag receive) (duty.Frame q l elsewhere other way) h =
    let front = and-left ((p == q) && (k == l)) _ h in
    let back = and-right ((p == q) && (k == l)) _ h in
    let middle = and-left ((label == elsewhere) && (tag == other)) _ back in
    rw (
      eqb-true p q (and-left _ _ front),
      eqb-true k l (and-right (p == q) _ front),
      eqb-true label elsewhere (and-left _ _ middle),
      eqb-true tag other (and-right (label == elsewhere) _ middle),
      agree-is receive way (and-right ((label == elsewhere) && (tag == other)) _ back),
    ) refl
same-is (duty.Deploy n) (duty.Deploy m) h = ap duty.Deploy (eqb-true n m h)
same-is _ _ h = cc

-- ---- an obligation and itself

pub agree-itself : (a : Bool) → agree a a ≡ true
agree-itself true = refl
agree-itself false = refl

pub number-itself : (n : ℕ) → (n == n) ≡ true
number-itself n = eq-eqb n n refl

two-itself : (p k : ℕ) → ((p == p) && (k == k)) ≡ true
two-itself p k = and-both (p == p) (k == k) (number-itself p) (number-itself k)

step-itself : (label tag : ℕ) (receive : Bool) → (((label == label) && (tag == tag)) && agree receive receive) ≡ true
step-itself label tag receive = and-both ((label == label) && (tag == tag)) _ (two-itself label tag) (agree-itself receive)

pub same-itself : (a : Duty) → same_duty a a ≡ true
same-itself (duty.InitProtocol p) = number-itself p
same-itself (duty.InitInvariant i) = number-itself i
same-itself (duty.StepProtocol p tag receive) = step-itself p tag receive
same-itself (duty.StepInvariant i label tag receive) =
    and-both ((i == i) && (label == label)) _ (two-itself i label) (and-both (tag == tag) _ (number-itself tag) (agree-itself receive))
same-itself (duty.Start p) = number-itself p
same-itself (duty.Guard p k) = two-itself p k
same-itself (duty.AfterSend p k) = two-itself p k
same-itself (duty.Got p k) = two-itself p k
same-itself (duty.Miss p k) = two-itself p k
same-itself (duty.AfterRead p k) = two-itself p k
same-itself (duty.Body p k) = two-itself p k
same-itself (duty.Exit p k) = two-itself p k
same-itself (duty.Enter p k) = two-itself p k
same-itself (duty.Leave p k) = two-itself p k
same-itself (duty.Stable p k label tag receive) = and-both ((p == p) && (k == k)) _ (two-itself p k) (step-itself label tag receive)
same-itself (duty.Frame p k label tag receive) = and-both ((p == p) && (k == k)) _ (two-itself p k) (step-itself label tag receive)
same-itself (duty.Deploy n) = number-itself n
