-- What the soundness of the rules rests on: truth of connectives, and hypotheses by name.
use Rattle.std.proofs.Common.{◌≡◌, ℕ, Bool, true, false, not, ◌&&◌, ◌||◌, ◌==◌, List, [], ◌∷◌, ◌++◌, Option, Some, None, refl, subst}
use Rattle.std.specs.Option.{option_map, option_and_then}
use Rattle.std.specs.List.{AllByRecursion as Each, list_any, find}
use Rattle.dl_term.specs.declared.syntax.Formula.{Formula}
use Rattle.dl_term.specs.State.{State}
use Rattle.dl_term.specs.Names.{Names}
use Rattle.dl_term.specs.Meaning.{holds}
use Rattle.dl_term.proofs.SameLemmas.{formula-is}
use Rattle.dl_model.specs.declared.protocol.Instances.{Instances}
use Rattle.dl_model.specs.declared.sequent.Hypothesis.{Hypothesis}
use Rattle.dl_model.specs.declared.sequent.Sequent.{Sequent}
use Rattle.dl_model.specs.Sequents.{Fits, FactsHold, IsValidAt}
use Rattle.dl_sequent.proofs.Bounded.{found-is}
use Rattle.dl_kernel.specs.Parts.{is_true, is_false}
use Rattle.dl_kernel.specs.Steps.{with_fact, with_goal, fact_in, fact_of, closes, is_the_goal}
use Rattle.dl_kernel.proofs.Says.{true-says, false-says}

-- everything that is left is valid
abbrev pub AllValid : Instances → ℕ → Option (List Sequent) → Type 0
AllValid inst own None = ⊥
AllValid inst own (Some ss) = Each (λ s. IsValidAt inst s own) ss

pub by_case : (b : Bool) (P : Type 0) → (b ≡ true → P) → (b ≡ false → P) → P
by_case true P f g = f refl
by_case false P f g = g refl

pub or-either : (a b : Bool) (P : Type 0) → (a || b) ≡ true → (a ≡ true → P) → (b ≡ true → P) → P
or-either true b P h f g = f refl
or-either false b P h f g = g h

pub and-left : (a b : Bool) → (a && b) ≡ true → a ≡ true
and-left true b h = refl
and-left false b h = cc

pub and-right : (a b : Bool) → (a && b) ≡ true → b ≡ true
and-right true b h = h
and-right false b h = cc

pub of-not : (a : Bool) → not a ≡ true → a ≡ false
of-not true h = cc
of-not false h = refl

pub not-of : (a : Bool) → a ≡ false → not a ≡ true
not-of true h = cc
not-of false h = refl

pub or-false : (a b : Bool) → (a || b) ≡ false → (a ≡ false) × (b ≡ false)
or-false true b h = cc
or-false false b h = (refl, h)

pub clash : (b : Bool) (P : Type 0) → b ≡ true → b ≡ false → P
clash true P h k = cc
clash false P h k = cc

pub or-true : (b : Bool) → (b || true) ≡ true
or-true true = refl
or-true false = refl

pub each-push : {X : Type 0} (P : X → Type 0) (xs : List X) (x : X) → Each P xs → P x → Each P (xs ++ x ∷ [])
each-push P [] x h k = (k, tt)
each-push P (y ∷ ys) x h k = (h.0, each-push P ys x h.1 k)

pub goal-fits : (s : Sequent) (f : Formula) (own : ℕ) (state : State) (names : Names) → Fits s own state names → Fits (with_goal s f) own state names
goal-fits s f own state names h = record { own_label = h.own_label; variables = h.variables; messages = h.messages }

pub fact-fits : (s : Sequent) (name : ℕ) (f : Formula) (own : ℕ) (state : State) (names : Names) → Fits s own state names → Fits (with_fact s name f) own state names
fact-fits s name f own state names h = record { own_label = h.own_label; variables = h.variables; messages = h.messages }

pub push-fact : (s : Sequent) (state : State) (names : Names) (name : ℕ) (f : Formula) → FactsHold s.facts names state → holds f names state ≡ true → FactsHold (with_fact s name f).facts names state
push-fact s state names name f all this = each-push (λ (h : Hypothesis). holds h.formula names state ≡ true) s.facts (record { name = name; formula = f }) all this

pub then-found : {X Y : Type 0} (o : Option X) (f : X → Option Y) (y : Y) → option_and_then f o ≡ Some y → (x : X) × (o ≡ Some x) × (f x ≡ Some y)
then-found (Some x) f y h = (x, refl, h)
then-found None f y h = cc

pub map-found : {X Y : Type 0} (o : Option X) (f : X → Y) (y : Y) → option_map f o ≡ Some y → (x : X) × (o ≡ Some x) × (f x ≡ y)
map-found (Some x) f y h = let is : f x ≡ y = cc in (x, refl, is)
map-found None f y h = cc

-- what is said of all hypotheses is said of a named one
pub fact-is : (facts : List Hypothesis) (name : ℕ) (f : Formula) (P : Formula → Type 0) → fact_in facts name ≡ Some f → Each (λ (h : Hypothesis). P h.formula) facts → P f
fact-is facts name f P e all =
    let h = map-found (find (λ (h : Hypothesis). h.name == name) facts) (λ (h : Hypothesis). h.formula) f e in
    subst P h.2 (found-is (λ (h : Hypothesis). h.name == name) (λ (h : Hypothesis). P h.formula) facts h.0 h.1 all).1

pub fact-true : (facts : List Hypothesis) (name : ℕ) (f : Formula) (state : State) (names : Names) → fact_in facts name ≡ Some f → FactsHold facts names state → holds f names state ≡ true
fact-true facts name f state names e all = fact-is facts name f (λ g. holds g names state ≡ true) e all

pub closed : (inst : Instances) (own : ℕ) (test : Bool) → AllValid inst own (closes test) → test ≡ true
closed inst own true h = refl
closed inst own false h = absurd h

pub by-sound : (inst : Instances) (s : Sequent) (own hyp : ℕ) → is_the_goal (fact_of s hyp) s.goal ≡ true → IsValidAt inst s own
by-sound inst s own hyp h state names sorted fits facts = by_fact (fact_of s hyp) refl h
  where
    by_fact : (o : Option Formula) → fact_of s hyp ≡ o → is_the_goal o s.goal ≡ true → holds s.goal names state ≡ true
    by_fact None e h = cc
    by_fact (Some f) e h = subst (λ g. holds g names state ≡ true) (formula-is f s.goal h) (fact-true s.facts hyp f state names e facts)

some-false : (facts : List Hypothesis) (state : State) (names : Names) → list_any (λ (h : Hypothesis). is_false h.formula) facts ≡ true → FactsHold facts names state → ⊥
some-false [] state names h all = cc
some-false (f ∷ fs) state names h all =
    or-either (is_false f.formula) (list_any (λ (h : Hypothesis). is_false h.formula) fs) ⊥ h
    (λ e. clash (holds f.formula names state) ⊥ all.0 (false-says f.formula names state e))
    (λ e. some-false fs state names e all.1)

pub close-sound : (inst : Instances) (s : Sequent) (own : ℕ) → (is_true s.goal || list_any (λ (h : Hypothesis). is_false h.formula) s.facts) ≡ true → IsValidAt inst s own
close-sound inst s own h state names sorted fits facts =
    or-either _ _ _ h (λ e. true-says s.goal names state e) (λ e. absurd (some-false s.facts state names e facts))
