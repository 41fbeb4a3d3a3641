-- From the step of a rule to the answer of a script.
use Rattle.std.proofs.Common.{◌≡◌, Bool, true, false, ◌&&◌, ◌||◌, if◌then◌else◌, List, [], ◌∷◌, Option, Some, None, Result, Ok, Err, IfOk, refl, sym, ◌∙◌, ap, subst}
use Rattle.std.specs.List.{list_all}
use Rattle.dl_tree.specs.declared.tree.Place.{Place}
use Rattle.dl_model.specs.declared.sequent.Sequent.{Sequent}
use Rattle.dl_sequent.specs.Clean.{is_clean}
use Rattle.dl_sequent.specs.Sizes.{is_too_large}
use Rattle.dl_kernel.specs.declared.fault.KernelFault.{KernelFault}
use Rattle.dl_kernel.specs.declared.fault.KernelFault.TheVariants.{RuleFails, Limit as PastLimit, Memory as NoMemory}
use Rattle.dl_kernel.specs.declared.made.StepFault.{StepFault}
use Rattle.dl_kernel.specs.declared.made.StepFault.TheVariants.{Limit, Memory}
use Rattle.dl_model.specs.declared.protocol.Instances.{Instances}
use Rattle.dl_sequent.specs.declared.script.Script.{Script}
use Rattle.dl_sequent.specs.declared.script.Rule.{Rule}
use Rattle.dl_kernel.specs.Steps.{only_clean, closes, left_by, after}
use Rattle.dl_kernel.specs.Outcome.{Verdict, first_of, each_fault, fault_of, below, fault, IsAnswer}
use Rattle.dl_kernel.specs.Seen.{one_if, two_if, IsPastLimit, IsStep, AllClean, SameStep, kept_one, kept_first, passes, AfterOne, AfterFirst}

pub clean-kept : (o : Option (List Sequent)) → AllClean (only_clean o)
clean-kept None = tt
clean-kept (Some ss) = by_test (list_all is_clean ss) refl
  where
    by_test : (b : Bool) → list_all is_clean ss ≡ b → AllClean (if b then Some ss else None)
    by_test true e = e
    by_test false e = tt

past-limit : (p : Place) (scripts : List Verdict) (o : Option (List Sequent)) → IsPastLimit o → fault_of p scripts o ≡ Some (PastLimit p)
past-limit p scripts None h = absurd h
past-limit p scripts (Some ss) h = ap (λ b. if b then Some (PastLimit p) else each_fault p scripts ss) h

-- what is too large is refused, and nothing else
abbrev if_small : Place → Bool → Result (Unit {0}) KernelFault
if_small p large = if large then Err (PastLimit p) else Ok tt

abbrev memory_refused : Result (Unit {0}) KernelFault
memory_refused = Err NoMemory

answers : (e : KernelFault) (o : Option KernelFault) → o ≡ Some e → IsAnswer (Err e) o
answers (RuleFails q) o h = h
answers (PastLimit q) o h = h
answers NoMemory o h = tt

-- want of memory alone may come where no rule is refused
at-any : (e : KernelFault) (o : Option KernelFault) → IsAnswer (Err e) None → IsAnswer (Err e) o
at-any (RuleFails q) o h = absurd (cc)
at-any (PastLimit q) o h = absurd (cc)
at-any NoMemory o h = tt

last : (o : Option KernelFault) → first_of o None ≡ o
last None = refl
last (Some f) = refl

-- a rule with one sub-script
one-answer : (answer : Result (Unit {0}) KernelFault) (p : Place) (script : Verdict) (made : Result Bool StepFault) (s : Sequent) (left : Option (List Sequent)) → IsStep made s left → AfterOne answer p script made s → IsAnswer answer (fault_of p (script ∷ []) left)
one-answer answer p script (Ok fine) s left step h = subst (λ o. IsAnswer answer (fault_of p (script ∷ []) o)) step h
one-answer answer p script (Err Limit) s left step later = subst (λ a. IsAnswer a (fault_of p (script ∷ []) left)) (sym later) (past-limit p (script ∷ []) left step)
one-answer answer p script (Err Memory) s left step later = subst (λ a. IsAnswer a (fault_of p (script ∷ []) left)) (sym later) tt

-- it stops before its sub-script
pub one-stops : (p : Place) (script : Verdict) (made : Result Bool StepFault) (s : Sequent) (e : KernelFault) → Err e ≡ kept_one p made s → AfterOne (Err e) p script made s
one-stops p script (Ok true) s e h = sized (is_too_large s) h
  where
    sized : (b : Bool) → Err e ≡ if_small p b → IsAnswer (Err e) (if b || false then Some (PastLimit p) else first_of (script s) None)
    sized true h = answers e (Some (PastLimit p)) (cc)
    sized false h = absurd (cc)
one-stops p script (Ok false) s e h = answers e (Some (RuleFails p)) (cc)
one-stops p script (Err Limit) s e h = h
one-stops p script (Err Memory) s e h = h

pub one-goes : (answer : Result (Unit {0}) KernelFault) (p : Place) (script : Verdict) (made : Result Bool StepFault) (s : Sequent) → Ok tt ≡ kept_one p made s → IsAnswer answer (script s) → AfterOne answer p script made s
one-goes answer p script (Ok true) s h proved = sized (is_too_large s) h
  where
    sized : (b : Bool) → Ok tt ≡ if_small p b → IsAnswer answer (if b || false then Some (PastLimit p) else first_of (script s) None)
    sized true h = absurd (cc)
    sized false h = subst (λ o. IsAnswer answer o) (sym (last (script s))) proved
one-goes answer p script (Ok false) s h proved = absurd (cc)
one-goes answer p script (Err Limit) s h proved = absurd (cc)
one-goes answer p script (Err Memory) s h proved = absurd (cc)

only-both : (a b : Bool) → (a && (b && true)) ≡ true → (a ≡ true) × (b ≡ true)
only-both true true h = (refl, refl)
only-both true false h = absurd (cc)
only-both false b h = absurd (cc)

only-one : (a : Bool) → (a && true) ≡ true → a ≡ true
only-one true h = refl
only-one false h = absurd (cc)

pub one-goes-clean : (p : Place) (made : Result Bool StepFault) (s : Sequent) → Ok tt ≡ kept_one p made s → IfOk made (λ fine. AllClean (one_if fine s)) → is_clean s ≡ true
one-goes-clean p (Ok true) s h kept = only-one (is_clean s) kept
one-goes-clean p (Ok false) s h kept = absurd (cc)
one-goes-clean p (Err Limit) s h kept = absurd (cc)
one-goes-clean p (Err Memory) s h kept = absurd (cc)

-- a rule with two: it stops before its first sub-script
pub first-stops : {E : Type 0} (p : Place) (script : Verdict) (one : Result (Option Sequent) E) (s : Sequent) (e : KernelFault) → Err e ≡ kept_first p one s → AfterFirst (Err e) p script one s
first-stops p script (Ok (Some t)) s e h = sized (is_too_large t) (is_too_large s) h
  where
    sized : (a b : Bool) → Err e ≡ (if a || b then Err (PastLimit p) else Ok t) → IsAnswer (Err e) (if a || (b || false) then Some (PastLimit p) else first_of (script t) (first_of None None))
    sized true b h = answers e (Some (PastLimit p)) (cc)
    sized false true h = answers e (Some (PastLimit p)) (cc)
    sized false false h = absurd (cc)
first-stops p script (Ok None) s e h = answers e (Some (RuleFails p)) (cc)
first-stops p script (Err x) s e h = let same : e ≡ NoMemory = cc in ap Err same

pub first-goes : {E : Type 0} (answer : Result (Unit {0}) KernelFault) (p : Place) (script : Verdict) (one : Result (Option Sequent) E) (s t : Sequent) → Ok t ≡ kept_first p one s → IsAnswer answer (script t) → AfterFirst answer p script one s
first-goes answer p script (Ok (Some u)) s t h proved = sized (is_too_large u) (is_too_large s) h
  where
    sized : (a b : Bool) → Ok t ≡ (if a || b then Err (PastLimit p) else Ok u) → IsAnswer answer (if a || (b || false) then Some (PastLimit p) else first_of (script u) (first_of None None))
    sized true b h = absurd (cc)
    sized false true h = absurd (cc)
    sized false false h =
        let same : t ≡ u = cc in
        subst (λ o. IsAnswer answer o) (sym (last (script u))) (subst (λ x. IsAnswer answer (script x)) same proved)
first-goes answer p script (Ok None) s t h proved = absurd (cc)
first-goes answer p script (Err x) s t h proved = absurd (cc)

pub first-goes-clean : {E : Type 0} (p : Place) (one : Result (Option Sequent) E) (s t : Sequent) → Ok t ≡ kept_first p one s → IfOk one (λ o. AllClean (two_if o s)) → is_clean t ≡ true
first-goes-clean p (Ok (Some u)) s t h kept = sized (is_too_large u || is_too_large s) h
  where
    sized : (b : Bool) → Ok t ≡ (if b then Err (PastLimit p) else Ok u) → is_clean t ≡ true
    sized true h = absurd (cc)
    sized false h =
        let same : t ≡ u = cc in
        ap is_clean same ∙ (only-both (is_clean u) (is_clean s) kept).0
first-goes-clean p (Ok None) s t h kept = absurd (cc)
first-goes-clean p (Err x) s t h kept = absurd (cc)

-- it stops in its first sub-script
two-stops : {E : Type 0} (p : Place) (first second : Verdict) (one : Result (Option Sequent) E) (s : Sequent) (left : Option (List Sequent)) (e : KernelFault) → IfOk one (λ o. two_if o s ≡ left) → AfterFirst (Err e) p first one s → IsAnswer (Err e) (fault_of p (first ∷ second ∷ []) left)
two-stops p first second (Ok o) s left e step later = subst (λ l. IsAnswer (Err e) (fault_of p (first ∷ second ∷ []) l)) step (stops o later)
  where
    firsts : (o : Option KernelFault) → IsAnswer (Err e) (first_of o (first_of None None)) → IsAnswer (Err e) (first_of o (first_of (second s) None))
    firsts (Some x) h = h
    firsts None h = at-any e (first_of (second s) None) h

    sized : (b : Bool) (t : Sequent) → IsAnswer (Err e) (if b then Some (PastLimit p) else first_of (first t) (first_of None None)) → IsAnswer (Err e) (if b then Some (PastLimit p) else first_of (first t) (first_of (second s) None))
    sized true t h = h
    sized false t h = firsts (first t) h

    stops : (o : Option Sequent) → IsAnswer (Err e) (fault_of p (first ∷ passes ∷ []) (two_if o s)) → IsAnswer (Err e) (fault_of p (first ∷ second ∷ []) (two_if o s))
    stops None h = h
    stops (Some t) h = sized (is_too_large t || (is_too_large s || false)) t h
two-stops p first second (Err x) s left e step later = answers-memory e (fault_of p (first ∷ second ∷ []) left) later
  where
    answers-memory : (e : KernelFault) (o : Option KernelFault) → Err e ≡ memory_refused → IsAnswer (Err e) o
    answers-memory (RuleFails q) o h = absurd (cc)
    answers-memory (PastLimit q) o h = absurd (cc)
    answers-memory NoMemory o h = tt

two-goes : {E : Type 0} (answer : Result (Unit {0}) KernelFault) (p : Place) (first second : Verdict) (one : Result (Option Sequent) E) (s : Sequent) (left : Option (List Sequent)) → IfOk one (λ o. two_if o s ≡ left) → AfterFirst (Ok tt) p first one s → IsAnswer answer (second s) → IsAnswer answer (fault_of p (first ∷ second ∷ []) left)
two-goes answer p first second (Ok o) s left step later proved = subst (λ l. IsAnswer answer (fault_of p (first ∷ second ∷ []) l)) step (goes o later)
  where
    firsts : (o : Option KernelFault) → first_of o (first_of None None) ≡ None → IsAnswer answer (first_of o (first_of (second s) None))
    firsts (Some x) h = absurd (cc)
    firsts None h = subst (λ o. IsAnswer answer o) (sym (last (second s))) proved

    sized : (b : Bool) (t : Sequent) → (if b then Some (PastLimit p) else first_of (first t) (first_of None None)) ≡ None → IsAnswer answer (if b then Some (PastLimit p) else first_of (first t) (first_of (second s) None))
    sized true t h = absurd (cc)
    sized false t h = firsts (first t) h

    goes : (o : Option Sequent) → fault_of p (first ∷ passes ∷ []) (two_if o s) ≡ None → IsAnswer answer (fault_of p (first ∷ second ∷ []) (two_if o s))
    goes None h = absurd (cc)
    goes (Some t) h = sized (is_too_large t || (is_too_large s || false)) t h
two-goes answer p first second (Err x) s left step later proved = absurd (cc)

two-goes-clean : {E : Type 0} (p : Place) (first : Verdict) (one : Result (Option Sequent) E) (s : Sequent) (o : Option (List Sequent)) → IfOk one (λ t. two_if t s ≡ only_clean o) → AfterFirst (Ok tt) p first one s → is_clean s ≡ true
two-goes-clean p first (Ok (Some t)) s o step later =
    let kept : AllClean (Some (t ∷ s ∷ [])) = subst AllClean (sym step) (clean-kept o) in
    (only-both (is_clean t) (is_clean s) kept).1
two-goes-clean p first (Ok None) s o step later = absurd (cc)
two-goes-clean p first (Err x) s o step later = absurd (cc)

pub or-step : {E : Type 0} (step : Result Bool StepFault) (made : Result Bool E) (s : Sequent) (left : Option (List Sequent)) → SameStep step made → IfOk made (λ fine. one_if fine s ≡ left) → IsStep step s left
or-step step (Ok fine) s left same h = subst (λ r. IsStep r s left) (sym same) h
or-step step (Err e) s left same h = subst (λ r. IsStep r s left) (sym same) tt

-- what a step leaves is clean
one-kept : (made : Result Bool StepFault) (s : Sequent) (o : Option (List Sequent)) → IsStep made s (only_clean o) → IfOk made (λ fine. AllClean (one_if fine s))
one-kept (Ok fine) s o step = subst AllClean (sym step) (clean-kept o)
one-kept (Err e) s o step = tt

two-kept : {E : Type 0} (one : Result (Option Sequent) E) (s : Sequent) (o : Option (List Sequent)) → IfOk one (λ t. two_if t s ≡ only_clean o) → IfOk one (λ t. AllClean (two_if t s))
two-kept (Ok t) s o step = subst AllClean (sym step) (clean-kept o)
two-kept (Err e) s o step = tt

-- ---- the arms of a replay, for each rule by what it is

-- a rule with no sub-script
pub no-script : (inst : Instances) (p : Place) (s : Sequent) (r rule : Rule) (test : Bool) (answer : Result (Unit {0}) KernelFault) → r ≡ rule → below inst rule ≡ [] → left_by inst s rule ≡ closes test → IsAnswer answer (fault_of p [] (closes test)) → IsAnswer answer (fault inst r p s)
no-script inst p s r rule test answer is scripts left h =
    subst (λ r. IsAnswer answer (fault inst r p s)) (sym is)
    (subst (λ l. IsAnswer answer (fault_of p l (after inst s rule))) (sym scripts)
    (subst (λ o. IsAnswer answer (fault_of p [] o)) (kept test ∙ ap only_clean (sym left)) h))
  where
    kept : (b : Bool) → closes b ≡ only_clean (closes b)
    kept true = refl
    kept false = refl

abbrev pub says : Instances → Script → Verdict
says inst script = fault inst script.rule script.place

-- a rule with one
pub one-script-clean : (inst : Instances) (s t : Sequent) (rule : Rule) (made : Result Bool StepFault) → IsStep made t (after inst s rule) → IfOk made (λ fine. AllClean (one_if fine t))
one-script-clean inst s t rule made step = one-kept made t (left_by inst s rule) step

pub one-script : (inst : Instances) (p : Place) (s t : Sequent) (r rule : Rule) (script got : Script) (made : Result Bool StepFault) (answer : Result (Unit {0}) KernelFault) → r ≡ rule → below inst rule ≡ says inst script ∷ [] → got ≡ script → IsStep made t (after inst s rule) → AfterOne answer p (says inst got) made t → IsAnswer answer (fault inst r p s)
one-script inst p s t r rule script got made answer is scripts same step h =
    subst (λ r. IsAnswer answer (fault inst r p s)) (sym is)
    (subst (λ l. IsAnswer answer (fault_of p l (after inst s rule))) (sym scripts)
    (one-answer answer p (says inst script) made t (after inst s rule) step
    (subst (λ x. AfterOne answer p (says inst x) made t) same h)))

-- a rule with two, up to its first script and after it
pub two-scripts-clean : {E : Type 0} (inst : Instances) (s t : Sequent) (rule : Rule) (one : Result (Option Sequent) E) → IfOk one (λ o. two_if o t ≡ after inst s rule) → IfOk one (λ o. AllClean (two_if o t))
two-scripts-clean inst s t rule one step = two-kept one t (left_by inst s rule) step

pub two-scripts-go-clean : {E : Type 0} (inst : Instances) (p : Place) (s t : Sequent) (rule : Rule) (got : Script) (one : Result (Option Sequent) E) (begun : Result (Unit {0}) KernelFault) → IfOk one (λ o. two_if o t ≡ after inst s rule) → begun ≡ Ok tt → AfterFirst begun p (says inst got) one t → is_clean t ≡ true
two-scripts-go-clean inst p s t rule got one begun step fine h =
    two-goes-clean p (says inst got) one t (left_by inst s rule) step (subst (λ a. AfterFirst a p (says inst got) one t) fine h)

pub two-scripts-stop : {E : Type 0} (inst : Instances) (p : Place) (s t : Sequent) (r rule : Rule) (first second got : Script) (one : Result (Option Sequent) E) (begun : Result (Unit {0}) KernelFault) (e : KernelFault) → r ≡ rule → below inst rule ≡ says inst first ∷ says inst second ∷ [] → got ≡ first → IfOk one (λ o. two_if o t ≡ after inst s rule) → begun ≡ Err e → AfterFirst begun p (says inst got) one t → IsAnswer (Err e) (fault inst r p s)
two-scripts-stop inst p s t r rule first second got one begun e is scripts same step wrong h =
    subst (λ r. IsAnswer (Err e) (fault inst r p s)) (sym is)
    (subst (λ l. IsAnswer (Err e) (fault_of p l (after inst s rule))) (sym scripts)
    (two-stops p (says inst first) (says inst second) one t (after inst s rule) e step
    (subst (λ x. AfterFirst (Err e) p (says inst x) one t) same (subst (λ a. AfterFirst a p (says inst got) one t) wrong h))))

pub two-scripts-go : {E : Type 0} (inst : Instances) (p : Place) (s t : Sequent) (r rule : Rule) (first second got next : Script) (one : Result (Option Sequent) E) (begun answer : Result (Unit {0}) KernelFault) → r ≡ rule → below inst rule ≡ says inst first ∷ says inst second ∷ [] → got ≡ first → next ≡ second → IfOk one (λ o. two_if o t ≡ after inst s rule) → begun ≡ Ok tt → AfterFirst begun p (says inst got) one t → IsAnswer answer (says inst next t) → IsAnswer answer (fault inst r p s)
two-scripts-go inst p s t r rule first second got next one begun answer is scripts same last_same step fine h proved =
    subst (λ r. IsAnswer answer (fault inst r p s)) (sym is)
    (subst (λ l. IsAnswer answer (fault_of p l (after inst s rule))) (sym scripts)
    (two-goes answer p (says inst first) (says inst second) one t (after inst s rule) step
    (subst (λ x. AfterFirst (Ok tt) p (says inst x) one t) same (subst (λ a. AfterFirst a p (says inst got) one t) fine h))
    (subst (λ x. IsAnswer answer (says inst x t)) last_same proved)))
