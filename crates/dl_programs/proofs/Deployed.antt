-- The precondition of a deployed procedure holds at first, by the valid obligation of its node.
use Rattle.std.proofs.Common.{◌≡◌, ℕ, ◌<◌, ℤ, pos, Bool, true, false, not, ◌||◌, ◌==◌, if◌then◌else◌, Option, Some, None, unwrap_or, List, [], ◌∷◌, map, refl, ap, sym, subst, ◌∙◌, arith}
use Rattle.std.proofs.lemmas.Bool.{eqb-true, false≢true}
use Rattle.std.specs.Prelude.{is_some, nat_le}
use Rattle.std.specs.List.{AllByRecursion as Each, AllZip}
use Rattle.dl_term.specs.declared.syntax.Lab.{Lab}
use Rattle.dl_term.specs.declared.syntax.Lab.TheVariants.{Own, At}
use Rattle.dl_term.specs.declared.syntax.Term.{Term, Num, Word, Var, Field', Row', Len, Msg, Add', Sub', Mul', If', more_of-Term as one, end_of-Term as end}
use Rattle.dl_term.specs.declared.syntax.Formula.{Formula, True, False, Eq, Lt, Le, Not', And', Or', Implies', All', Exists', Each', Any', more_of-Formula as one_formula, end_of-Formula as end_formula}
use Rattle.dl_term.specs.Syntax.{opened}
use Rattle.dl_term.specs.State.{State}
use Rattle.dl_term.specs.Names.{Names, no_names}
use Rattle.dl_term.specs.Meaning.{value, holds}
use Rattle.dl_term.specs.Measures.{has_variable, has_message}
use Rattle.dl_model.specs.declared.protocol.Instances.{Instances}
use Rattle.dl_model.specs.declared.program.Proc.{Proc}
use Rattle.dl_model.specs.declared.file.Program.{Program}
use Rattle.dl_model.specs.declared.file.Deploy.{Deploy}
use Rattle.dl_model.specs.declared.file.Decls.{Decls}
use Rattle.dl_model.specs.Sorts.{all_in_sorts, has, IsSort, in_sort, is_i64}
use Rattle.dl_model.specs.Lookup.{Parameter, arg_names, arg_sorts, proc_at, deploy_of, program_in, program_of}
use Rattle.dl_model.specs.Words.{me_word, first_name}
use Rattle.dl_model.specs.States.{first_state}
use Rattle.dl_model.specs.Machine.{entry_names}
use Rattle.dl_model.specs.Scopes.{Scope, file_label, is_field, is_tag, is_fresh, TermIsKnown, FormulaIsKnown}
use Rattle.dl_model.specs.Spoken.{bound_names}
use Rattle.dl_model.specs.Formed.{ProgramIsFormed, DeployIsFormed, IsFormed, ProcIsFormed}
use Rattle.dl_model.specs.Sequents.{IsValid}
use Rattle.dl_model.proofs.Small.{and-left, and-right, and-both, or-left, or-right, or-both, some-same}
use Rattle.dl_model.proofs.Sorted.{first-sorted}
use Rattle.dl_sequent.specs.declared.duty.Duty.TheVariants as duty
use Rattle.dl_subst.specs.Change.{changed_term}
use Rattle.dl_subst.specs.Substitution.{term_for, for_variables, label_put, terms_put}
use Rattle.dl_wp.specs.Conditions.{TermFits}
use Rattle.dl_wp.proofs.Model.{zip-covers, length-map}
use Rattle.dl_wp.proofs.FirstLaw.{first-holds}
use Rattle.dl_inv.proofs.Lists.{true-false, not-true}
use Rattle.dl_sound.proofs.Numbers.{int-of_sort, int-of_nat}
use Rattle.dl_sound.proofs.Scoped.{no-variable, no-message}
use Rattle.dl_sound.proofs.StepNames.{sorts-length}
use Rattle.dl_triples.specs.Obligations.{put, deploy_sequent}
use Rattle.dl_triples.specs.Taken.{IsMet}
use Rattle.dl_programs.proofs.Known.{file_scope, file-about, binds-none}
use Rattle.dl_programs.proofs.Put.{put-numbers, put-same}
use Rattle.dl_programs.proofs.Pure.{bare, term-wide}
use Rattle.dl_programs.proofs.About.{about-put}
use Rattle.dl_programs.proofs.Calls.{proc-there}
use Rattle.dl_triples.specs.Duties.{duties_of_deployment}

-- ---- a formula with constants put for all its variables has none

not-false : (b : Bool) → not b ≡ true → b ≡ false
not-false true e = cc
not-false false e = refl

not-of : (b : Bool) → b ≡ false → not b ≡ true
not-of true e = cc
not-of false e = refl

module _ (inst : Instances) (xs : List ℕ) (terms : List Term) (constants : Each (TermIsKnown (bare [])) terms) where
  abbrev scope_with : List ℕ → List ℕ → Scope
  scope_with variables messages = record { protocol = file_label inst; variables = variables; messages = messages }

  -- what is not put is among the others, and these are among the variables
  record Puts (variables others : List ℕ) : Type 0 where
    stay : (z : ℕ) → has variables z ≡ true → has xs z ≡ false → has others z ≡ true
    within : (z : ℕ) → has others z ≡ true → has variables z ≡ true

  puts-under : (y : ℕ) (variables others : List ℕ) → Puts variables others → Puts (y ∷ variables) (y ∷ others)
  puts-under y variables others m = record { stay = λ z there lack. at (z == y) z there lack; within = λ z there. back (z == y) z there }
    where
      at : (b : Bool) (z : ℕ) → (b || has variables z) ≡ true → has xs z ≡ false → (b || has others z) ≡ true
      at true z there lack = refl
      at false z there lack = m.stay z there lack

      back : (b : Bool) (z : ℕ) → (b || has others z) ≡ true → (b || has variables z) ≡ true
      back true z there = refl
      back false z there = m.within z there

  choose : (scope : Scope) (b : Bool) (s t : Term) → TermIsKnown scope s → TermIsKnown scope t → TermIsKnown scope (if b then s else t)
  choose scope true s t h k = h
  choose scope false s t h k = k

  found : (scope : Scope) (old : Term) (ys : List ℕ) (ts : List Term) (z : ℕ) → TermIsKnown scope old → Each (TermIsKnown (bare [])) ts → TermIsKnown scope (term_for old ys ts z)
  found scope old [] ts z h k = h
  found scope old (y ∷ ys) [] z h k = h
  found scope old (y ∷ ys) (t ∷ ts) z h k = found scope (if z == y then t else old) ys ts z (choose scope (z == y) t old (term-wide t [] scope k.0 (λ x e. absurd (false≢true e))) h) k.1

  variable-put : (b : Bool) (z : ℕ) (variables others messages : List ℕ) → has xs z ≡ b → has variables z ≡ true → Puts variables others → TermIsKnown (scope_with others messages) (unwrap_or (if b then Some (term_for (Num (pos 0)) xs terms z) else None) (Var z))
  variable-put true z variables others messages e h m = found (scope_with others messages) (Num (pos 0)) xs terms z refl constants
  variable-put false z variables others messages e h m = m.stay z h e

  label-known : (l : Lab) (P : Lab → Type 0) → P l → P (label_put Own l)
  label-known Own P h = h
  label-known (At l) P h = h

  term-put : (t : Term) (variables others messages : List ℕ) → TermIsKnown (scope_with variables messages) t → Puts variables others → TermIsKnown (scope_with others messages) (changed_term (for_variables xs terms Own) t)
  unfolding opened
  term-put (Num v) variables others messages h m = h
  term-put (Word s v) variables others messages h m = h
  term-put (Var z) variables others messages h m = variable-put (has xs z) z variables others messages refl h m
  term-put (Field' l f _ (one node end)) variables others messages h m = (label-known l (λ k. is_field (file_label inst k) f false ≡ true) h.0, term-put node variables others messages h.1 m)
  term-put (Row' l f _ (one node end) _ (one index end)) variables others messages h m =
      (label-known l (λ k. is_field (file_label inst k) f true ≡ true) h.0, term-put node variables others messages h.1 m, term-put index variables others messages h.2 m)
  term-put (Len l) variables others messages h m = label-known l (λ k. is_some (file_label inst k) ≡ true) h
  term-put (Msg k part) variables others messages h m = h
  term-put (Add' _ (one a end) _ (one b end)) variables others messages h m = (term-put a variables others messages h.0 m, term-put b variables others messages h.1 m)
  term-put (Sub' _ (one a end) _ (one b end)) variables others messages h m = (term-put a variables others messages h.0 m, term-put b variables others messages h.1 m)
  term-put (Mul' _ (one a end) _ (one b end)) variables others messages h m = (term-put a variables others messages h.0 m, term-put b variables others messages h.1 m)
  term-put (If' _ (one a end) _ (one b end) _ (one c end) _ (one e end)) variables others messages h m =
      (term-put a variables others messages h.0 m, term-put b variables others messages h.1 m, term-put c variables others messages h.2 m, term-put e variables others messages h.3 m)

  -- a binder stays fresh among fewer variables
  fresh-among : (variables others messages : List ℕ) (y : ℕ) → is_fresh (scope_with variables messages) y ≡ true → Puts variables others → is_fresh (scope_with others messages) y ≡ true
  fresh-among variables others messages y h m =
      let lack = not-false (has variables y || has messages y) (and-right (nat_le first_name y) (not (has variables y || has messages y)) h) in
      and-both (nat_le first_name y) (not (has others y || has messages y)) (and-left (nat_le first_name y) (not (has variables y || has messages y)) h)
      (not-of (has others y || has messages y) (or-both (has others y) (has messages y)
      (not-true (has others y) (λ there. true-false (has variables y) (m.within y there) (or-left (has variables y) (has messages y) lack))) (or-right (has variables y) (has messages y) lack)))

  known-put : (f : Formula) (variables others messages : List ℕ) → FormulaIsKnown (scope_with variables messages) f → Puts variables others → FormulaIsKnown (scope_with others messages) (terms_put f xs terms Own)
  unfolding opened
  known-put True variables others messages h m = tt
  known-put False variables others messages h m = tt
  known-put (Eq s t) variables others messages h m = (term-put s variables others messages h.0 m, term-put t variables others messages h.1 m)
  known-put (Lt s t) variables others messages h m = (term-put s variables others messages h.0 m, term-put t variables others messages h.1 m)
  known-put (Le s t) variables others messages h m = (term-put s variables others messages h.0 m, term-put t variables others messages h.1 m)
  known-put (Not' _ (one_formula f end_formula)) variables others messages h m = known-put f variables others messages h m
  known-put (And' _ (one_formula f end_formula) _ (one_formula g end_formula)) variables others messages h m = (known-put f variables others messages h.0 m, known-put g variables others messages h.1 m)
  known-put (Or' _ (one_formula f end_formula) _ (one_formula g end_formula)) variables others messages h m = (known-put f variables others messages h.0 m, known-put g variables others messages h.1 m)
  known-put (Implies' _ (one_formula f end_formula) _ (one_formula g end_formula)) variables others messages h m = (known-put f variables others messages h.0 m, known-put g variables others messages h.1 m)
  known-put (All' y _ (one_formula f end_formula)) variables others messages h m = (fresh-among variables others messages y h.0 m, known-put f (y ∷ variables) (y ∷ others) messages h.1 (puts-under y variables others m))
  known-put (Exists' y _ (one_formula f end_formula)) variables others messages h m = (fresh-among variables others messages y h.0 m, known-put f (y ∷ variables) (y ∷ others) messages h.1 (puts-under y variables others m))
  known-put (Each' k label tag _ (one_formula f end_formula)) variables others messages h m =
      (fresh-among variables others messages k h.0 m, label-known label (λ l. is_tag (file_label inst l) tag ≡ true) h.1, known-put f variables others (k ∷ messages) h.2 m)
  known-put (Any' k label tag _ (one_formula f end_formula)) variables others messages h m =
      (fresh-among variables others messages k h.0 m, label-known label (λ l. is_tag (file_label inst l) tag ≡ true) h.1, known-put f variables others (k ∷ messages) h.2 m)

  pub closed-put : (f : Formula) → FormulaIsKnown (file_scope inst xs) f → FormulaIsKnown (file_scope inst []) (terms_put f xs terms Own)
  closed-put f h = known-put f xs [] [] h (record { stay = λ z there lack. absurd (true-false (has xs z) there lack); within = λ z there. absurd (false≢true there) })

-- ---- constants

-- a fact of each number as a term
each-number : (P : Term → Type 0) (vs : List ℤ) → ((v : ℤ) → P (Num v)) → Each P (map (λ v. Num v) vs)
each-number P [] h = tt
each-number P (v ∷ vs) h = (h v, each-number P vs h)

numbers-zip : (vs : List ℤ) (n : Names) (state : State) → AllZip (λ t v. value t n state ≡ v) (map (λ v. Num v) vs) vs
numbers-zip [] n state = tt
numbers-zip (v ∷ vs) n state = (refl, numbers-zip vs n state)

-- a number of a sort is one of i64
pub constants-known : (params : List Parameter) (vs : List ℤ) → Each IsSort (arg_sorts params) → all_in_sorts (arg_sorts params) vs ≡ true → Each (TermIsKnown (bare [])) (map (λ v. Num v) vs)
constants-known [] [] s h = tt
constants-known [] (v ∷ vs) s h = absurd (false≢true h)
constants-known (p ∷ ps) [] s h = absurd (false≢true h)
constants-known (p ∷ ps) (v ∷ vs) s h = (
  int-of_sort p.1 v s.0 (and-left _ _ h),
  constants-known ps vs s.1 (and-right (in_sort p.1 v) _ h),
)

-- ---- the deployment

program-found : (d : Decls) (ps : List Program) (node : ℕ) (p : Program) → Each (ProgramIsFormed d) ps → Each (IsMet d) (map (λ (q : Program). duty.Deploy q.node) ps) → program_in ps node ≡ Some p → (node ≡ p.node) × ProgramIsFormed d p × IsMet d (duty.Deploy node)
program-found d [] node p h met e = cc
program-found d (q ∷ ps) node p h met e = go (node == q.node) refl (program-found d ps node p h.1 met.1)
  where
    go : (b : Bool) → (node == q.node) ≡ b → (program_in ps node ≡ Some p → (node ≡ p.node) × ProgramIsFormed d p × IsMet d (duty.Deploy node)) → (node ≡ p.node) × ProgramIsFormed d p × IsMet d (duty.Deploy node)
    go true t more =
        let same : q ≡ p = some-same q p (sym (ap (λ b. if b then Some q else program_in ps node) t) ∙ e) in
        (eqb-true node q.node t ∙ ap (λ (r : Program). r.node) same, subst (ProgramIsFormed d) same h.0, subst (λ m. IsMet d (duty.Deploy m)) (sym (eqb-true node q.node t)) met.0)
    go false t more = more (sym (ap (λ b. if b then Some q else program_in ps node) t) ∙ e)

programs-formed : (d : Decls) (o : Option Deploy) → DeployIsFormed d o → Each (ProgramIsFormed d) (unwrap_or o (record { world = 0; programs = [] })).programs
programs-formed d None h = tt
programs-formed d (Some deploy) h = h.1

-- a node is a number of i64
pub node-fits : (d : Decls) → IsFormed d → (node : ℕ) → node < d.inst.nodes → is_i64 (pos node) ≡ true
node-fits d formed node known = let few = formed.small.nodes in int-of_nat node (omega (known, few, arith))

module _ (d : Decls) (formed : IsFormed d) (node : ℕ) (program : Program) (is_formed : ProgramIsFormed d program) where
  abbrev proc : Proc
  proc = proc_at d.procs program.proc

  abbrev xs : List ℕ
  xs = me_word ∷ arg_names proc.params

  abbrev terms : List Term
  terms = Num (pos node) ∷ map (λ v. Num v) program.constants

  proc-formed : ProcIsFormed d program.proc proc
  proc-formed = formed.procs program.proc proc (proc-there d.procs program.proc is_formed.proc)

  pub deploy-holds : node < d.inst.nodes → IsValid d.inst (deploy_sequent d node (Some program)) → holds proc.pre (entry_names proc (pos node) program.constants) (first_state d.inst) ≡ true
  deploy-holds known valid =
      let first = first_state d.inst in
      let closed = closed-put d.inst xs terms (node-fits d formed node known, constants-known proc.params program.constants proc-formed.params.1 is_formed.constants) proc.pre proc-formed.pre.0 in
      sym (put-same d.inst xs proc.pre proc-formed.pre.0 first xs terms (no_names 0) (entry_names proc (pos node) program.constants)
      (λ y bound. record {
        other = not-true (has xs y) (λ mine. true-false (has (bound_names proc.pre) y) bound (binds-none proc.pre (file_scope d.inst xs) y proc-formed.pre.0 mine));
        variable = (refl, each-number (λ t. has_variable t y ≡ false) program.constants (λ v. refl));
        message = (refl, each-number (λ t. has_message t y ≡ false) program.constants (λ v. refl));
      })
      (λ z mine. put-numbers (no_names 0) first xs terms (pos node ∷ program.constants) (no_names 0) z (zip-covers (no_names 0) first xs terms (pos node ∷ program.constants) (refl, numbers-zip program.constants (no_names 0) first))
      (let e = length-map (λ (p : Parameter). p.0) proc.params in let f = length-map (λ (p : Parameter). p.1) proc.params in let g = sorts-length (arg_sorts proc.params) program.constants is_formed.constants in omega (e, f, g, arith))
      (λ lack. refl)))
      ∙ sym (first-holds d.inst None (put proc.pre xs terms) (no_names 0) first formed.inst refl tt
      (about-put d.inst xs terms (λ bound. (tt, each-number (TermFits (file_label d.inst) bound) program.constants (λ v. tt))) proc.pre (file-about d.inst xs proc.pre proc-formed.pre.0))
      (λ x. (no-variable (file_label d.inst) (put proc.pre xs terms) closed x, no-message (file_label d.inst) (put proc.pre xs terms) closed x)))
      ∙ valid 0 first (no_names 0) (first-sorted d.inst formed.inst) (record { own_label = refl; variables = tt; messages = tt }) tt

pub deployed-means : (d : Decls) → IsFormed d → Each (IsMet d) (duties_of_deployment d) → (node : ℕ) (program : Program) → program_of d node ≡ Some program
    → holds (proc_at d.procs program.proc).pre (entry_names (proc_at d.procs program.proc) (pos node) program.constants) (first_state d.inst) ≡ true
deployed-means d formed met node program e =
    let found = program-found d (deploy_of d).programs node program (programs-formed d d.deploy formed.deploy) met e in
    deploy-holds d formed node program found.1 (subst (λ n. n < d.inst.nodes) (sym found.0) found.1.node)
    (subst (λ o. IsValid d.inst (deploy_sequent d node o)) e found.2.2)
