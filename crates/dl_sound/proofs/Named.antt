-- What the names of a frame stand for: numbers of their sorts, of which the locals alone change.
use Rattle.std.proofs.Common.{◌≡◌, ℕ, ◌<◌, ◌==◌, ℤ, pos, true, false, None, List, [], ◌∷◌, refl, ap, sym, ◌∙◌, subst, cond, eq-eqb, inl, inr}
use Rattle.std.proofs.lemmas.Bool.{cases_eq, eqb-false}
use Rattle.dl_term.specs.declared.syntax.Sort.{Sort}
use Rattle.dl_term.specs.Names.{Names, no_names, with_number}
use Rattle.dl_model.specs.Sorts.{in_sort, all_in_sorts, is_i64, all_i64, has}
use Rattle.dl_model.specs.Lookup.{arg_sorts, arg_names, proc_at}
use Rattle.std.specs.List.{AllByRecursion as Each}
use Rattle.dl_model.specs.Words.{with_numbers, me_word, me_names}
use Rattle.dl_model.specs.Machine.{entry_names}
use Rattle.dl_sound.proofs.Needed.{IsLocal, IsNotLocal, IsParameter, ProcNeeds}
use Rattle.dl_sound.specs.Obligations.{NamesAreSorted}
use Rattle.dl_model.specs.declared.file.Decls.{Decls}
use Rattle.dl_model.specs.declared.program.Proc.{Proc}
use Rattle.dl_model.specs.Formed.{AreDistinct}
use Rattle.dl_model.proofs.Small.{and-left, and-right, or-left, or-right, or-both, each-map, each-zip, eqb-other}

-- ---- tests

pub local-or-not : (xs : List ℕ) (x y : ℕ) → has xs x ≡ false → has xs y ≡ true → x ≡ y → ⊥
local-or-not xs x y h k e = cc (ap (has xs) e)

-- ---- one more name

pub number-other : (names : Names) (x y : ℕ) (v : ℤ) → (x ≡ y → ⊥) → (with_number names y v).number x ≡ names.number x
number-other names x y v h = ap (λ b. cond b v (names.number x)) (eqb-other x y h)

pub number-same : (names : Names) (x y : ℕ) (v : ℤ) → x ≡ y → (with_number names y v).number x ≡ v
number-same names x y v e = ap (λ b. cond b v (names.number x)) (eq-eqb x y e)

-- the names stand for numbers alone
pub record ArePlain (names : Names) : Type 0 where
  pub messages : (m : ℕ) → names.message m ≡ None
  pub own : names.own ≡ 0

pub plain-with : (names : Names) (y : ℕ) (v : ℤ) → ArePlain names → ArePlain (with_number names y v)
plain-with names y v h = record { messages = h.messages; own = h.own }

pub record NamesAreFine (d : Decls) (proc node : ℕ) (values : List ℤ) (names : Names) : Type 0 where
  pub sorted : NamesAreSorted d proc node names
  pub plain : ArePlain names
  pub given : (x : ℕ) → IsNotLocal d proc x → names.number x ≡ (entry_names (proc_at d.procs proc) (pos node) values).number x

-- a name that is no local, no parameter and not `me`
pub sorted-beside : (d : Decls) (proc node : ℕ) (names : Names) (y : ℕ) (v : ℤ) → ProcNeeds d proc → NamesAreSorted d proc node names → (me_word ≡ y → ⊥) → IsNotLocal d proc y →
    ((x : ℕ) → IsParameter d proc x → x ≡ y → ⊥) → NamesAreSorted d proc node (with_number names y v)
sorted-beside d proc node names y v f h m l p = record {
  known = h.known;
  me = (number-other names me_word y v m) ∙ h.me;
  params = each-zip _ _ _ (proc_at d.procs proc).params f.params h.params (λ a q r. subst (λ o. in_sort a.1 o ≡ true) (sym (number-other names a.0 y v (p a.0 q))) r);
  locals = λ x q. subst (λ o. is_i64 o ≡ true) (sym (number-other names x y v (λ e. local-or-not (proc_at d.procs proc).locals y x l q (sym e)))) (h.locals x q);
}

local-with : (d : Decls) (proc node : ℕ) (names : Names) (y : ℕ) (v : ℤ) → NamesAreSorted d proc node names → is_i64 v ≡ true → (x : ℕ) → IsLocal d proc x → is_i64 ((with_number names y v).number x) ≡ true
local-with d proc node names y v h i x l = elim (cases_eq x y) [
  | inl e ↦ subst (λ o. is_i64 o ≡ true) (sym (number-same names x y v e)) i
  | inr n ↦ subst (λ o. is_i64 o ≡ true) (sym (number-other names x y v n)) (h.locals x l)
]

pub sorted-with : (d : Decls) (proc node : ℕ) (names : Names) (y : ℕ) (v : ℤ) → ProcNeeds d proc → IsLocal d proc y → is_i64 v ≡ true → NamesAreSorted d proc node names → NamesAreSorted d proc node (with_number names y v)
sorted-with d proc node names y v f l i h = record {
  known = h.known;
  me = (number-other names me_word y v (local-or-not (proc_at d.procs proc).locals me_word y f.me l)) ∙ h.me;
  params = each-zip _ _ _ (proc_at d.procs proc).params f.params h.params
      (λ a q r. subst (λ o. in_sort a.1 o ≡ true) (sym (number-other names a.0 y v (local-or-not (proc_at d.procs proc).locals a.0 y q.0 l))) r);
  locals = local-with d proc node names y v h i;
}

pub fine-with : (d : Decls) (proc node : ℕ) (values : List ℤ) (names : Names) (y : ℕ) (v : ℤ) → ProcNeeds d proc → IsLocal d proc y → is_i64 v ≡ true →
    NamesAreFine d proc node values names → NamesAreFine d proc node values (with_number names y v)
fine-with d proc node values names y v f l i h = record {
  sorted = sorted-with d proc node names y v f l i h.sorted;
  plain = plain-with names y v h.plain;
  given = λ x n. number-other names x y v (local-or-not (proc_at d.procs proc).locals x y n l) ∙ h.given x n;
}

pub fine-with-numbers : (d : Decls) (proc node : ℕ) (values : List ℤ) (names : Names) (ys : List ℕ) (vs : List ℤ) → ProcNeeds d proc → Each (IsLocal d proc) ys → all_i64 vs ≡ true →
    NamesAreFine d proc node values names → NamesAreFine d proc node values (with_numbers names ys vs)
fine-with-numbers d proc node values names [] vs f l i h = h
fine-with-numbers d proc node values names (y ∷ ys) [] f l i h = h
fine-with-numbers d proc node values names (y ∷ ys) (v ∷ vs) f l i h =
    fine-with-numbers d proc node values (with_number names y v) ys vs f l.1 (and-right (is_i64 v) (all_i64 vs) i) (fine-with d proc node values names y v f l.0 (and-left (is_i64 v) (all_i64 vs) i) h)

-- ---- names at entry

number-rest : (names : Names) (ys : List ℕ) (vs : List ℤ) (x : ℕ) → has ys x ≡ false → (with_numbers names ys vs).number x ≡ names.number x
number-rest names [] vs x h = refl
number-rest names (y ∷ ys) [] x h = refl
number-rest names (y ∷ ys) (v ∷ vs) x h =
    number-rest (with_number names y v) ys vs x (or-right (x == y) (has ys x) h) ∙ number-other names x y v (eqb-false x y (or-left (x == y) (has ys x) h))

plain-rest : (names : Names) (ys : List ℕ) (vs : List ℤ) → ArePlain names → ArePlain (with_numbers names ys vs)
plain-rest names [] vs h = h
plain-rest names (y ∷ ys) [] h = h
plain-rest names (y ∷ ys) (v ∷ vs) h = plain-rest (with_number names y v) ys vs (plain-with names y v h)

not-among : (params : List (record { 0 : ℕ; 1 : Sort })) (x : ℕ) → Each (λ a. a.0 ≡ x → ⊥) params → has (arg_names params) x ≡ false
not-among [] x h = refl
not-among (a ∷ params) x h = or-both (x == a.0) (has (arg_names params) x) (eqb-other x a.0 (λ e. h.0 (sym e))) (not-among params x h.1)

params-fit : (names : Names) (params : List (record { 0 : ℕ; 1 : Sort })) (vs : List ℤ) → AreDistinct (arg_names params) → all_in_sorts (arg_sorts params) vs ≡ true →
    Each (λ a. in_sort a.1 ((with_numbers names (arg_names params) vs).number a.0) ≡ true) params
params-fit names [] vs h k = tt
params-fit names (a ∷ params) [] h k = cc
params-fit names (a ∷ params) (v ∷ vs) h k = (
  subst (λ o. in_sort a.1 o ≡ true)
      (sym (number-rest (with_number names a.0 v) (arg_names params) vs a.0 h.0 ∙ number-same names a.0 a.0 v refl))
      (and-left (in_sort a.1 v) (all_in_sorts (arg_sorts params) vs) k),
  params-fit (with_number names a.0 v) params vs h.1 (and-right (in_sort a.1 v) (all_in_sorts (arg_sorts params) vs) k),
)

plain-me : (v : ℤ) → ArePlain (with_number (no_names 0) me_word v)
plain-me v = record { messages = λ m. refl; own = refl }

pub plain-entry : (proc : Proc) (node : ℤ) (values : List ℤ) → ArePlain (entry_names proc node values)
plain-entry proc node values = plain-rest (me_names 0 node) (arg_names proc.params) values (plain-me node)

pub fine-entry : (d : Decls) (proc node : ℕ) (values : List ℤ) → ProcNeeds d proc → node < d.inst.nodes → all_in_sorts (arg_sorts (proc_at d.procs proc).params) values ≡ true →
    NamesAreFine d proc node values (entry_names (proc_at d.procs proc) (pos node) values)
fine-entry d proc node values f k h = record {
  sorted = record {
    known = k;
    me = (number-rest (with_number (no_names 0) me_word (pos node)) (arg_names (proc_at d.procs proc).params) values me_word
        (not-among (proc_at d.procs proc).params me_word (each-map _ _ (proc_at d.procs proc).params f.params (λ a q. q.1))));
    params = params-fit (with_number (no_names 0) me_word (pos node)) (proc_at d.procs proc).params values f.distinct h;
    locals = λ x l. subst (λ o. is_i64 o ≡ true)
        (sym (number-rest (with_number (no_names 0) me_word (pos node)) (arg_names (proc_at d.procs proc).params) values x
        (not-among (proc_at d.procs proc).params x (each-map _ _ (proc_at d.procs proc).params f.params (λ a q. local-or-not (proc_at d.procs proc).locals a.0 x q.0 l)))
        ∙ number-other (no_names 0) x me_word (pos node) (λ e. local-or-not (proc_at d.procs proc).locals me_word x f.me l (sym e))))
        refl;
  };
  plain = plain-entry (proc_at d.procs proc) (pos node) values;
  given = λ x n. refl;
}
