-- Formulas that tell their names apart still do so among one more new name, and with terms whose names are known.
use Rattle.std.proofs.Common.{◌≡◌, ℕ, Bool, true, false, not, ◌&&◌, ◌||◌, ◌==◌, if◌then◌else◌, List, [], ◌∷◌, ◌++◌, map, Option, Some, None, unwrap_or, refl, sym, ◌∙◌, ap, subst, eq-eqb, eqb-true, arith}
use Rattle.dl_term.specs.declared.syntax.Term.{Term, Num, Word, Var, Field', Row', Len, Msg, Add', Sub', Mul', If', more_of-Term as one, end_of-Term as end}
use Rattle.dl_term.specs.declared.syntax.Part.{Part}
use Rattle.dl_term.specs.declared.syntax.Formula.{Formula, True, False, Eq, Lt, Le, Not', And', Or', Implies', All', Exists', Each', Any', more_of-Formula as one_formula, end_of-Formula as end_formula}
use Rattle.dl_term.specs.Syntax.{opened}
use Rattle.dl_term.specs.Measures.{has_variable, has_message, is_free_variable, is_free_message}
use Rattle.dl_model.specs.Sorts.{has}
use Rattle.dl_model.specs.Spoken.{bound_names}
use Rattle.dl_subst.specs.Change.{Change, inside, changed_term, changed}
use Rattle.dl_sequent.specs.Clean.{knows, is_unknown, is_told_apart}
use Rattle.dl_kernel.proofs.CleanLemmas.{has-both}

pub left : (a b : Bool) → (a && b) ≡ true → a ≡ true
left true b h = refl
left false b h = cc

pub right : (a b : Bool) → (a && b) ≡ true → b ≡ true
right true b h = h
right false b h = cc

pub both : (a b : Bool) → a ≡ true → b ≡ true → (a && b) ≡ true
both true true p q = refl
both true false p q = q
both false b p q = p

or-first : (a b : Bool) → (a || b) ≡ false → a ≡ false
or-first true b h = cc
or-first false b h = refl

or-next : (a b : Bool) → (a || b) ≡ false → b ≡ false
or-next true b h = cc
or-next false b h = h

-- ---- one more name, which a formula doesn't mention

-- the same names are known, but for x
pub record SameBut (x : ℕ) (V M W N : List ℕ) : Type 0 where
  pub variables : (z : ℕ) → (z == x) ≡ false → has V z ≡ has W z
  pub messages : (z : ℕ) → (z == x) ≡ false → has M z ≡ has N z

more-variable : (x y : ℕ) (V M W N : List ℕ) → SameBut x V M W N → SameBut x (y ∷ V) M (y ∷ W) N
more-variable x y V M W N h = record { variables = λ z e. ap (λ b. (z == y) || b) (h.variables z e); messages = h.messages }

more-message : (x y : ℕ) (V M W N : List ℕ) → SameBut x V M W N → SameBut x V (y ∷ M) W (y ∷ N)
more-message x y V M W N h = record { variables = h.variables; messages = λ z e. ap (λ b. (z == y) || b) (h.messages z e) }

knows-same : (t : Term) (x : ℕ) (V M W N : List ℕ) → SameBut x V M W N → has_variable t x ≡ false → has_message t x ≡ false → knows V M t ≡ knows W N t
knows-same (Num v) x V M W N h p q = refl
knows-same (Word sym v) x V M W N h p q = refl
knows-same (Var sym) x V M W N h p q = h.variables sym p
knows-same (Field' label field _ (one node end)) x V M W N h p q = knows-same node x V M W N h p q
knows-same (Row' label field _ (one node end) _ (one index end)) x V M W N h p q =
    let a = knows-same node x V M W N h (or-first _ _ p) (or-first _ _ q) in
    let b = knows-same index x V M W N h (or-next _ _ p) (or-next _ _ q) in
    λ i. a i && b i
knows-same (Len label) x V M W N h p q = refl
knows-same (Msg msg part) x V M W N h p q = h.messages msg q
knows-same (Add' _ (one s end) _ (one t end)) x V M W N h p q =
    let a = knows-same s x V M W N h (or-first _ _ p) (or-first _ _ q) in
    let b = knows-same t x V M W N h (or-next _ _ p) (or-next _ _ q) in
    λ i. a i && b i
knows-same (Sub' _ (one s end) _ (one t end)) x V M W N h p q =
    let a = knows-same s x V M W N h (or-first _ _ p) (or-first _ _ q) in
    let b = knows-same t x V M W N h (or-next _ _ p) (or-next _ _ q) in
    λ i. a i && b i
knows-same (Mul' _ (one s end) _ (one t end)) x V M W N h p q =
    let a = knows-same s x V M W N h (or-first _ _ p) (or-first _ _ q) in
    let b = knows-same t x V M W N h (or-next _ _ p) (or-next _ _ q) in
    λ i. a i && b i
knows-same (If' _ (one s end) _ (one t end) _ (one u end) _ (one v end)) x V M W N h p q =
    let p1 = or-first (has_variable s x || has_variable t x) (has_variable u x || has_variable v x) p in
    let p2 = or-next (has_variable s x || has_variable t x) (has_variable u x || has_variable v x) p in
    let q1 = or-first (has_message s x || has_message t x) (has_message u x || has_message v x) q in
    let q2 = or-next (has_message s x || has_message t x) (has_message u x || has_message v x) q in
    let a = knows-same s x V M W N h (or-first _ _ p1) (or-first _ _ q1) in
    let b = knows-same t x V M W N h (or-next _ _ p1) (or-next _ _ q1) in
    let c = knows-same u x V M W N h (or-first _ _ p2) (or-first _ _ q2) in
    let d = knows-same v x V M W N h (or-next _ _ p2) (or-next _ _ q2) in
    λ i. (a i && b i) && (c i && d i)

-- the formula has the name nowhere
pub record IsAbsent (x : ℕ) (f : Formula) : Type 0 where
  pub variable : is_free_variable f x ≡ false
  pub message : is_free_message f x ≡ false
  pub bound : has (bound_names f) x ≡ false

absent-left : (x : ℕ) (f g : Formula) (p q p' q' : Bool) → (is_free_variable f x || p) ≡ false → (is_free_message f x || q) ≡ false → has (bound_names f ++ bound_names g) x ≡ false → IsAbsent x f
absent-left x f g p q p' q' v m b = record {
  variable = or-first _ _ v;
  message = or-first _ _ m;
  bound = or-first (has (bound_names f) x) (has (bound_names g) x) (has-both (bound_names f) (bound_names g) x ∙ b);
}

absent-right : (x : ℕ) (f g : Formula) → (is_free_variable f x || is_free_variable g x) ≡ false → (is_free_message f x || is_free_message g x) ≡ false → has (bound_names f ++ bound_names g) x ≡ false → IsAbsent x g
absent-right x f g v m b = record {
  variable = or-next (is_free_variable f x) _ v;
  message = or-next (is_free_message f x) _ m;
  bound = or-next (has (bound_names f) x) (has (bound_names g) x) (has-both (bound_names f) (bound_names g) x ∙ b);
}

sym-eqb : (x y : ℕ) → (x == y) ≡ (y == x)
sym-eqb x y = grind arith

not-below : (y x : ℕ) (free : Bool) → (not (y == x) && free) ≡ false → (x == y) ≡ false → free ≡ false
not-below y x free h ne = ap (λ b. not b && free) (sym (sym-eqb y x ∙ ne)) ∙ h

told-two : (f g f' g' : Bool) → f ≡ f' → g ≡ g' → (f && g) ≡ (f' && g')
told-two f g f' g' p q = λ i. p i && q i

pub told-same : (f : Formula) (x : ℕ) (V M W N : List ℕ) → SameBut x V M W N → IsAbsent x f → is_told_apart V M f ≡ is_told_apart W N f
told-same True x V M W N h a = refl
told-same False x V M W N h a = refl
told-same (Eq s t) x V M W N h a =
    let p = knows-same s x V M W N h (or-first _ _ a.variable) (or-first _ _ a.message) in
    let q = knows-same t x V M W N h (or-next _ _ a.variable) (or-next _ _ a.message) in
    λ i. p i && q i
told-same (Lt s t) x V M W N h a =
    let p = knows-same s x V M W N h (or-first _ _ a.variable) (or-first _ _ a.message) in
    let q = knows-same t x V M W N h (or-next _ _ a.variable) (or-next _ _ a.message) in
    λ i. p i && q i
told-same (Le s t) x V M W N h a =
    let p = knows-same s x V M W N h (or-first _ _ a.variable) (or-first _ _ a.message) in
    let q = knows-same t x V M W N h (or-next _ _ a.variable) (or-next _ _ a.message) in
    λ i. p i && q i
told-same (Not' _ (one_formula f end_formula)) x V M W N h a = told-same f x V M W N h (record { variable = a.variable; message = a.message; bound = a.bound })
told-same (And' _ (one_formula f end_formula) _ (one_formula g end_formula)) x V M W N h a =
    let p = told-same f x V M W N h (absent-left x f g _ _ true true a.variable a.message a.bound) in
    let q = told-same g x V M W N h (absent-right x f g a.variable a.message a.bound) in
    λ i. p i && q i
told-same (Or' _ (one_formula f end_formula) _ (one_formula g end_formula)) x V M W N h a =
    let p = told-same f x V M W N h (absent-left x f g _ _ true true a.variable a.message a.bound) in
    let q = told-same g x V M W N h (absent-right x f g a.variable a.message a.bound) in
    λ i. p i && q i
told-same (Implies' _ (one_formula f end_formula) _ (one_formula g end_formula)) x V M W N h a =
    let p = told-same f x V M W N h (absent-left x f g _ _ true true a.variable a.message a.bound) in
    let q = told-same g x V M W N h (absent-right x f g a.variable a.message a.bound) in
    λ i. p i && q i
told-same (All' y _ (one_formula f end_formula)) x V M W N h a =
    let ne : (x == y) ≡ false = or-first (x == y) (has (bound_names f) x) a.bound in
    let back : (y == x) ≡ false = sym-eqb y x ∙ ne in
    let p = told-same f x (y ∷ V) M (y ∷ W) N (more-variable x y V M W N h) (record { variable = not-below y x _ a.variable ne; message = a.message; bound = or-next (x == y) _ a.bound }) in
    let u = h.variables y back in
    let v = h.messages y back in
    λ i. (not (u i) && not (v i)) && p i
told-same (Exists' y _ (one_formula f end_formula)) x V M W N h a =
    let ne : (x == y) ≡ false = or-first (x == y) (has (bound_names f) x) a.bound in
    let back : (y == x) ≡ false = sym-eqb y x ∙ ne in
    let p = told-same f x (y ∷ V) M (y ∷ W) N (more-variable x y V M W N h) (record { variable = not-below y x _ a.variable ne; message = a.message; bound = or-next (x == y) _ a.bound }) in
    let u = h.variables y back in
    let v = h.messages y back in
    λ i. (not (u i) && not (v i)) && p i
told-same (Each' y label tag _ (one_formula f end_formula)) x V M W N h a =
    let ne : (x == y) ≡ false = or-first (x == y) (has (bound_names f) x) a.bound in
    let back : (y == x) ≡ false = sym-eqb y x ∙ ne in
    let p = told-same f x V (y ∷ M) W (y ∷ N) (more-message x y V M W N h) (record { variable = a.variable; message = not-below y x _ a.message ne; bound = or-next (x == y) _ a.bound }) in
    let u = h.variables y back in
    let v = h.messages y back in
    λ i. (not (u i) && not (v i)) && p i
told-same (Any' y label tag _ (one_formula f end_formula)) x V M W N h a =
    let ne : (x == y) ≡ false = or-first (x == y) (has (bound_names f) x) a.bound in
    let back : (y == x) ≡ false = sym-eqb y x ∙ ne in
    let p = told-same f x V (y ∷ M) W (y ∷ N) (more-message x y V M W N h) (record { variable = a.variable; message = not-below y x _ a.message ne; bound = or-next (x == y) _ a.bound }) in
    let u = h.variables y back in
    let v = h.messages y back in
    λ i. (not (u i) && not (v i)) && p i

-- ---- changes

-- What is known stays known where more is.
pub record Within (V M W N : List ℕ) : Type 0 where
  pub variables : (z : ℕ) → has V z ≡ true → has W z ≡ true
  pub messages : (z : ℕ) → has M z ≡ true → has N z ≡ true

pub knows-within : (t : Term) (V M W N : List ℕ) → Within V M W N → knows V M t ≡ true → knows W N t ≡ true
knows-within (Num v) V M W N h k = refl
knows-within (Word sym v) V M W N h k = refl
knows-within (Var sym) V M W N h k = h.variables sym k
knows-within (Field' label field _ (one node end)) V M W N h k = knows-within node V M W N h k
knows-within (Row' label field _ (one node end) _ (one index end)) V M W N h k = both _ _ (knows-within node V M W N h (left _ _ k)) (knows-within index V M W N h (right _ _ k))
knows-within (Len label) V M W N h k = refl
knows-within (Msg msg part) V M W N h k = h.messages msg k
knows-within (Add' _ (one s end) _ (one t end)) V M W N h k = both _ _ (knows-within s V M W N h (left _ _ k)) (knows-within t V M W N h (right _ _ k))
knows-within (Sub' _ (one s end) _ (one t end)) V M W N h k = both _ _ (knows-within s V M W N h (left _ _ k)) (knows-within t V M W N h (right _ _ k))
knows-within (Mul' _ (one s end) _ (one t end)) V M W N h k = both _ _ (knows-within s V M W N h (left _ _ k)) (knows-within t V M W N h (right _ _ k))
knows-within (If' _ (one s end) _ (one t end) _ (one u end) _ (one v end)) V M W N h k =
    let a = left (knows V M s && knows V M t) (knows V M u && knows V M v) k in
    let b = right (knows V M s && knows V M t) (knows V M u && knows V M v) k in
    both _ _ (both _ _ (knows-within s V M W N h (left _ _ a)) (knows-within t V M W N h (right _ _ a))) (both _ _ (knows-within u V M W N h (left _ _ b)) (knows-within v V M W N h (right _ _ b)))

or-right : (a b : Bool) → b ≡ true → (a || b) ≡ true
or-right true b h = refl
or-right false b h = h

-- what a change asks so that a formula over V and M becomes one over W and N
pub record Carries (c : Change) (V M W N : List ℕ) : Type 0 where
  pub new : (t u : Term) → c.put t ≡ Some u → knows W N u ≡ true
  pub variable : (x : ℕ) → c.put (Var x) ≡ None → has V x ≡ true → has W x ≡ true
  pub message : (m : ℕ) (p : Part) → c.put (Msg m p) ≡ None → has M m ≡ true → has N m ≡ true
  pub unknown : (x : ℕ) → is_unknown V M x ≡ true → is_unknown W N x ≡ true
  pub goes_on_variable : (x : ℕ) → is_unknown V M x ≡ true → c.stops_at_variable x ≡ false
  pub goes_on_message : (x : ℕ) → is_unknown V M x ≡ true → c.stops_at_message x ≡ false

not-or : (a b c : Bool) → (not (a || b) && c) ≡ true → (not b && c) ≡ true
not-or true b c h = cc
not-or false b c h = h

not-or-next : (a b c : Bool) → (c && not (a || b)) ≡ true → (c && not b) ≡ true
not-or-next true b true h = cc
not-or-next true b false h = cc
not-or-next false b c h = h

or-kept : (a b c : Bool) → (b ≡ true → c ≡ true) → (a || b) ≡ true → (a || c) ≡ true
or-kept true b c h k = refl
or-kept false b c h k = h k

unknown-under : (a b c b' c' : Bool) → ((not b && not c) ≡ true → (not b' && not c') ≡ true) → (not (a || b) && not c) ≡ true → (not (a || b') && not c') ≡ true
unknown-under true b c b' c' h k = cc
unknown-under false b c b' c' h k = h k

unknown-next : (a b c b' c' : Bool) → ((not b && not c) ≡ true → (not b' && not c') ≡ true) → (not b && not (a || c)) ≡ true → (not b' && not (a || c')) ≡ true
unknown-next true true c b' c' h k = cc
unknown-next true false c b' c' h k = cc
unknown-next false b c b' c' h k = h k

Carries-variable : (c : Change) (V M W N : List ℕ) (y : ℕ) → Carries c V M W N → Carries c (y ∷ V) M (y ∷ W) N
Carries-variable c V M W N y h = record {
  new = λ t u e. knows-within u W N (y ∷ W) N (record { variables = λ z k. or-right (z == y) (has W z) k; messages = λ z k. k }) (h.new t u e);
  variable = λ x e k. or-kept (x == y) (has V x) (has W x) (h.variable x e) k;
  message = h.message;
  unknown = λ x k. unknown-under (x == y) (has V x) (has M x) (has W x) (has N x) (h.unknown x) k;
  goes_on_variable = λ x k. h.goes_on_variable x (not-or (x == y) (has V x) (not (has M x)) k);
  goes_on_message = λ x k. h.goes_on_message x (not-or (x == y) (has V x) (not (has M x)) k);
}

Carries-message : (c : Change) (V M W N : List ℕ) (y : ℕ) → Carries c V M W N → Carries c V (y ∷ M) W (y ∷ N)
Carries-message c V M W N y h = record {
  new = λ t u e. knows-within u W N W (y ∷ N) (record { variables = λ z k. k; messages = λ z k. or-right (z == y) (has N z) k }) (h.new t u e);
  variable = h.variable;
  message = λ m p e k. or-kept (m == y) (has M m) (has N m) (h.message m p e) k;
  unknown = λ x k. unknown-next (x == y) (has V x) (has M x) (has W x) (has N x) (h.unknown x) k;
  goes_on_variable = λ x k. h.goes_on_variable x (not-or-next (x == y) (has M x) (not (has V x)) k);
  goes_on_message = λ x k. h.goes_on_message x (not-or-next (x == y) (has M x) (not (has V x)) k);
}

module _ (c : Change) (V M W N : List ℕ) (h : Carries c V M W N) where
  at-place : (t : Term) (o : Option Term) → c.put t ≡ o → knows V M t ≡ true → (c.put t ≡ None → knows V M t ≡ true → knows W N (inside c t) ≡ true) → knows W N (unwrap_or o (inside c t)) ≡ true
  at-place t (Some u) e k within = h.new t u e
  at-place t None e k within = within e k

  knows-inside : (t : Term) → c.put t ≡ None → knows V M t ≡ true → knows W N (inside c t) ≡ true
  unfolding opened
  knows-inside (Num v) e k = refl
  knows-inside (Word sym v) e k = refl
  knows-inside (Var x) e k = h.variable x e k
  knows-inside (Field' label field _ (one node end)) e k = at-place node (c.put node) refl k (knows-inside node)
  knows-inside (Row' label field _ (one node end) _ (one index end)) e k =
      both _ _ (at-place node (c.put node) refl (left _ _ k) (knows-inside node)) (at-place index (c.put index) refl (right _ _ k) (knows-inside index))
  knows-inside (Len label) e k = refl
  knows-inside (Msg m p) e k = h.message m p e k
  knows-inside (Add' _ (one a end) _ (one b end)) e k = both _ _ (at-place a (c.put a) refl (left _ _ k) (knows-inside a)) (at-place b (c.put b) refl (right _ _ k) (knows-inside b))
  knows-inside (Sub' _ (one a end) _ (one b end)) e k = both _ _ (at-place a (c.put a) refl (left _ _ k) (knows-inside a)) (at-place b (c.put b) refl (right _ _ k) (knows-inside b))
  knows-inside (Mul' _ (one a end) _ (one b end)) e k = both _ _ (at-place a (c.put a) refl (left _ _ k) (knows-inside a)) (at-place b (c.put b) refl (right _ _ k) (knows-inside b))
  knows-inside (If' _ (one a end) _ (one b end) _ (one x end) _ (one y end)) e k =
      let p = left (knows V M a && knows V M b) (knows V M x && knows V M y) k in
      let q = right (knows V M a && knows V M b) (knows V M x && knows V M y) k in
      both _ _ (both _ _ (at-place a (c.put a) refl (left _ _ p) (knows-inside a)) (at-place b (c.put b) refl (right _ _ p) (knows-inside b)))
      (both _ _ (at-place x (c.put x) refl (left _ _ q) (knows-inside x)) (at-place y (c.put y) refl (right _ _ q) (knows-inside y)))

  knows-changed : (t : Term) → knows V M t ≡ true → knows W N (changed_term c t) ≡ true
  knows-changed t k = at-place t (c.put t) refl k (knows-inside t)

-- below a quantifier that does not stop the change
goes-on : (stops : Bool) (f g : Formula) (V M : List ℕ) → stops ≡ false → is_told_apart V M g ≡ true → is_told_apart V M (if stops then f else g) ≡ true
goes-on true f g V M e h = cc
goes-on false f g V M e h = h

pub told-changed : (f : Formula) (c : Change) (V M W N : List ℕ) → Carries c V M W N → is_told_apart V M f ≡ true → is_told_apart W N (changed c f) ≡ true
unfolding opened
told-changed True c V M W N h k = refl
told-changed False c V M W N h k = refl
told-changed (Eq a b) c V M W N h k = both _ _ (knows-changed c V M W N h a (left _ _ k)) (knows-changed c V M W N h b (right _ _ k))
told-changed (Lt a b) c V M W N h k = both _ _ (knows-changed c V M W N h a (left _ _ k)) (knows-changed c V M W N h b (right _ _ k))
told-changed (Le a b) c V M W N h k = both _ _ (knows-changed c V M W N h a (left _ _ k)) (knows-changed c V M W N h b (right _ _ k))
told-changed (Not' _ (one_formula f end_formula)) c V M W N h k = told-changed f c V M W N h k
told-changed (And' _ (one_formula f end_formula) _ (one_formula g end_formula)) c V M W N h k = both _ _ (told-changed f c V M W N h (left _ _ k)) (told-changed g c V M W N h (right _ _ k))
told-changed (Or' _ (one_formula f end_formula) _ (one_formula g end_formula)) c V M W N h k = both _ _ (told-changed f c V M W N h (left _ _ k)) (told-changed g c V M W N h (right _ _ k))
told-changed (Implies' _ (one_formula f end_formula) _ (one_formula g end_formula)) c V M W N h k = both _ _ (told-changed f c V M W N h (left _ _ k)) (told-changed g c V M W N h (right _ _ k))
told-changed (All' y _ (one_formula f end_formula)) c V M W N h k =
    let fresh = left (is_unknown V M y) (is_told_apart (y ∷ V) M f) k in
    both (is_unknown W N y) _ (h.unknown y fresh) (goes-on (c.stops_at_variable y) f (changed c f) (y ∷ W) N (h.goes_on_variable y fresh)
    (told-changed f c (y ∷ V) M (y ∷ W) N (Carries-variable c V M W N y h) (right (is_unknown V M y) (is_told_apart (y ∷ V) M f) k)))
told-changed (Exists' y _ (one_formula f end_formula)) c V M W N h k =
    let fresh = left (is_unknown V M y) (is_told_apart (y ∷ V) M f) k in
    both (is_unknown W N y) _ (h.unknown y fresh) (goes-on (c.stops_at_variable y) f (changed c f) (y ∷ W) N (h.goes_on_variable y fresh)
    (told-changed f c (y ∷ V) M (y ∷ W) N (Carries-variable c V M W N y h) (right (is_unknown V M y) (is_told_apart (y ∷ V) M f) k)))
told-changed (Each' y label tag _ (one_formula f end_formula)) c V M W N h k =
    let fresh = left (is_unknown V M y) (is_told_apart V (y ∷ M) f) k in
    both (is_unknown W N y) _ (h.unknown y fresh) (goes-on (c.stops_at_message y) f (changed c f) W (y ∷ N) (h.goes_on_message y fresh)
    (told-changed f c V (y ∷ M) W (y ∷ N) (Carries-message c V M W N y h) (right (is_unknown V M y) (is_told_apart V (y ∷ M) f) k)))
told-changed (Any' y label tag _ (one_formula f end_formula)) c V M W N h k =
    let fresh = left (is_unknown V M y) (is_told_apart V (y ∷ M) f) k in
    both (is_unknown W N y) _ (h.unknown y fresh) (goes-on (c.stops_at_message y) f (changed c f) W (y ∷ N) (h.goes_on_message y fresh)
    (told-changed f c V (y ∷ M) W (y ∷ N) (Carries-message c V M W N y h) (right (is_unknown V M y) (is_told_apart V (y ∷ M) f) k)))
