-- Names that a formula binds nowhere are captured nowhere: a step whose terms speak of such names alone captures nothing.
use Rattle.std.proofs.Common.{◌≡◌, ℕ, pos, Bool, true, false, ◌&&◌, ◌==◌, if◌then◌else◌, Option, Some, None, List, [], ◌∷◌, ◌++◌, map, slice_get, unwrap_or, zero, suc, refl, eq-eqb}
use Rattle.std.specs.List.{AllByRecursion as Each}
use Rattle.dl_term.specs.declared.syntax.Lab.{Lab}
use Rattle.dl_term.specs.declared.syntax.Part.{Part}
use Rattle.dl_term.specs.declared.syntax.Part.TheVariants.{Id, From, To, Live, Arg}
use Rattle.dl_term.specs.declared.syntax.Term.{Term, Num, Word, Var, Field', Row', Len, Msg, Add', Sub', Mul', If', more_of-Term as one, end_of-Term as end}
use Rattle.dl_term.specs.declared.syntax.Formula.{Formula, True, False, Eq, Lt, Le, Not', And', Or', Implies', All', Exists', Each', Any', more_of-Formula as one_formula, end_of-Formula as end_formula}
use Rattle.dl_term.specs.Syntax.{opened}
use Rattle.dl_model.specs.declared.protocol.Update.{Update}
use Rattle.dl_model.specs.declared.protocol.Instances.{Instances}
use Rattle.dl_model.specs.Sorts.{has}
use Rattle.dl_model.specs.Spoken.{bound_names}
use Rattle.dl_model.specs.Lookup.{arg_names}
use Rattle.dl_model.specs.Words.{me_word, to_word, from_word}
use Rattle.dl_model.proofs.Small.{or-both, or-true-left, or-true-right}
use Rattle.dl_subst.specs.Change.{mentions, and_name, changed_term}
use Rattle.dl_subst.specs.Substitution.{new_part}
use Rattle.dl_wp.specs.Steps.{Move, Sends, Receives, Step, as_seen, seen, seen_index, argument_of, names_in_step, args_of_message, spoken_of, tag_in, sent_message, send_step, receive_step}
use Rattle.dl_wp.specs.Before.{update_at, is_over}
use Rattle.dl_wp.specs.Captures.{Around, nothing_around, under_variable, under_message, is_bound, field_captures, row_captures, part_captures, term_captures, captures}
use Rattle.dl_inv.specs.Steps.{send_by, receive_by}
use Rattle.dl_inv.proofs.Lists.{has-front, has-back, lacked}

-- where none of these names is bound, none of the term's is
abbrev pub IsOver : List ℕ → Term → Type 0
IsOver ns t = (v m : ℕ → Bool) → ((n : ℕ) → has ns n ≡ true → v n ≡ false) → ((n : ℕ) → has ns n ≡ true → m n ≡ false) → mentions v m t ≡ false

var-over : (ns : List ℕ) (n : ℕ) → has ns n ≡ true → IsOver ns (Var n)
var-over ns n h v m p q = p n h

msg-over : (ns : List ℕ) (n : ℕ) (part : Part) → has ns n ≡ true → IsOver ns (Msg n part)
msg-over ns n part h v m p q = q n h

num-over : (ns : List ℕ) → IsOver ns (Num (pos 0))
num-over ns v m p q = refl

if-over : (ns : List ℕ) (b : Bool) (s t : Term) → IsOver ns s → IsOver ns t → IsOver ns (if b then s else t)
if-over ns true s t h k = h
if-over ns false s t h k = k

argument-over : (ns : List ℕ) (found : Term) (syms : List ℕ) (terms : List Term) (x : ℕ) → IsOver ns found → Each (IsOver ns) terms → IsOver ns (argument_of found syms terms x)
argument-over ns found [] terms x h k = h
argument-over ns found (y ∷ ys) [] x h k = h
argument-over ns found (y ∷ ys) (t ∷ ts) x h k = argument-over ns (if x == y then t else found) ys ts x (if-over ns (x == y) t found k.0 h) k.1

pub named-over : (ns : List ℕ) (node : Term) (word : ℕ) (other : Term) (syms : List ℕ) (terms : List Term) (x : ℕ) → IsOver ns node → IsOver ns other → Each (IsOver ns) terms → IsOver ns (names_in_step node word other syms terms x)
named-over ns node word other syms terms x h k e =
    argument-over ns (if x == word then other else if x == me_word then node else Num (pos 0)) syms terms x
    (if-over ns (x == word) other (if x == me_word then node else Num (pos 0)) k (if-over ns (x == me_word) node (Num (pos 0)) h (num-over ns))) e

module _ (ns : List ℕ) (label : Lab) (named : ℕ → Term) (over : (x : ℕ) → IsOver ns (named x)) where
  seen-over : (t : Term) → IsOver ns (changed_term (as_seen label named) t)
  unfolding opened
  seen-over (Num n) v m p q = refl
  seen-over (Word x n) v m p q = refl
  seen-over (Var x) v m p q = over x v m p q
  seen-over (Field' l field _ (one node end)) v m p q = seen-over node v m p q
  seen-over (Row' l field _ (one node end) _ (one index end)) v m p q = or-both _ _ (seen-over node v m p q) (seen-over index v m p q)
  seen-over (Len l) v m p q = refl
  seen-over (Msg k part) v m p q = refl
  seen-over (Add' _ (one a end) _ (one b end)) v m p q = or-both _ _ (seen-over a v m p q) (seen-over b v m p q)
  seen-over (Sub' _ (one a end) _ (one b end)) v m p q = or-both _ _ (seen-over a v m p q) (seen-over b v m p q)
  seen-over (Mul' _ (one a end) _ (one b end)) v m p q = or-both _ _ (seen-over a v m p q) (seen-over b v m p q)
  seen-over (If' _ (one a end) _ (one b end) _ (one x end) _ (one y end)) v m p q =
      or-both _ _ (or-both _ _ (seen-over a v m p q) (seen-over b v m p q)) (or-both _ _ (seen-over x v m p q) (seen-over y v m p q))

-- ---- what is bound around

-- none of the names is bound around
record Clear (ns : List ℕ) (around : Around) : Type 0 where
  variable : (n : ℕ) → has ns n ≡ true → around.variable n ≡ false
  message : (n : ℕ) → has ns n ≡ true → around.message n ≡ false
  beside : (j n : ℕ) → has ns n ≡ true → around.beside j n ≡ false

clear-variable : (ns : List ℕ) (around : Around) (x : ℕ) → has ns x ≡ false → Clear ns around → Clear ns (under_variable around x)
clear-variable ns around x h c = record {
  variable = λ n there. or-both (n == x) (around.variable n) (lacked ns n x there h) (c.variable n there);
  message = c.message;
  beside = c.beside;
}

clear-message : (ns : List ℕ) (around : Around) (x : ℕ) (is : Bool) → has ns x ≡ false → Clear ns around → Clear ns (under_message around x is)
clear-message ns around x is h c = record {
  variable = c.variable;
  message = λ n there. or-both (n == x) (around.message n) (lacked ns n x there h) (c.message n there);
  beside = λ j n there. beside_at (j == x) j n there;
}
  where
    beside_at : (b : Bool) (j n : ℕ) → has ns n ≡ true → (if b then around.message else and_name x (around.beside j)) n ≡ false
    beside_at true j n there = c.message n there
    beside_at false j n there = or-both (n == x) (around.beside j n) (lacked ns n x there h) (c.beside j n there)

-- ---- a step over the names

abbrev pub MovesOver : List ℕ → Move → Type 0
MovesOver ns (Sends new) = (part : Part) → IsOver ns (new_part new part)
MovesOver ns (Receives k) = has ns k ≡ true

pub record StepsOver (ns : List ℕ) (step : Step) : Type 0 where
  pub node : IsOver ns step.node
  pub named : (x : ℕ) → IsOver ns (step.named x)
  pub move : MovesOver ns step.move

and-right-false : (a b : Bool) → b ≡ false → (a && b) ≡ false
and-right-false true b h = h
and-right-false false b h = refl

part-clear : (ns : List ℕ) (around : Around) (move : Move) (m : ℕ) (part : Part) → MovesOver ns move → Clear ns around → part_captures move around m part ≡ false
part-clear ns around (Sends new) m part h c = and-right-false (around.over m) _ (h part around.variable (around.beside m) c.variable (c.beside m))
part-clear ns around (Receives k) m Live h c = and-right-false (around.over m) _ (c.message k h)
part-clear ns around (Receives k) m Id h c = refl
part-clear ns around (Receives k) m From h c = refl
part-clear ns around (Receives k) m To h c = refl
part-clear ns around (Receives k) m (Arg n) h c = refl

module _ (ns : List ℕ) (step : Step) (over : StepsOver ns step) where
  term-unbound : (around : Around) (t : Term) → IsOver ns t → Clear ns around → is_bound around t ≡ false
  term-unbound around t h c = h around.variable around.message c.variable c.message

  value-unbound : (around : Around) (t : Term) → Clear ns around → is_bound around (seen step t) ≡ false
  value-unbound around t c = term-unbound around (seen step t) (seen-over ns step.label step.named over.named t) c

  index-unbound : (around : Around) (o : Option Term) → Clear ns around → is_bound around (seen_index step o) ≡ false
  index-unbound around (Some t) c = value-unbound around t c
  index-unbound around None c = refl

  field-clear : (around : Around) (o : Option Update) → Clear ns around → field_captures step around o ≡ false
  field-clear around None c = refl
  field-clear around (Some u) c = or-both _ _ (term-unbound around step.node over.node c) (value-unbound around u.value c)

  row-clear : (around : Around) (o : Option Update) → Clear ns around → row_captures step around o ≡ false
  row-clear around None c = refl
  row-clear around (Some u) c = or-both _ _ (term-unbound around step.node over.node c) (or-both _ _ (index-unbound around u.index c) (value-unbound around u.value c))

  term-clear : (t : Term) (around : Around) → Clear ns around → term_captures step around t ≡ false
  term-clear (Num n) around c = refl
  term-clear (Word x n) around c = refl
  term-clear (Var x) around c = refl
  term-clear (Field' label field _ (one node end)) around c = or-both _ _ (field-clear around (update_at step label field) c) (term-clear node around c)
  term-clear (Row' label field _ (one node end) _ (one index end)) around c =
      or-both _ _ (row-clear around (update_at step label field) c) (or-both _ _ (term-clear node around c) (term-clear index around c))
  term-clear (Len label) around c = refl
  term-clear (Msg m part) around c = part-clear ns around step.move m part over.move c
  term-clear (Add' _ (one a end) _ (one b end)) around c = or-both _ _ (term-clear a around c) (term-clear b around c)
  term-clear (Sub' _ (one a end) _ (one b end)) around c = or-both _ _ (term-clear a around c) (term-clear b around c)
  term-clear (Mul' _ (one a end) _ (one b end)) around c = or-both _ _ (term-clear a around c) (term-clear b around c)
  term-clear (If' _ (one a end) _ (one b end) _ (one x end) _ (one y end)) around c =
      or-both _ _ (or-both _ _ (term-clear a around c) (term-clear b around c)) (or-both _ _ (term-clear x around c) (term-clear y around c))

  -- the formula binds none of the names
  abbrev Binds : List ℕ → Type 0
  Binds bound = (y : ℕ) → has bound y ≡ true → has ns y ≡ false

  binds-front : (xs ys : List ℕ) → Binds (xs ++ ys) → Binds xs
  binds-front xs ys h y there = h y (has-front xs ys y there)

  binds-back : (xs ys : List ℕ) → Binds (xs ++ ys) → Binds ys
  binds-back xs ys h y there = h y (has-back xs ys y there)

  binds-first : (x : ℕ) (xs : List ℕ) → Binds (x ∷ xs) → has ns x ≡ false
  binds-first x xs h = h x (or-true-left (x == x) (has xs x) (eq-eqb x x refl))

  binds-rest : (x : ℕ) (xs : List ℕ) → Binds (x ∷ xs) → Binds xs
  binds-rest x xs h y there = h y (or-true-right (y == x) (has xs y) there)

  formula-clear : (f : Formula) (around : Around) → Binds (bound_names f) → Clear ns around → captures step around f ≡ false
  formula-clear True around h c = refl
  formula-clear False around h c = refl
  formula-clear (Eq a b) around h c = or-both _ _ (term-clear a around c) (term-clear b around c)
  formula-clear (Lt a b) around h c = or-both _ _ (term-clear a around c) (term-clear b around c)
  formula-clear (Le a b) around h c = or-both _ _ (term-clear a around c) (term-clear b around c)
  formula-clear (Not' _ (one_formula f end_formula)) around h c = formula-clear f around h c
  formula-clear (And' _ (one_formula f end_formula) _ (one_formula g end_formula)) around h c =
      or-both _ _ (formula-clear f around (binds-front (bound_names f) (bound_names g) h) c) (formula-clear g around (binds-back (bound_names f) (bound_names g) h) c)
  formula-clear (Or' _ (one_formula f end_formula) _ (one_formula g end_formula)) around h c =
      or-both _ _ (formula-clear f around (binds-front (bound_names f) (bound_names g) h) c) (formula-clear g around (binds-back (bound_names f) (bound_names g) h) c)
  formula-clear (Implies' _ (one_formula f end_formula) _ (one_formula g end_formula)) around h c =
      or-both _ _ (formula-clear f around (binds-front (bound_names f) (bound_names g) h) c) (formula-clear g around (binds-back (bound_names f) (bound_names g) h) c)
  formula-clear (All' x _ (one_formula f end_formula)) around h c =
      formula-clear f (under_variable around x) (binds-rest x (bound_names f) h) (clear-variable ns around x (binds-first x (bound_names f) h) c)
  formula-clear (Exists' x _ (one_formula f end_formula)) around h c =
      formula-clear f (under_variable around x) (binds-rest x (bound_names f) h) (clear-variable ns around x (binds-first x (bound_names f) h) c)
  formula-clear (Each' m label tag _ (one_formula f end_formula)) around h c =
      formula-clear f (under_message around m (is_over step label tag)) (binds-rest m (bound_names f) h) (clear-message ns around m (is_over step label tag) (binds-first m (bound_names f) h) c)
  formula-clear (Any' m label tag _ (one_formula f end_formula)) around h c =
      formula-clear f (under_message around m (is_over step label tag)) (binds-rest m (bound_names f) h) (clear-message ns around m (is_over step label tag) (binds-first m (bound_names f) h) c)

  -- a step over names that the formula doesn't bind captures nothing in it
  pub step-clear : (f : Formula) → ((y : ℕ) → has (bound_names f) y ≡ true → has ns y ≡ false) → captures step nothing_around f ≡ false
  step-clear f h = formula-clear f nothing_around h (record { variable = λ n there. refl; message = λ n there. refl; beside = λ j n there. refl })

-- ---- the two steps of obligations

vars-over : (ns xs : List ℕ) → ((x : ℕ) → has xs x ≡ true → has ns x ≡ true) → Each (IsOver ns) (map (λ x. Var x) xs)
vars-over ns [] h = tt
vars-over ns (x ∷ xs) h = (var-over ns x (h x (or-true-left (x == x) (has xs x) (eq-eqb x x refl))), vars-over ns xs (λ y there. h y (or-true-right (y == x) (has xs y) there)))

get-over : (ns : List ℕ) (terms : List Term) (k : ℕ) → Each (IsOver ns) terms → IsOver ns (unwrap_or (slice_get terms k) (Num (pos 0)))
get-over ns [] k h = num-over ns
get-over ns (t ∷ ts) zero h = h.0
get-over ns (t ∷ ts) (suc k) h = get-over ns ts k h.1

first-there : (s : ℕ) (ns : List ℕ) → has (s ∷ ns) s ≡ true
first-there s ns = or-true-left (s == s) (has ns s) (eq-eqb s s refl)

second-there : (s d : ℕ) (ns : List ℕ) → has (s ∷ d ∷ ns) d ≡ true
second-there s d ns = or-true-right (d == s) (has (d ∷ ns) d) (first-there d ns)

others-there : (s d : ℕ) (xs : List ℕ) (x : ℕ) → has xs x ≡ true → has (s ∷ d ∷ xs) x ≡ true
others-there s d xs x h = or-true-right (x == s) (has (d ∷ xs) x) (or-true-right (x == d) (has xs x) h)

-- the terms that a formula of a send sees, whatever its names for the arguments
pub send-names-over : (s d : ℕ) (xs syms : List ℕ) (x : ℕ) → IsOver (s ∷ d ∷ xs) (names_in_step (Var s) to_word (Var d) syms (map (λ k. Var k) xs) x)
send-names-over s d xs syms x =
    let ns = s ∷ d ∷ xs in
    named-over ns (Var s) to_word (Var d) syms (map (λ k. Var k) xs) x (var-over ns s (first-there s (d ∷ xs))) (var-over ns d (second-there s d xs)) (vars-over ns xs (others-there s d xs))

pub send-over : (inst : Instances) (own : Option ℕ) (label : Lab) (tag s d : ℕ) (xs : List ℕ) → StepsOver (s ∷ d ∷ xs) (send_step inst own (send_by label tag (s ∷ d ∷ xs)))
send-over inst own label tag s d xs =
    let ns = s ∷ d ∷ xs in
    let args = vars-over ns xs (others-there s d xs) in
    record {
      node = var-over ns s (first-there s (d ∷ xs));
      named = send-names-over s d xs (arg_names (tag_in (spoken_of inst own label) tag).args);
      move = part-over args;
    }
  where
    part-over : Each (IsOver (s ∷ d ∷ xs)) (map (λ k. Var k) xs) → (part : Part) → IsOver (s ∷ d ∷ xs) (new_part (sent_message (send_by label tag (s ∷ d ∷ xs))) part)
    part-over args Id = λ v m p q. refl
    part-over args From = var-over (s ∷ d ∷ xs) s (first-there s (d ∷ xs))
    part-over args To = var-over (s ∷ d ∷ xs) d (second-there s d xs)
    part-over args Live = λ v m p q. refl
    part-over args (Arg k) = get-over (s ∷ d ∷ xs) (map (λ k. Var k) xs) k args

pub receive-over : (inst : Instances) (own : Option ℕ) (label : Lab) (tag r k : ℕ) (xs : List ℕ) → StepsOver (r ∷ k ∷ xs) (receive_step inst own (receive_by label tag (r ∷ k ∷ xs)))
receive-over inst own label tag r k xs =
    let ns = r ∷ k ∷ xs in
    let there = second-there r k xs in
    record {
      node = var-over ns r (first-there r (k ∷ xs));
      named = λ x. named-over ns (Var r) from_word (Msg k From) (arg_names (tag_in (spoken_of inst own label) tag).args) (args_of_message k) x (var-over ns r (first-there r (k ∷ xs))) (msg-over ns k From there)
          (msg-over ns k (Arg 0) there, (msg-over ns k (Arg 1) there, (msg-over ns k (Arg 2) there, (msg-over ns k (Arg 3) there, (msg-over ns k (Arg 4) there, (msg-over ns k (Arg 5) there, (msg-over ns k (Arg 6) there, (msg-over ns k (Arg 7) there, tt))))))));
      move = there;
    }
