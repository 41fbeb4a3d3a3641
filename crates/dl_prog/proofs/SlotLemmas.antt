-- How slots give names their numbers.
use Rattle.std.proofs.Common.{◌≡◌, ◌≤◌, ◌<◌, ◌+◌, ℕ, zero, suc, ℤ, pos, Bool, true, false, ◌||◌, ◌==◌, List, [], ◌∷◌, ◌++◌, None, length, take, drop, get_or, slice_set, refl, ap, sym, ◌∙◌, subst, arith}
use Rattle.std.proofs.lemmas.Bool.{eqb-true}
use Rattle.std.proofs.lemmas.List.{take_more, take_more_set, drop_more, map-append}
use Rattle.std.proofs.lemmas.List.Edits.{map_over_more}
use Rattle.std.specs.Prelude.{if◌then◌else◌}
use Rattle.std.specs.List.{AllByRecursion as Each}
use Rattle.dl_term.specs.Names.{Names, no_names, with_number}
use Rattle.dl_model.specs.Sorts.{has}
use Rattle.dl_model.specs.Words.{me_names, with_numbers}
use Rattle.dl_model.specs.Lookup.{Parameter, arg_names}
use Rattle.dl_prog.specs.declared.slots.Slot.{Slot}
use Rattle.dl_prog.specs.Slots.{named_from, named, found, put, put_all, put_each, syms_of, HasEach, AreZero}

-- ---- what is found

pub number-found : (slots : List Slot) (names : Names) (name : ℕ) → (named_from names slots).number name ≡ found slots name (names.number name)
number-found [] names name = refl
number-found (slot ∷ slots) names name = number-found slots (with_number names slot.sym slot.value) name

own-kept : (slots : List Slot) (names : Names) → (named_from names slots).own ≡ names.own
own-kept [] names = refl
own-kept (slot ∷ slots) names = own-kept slots (with_number names slot.sym slot.value)

message-kept : (slots : List Slot) (names : Names) → (named_from names slots).message ≡ names.message
message-kept [] names = refl
message-kept (slot ∷ slots) names = message-kept slots (with_number names slot.sym slot.value)

-- ---- a new number

pub put-sym : (name : ℕ) (new : ℤ) (slot : Slot) → (put name new slot).sym ≡ slot.sym
put-sym name new slot = by_test (name == slot.sym)
  where
    by_test : (t : Bool) → (if t then record { sym = slot.sym; value = new } else slot).sym ≡ slot.sym
    by_test true = refl
    by_test false = refl

pub syms-put : (name : ℕ) (new : ℤ) (slots : List Slot) → syms_of (put_all name new slots) ≡ syms_of slots
syms-put name new [] = refl
syms-put name new (slot ∷ slots) = λ i. put-sym name new slot i ∷ syms-put name new slots i

if-same : {X : Type 0} (t : Bool) (x : X) → (if t then x else x) ≡ x
if-same true x = refl
if-same false x = refl

found-new : (name : ℕ) (new : ℤ) (slots : List Slot) → found (put_all name new slots) name new ≡ new
found-new name new [] = refl
found-new name new (slot ∷ slots) = ap (λ v. found (put_all name new slots) name v) (by_test (name == slot.sym) refl) ∙ found-new name new slots
  where
    by_test : (t : Bool) → (name == slot.sym) ≡ t →
        (if name == (if t then record { sym = slot.sym; value = new } else slot).sym then (if t then record { sym = slot.sym; value = new } else slot).value else new) ≡ new
    by_test true e = if-same (name == slot.sym) new
    by_test false e = ap (λ (b : Bool). if b then slot.value else new) e

found-in : (name : ℕ) (new other : ℤ) (slots : List Slot) → has (syms_of slots) name ≡ true → found (put_all name new slots) name other ≡ new
found-in name new other [] h = absurd (cc h)
found-in name new other (slot ∷ slots) h = by_test (name == slot.sym) refl h (found-in name new (if name == slot.sym then slot.value else other) slots)
  where
    by_test : (t : Bool) → (name == slot.sym) ≡ t → (t || has (syms_of slots) name) ≡ true →
        (has (syms_of slots) name ≡ true → found (put_all name new slots) name (if name == slot.sym then slot.value else other) ≡ new) →
        found (put_all name new slots) name
        (if name == (if t then record { sym = slot.sym; value = new } else slot).sym then (if t then record { sym = slot.sym; value = new } else slot).value else other) ≡ new
    by_test true e k later = ap (λ (b : Bool). found (put_all name new slots) name (if b then new else other)) e ∙ found-new name new slots
    by_test false e k later = later k

found-other : (name : ℕ) (new other : ℤ) (another : ℕ) (slots : List Slot) → (another == name) ≡ false → found (put_all name new slots) another other ≡ found slots another other
found-other name new other another [] h = refl
found-other name new other another (slot ∷ slots) h =
    ap (λ v. found (put_all name new slots) another v) (by_test (name == slot.sym) refl)
    ∙ found-other name new (if another == slot.sym then slot.value else other) another slots h
  where
    by_test : (t : Bool) → (name == slot.sym) ≡ t →
        (if another == (if t then record { sym = slot.sym; value = new } else slot).sym then (if t then record { sym = slot.sym; value = new } else slot).value else other)
        ≡ (if another == slot.sym then slot.value else other)
    by_test true e =
        let unlike : (another == slot.sym) ≡ false = ap (λ n. another == n) (sym (eqb-true name slot.sym e)) ∙ h in
        ap (λ (b : Bool). if b then new else other) unlike ∙ sym (ap (λ (b : Bool). if b then slot.value else other) unlike)
    by_test false e = refl

-- a new number in the slots is one in the names, where a slot has the name
pub named-put : (slots : List Slot) (name : ℕ) (new : ℤ) → has (syms_of slots) name ≡ true → named (put_all name new slots) ≡ with_number (named slots) name new
named-put slots name new h = λ i. record {
  own = (own-kept (put_all name new slots) (no_names 0) ∙ sym (own-kept slots (no_names 0))) i;
  number = λ another. numbers another i;
  message = (message-kept (put_all name new slots) (no_names 0) ∙ sym (message-kept slots (no_names 0))) i;
}
  where
    by_test : (another : ℕ) (t : Bool) → (another == name) ≡ t → found (put_all name new slots) another (pos 0) ≡ (if t then new else (named slots).number another)
    by_test another true e = subst (λ n. found (put_all name new slots) n (pos 0) ≡ new) (sym (eqb-true another name e)) (found-in name new (pos 0) slots h)
    by_test another false e = found-other name new (pos 0) another slots e ∙ sym (number-found slots (no_names 0) another)

    numbers : (another : ℕ) → (named (put_all name new slots)).number another ≡ (if another == name then new else (named slots).number another)
    numbers another = number-found (put_all name new slots) (no_names 0) another ∙ by_test another (another == name) refl

pub has-put : (slots : List Slot) (name : ℕ) (new : ℤ) (names : List ℕ) → HasEach slots names → HasEach (put_all name new slots) names
has-put slots name new names h = record { each = λ x k. subst (λ ys. has ys x ≡ true) (sym (syms-put name new slots)) (h.each x k) }

pub has-put_each : (syms : List ℕ) (news : List ℤ) (slots : List Slot) (names : List ℕ) → HasEach slots names → HasEach (put_each syms news slots) names
has-put_each [] news slots names h = h
has-put_each (x ∷ xs) [] slots names h = h
has-put_each (x ∷ xs) (v ∷ vs) slots names h = has-put_each xs vs (put_all x v slots) names (has-put slots x v names h)

pub named-put_each : (syms : List ℕ) (news : List ℤ) (slots : List Slot) (names : List ℕ) → HasEach slots names → Each (λ x. has names x ≡ true) syms →
    named (put_each syms news slots) ≡ with_numbers (named slots) syms news
named-put_each [] news slots names h e = refl
named-put_each (x ∷ xs) [] slots names h e = refl
named-put_each (x ∷ xs) (v ∷ vs) slots names h e =
    named-put_each xs vs (put_all x v slots) names (has-put slots x v names h) e.1
    ∙ ap (λ n. with_numbers n xs vs) (named-put slots x v (h.each x e.0))

-- ---- slots of a procedure that is entered

zero-step : (x : ℕ) (v : ℤ) → v ≡ pos 0 → with_number (no_names 0) x v ≡ no_names 0
zero-step x v e = λ i. record { own = 0; number = λ y. numbers y i; message = λ m. None }
  where
    numbers : (y : ℕ) → (if y == x then v else pos 0) ≡ pos 0
    numbers y = ap (λ w. if y == x then w else pos 0) e ∙ if-same (y == x) (pos 0)

pub zero-named : (slots : List Slot) → AreZero slots → named slots ≡ no_names 0
zero-named [] h = refl
zero-named (slot ∷ slots) h = ap (λ n. named_from n slots) (zero-step slot.sym slot.value h.0) ∙ zero-named slots h.1

pub named-append : (names : Names) (front back : List Slot) → named_from names (front ++ back) ≡ named_from (named_from names front) back
named-append names [] back = refl
named-append names (slot ∷ front) back = named-append (with_number names slot.sym slot.value) front back

pub zero-take : (n : ℕ) (slots : List Slot) → AreZero slots → AreZero (take n slots)
zero-take zero [] h = tt
zero-take (suc n) [] h = tt
zero-take zero (slot ∷ slots) h = tt
zero-take (suc n) (slot ∷ slots) h = (h.0, zero-take n slots h.1)

pub zero-set : (slots : List Slot) (i : ℕ) (new : Slot) → AreZero slots → new.value ≡ pos 0 → AreZero (slice_set slots i new)
zero-set [] i new h e = tt
zero-set (slot ∷ slots) zero new h e = (e, h.1)
zero-set (slot ∷ slots) (suc i) new h e = (h.0, zero-set slots i new h.1 e)

or-more : (a b c : Bool) → (b ≡ true → c ≡ true) → (a || b) ≡ true → (a || c) ≡ true
or-more true b c f h = refl
or-more false b c f h = f h

pub has-front : (n m : ℕ) (slots : List Slot) (x : ℕ) → n ≤ m → has (syms_of (take n slots)) x ≡ true → has (syms_of (take m slots)) x ≡ true
has-front zero m [] x w h = absurd (cc h)
has-front (suc n) m [] x w h = absurd (cc h)
has-front zero m (slot ∷ slots) x w h = absurd (cc h)
has-front (suc n) zero (slot ∷ slots) x w h = absurd (omega arith)
has-front (suc n) (suc m) (slot ∷ slots) x w h =
    or-more (x == slot.sym) (has (syms_of (take n slots)) x) (has (syms_of (take m slots)) x) (has-front n m slots x (omega arith)) h

pub has-whole : (n : ℕ) (slots : List Slot) (x : ℕ) → has (syms_of (take n slots)) x ≡ true → has (syms_of slots) x ≡ true
has-whole zero [] x h = absurd (cc h)
has-whole (suc n) [] x h = absurd (cc h)
has-whole zero (slot ∷ slots) x h = absurd (cc h)
has-whole (suc n) (slot ∷ slots) x h = or-more (x == slot.sym) (has (syms_of (take n slots)) x) (has (syms_of slots) x) (has-whole n slots x) h

pub named-push : (slots : List Slot) (new : Slot) → named (slots ++ new ∷ []) ≡ with_number (named slots) new.sym new.value
named-push slots new = named-append (no_names 0) slots (new ∷ [])

-- `me` stands behind slots whose numbers are 0
pub me-first : (slots : List Slot) (place more : ℕ) (me : ℤ) → AreZero slots → more ≡ place + 1 → place < length slots →
    named (take more (slice_set slots place (record { sym = 4; value = me }))) ≡ me_names 0 me
me-first slots place more me zeros e within =
    let new : Slot = record { sym = 4; value = me } in
    ap (λ n. named (take n (slice_set slots place new))) e
    ∙ (ap named (take_more_set slots place new within)
    ∙ (named-push (take place slots) new
    ∙ ap (λ n. with_number n 4 me) (zero-named (take place slots) (zero-take place slots zeros))))

-- one more parameter stands behind the slots
pub args-more : (slots : List Slot) (place more at : ℕ) (params : List Parameter) (args : List ℤ) (new : Slot) (d : Parameter) →
    more ≡ place + 1 → place < length slots → at < length params → length args ≡ length params → new.sym ≡ (get_or params at d).0 → new.value ≡ get_or args at (pos 0) →
    with_numbers (named (take more (slice_set slots place new))) (arg_names (drop (at + 1) params)) (drop (at + 1) args)
    ≡ with_numbers (named (take place slots)) (arg_names (drop at params)) (drop at args)
args-more slots place more at params args new d e within here same name value =
    let pushed : named (take more (slice_set slots place new)) ≡ with_number (named (take place slots)) (get_or params at d).0 (get_or args at (pos 0)) =
    ap (λ n. named (take n (slice_set slots place new))) e
    ∙ (ap named (take_more_set slots place new within)
    ∙ (named-push (take place slots) new
    ∙ (λ i. with_number (named (take place slots)) (name i) (value i)))) in
    let args_here : at < length args = omega arith in
    ap (λ n. with_numbers n (arg_names (drop (at + 1) params)) (drop (at + 1) args)) pushed
    ∙ (λ i. with_numbers (named (take place slots)) (arg_names (sym (drop_more params at d here) i)) (sym (drop_more args at (pos 0) args_here) i))

pub append-none : {X : Type 0} (xs : List X) → xs ++ [] ≡ xs
append-none [] = refl
append-none (x ∷ xs) = ap (λ ys. x ∷ ys) (append-none xs)

get-any : {X : Type 0} (xs : List X) (i : ℕ) (d e : X) → i < length xs → get_or xs i d ≡ get_or xs i e
get-any [] i d e h = absurd (omega arith)
get-any (x ∷ xs) zero d e h = refl
get-any (x ∷ xs) (suc i) d e h = get-any xs i d e (omega arith)

-- one more slot has its new number
pub put-more : (name : ℕ) (new : ℤ) (before slots : List Slot) (i : ℕ) (d written : Slot) → i < length before → i < length slots → written ≡ put name new (get_or slots i d) →
    slots ≡ put_all name new (take i before) ++ drop i before → slice_set slots i written ≡ put_all name new (take (i + 1) before) ++ drop (i + 1) before
put-more name new before slots i d written within inside e h =
    ap (slice_set slots i) e
    ∙ map_over_more (put name new) before slots i (get_or slots i d) within h (get-any slots i d (get_or slots i d) inside)

pub syms-more : (slots : List Slot) (names : List ℕ) (i : ℕ) (new : Slot) → i < length names → i < length slots → new.sym ≡ get_or names i 0 → syms_of (take i slots) ≡ take i names →
    syms_of (take (i + 1) (slice_set slots i new)) ≡ take (i + 1) names
syms-more slots names i new within inside e h =
    ap syms_of (take_more_set slots i new inside)
    ∙ (map-append (λ (slot : Slot). slot.sym) (take i slots) (new ∷ [])
    ∙ ((λ j. h j ++ e j ∷ []) ∙ sym (take_more names i 0 within)))
