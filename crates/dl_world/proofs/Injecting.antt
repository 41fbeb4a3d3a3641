-- A world can be injected exactly where no label lacks and no hook is uncovered.
use Rattle.std.proofs.Common.{◌≡◌, ◌↔◌, ℕ, zero, suc, ◌+◌, ◌-◌, ◌<◌, ◌≤◌, ◌==◌, Bool, true, false, not, ◌&&◌, ◌||◌, cond, Option, Some, None, List, [], ◌∷◌, length, get_or, refl, sym, ◌∙◌, ap, subst, arith, eq-eqb}
use Rattle.std.proofs.lemmas.Bool.{eqb-true}
use Rattle.std.specs.Prelude.{IsOk, unwrap_or, slice_get}
use Rattle.std.proofs.lemmas.Option.{slice_get_read}
use Rattle.std.specs.List.{find, range_with_len, AllByRecursion as Each}
use Rattle.dl_term.specs.declared.syntax.Formula.{True}
use Rattle.dl_model.specs.declared.protocol.Hook.{Hook}
use Rattle.dl_model.specs.declared.file.World.{World}
use Rattle.dl_model.specs.declared.file.Decls.{Decls}
use Rattle.dl_model.specs.Sorts.{has}
use Rattle.dl_model.specs.Lookup.{hook_at}
use Rattle.dl_model.specs.Worlds.{Injects}
use Rattle.dl_model.proofs.Small.{or-true-left, or-true-right}
use Rattle.dl_world.proofs.Rests.{numbers-here}
use Rattle.dl_world.specs.Injected.{HooksAreDeclared, is_in_one, is_uncovered, first_lacking, first_uncovered, judged, injection}

-- ---- finding

head-false : (b : Bool) (y : ℕ) (r : Option ℕ) → cond b (Some y) r ≡ None → b ≡ false
head-false true y r e = cc
head-false false y r e = refl

tail-none : (b : Bool) (y : ℕ) (r : Option ℕ) → cond b (Some y) r ≡ None → r ≡ None
tail-none true y r e = cc
tail-none false y r e = e

none-found : (p : ℕ → Bool) (xs : List ℕ) → find p xs ≡ None → (x : ℕ) → has xs x ≡ true → p x ≡ false
none-found p [] e x h = cc
none-found p (y ∷ ys) e x h = go (x == y) refl h (none-found p ys (tail-none (p y) y (find p ys) e) x)
  where
    go : (b : Bool) → (x == y) ≡ b → (b || has ys x) ≡ true → (has ys x ≡ true → p x ≡ false) → p x ≡ false
    go true same k rest = subst (λ z. p z ≡ false) (sym (eqb-true x y same)) (head-false (p y) y (find p ys) e)
    go false other k rest = rest k

finds-none : (p : ℕ → Bool) (xs : List ℕ) → ((x : ℕ) → has xs x ≡ true → p x ≡ false) → find p xs ≡ None
finds-none p [] f = refl
finds-none p (y ∷ ys) f = go (p y) (f y (or-true-left (y == y) (has ys y) (eq-eqb y y refl))) (finds-none p ys (λ x h. f x (or-true-right (x == y) (has ys x) h)))
  where
    go : (b : Bool) → b ≡ false → find p ys ≡ None → cond b (Some y) (find p ys) ≡ None
    go true e rest = cc
    go false e rest = rest

-- ---- declared hooks

in-range : (n k x : ℕ) → k ≤ x → x < k + n → has (range_with_len k n) x ≡ true
in-range zero k x low high = absurd (omega arith)
in-range (suc n) k x low high = go (x == k) refl (λ above. in-range n (k + 1) x above (omega arith))
  where
    go : (b : Bool) → (x == k) ≡ b → (k + 1 ≤ x → has (range_with_len (k + 1) n) x ≡ true) → (b || has (range_with_len (k + 1) n) x) ≡ true
    go true e rest = refl
    go false e rest =
        let other : x ≡ k → ⊥ = λ same. cc (eq-eqb x k same, e) in
        rest (omega arith)

declared-below : (n : ℕ) (hooks : List ℕ) → Each (λ hook. hook < n) hooks → (x : ℕ) → has hooks x ≡ true → x < n
declared-below n [] each x h = cc
declared-below n (y ∷ ys) each x h = go (x == y) refl h (declared-below n ys each.1 x)
  where
    go : (b : Bool) → (x == y) ≡ b → (b || has ys x) ≡ true → (has ys x ≡ true → x < n) → x < n
    go true same k rest = subst (λ z. z < n) (sym (eqb-true x y same)) each.0
    go false other k rest = rest k

-- ---- covered hooks

covered : (ours theirs client : Bool) → cond client (cond ours (not theirs) theirs) ours ≡ false → ours ≡ (theirs && client)
covered true true true e = refl
covered true true false e = cc
covered true false true e = cc
covered true false false e = cc
covered false true true e = cc
covered false true false e = refl
covered false false true e = refl
covered false false false e = refl

covers : (ours theirs client : Bool) → ours ≡ (theirs && client) → cond client (cond ours (not theirs) theirs) ours ≡ false
covers true true true e = refl
covers true true false e = cc
covers true false true e = cc
covers true false false e = cc
covers false true true e = cc
covers false true false e = refl
covers false false true e = refl
covers false false false e = refl

not-lacking : (b : Bool) → not b ≡ false → b ≡ true
not-lacking true e = refl
not-lacking false e = cc

lacking-not : (b : Bool) → b ≡ true → not b ≡ false
lacking-not true e = refl
lacking-not false e = cc

hooks-agree : (decls : Decls) (small large : World) → HooksAreDeclared decls small → HooksAreDeclared decls large → first_uncovered decls small large ≡ None →
    (hook : ℕ) → has small.hooks hook ≡ (has large.hooks hook && has small.labels (hook_at decls hook).client)
hooks-agree decls small large ours theirs none hook =
    go (has small.hooks hook) (has large.hooks hook) refl refl
    (λ below. covered (has small.hooks hook) (has large.hooks hook) (has small.labels (hook_at decls hook).client)
    (none-found (is_uncovered decls small large) (range_with_len 0 (length decls.hooks)) none hook (in-range (length decls.hooks) 0 hook (omega arith) (omega arith))))
  where
    go : (a b : Bool) → has small.hooks hook ≡ a → has large.hooks hook ≡ b →
        (hook < length decls.hooks → has small.hooks hook ≡ (has large.hooks hook && has small.labels (hook_at decls hook).client)) →
        has small.hooks hook ≡ (has large.hooks hook && has small.labels (hook_at decls hook).client)
    go true b e f declared = declared (declared-below (length decls.hooks) small.hooks ours hook e)
    go false true e f declared = declared (declared-below (length decls.hooks) large.hooks theirs hook f)
    go false false e f declared = e ∙ sym (ap (λ v. v && has small.labels (hook_at decls hook).client) f)

-- ---- both

judged-none : (o p : Option ℕ) → IsOk (judged o p) → (o ≡ None) × (p ≡ None)
judged-none (Some label) p h = cc
judged-none None (Some hook) h = cc
judged-none None None h = (refl, refl)

judged-ok : (o p : Option ℕ) → o ≡ None → p ≡ None → IsOk (judged o p)
judged-ok (Some label) p e f = cc
judged-ok None (Some hook) e f = cc
judged-ok None None e f = refl

injects : (decls : Decls) (small large : World) → HooksAreDeclared decls small → HooksAreDeclared decls large → IsOk (injection decls small large) → Injects decls small large
injects decls small large ours theirs h =
    let none = judged-none (first_lacking small large) (first_uncovered decls small large) h in
    record {
      labels = λ label there. not-lacking (has large.labels label) (none-found (λ label. not (has large.labels label)) small.labels none.0 label there);
      hooks = hooks-agree decls small large ours theirs none.1;
    }

injected : (decls : Decls) (small large : World) → Injects decls small large → IsOk (injection decls small large)
injected decls small large h =
    judged-ok (first_lacking small large) (first_uncovered decls small large)
    (finds-none (λ label. not (has large.labels label)) small.labels (λ label there. lacking-not (has large.labels label) (h.labels label there)))
    (finds-none (is_uncovered decls small large) (range_with_len 0 (length decls.hooks))
    (λ hook there. covers (has small.hooks hook) (has large.hooks hook) (has small.labels (hook_at decls hook).client) (h.hooks hook)))

pub injection-says : (decls : Decls) (small large : World) → HooksAreDeclared decls small → HooksAreDeclared decls large → IsOk (injection decls small large) ↔ Injects decls small large
injection-says decls small large ours theirs = (injects decls small large ours theirs, injected decls small large)

-- ---- the loop over the declared hooks

abbrev no_hook : Hook
no_hook = record { sym = 0; core = 0; client = 0; tag = 0; args = []; formula = True }

pub declared-hook : (decls : Decls) (hooks : List Hook) (i : ℕ) (hook : Hook) → hooks ≡ decls.hooks → i < length hooks → hook ≡ get_or hooks i hook → hook_at decls i ≡ hook
declared-hook decls hooks i hook same h e =
    ap (λ hooks. unwrap_or (slice_get hooks i) no_hook) (sym same) ∙ ap (λ o. unwrap_or o no_hook) (slice_get_read hooks (length hooks) i hook refl h e)

pub tested : (decls : Decls) (small large : World) (i : ℕ) (hook : Hook) (labels ours theirs : List ℕ) (b : Bool) →
    labels ≡ small.labels → ours ≡ small.hooks → theirs ≡ large.hooks → hook_at decls i ≡ hook →
    b ≡ cond (has labels hook.client) (cond (has ours i) (not (has theirs i)) (has theirs i)) (has ours i) → is_uncovered decls small large i ≡ b
tested decls small large i hook labels ours theirs b e f g at is =
    ap (λ (h : Hook). cond (has small.labels h.client) (is_in_one small large i) (has small.hooks i)) at
    ∙ (ap (λ (ns : List ℕ). cond (has ns hook.client) (is_in_one small large i) (has small.hooks i)) (sym e)
    ∙ (ap (λ (ns : List ℕ). cond (has labels hook.client) (cond (has ns i) (not (has large.hooks i)) (has large.hooks i)) (has ns i)) (sym f)
    ∙ (ap (λ (ns : List ℕ). cond (has labels hook.client) (cond (has ours i) (not (has ns i)) (has ns i)) (has ours i)) (sym g) ∙ sym is)))

pub uncovered-here : (decls : Decls) (small large : World) (i : ℕ) → i < length decls.hooks →
    find (is_uncovered decls small large) (range_with_len i (length decls.hooks - i)) ≡ first_uncovered decls small large →
    is_uncovered decls small large i ≡ true → Some i ≡ first_uncovered decls small large
uncovered-here decls small large i h found is =
    ap (λ b. cond b (Some i) (find (is_uncovered decls small large) (range_with_len (i + 1) (length decls.hooks - (i + 1))))) (sym is)
    ∙ (ap (find (is_uncovered decls small large)) (sym (numbers-here i (length decls.hooks) h)) ∙ found)

pub covered-here : (decls : Decls) (small large : World) (i : ℕ) → i < length decls.hooks →
    find (is_uncovered decls small large) (range_with_len i (length decls.hooks - i)) ≡ first_uncovered decls small large →
    is_uncovered decls small large i ≡ false → find (is_uncovered decls small large) (range_with_len (i + 1) (length decls.hooks - (i + 1))) ≡ first_uncovered decls small large
covered-here decls small large i h found is =
    ap (λ b. cond b (Some i) (find (is_uncovered decls small large) (range_with_len (i + 1) (length decls.hooks - (i + 1))))) (sym is)
    ∙ (ap (find (is_uncovered decls small large)) (sym (numbers-here i (length decls.hooks) h)) ∙ found)
