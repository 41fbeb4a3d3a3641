-- Tables of keys, and what is looked up in them.
use Rattle.std.proofs.Common.{◌≡◌, ℕ, suc, ◌+◌, nat_lt, Bool, true, false, not, cond, ◌||◌, ◌&&◌, inl, inr, if◌then◌else◌, List, [], ◌∷◌, ◌++◌, append_assoc, append-nil, map, length, slice_get, position, Option, Some, None, refl, ap, sym, ◌∙◌, arith}
use Rattle.std.proofs.lemmas.Bool.{ltb-true, lt-ltb}
use Rattle.std.proofs.lemmas.List.Folds.{list_any-append}
use Rattle.std.specs.List.{AllByRecursion as Each, find, list_any, position_or_len}
use Rattle.dl_model.proofs.Small.{or-left, or-right, or-both, or-true-left, or-true-right, either-true}
use Rattle.dl_sequent.specs.declared.duty.Duty.{Duty}
use Rattle.dl_file.specs.declared.file.Proof.{Proof}
use Rattle.dl_faults.specs.Obligations.{same_duty, is_proof_of}
use Rattle.dl_faults.specs.Given.{are_once}
use Rattle.dl_verdict.specs.declared.keys.Key.{Key}
use Rattle.dl_verdict.specs.Keys.{key_of, key_of_proof, same_key, with_key, with_keys}
use Rattle.dl_verdict.proofs.KeyLemmas.{key-through, keys-tell, same-back}

-- ---- keys that are added

-- what a table has once a key was added
key-added : (q k : Key) (keys : List Key) → list_any (same_key q) (with_key keys k) ≡ (list_any (same_key q) keys || same_key q k)
key-added q k keys = go (list_any (same_key k) keys) refl
  where
    present : (keys : List Key) → list_any (same_key k) keys ≡ true → same_key q k ≡ true → list_any (same_key q) keys ≡ true
    present [] there same = cc
    present (x ∷ xs) there same = elim (either-true (same_key k x) (list_any (same_key k) xs) there) [
      | inl e ↦ or-true-left (same_key q x) (list_any (same_key q) xs) (key-through q k x same e)
      | inr e ↦ or-true-right (same_key q x) (list_any (same_key q) xs) (present xs e same)
    ]

    absorbed : (a b : Bool) → (b ≡ true → a ≡ true) → a ≡ (a || b)
    absorbed true b h = refl
    absorbed false true h = h refl
    absorbed false false h = refl

    with-false : (a b : Bool) → (a || (b || false)) ≡ (a || b)
    with-false true b = refl
    with-false false true = refl
    with-false false false = refl

    go : (b : Bool) → list_any (same_key k) keys ≡ b → list_any (same_key q) (if b then keys else keys ++ k ∷ []) ≡ (list_any (same_key q) keys || same_key q k)
    go true e = absorbed (list_any (same_key q) keys) (same_key q k) (present keys e)
    go false e = list_any-append (same_key q) keys (k ∷ []) ∙ with-false (list_any (same_key q) keys) (same_key q k)

or-turned : (a b c : Bool) → ((a || b) || c) ≡ (a || (b || c))
or-turned true b c = refl
or-turned false b c = refl

keys-added : (q : Key) (keys more : List Key) → list_any (same_key q) (with_keys keys more) ≡ (list_any (same_key q) keys || list_any (same_key q) more)
keys-added q keys [] = nothing (list_any (same_key q) keys)
  where
    nothing : (a : Bool) → a ≡ (a || false)
    nothing true = refl
    nothing false = refl
keys-added q keys (k ∷ more) =
    keys-added q (with_key keys k) more
    ∙ (ap (λ b. b || list_any (same_key q) more) (key-added q k keys) ∙ or-turned (list_any (same_key q) keys) (same_key q k) (list_any (same_key q) more))

among-keys : (d : Duty) (duties : List Duty) → list_any (same_key (key_of d)) (map key_of duties) ≡ list_any (same_duty d) duties
among-keys d [] = refl
among-keys d (x ∷ xs) = ap (λ b. b || list_any (same_key (key_of d)) (map key_of xs)) (keys-tell d x) ∙ ap (λ b. same_duty d x || b) (among-keys d xs)

-- whether an obligation is among those of a table
pub told-among : (d : Duty) (duties : List Duty) (keys : List Key) → keys ≡ with_keys [] (map key_of duties) → list_any (same_key (key_of d)) keys ≡ list_any (same_duty d) duties
told-among d duties keys e = ap (list_any (same_key (key_of d))) e ∙ (keys-added (key_of d) [] (map key_of duties) ∙ among-keys d duties)

-- ---- keys of which none stands twice

abbrev IsNew : List Key → Proof → Type 0
IsNew keys proof = list_any (same_key (key_of_proof proof)) keys ≡ false

abbrev duties_in : List Proof → List Duty
duties_in proofs = map (λ (proof : Proof). proof.duty) proofs

still-new : (keys : List Key) (first : Proof) (proofs : List Proof) → list_any (same_duty first.duty) (duties_in proofs) ≡ false → Each (IsNew keys) proofs → Each (IsNew (keys ++ key_of_proof first ∷ [])) proofs
still-new keys first [] other new = tt
still-new keys first (proof ∷ proofs) other new = (
  list_any-append (same_key (key_of_proof proof)) keys (key_of_proof first ∷ [])
      ∙ or-both (list_any (same_key (key_of_proof proof)) keys) (same_key (key_of_proof proof) (key_of_proof first) || false) new.0
      (or-both (same_key (key_of_proof proof) (key_of_proof first)) false
      (keys-tell proof.duty first.duty ∙ (same-back proof.duty first.duty ∙ or-left (same_duty first.duty proof.duty) (list_any (same_duty first.duty) (duties_in proofs)) other)) refl),
  still-new keys first proofs (or-right (same_duty first.duty proof.duty) (list_any (same_duty first.duty) (duties_in proofs)) other) new.1,
)

not-false : (b : Bool) → not b ≡ true → b ≡ false
not-false true h = cc
not-false false h = refl

both-left : (a b : Bool) → (a && b) ≡ true → a ≡ true
both-left true b h = refl
both-left false b h = cc

both-right : (a b : Bool) → (a && b) ≡ true → b ≡ true
both-right true b h = h
both-right false b h = cc

all-kept : (keys : List Key) (proofs : List Proof) → are_once (duties_in proofs) ≡ true → Each (IsNew keys) proofs → with_keys keys (map key_of_proof proofs) ≡ keys ++ map key_of_proof proofs
all-kept keys [] once new = sym (append-nil keys)
all-kept keys (proof ∷ proofs) once new =
    let key = key_of_proof proof in
    let other = not-false (list_any (same_duty proof.duty) (duties_in proofs)) (both-left (not (list_any (same_duty proof.duty) (duties_in proofs))) (are_once (duties_in proofs)) once) in
    let rest = both-right (not (list_any (same_duty proof.duty) (duties_in proofs))) (are_once (duties_in proofs)) once in
    let added : with_key keys key ≡ keys ++ key ∷ [] = rw new.0 refl in
    ap (λ (ks : List Key). with_keys ks (map key_of_proof proofs)) added
    ∙ (all-kept (keys ++ key ∷ []) proofs rest (still-new keys proof proofs other new.1) ∙ append_assoc keys (key ∷ []) (map key_of_proof proofs))

all-new : (proofs : List Proof) → Each (IsNew []) proofs
all-new [] = tt
all-new (proof ∷ proofs) = (refl, all-new proofs)

-- each proof of a file has its own key, in the order of the proofs
pub once-kept : (proofs : List Proof) → are_once (duties_in proofs) ≡ true → with_keys [] (map key_of_proof proofs) ≡ map key_of_proof proofs
once-kept proofs once = all-kept [] proofs once (all-new proofs)

-- ---- the first one that passes

next-less : (m n : ℕ) → nat_lt (1 + m) (suc n) ≡ nat_lt m n
next-less m n = go (nat_lt m n) refl
  where
    go : (b : Bool) → nat_lt m n ≡ b → nat_lt (1 + m) (suc n) ≡ b
    go true e = let less = ltb-true m n e in lt-ltb (1 + m) (suc n) (omega (less, arith))
    go false e = go_down (nat_lt (1 + m) (suc n)) refl
      where
        go_down : (c : Bool) → nat_lt (1 + m) (suc n) ≡ c → c ≡ false
        go_down true f = let less = ltb-true (1 + m) (suc n) f in let small : nat_lt m n ≡ true = lt-ltb m n (omega (less, arith)) in sym (sym e ∙ small)
        go_down false f = refl

abbrev lifted : Option ℕ → Option ℕ
lifted (Some n) = Some (1 + n)
lifted None = None

counted-on : (n : ℕ) (b : Bool) → cond b (Some (1 + n)) None ≡ lifted (cond b (Some n) None)
counted-on n true = refl
counted-on n false = refl

position-first : {K : Type 0} (test : K → Bool) (k : K) (ks : List K) → test k ≡ true → position test (k ∷ ks) ≡ Some 0
position-first test k ks e = rw e (rw (lt-ltb 0 (suc (length ks)) (omega arith)) refl)

position-next : {K : Type 0} (test : K → Bool) (k : K) (ks : List K) → test k ≡ false → position test (k ∷ ks) ≡ lifted (position test ks)
position-next test k ks e =
    let n = position_or_len test ks in
    ap (λ (b : Bool). cond (nat_lt (cond (not b) (1 + n) 0) (suc (length ks))) (Some (cond (not b) (1 + n) 0)) None) e
    ∙ (ap (λ (b : Bool). cond b (Some (1 + n)) None) (next-less n (length ks)) ∙ counted-on n (nat_lt n (length ks)))

module _ {X : Type 0} where
  abbrev pub stands_at : List X → Option ℕ → Option X
  stands_at xs (Some i) = slice_get xs i
  stands_at xs None = None

  stands-next : (x : X) (xs : List X) (o : Option ℕ) → stands_at (x ∷ xs) (lifted o) ≡ stands_at xs o
  stands-next x xs (Some i) = let next : 1 + i ≡ suc i = omega arith in rw next refl
  stands-next x xs None = refl

looked-up : (d : Duty) (proofs : List Proof) → stands_at proofs (position (same_key (key_of d)) (map key_of_proof proofs)) ≡ find (is_proof_of d) proofs
looked-up d [] = refl
looked-up d (proof ∷ proofs) = go (same_duty proof.duty d) refl (looked-up d proofs)
  where
    told : same_key (key_of d) (key_of_proof proof) ≡ same_duty proof.duty d
    told = keys-tell d proof.duty ∙ same-back d proof.duty

    go : (b : Bool) → same_duty proof.duty d ≡ b → stands_at proofs (position (same_key (key_of d)) (map key_of_proof proofs)) ≡ find (is_proof_of d) proofs →
        stands_at (proof ∷ proofs) (position (same_key (key_of d)) (map key_of_proof (proof ∷ proofs))) ≡ cond b (Some proof) (find (is_proof_of d) proofs)
    go true e rest = ap (stands_at (proof ∷ proofs)) (position-first (same_key (key_of d)) (key_of_proof proof) (map key_of_proof proofs) (told ∙ e))
    go false e rest =
        ap (stands_at (proof ∷ proofs)) (position-next (same_key (key_of d)) (key_of_proof proof) (map key_of_proof proofs) (told ∙ e))
        ∙ (stands-next proof proofs (position (same_key (key_of d)) (map key_of_proof proofs)) ∙ rest)

-- the proof of an obligation, by the place of its key
pub found-there : (d : Duty) (proofs : List Proof) (keys : List Key) (o : Option ℕ) → keys ≡ map key_of_proof proofs → o ≡ position (same_key (key_of d)) keys → stands_at proofs o ≡ find (is_proof_of d) proofs
found-there d proofs keys o e f = ap (stands_at proofs) (f ∙ ap (position (same_key (key_of d))) e) ∙ looked-up d proofs
