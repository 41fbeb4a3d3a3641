-- A set of keys has as many as there are proofs exactly where no obligation has two of them.
use Rattle.std.proofs.Common.{◌≡◌, ◌+◌, ◌≤◌, ◌==◌, Bool, true, false, not, ◌||◌, if◌then◌else◌, List, [], ◌∷◌, ◌++◌, append-nil, append_assoc, map, length, length-append, refl, ap, sym, ◌∙◌, eq-eqb, arith}
use Rattle.std.proofs.lemmas.Bool.{eqb-true}
use Rattle.std.proofs.lemmas.List.{length-map}
use Rattle.std.proofs.lemmas.List.Folds.{list_any-append}
use Rattle.std.specs.List.{AllByRecursion as Each, list_any}
use Rattle.dl_model.proofs.Small.{or-left, or-right, or-both}
use Rattle.dl_file.specs.declared.file.Proof.{Proof}
use Rattle.dl_faults.specs.Obligations.{same_duty}
use Rattle.dl_faults.specs.Given.{are_once}
use Rattle.dl_formed.proofs.Deciding.{itself, lacks, two}
use Rattle.dl_formed_file.specs.declared.keys.Key.{Key}
use Rattle.dl_formed_file.specs.Keys.{key_of_proof, same_key, with_key, with_keys, duties_in}
use Rattle.dl_formed_file.proofs.KeyLemmas.{keys-tell, same-back}

abbrev IsNew : List Key → Proof → Type 0
IsNew keys proof = list_any (same_key (key_of_proof proof)) keys ≡ false

-- ---- as many keys as proofs

at-most : (keys more : List Key) → length (with_keys keys more) ≤ length keys + length more
at-most keys [] = omega arith
at-most keys (key ∷ more) = go (list_any (same_key key) keys) refl (λ ks. at-most ks more)
  where
    go : (b : Bool) → list_any (same_key key) keys ≡ b → ((ks : List Key) → length (with_keys ks more) ≤ length ks + length more) →
        length (with_keys (if b then keys else keys ++ key ∷ []) more) ≤ length keys + length (key ∷ more)
    go true e rest = omega (arith, rest keys)
    go false e rest = omega (arith, rest (keys ++ key ∷ []), length-append keys (key ∷ []))

was-new : (keys : List Key) (first : Proof) (proofs : List Proof) → Each (IsNew (keys ++ key_of_proof first ∷ [])) proofs →
    (list_any (same_duty first.duty) (duties_in proofs) ≡ false) × Each (IsNew keys) proofs
was-new keys first [] new = (refl, tt)
was-new keys first (proof ∷ proofs) new =
    let key = key_of_proof proof in
    let rest = was-new keys first proofs new.1 in
    let apart : (list_any (same_key key) keys || (same_key key (key_of_proof first) || false)) ≡ false =
    sym (list_any-append (same_key key) keys (key_of_proof first ∷ [])) ∙ new.0 in
    let other : same_key key (key_of_proof first) ≡ false = or-left (same_key key (key_of_proof first)) false (or-right (list_any (same_key key) keys) _ apart) in (
      or-both (same_duty first.duty proof.duty) (list_any (same_duty first.duty) (duties_in proofs))
          (same-back first.duty proof.duty ∙ (sym (keys-tell proof.duty first.duty) ∙ other)) rest.0,
      (or-left (list_any (same_key key) keys) _ apart, rest.1),
    )

counted : (keys : List Key) (proofs : List Proof) → length (with_keys keys (map key_of_proof proofs)) ≡ length keys + length proofs →
    (are_once (duties_in proofs) ≡ true) × Each (IsNew keys) proofs
counted keys [] h = (refl, tt)
counted keys (proof ∷ proofs) h = go (list_any (same_key (key_of_proof proof)) keys) refl h (λ ks. counted ks proofs)
  where
    go : (b : Bool) → list_any (same_key (key_of_proof proof)) keys ≡ b →
        length (with_keys (if b then keys else keys ++ key_of_proof proof ∷ []) (map key_of_proof proofs)) ≡ length keys + length (proof ∷ proofs) →
        ((ks : List Key) → length (with_keys ks (map key_of_proof proofs)) ≡ length ks + length proofs → (are_once (duties_in proofs) ≡ true) × Each (IsNew ks) proofs) →
        (are_once (duties_in (proof ∷ proofs)) ≡ true) × Each (IsNew keys) (proof ∷ proofs)
    go true e k more = absurd (omega (arith, at-most keys (map key_of_proof proofs), length-map proofs key_of_proof))
    go false e k more =
        let rest = more (keys ++ key_of_proof proof ∷ []) (omega (arith, length-append keys (key_of_proof proof ∷ []))) in
        let apart = was-new keys proof proofs rest.1 in (
          (two (lacks (list_any (same_duty proof.duty) (duties_in proofs))) (itself (are_once (duties_in proofs)))).back (apart.0, rest.0),
          (e, apart.1),
        )

-- ---- each proof has its own key

still-new : (keys : List Key) (first : Proof) (proofs : List Proof) → list_any (same_duty first.duty) (duties_in proofs) ≡ false → Each (IsNew keys) proofs →
    Each (IsNew (keys ++ key_of_proof first ∷ [])) proofs
still-new keys first [] other new = tt
still-new keys first (proof ∷ proofs) other new = (
  list_any-append (same_key (key_of_proof proof)) keys (key_of_proof first ∷ [])
      ∙ or-both (list_any (same_key (key_of_proof proof)) keys) (same_key (key_of_proof proof) (key_of_proof first) || false) new.0
      (or-both (same_key (key_of_proof proof) (key_of_proof first)) false
      (keys-tell proof.duty first.duty ∙ (same-back proof.duty first.duty ∙ or-left (same_duty first.duty proof.duty) (list_any (same_duty first.duty) (duties_in proofs)) other)) refl),
  still-new keys first proofs (or-right (same_duty first.duty proof.duty) (list_any (same_duty first.duty) (duties_in proofs)) other) new.1,
)

all-kept : (keys : List Key) (proofs : List Proof) → are_once (duties_in proofs) ≡ true → Each (IsNew keys) proofs →
    with_keys keys (map key_of_proof proofs) ≡ keys ++ map key_of_proof proofs
all-kept keys [] once new = sym (append-nil keys)
all-kept keys (proof ∷ proofs) once new =
    let key = key_of_proof proof in
    let duties = duties_in proofs in
    let parts = (two {a = not (list_any (same_duty proof.duty) duties)} {b = are_once duties} (lacks (list_any (same_duty proof.duty) duties)) (itself (are_once duties))).there once in
    let added : with_key keys key ≡ keys ++ key ∷ [] = rw new.0 refl in
    ap (λ (ks : List Key). with_keys ks (map key_of_proof proofs)) added
    ∙ (all-kept (keys ++ key ∷ []) proofs parts.1 (still-new keys proof proofs parts.0 new.1) ∙ append_assoc keys (key ∷ []) (map key_of_proof proofs))

all-new : (proofs : List Proof) → Each (IsNew []) proofs
all-new [] = tt
all-new (proof ∷ proofs) = (refl, all-new proofs)

-- ---- the count

same-truth : (b c : Bool) → (b ≡ true → c ≡ true) → (c ≡ true → b ≡ true) → b ≡ c
same-truth true c h k = sym (h refl)
same-truth false true h k = k refl
same-truth false false h k = refl

pub count-tells : (proofs : List Proof) → (length (with_keys [] (map key_of_proof proofs)) == length proofs) ≡ are_once (duties_in proofs)
count-tells proofs =
    same-truth (length (with_keys [] (map key_of_proof proofs)) == length proofs) (are_once (duties_in proofs))
    (λ h. let same = eqb-true (length (with_keys [] (map key_of_proof proofs))) (length proofs) h in (counted [] proofs (omega arith)).0)
    (λ once. eq-eqb _ _ (ap length (all-kept [] proofs once (all-new proofs)) ∙ length-map proofs key_of_proof))
