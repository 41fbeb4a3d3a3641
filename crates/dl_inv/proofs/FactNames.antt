-- The hypotheses of an obligation have distinct names.
use Rattle.std.proofs.Common.{◌≡◌, ℕ, zero, suc, ◌<◌, ◌≤◌, ◌==◌, Bool, true, false, not, if◌then◌else◌, Option, Some, None, List, [], ◌∷◌, ◌++◌, map, take, length, slice_get, unwrap_or, refl, ◌∙◌, ap, sym, subst, eq-eqb, arith, inl, inr, ◌⊎◌}
use Rattle.std.proofs.lemmas.Bool.{eqb-true}
use Rattle.std.specs.List.{AllByRecursion as Each, flat_map}
use Rattle.dl_term.specs.declared.syntax.Formula.{Formula}
use Rattle.dl_model.specs.declared.sequent.Hypothesis.{Hypothesis}
use Rattle.dl_model.specs.declared.protocol.Protocol.{Protocol}
use Rattle.dl_model.specs.declared.protocol.Hook.{Hook}
use Rattle.dl_model.specs.declared.program.Proc.{Proc}
use Rattle.dl_model.specs.declared.file.World.{World}
use Rattle.dl_model.specs.declared.file.Invariant.{Invariant}
use Rattle.dl_model.specs.declared.file.Decls.{Decls}
use Rattle.dl_model.specs.Sorts.{has}
use Rattle.dl_model.specs.Lookup.{protocol_at, world_at}
use Rattle.dl_model.specs.Words.{first_name}
use Rattle.dl_model.specs.Formed.{AreDistinct, WorldIsFormed, IsFormed}
use Rattle.dl_model.proofs.Small.{and-both, or-both, or-left, or-right, or-true-left, or-true-right, either-true, eqb-other, each-front, each-back, lacks-front, lacks-back}
use Rattle.dl_sequent.specs.Clean.{are_distinct}
use Rattle.dl_inv.specs.Facts.{label_name, coherence_fact, coherence_at, visible_in, injects}
use Rattle.dl_inv.proofs.Lists.{each-at, true-false, lacks-all, absent}

-- ---- distinct lists

pub distinct-is : (xs : List ℕ) → AreDistinct xs → are_distinct xs ≡ true
distinct-is [] h = refl
distinct-is (x ∷ xs) h = and-both (not (has xs x)) (are_distinct xs) (ap not h.0) (distinct-is xs h.1)

pub distinct-join : (xs ys : List ℕ) → AreDistinct xs → AreDistinct ys → ((n : ℕ) → has xs n ≡ true → has ys n ≡ false) → AreDistinct (xs ++ ys)
distinct-join [] ys h k d = k
distinct-join (x ∷ xs) ys h k d = (lacks-all xs ys x h.0 (d x (or-true-left (x == x) (has xs x) (eq-eqb x x refl))), distinct-join xs ys h.1 k (λ n m. d n (or-true-right (n == x) (has xs n) m)))

distinct-front : (xs ys : List ℕ) → AreDistinct (xs ++ ys) → AreDistinct xs
distinct-front [] ys h = tt
distinct-front (x ∷ xs) ys h = (lacks-front xs ys x h.0, distinct-front xs ys h.1)

distinct-back : (xs ys : List ℕ) → AreDistinct (xs ++ ys) → AreDistinct ys
distinct-back [] ys h = h
distinct-back (x ∷ xs) ys h = distinct-back xs ys h.1

front-not-back : (xs ys : List ℕ) (n : ℕ) → AreDistinct (xs ++ ys) → has xs n ≡ true → has ys n ≡ false
front-not-back [] ys n h e = cc
front-not-back (x ∷ xs) ys n h e = elim (either-true (n == x) (has xs n) e) [
  | inl q ↦ subst (λ m. has ys m ≡ false) (sym (eqb-true n x q)) (lacks-back xs ys x h.0)
  | inr q ↦ front-not-back xs ys n h.1 q
]

-- what is at a place is in the list, and at one place alone
pub at-has : (xs : List ℕ) (k x : ℕ) → slice_get xs k ≡ Some x → has xs x ≡ true
at-has [] k x e = cc
at-has (y ∷ ys) zero x e = let same : y ≡ x = cc in or-true-left (x == y) (has ys x) (eq-eqb x y (sym same))
at-has (y ∷ ys) (suc k) x e = or-true-right (x == y) (has ys x) (at-has ys k x e)

one-place : (xs : List ℕ) (j k x : ℕ) → AreDistinct xs → slice_get xs j ≡ Some x → slice_get xs k ≡ Some x → j ≡ k
one-place [] j k x d e f = cc
one-place (y ∷ ys) zero zero x d e f = refl
one-place (y ∷ ys) zero (suc k) x d e f = let same : y ≡ x = cc in absurd (true-false (has ys y) (subst (λ n. has ys n ≡ true) (sym same) (at-has ys k x f)) d.0)
one-place (y ∷ ys) (suc j) zero x d e f = let same : y ≡ x = cc in absurd (true-false (has ys y) (subst (λ n. has ys n ≡ true) (sym same) (at-has ys j x e)) d.0)
one-place (y ∷ ys) (suc j) (suc k) x d e f = ap suc (one-place ys j k x d.1 e f)

there-at : (xs : List ℕ) (k : ℕ) → k < length xs → slice_get xs k ≡ Some (unwrap_or (slice_get xs k) 0)
there-at [] k h = absurd (omega (h, arith))
there-at (x ∷ xs) zero h = refl
there-at (x ∷ xs) (suc k) h = there-at xs k (omega (h, arith))

-- the names at distinct places of a list of distinct names are distinct
module _ (names : List ℕ) (d : AreDistinct names) where
  abbrev name_of : ℕ → ℕ
  name_of k = unwrap_or (slice_get names k) 0

  other-place : (ks : List ℕ) (k : ℕ) → k < length names → Each (λ j. j < length names) ks → has ks k ≡ false → has (map name_of ks) (name_of k) ≡ false
  other-place [] k l h n = refl
  other-place (j ∷ ks) k l h n = or-both (name_of k == name_of j) (has (map name_of ks) (name_of k))
      (eqb-other (name_of k) (name_of j) (λ e. true-false (k == j) (eq-eqb k j (one-place names k j (name_of k) d (there-at names k l) (there-at names j h.0 ∙ ap Some (sym e)))) (or-left (k == j) (has ks k) n)))
      (other-place ks k l h.1 (or-right (k == j) (has ks k) n))

  pub places-distinct : (ks : List ℕ) → Each (λ j. j < length names) ks → AreDistinct ks → AreDistinct (map name_of ks)
  places-distinct [] h k = tt
  places-distinct (j ∷ ks) h k = (other-place ks j h.0 h.1 k.0, places-distinct ks h.1 k.1)

  pub places-there : (ks : List ℕ) → Each (λ j. j < length names) ks → (n : ℕ) → has (map name_of ks) n ≡ true → has names n ≡ true
  places-there [] h n m = cc
  places-there (j ∷ ks) h n m = elim (either-true (n == name_of j) (has (map name_of ks) n) m) [
    | inl e ↦ subst (λ x. has names x ≡ true) (sym (eqb-true n (name_of j) e)) (at-has names j (name_of j) (there-at names j h.0))
    | inr e ↦ places-there ks h.1 n e
  ]

-- ---- names of hypotheses that are there or not

map-append : (xs ys : List Hypothesis) → map (λ (h : Hypothesis). h.name) (xs ++ ys) ≡ map (λ (h : Hypothesis). h.name) xs ++ map (λ (h : Hypothesis). h.name) ys
map-append [] ys = refl
map-append (x ∷ xs) ys = ap (λ zs. x.name ∷ zs) (map-append xs ys)

abbrev IsNamed : ℕ → List Hypothesis → Type 0
IsNamed n hs = (map (λ (h : Hypothesis). h.name) hs ≡ []) ⊎ (map (λ (h : Hypothesis). h.name) hs ≡ n ∷ [])

module _ {X : Type 0} (f : X → List Hypothesis) (g : X → ℕ) (named : (x : X) → IsNamed (g x) (f x)) where
  some-there : (xs : List X) (n : ℕ) → has (map (λ (h : Hypothesis). h.name) (flat_map f xs)) n ≡ true → has (map g xs) n ≡ true
  some-there [] n m = cc
  some-there (x ∷ xs) n m = elim (named x) [
    | inl e ↦ or-true-right (n == g x) (has (map g xs) n) (some-there xs n (subst (λ zs. has (zs ++ map (λ (h : Hypothesis). h.name) (flat_map f xs)) n ≡ true) e (subst (λ zs. has zs n ≡ true) (map-append (f x) (flat_map f xs)) m)))
    | inr e ↦ elim (either-true (n == g x) (has (map (λ (h : Hypothesis). h.name) (flat_map f xs)) n) (subst (λ zs. has (zs ++ map (λ (h : Hypothesis). h.name) (flat_map f xs)) n ≡ true) e (subst (λ zs. has zs n ≡ true) (map-append (f x) (flat_map f xs)) m))) [
      | inl q ↦ or-true-left (n == g x) (has (map g xs) n) q
      | inr q ↦ or-true-right (n == g x) (has (map g xs) n) (some-there xs n q)
    ]
  ]

  some-distinct : (xs : List X) → AreDistinct (map g xs) → AreDistinct (map (λ (h : Hypothesis). h.name) (flat_map f xs))
  some-distinct [] d = tt
  some-distinct (x ∷ xs) d = subst AreDistinct (sym (map-append (f x) (flat_map f xs))) (elim (named x) [
    | inl e ↦ subst (λ zs. AreDistinct (zs ++ map (λ (h : Hypothesis). h.name) (flat_map f xs))) (sym e) (some-distinct xs d.1)
    | inr e ↦ subst (λ zs. AreDistinct (zs ++ map (λ (h : Hypothesis). h.name) (flat_map f xs))) (sym e)
        (absent (has (map (λ (h : Hypothesis). h.name) (flat_map f xs)) (g x)) (has (map g xs) (g x)) (some-there xs (g x)) d.0, some-distinct xs d.1)
  ])

-- ---- the facts of a world

abbrev sym_of : Invariant → ℕ
sym_of invariant = invariant.sym

take-has : (xs : List Invariant) (n k : ℕ) → has (map sym_of (take n xs)) k ≡ true → has (map sym_of xs) k ≡ true
take-has [] zero k m = m
take-has [] (suc n) k m = m
take-has (x ∷ xs) zero k m = cc
take-has (x ∷ xs) (suc n) k m = elim (either-true (k == x.sym) (has (map sym_of (take n xs)) k) m) [ inl e ↦ or-true-left (k == x.sym) (has (map sym_of xs) k) e | inr e ↦ or-true-right (k == x.sym) (has (map sym_of xs) k) (take-has xs n k e) ]

take-distinct : (xs : List Invariant) (n : ℕ) → AreDistinct (map sym_of xs) → AreDistinct (map sym_of (take n xs))
take-distinct [] zero d = tt
take-distinct [] (suc n) d = tt
take-distinct (x ∷ xs) zero d = tt
take-distinct (x ∷ xs) (suc n) d = (absent (has (map sym_of (take n xs)) x.sym) (has (map sym_of xs) x.sym) (take-has xs n x.sym) d.0, take-distinct xs n d.1)

invariant-there : (xs : List Invariant) (n : ℕ) (x : Invariant) → slice_get xs n ≡ Some x → has (map sym_of xs) x.sym ≡ true
invariant-there [] n x e = cc
invariant-there (y ∷ ys) zero x e = let same : y ≡ x = cc in or-true-left (x.sym == y.sym) (has (map sym_of ys) x.sym) (eq-eqb x.sym y.sym (ap (λ (v : Invariant). v.sym) (sym same)))
invariant-there (y ∷ ys) (suc n) x e = or-true-right (x.sym == y.sym) (has (map sym_of ys) x.sym) (invariant-there ys n x e)

-- an invariant is not among those before it
not-before : (xs : List Invariant) (n : ℕ) (x : Invariant) → slice_get xs n ≡ Some x → AreDistinct (map sym_of xs) → has (map sym_of (take n xs)) x.sym ≡ false
not-before [] n x e d = cc
not-before (y ∷ ys) zero x e d = refl
not-before (y ∷ ys) (suc n) x e d = or-both (x.sym == y.sym) (has (map sym_of (take n ys)) x.sym)
    (eqb-other x.sym y.sym (λ s. true-false (has (map sym_of ys) y.sym) (subst (λ k. has (map sym_of ys) k ≡ true) s (invariant-there ys n x e)) d.0))
    (not-before ys n x e d.1)

module _ (d : Decls) (formed : IsFormed d) where
  abbrev protocols : List ℕ
  protocols = map (λ (protocol : Protocol). protocol.sym) d.inst.protocols

  abbrev hooks : List ℕ
  hooks = map (λ (hook : Hook). hook.sym) d.hooks

  abbrev worlds : List ℕ
  worlds = map (λ (world : World). world.sym) d.worlds

  abbrev invariants : List ℕ
  invariants = map sym_of d.invariants

  abbrev procs : List ℕ
  procs = map (λ (proc : Proc). proc.sym) d.procs

  after-labels : AreDistinct (d.labels ++ (hooks ++ (worlds ++ (invariants ++ procs))))
  after-labels = distinct-back protocols (d.labels ++ (hooks ++ (worlds ++ (invariants ++ procs)))) formed.names.distinct

  labels-distinct : AreDistinct d.labels
  labels-distinct = distinct-front d.labels (hooks ++ (worlds ++ (invariants ++ procs))) after-labels

  after-worlds : AreDistinct (invariants ++ procs)
  after-worlds = distinct-back worlds (invariants ++ procs) (distinct-back hooks (worlds ++ (invariants ++ procs)) (distinct-back d.labels (hooks ++ (worlds ++ (invariants ++ procs))) after-labels))

  invariants-distinct : AreDistinct invariants
  invariants-distinct = distinct-front invariants procs after-worlds

  no-label : (n : ℕ) → has d.labels n ≡ true → has invariants n ≡ false
  no-label n m = lacks-front invariants procs n (lacks-back worlds (invariants ++ procs) n (lacks-back hooks (worlds ++ (invariants ++ procs)) n (front-not-back d.labels (hooks ++ (worlds ++ (invariants ++ procs))) n after-labels m)))

  large-label : (n : ℕ) → has d.labels n ≡ true → first_name ≤ n
  large-label n m = each-at (λ name. first_name ≤ name) d.labels n (each-front (λ name. first_name ≤ name) d.labels (hooks ++ (worlds ++ (invariants ++ procs)))
      (each-back (λ name. first_name ≤ name) protocols (d.labels ++ (hooks ++ (worlds ++ (invariants ++ procs)))) formed.names.allowed)) m

  large-invariant : (n : ℕ) → has invariants n ≡ true → first_name ≤ n
  large-invariant n m = each-at (λ name. first_name ≤ name) invariants n (each-front (λ name. first_name ≤ name) invariants procs (each-back (λ name. first_name ≤ name) worlds (invariants ++ procs)
      (each-back (λ name. first_name ≤ name) hooks (worlds ++ (invariants ++ procs)) (each-back (λ name. first_name ≤ name) d.labels (hooks ++ (worlds ++ (invariants ++ procs)))
      (each-back (λ name. first_name ≤ name) protocols (d.labels ++ (hooks ++ (worlds ++ (invariants ++ procs)))) formed.names.allowed))))) m

  coherence-named : (label : ℕ) (c : Option Formula) → IsNamed (label_name d label) (coherence_fact d label c)
  coherence-named label (Some f) = inr refl
  coherence-named label None = inl refl

  visible-named : (world : World) (invariant : Invariant) (b : Bool) → IsNamed invariant.sym (if b then record { name = invariant.sym; formula = invariant.formula } ∷ [] else [])
  visible-named world invariant true = inr refl
  visible-named world invariant false = inl refl

  module _ (world : World) (world_formed : WorldIsFormed d world) (i : ℕ) where
    known-labels : Each (λ label. label < length d.labels) world.labels
    known-labels = subst (λ n. Each (λ label. label < n) world.labels) (sym formed.label_names) world_formed.labels

    abbrev coherences : List Hypothesis
    coherences = flat_map (coherence_at d) world.labels

    abbrev visible : List Hypothesis
    visible = flat_map (visible_in d world) (take i d.invariants)

    label-of-coherence : (n : ℕ) → has (map (λ (h : Hypothesis). h.name) coherences) n ≡ true → has d.labels n ≡ true
    label-of-coherence n m = places-there d.labels labels-distinct world.labels known-labels n
        (some-there (coherence_at d) (label_name d) (λ label. coherence-named label (protocol_at d.inst label).coherence) world.labels n m)

    before-of-visible : (n : ℕ) → has (map (λ (h : Hypothesis). h.name) visible) n ≡ true → has (map sym_of (take i d.invariants)) n ≡ true
    before-of-visible n m = some-there (visible_in d world) sym_of (λ v. visible-named world v (injects d (world_at d v.world) world)) (take i d.invariants) n m

    abbrev both : List Hypothesis
    both = coherences ++ visible

    both-are : map (λ (h : Hypothesis). h.name) both ≡ map (λ (h : Hypothesis). h.name) coherences ++ map (λ (h : Hypothesis). h.name) visible
    both-are = map-append coherences visible

    both-distinct : AreDistinct (map (λ (h : Hypothesis). h.name) coherences ++ map (λ (h : Hypothesis). h.name) visible)
    both-distinct =
        distinct-join (map (λ (h : Hypothesis). h.name) coherences) (map (λ (h : Hypothesis). h.name) visible)
        (some-distinct (coherence_at d) (label_name d) (λ label. coherence-named label (protocol_at d.inst label).coherence) world.labels (places-distinct d.labels labels-distinct world.labels known-labels world_formed.labels_once))
        (some-distinct (visible_in d world) sym_of (λ v. visible-named world v (injects d (world_at d v.world) world)) (take i d.invariants) (take-distinct d.invariants i invariants-distinct))
        (λ n m. absent _ (has invariants n) (λ v. take-has d.invariants i n (before-of-visible n v)) (no-label n (label-of-coherence n m)))

    -- the facts of the world have distinct names
    pub world-facts-distinct : AreDistinct (map (λ (h : Hypothesis). h.name) both)
    world-facts-distinct = subst AreDistinct (sym both-are) both-distinct

    in-front : (n : ℕ) (xs ys : List ℕ) → has (xs ++ ys) n ≡ true → (has xs n ≡ true) ⊎ (has ys n ≡ true)
    in-front n [] ys h = inr h
    in-front n (x ∷ xs) ys h = elim (either-true (n == x) (has (xs ++ ys) n) h) [
      | inl e ↦ inl (or-true-left (n == x) (has xs n) e)
      | inr e ↦ elim (in-front n xs ys e) [ inl f ↦ inl (or-true-right (n == x) (has xs n) f) | inr f ↦ inr f ]
    ]

    both-large : (n : ℕ) → has (map (λ (h : Hypothesis). h.name) coherences ++ map (λ (h : Hypothesis). h.name) visible) n ≡ true → first_name ≤ n
    both-large n m = elim (in-front n (map (λ (h : Hypothesis). h.name) coherences) (map (λ (h : Hypothesis). h.name) visible) m) [
      | inl f ↦ large-label n (label-of-coherence n f)
      | inr f ↦ large-invariant n (take-has d.invariants i n (before-of-visible n f))
    ]

    -- and none of them has the name of a word
    pub world-facts-large : (n : ℕ) → has (map (λ (h : Hypothesis). h.name) both) n ≡ true → first_name ≤ n
    world-facts-large n m = both-large n (subst (λ xs. has xs n ≡ true) both-are m)

    module _ (invariant : Invariant) (is : slice_get d.invariants i ≡ Some invariant) where
      abbrev all : List Hypothesis
      all = (coherences ++ visible) ++ record { name = invariant.sym; formula = invariant.formula } ∷ []

      names-are : map (λ (h : Hypothesis). h.name) all ≡ (map (λ (h : Hypothesis). h.name) coherences ++ map (λ (h : Hypothesis). h.name) visible) ++ invariant.sym ∷ []
      names-are = map-append (coherences ++ visible) (record { name = invariant.sym; formula = invariant.formula } ∷ []) ∙ ap (λ xs. xs ++ invariant.sym ∷ []) (map-append coherences visible)

      own-there : has invariants invariant.sym ≡ true
      own-there = invariant-there d.invariants i invariant is

      not-own : (n : ℕ) → has (map (λ (h : Hypothesis). h.name) coherences ++ map (λ (h : Hypothesis). h.name) visible) n ≡ true → has (invariant.sym ∷ []) n ≡ false
      not-own n m = or-both (n == invariant.sym) false (eqb-other n invariant.sym (λ e. clash (subst (λ k. has (map (λ (h : Hypothesis). h.name) coherences ++ map (λ (h : Hypothesis). h.name) visible) k ≡ true) e m))) refl
        where
          clash : has (map (λ (h : Hypothesis). h.name) coherences ++ map (λ (h : Hypothesis). h.name) visible) invariant.sym ≡ true → ⊥
          clash m = true-false (has (map (λ (h : Hypothesis). h.name) coherences ++ map (λ (h : Hypothesis). h.name) visible) invariant.sym) m
              (lacks-all (map (λ (h : Hypothesis). h.name) coherences) (map (λ (h : Hypothesis). h.name) visible) invariant.sym
              (absent _ (has d.labels invariant.sym) (label-of-coherence invariant.sym) (absent _ false (λ h. sym (no-label invariant.sym h) ∙ own-there) refl))
              (absent _ (has (map sym_of (take i d.invariants)) invariant.sym) (before-of-visible invariant.sym) (not-before d.invariants i invariant is invariants-distinct)))

      pub facts-distinct : AreDistinct (map (λ (h : Hypothesis). h.name) all)
      facts-distinct = subst AreDistinct (sym names-are) (distinct-join (map (λ (h : Hypothesis). h.name) coherences ++ map (λ (h : Hypothesis). h.name) visible) (invariant.sym ∷ [])
          both-distinct (refl, tt) not-own)

      -- no fact has the name of a word
      pub facts-large : (n : ℕ) → has (map (λ (h : Hypothesis). h.name) all) n ≡ true → first_name ≤ n
      facts-large n m = by-part (subst (λ xs. has xs n ≡ true) names-are m)
        where
          by-part : has ((map (λ (h : Hypothesis). h.name) coherences ++ map (λ (h : Hypothesis). h.name) visible) ++ invariant.sym ∷ []) n ≡ true → first_name ≤ n
          by-part h = elim (in-front n (map (λ (h : Hypothesis). h.name) coherences ++ map (λ (h : Hypothesis). h.name) visible) (invariant.sym ∷ []) h) [
            | inl e ↦ both-large n e
            | inr e ↦ large-invariant n (elim (either-true (n == invariant.sym) false e) [ inl f ↦ subst (λ k. has invariants k ≡ true) (sym (eqb-true n invariant.sym f)) own-there | inr f ↦ cc ])
          ]
