-- What the earliest one of several is.
use Rattle.std.proofs.Common.{◌≡◌, ℕ, ◌<◌, ◌≤◌, ◌==◌, nat_lt, Bool, true, false, ◌&&◌, ◌⊎◌, inl, inr, if◌then◌else◌, List, [], ◌∷◌, ◌++◌, Option, Some, None, refl, ap, sym, ◌∙◌, subst, eq-eqb, arith, ◌+◌, suc, length, drop, drop-cons, get_or, add-one}
use Rattle.std.proofs.lemmas.Bool.{eqb-true, ltb-true, ltb-false, lt-ltb}
use Rattle.std.proofs.Math.ListN.{drop_of_length-le}
use Rattle.std.specs.List.{AllByRecursion as Each, flat_map, enumerate_from}
use Rattle.dl_model.proofs.Small.{some-same, each-map, either-true, and-left, and-right, and-both, or-true-left, or-true-right}
use Rattle.dl_inv.proofs.Lists.{each-append, true-false, not-true}
use Rattle.dl_faults.specs.declared.wrong.Wrong.{Wrong}
use Rattle.dl_faults.specs.Wrong.{smaller_or, goes_before, earlier, earliest, joined, GoesFirst}

some-earlier : (wrong : Wrong) (later : Option Wrong) → earlier wrong later ≡ None → ⊥
some-earlier wrong None h = cc
some-earlier wrong (Some other) h = cc

pub none-earliest : (wrongs : List Wrong) → earliest wrongs ≡ None → wrongs ≡ []
none-earliest [] h = refl
none-earliest (wrong ∷ wrongs) h = absurd (some-earlier wrong (earliest wrongs) h)

pub earliest-none : (wrongs : List Wrong) → wrongs ≡ [] → earliest wrongs ≡ None
earliest-none wrongs h = ap earliest h

-- ---- the order

smaller-told : (m n : ℕ) (b : Bool) → smaller_or m n b ≡ true → (m < n) ⊎ ((m ≡ n) × (b ≡ true))
smaller-told m n b h = elim (either-true (nat_lt m n) ((m == n) && b) h) [
  | inl e ↦ inl (ltb-true m n e)
  | inr e ↦ inr (eqb-true m n (and-left (m == n) b e), and-right (m == n) b e)
]

smaller : (m n : ℕ) (b : Bool) → m < n → smaller_or m n b ≡ true
smaller m n b h = or-true-left (nat_lt m n) _ (lt-ltb m n h)

same-number : (m n : ℕ) (b : Bool) → m ≡ n → b ≡ true → smaller_or m n b ≡ true
same-number m n b h k = or-true-right (nat_lt m n) _ (and-both (m == n) b (eq-eqb m n h) k)

-- where it goes on inside, it goes on outside
smaller-through : (l m n : ℕ) (a b c : Bool) → (a ≡ true → b ≡ true → c ≡ true) → smaller_or l m a ≡ true → smaller_or m n b ≡ true → smaller_or l n c ≡ true
smaller-through l m n a b c inside h k = elim (smaller-told l m a h) [
  | inl e ↦ elim (smaller-told m n b k) [
    | inl f ↦ smaller l n c (omega (e, f, arith))
    | inr f ↦ smaller l n c (omega (e, f.0, arith))
  ]
  | inr e ↦ elim (smaller-told m n b k) [
    | inl f ↦ smaller l n c (omega (e.0, f, arith))
    | inr f ↦ same-number l n c (e.0 ∙ f.0) (inside e.1 f.1)
  ]
]

less-through : (l m n : ℕ) → nat_lt l m ≡ true → nat_lt m n ≡ true → nat_lt l n ≡ true
less-through l m n h k = let e = ltb-true l m h in let f = ltb-true m n k in lt-ltb l n (omega (e, f, arith))

-- what is between two of which the one is smaller is greater than the one, or smaller than the other
smaller-between : (l m n : ℕ) (a b c : Bool) → (c ≡ true → (a ≡ true) ⊎ (b ≡ true)) → smaller_or l n c ≡ true → (smaller_or l m a ≡ true) ⊎ (smaller_or m n b ≡ true)
smaller-between l m n a b c inside h = go (nat_lt l m) (nat_lt m n) refl refl
  where
    equal : l ≡ m → m ≡ n → (smaller_or l m a ≡ true) ⊎ (smaller_or m n b ≡ true)
    equal e f = elim (smaller-told l n c h) [
      | inl g ↦ absurd (omega (e, f, g, arith))
      | inr g ↦ elim (inside g.1) [
        | inl i ↦ inl (same-number l m a e i)
        | inr i ↦ inr (same-number m n b f i)
      ]
    ]

    go : (p q : Bool) → nat_lt l m ≡ p → nat_lt m n ≡ q → (smaller_or l m a ≡ true) ⊎ (smaller_or m n b ≡ true)
    go true q e f = inl (or-true-left (nat_lt l m) _ e)
    go false true e f = inr (or-true-left (nat_lt m n) _ f)
    go false false e f = elim (smaller-told l n c h) [
      | inl g ↦ let low : m ≤ l = ltb-false l m e in let high : n ≤ m = ltb-false m n f in absurd (omega (low, high, g, arith))
      | inr g ↦ let low : m ≤ l = ltb-false l m e in let high : n ≤ m = ltb-false m n f in equal (omega (low, high, g.0, arith)) (omega (low, high, g.0, arith))
    ]

less-between : (l m n : ℕ) → nat_lt l n ≡ true → (nat_lt l m ≡ true) ⊎ (nat_lt m n ≡ true)
less-between l m n h = go (nat_lt l m) refl
  where
    go : (p : Bool) → nat_lt l m ≡ p → (nat_lt l m ≡ true) ⊎ (nat_lt m n ≡ true)
    go true e = inl e
    go false e = let low : m ≤ l = ltb-false l m e in let less = ltb-true l n h in inr (lt-ltb m n (omega (low, less, arith)))

goes-through : (a b c : Wrong) → goes_before a b ≡ true → goes_before b c ≡ true → goes_before a c ≡ true
goes-through a b c h k =
    smaller-through a.place.line b.place.line c.place.line _ _ _
    (smaller-through a.place.col b.place.col c.place.col _ _ _ (less-through a.rule b.rule c.rule)) h k

goes-between : (a b c : Wrong) → goes_before a c ≡ true → (goes_before a b ≡ true) ⊎ (goes_before b c ≡ true)
goes-between a b c h =
    smaller-between a.place.line b.place.line c.place.line _ _ _
    (smaller-between a.place.col b.place.col c.place.col _ _ _ (less-between a.rule b.rule c.rule)) h

-- what stands behind another one doesn't go before a third one that this one doesn't go before
behind-both : (a b c : Wrong) → goes_before b a ≡ false → goes_before c b ≡ false → goes_before c a ≡ false
behind-both a b c h k = not-true _ (λ e. elim (goes-between c b a e) [
  | inl f ↦ true-false _ f k
  | inr f ↦ true-false _ f h
])

-- what another one goes before doesn't go before a third one that this one doesn't go before
behind-first : (a b c : Wrong) → goes_before b a ≡ false → goes_before b c ≡ true → goes_before c a ≡ false
behind-first a b c h k = not-true _ (λ e. true-false _ (goes-through b c a k e) h)

-- ---- the earliest one

stands-first : (a : Wrong) (wrongs : List Wrong) → Each (λ other. goes_before other a ≡ false) wrongs → GoesFirst (a ∷ wrongs) a
stands-first a wrongs h = record { front = []; behind = wrongs; all = refl; before_front = tt; before_behind = h }

none-behind : (a : Wrong) (wrongs : List Wrong) → wrongs ≡ [] → Each (λ other. goes_before other a ≡ false) wrongs
none-behind a [] h = tt
none-behind a (b ∷ wrongs) h = cc

all-behind : (a later : Wrong) (wrongs : List Wrong) → goes_before later a ≡ false → GoesFirst wrongs later → Each (λ other. goes_before other a ≡ false) wrongs
all-behind a later wrongs h first =
    subst (Each (λ other. goes_before other a ≡ false)) (sym first.all)
    (each-append (λ other. goes_before other a ≡ false) first.front (later ∷ first.behind)
    (each-map _ _ first.front first.before_front (λ other e. behind-first a later other h e))
    (h, each-map _ _ first.behind first.before_behind (λ other e. behind-both a later other h e)))

pub goes-first : (wrongs : List Wrong) (wrong : Wrong) → earliest wrongs ≡ Some wrong → GoesFirst wrongs wrong
goes-first [] wrong e = cc
goes-first (a ∷ wrongs) wrong e = by_later (earliest wrongs) refl (goes-first wrongs) e
  where
    by_later : (o : Option Wrong) → earliest wrongs ≡ o → ((later : Wrong) → earliest wrongs ≡ Some later → GoesFirst wrongs later) → earlier a o ≡ Some wrong → GoesFirst (a ∷ wrongs) wrong
    by_later None is further h = subst (GoesFirst (a ∷ wrongs)) (some-same a wrong h) (stands-first a wrongs (none-behind a wrongs (none-earliest wrongs is)))
    by_later (Some later) is further h = by_order (goes_before later a) refl h
      where
        by_order : (b : Bool) → goes_before later a ≡ b → Some (if b then later else a) ≡ Some wrong → GoesFirst (a ∷ wrongs) wrong
        by_order true before k =
            let first = further later is in
            subst (GoesFirst (a ∷ wrongs)) (some-same later wrong k)
            (record { front = a ∷ first.front; behind = first.behind; all = ap (λ rest. a ∷ rest) first.all; before_front = (before, first.before_front); before_behind = first.before_behind })
        by_order false before k = subst (GoesFirst (a ∷ wrongs)) (some-same a wrong k) (stands-first a wrongs (all-behind a later wrongs before (further later is)))

-- ---- parts of a list

joined-further : (a : Wrong) (o p : Option Wrong) → earlier a (joined o p) ≡ joined (earlier a o) p
joined-further a None p = refl
joined-further a (Some b) None = refl
joined-further a (Some b) (Some c) = go (goes_before c b) (goes_before b a) refl refl
  where
    go : (x y : Bool) → goes_before c b ≡ x → goes_before b a ≡ y → earlier a (Some (if x then c else b)) ≡ earlier (if y then b else a) (Some c)
    go true true e f = rw (goes-through c b a e f, e) refl
    go true false e f = refl
    go false true e f = rw (f, e) refl
    go false false e f = rw (f, behind-both a b c f e) refl

pub earliest-parts : (front behind : List Wrong) → earliest (front ++ behind) ≡ joined (earliest front) (earliest behind)
earliest-parts [] behind = refl
earliest-parts (wrong ∷ front) behind = ap (earlier wrong) (earliest-parts front behind) ∙ joined-further wrong (earliest front) (earliest behind)

joined-through : (a b c : Option Wrong) → joined a (joined b c) ≡ joined (joined a b) c
joined-through None b c = refl
joined-through (Some a) b c = joined-further a b c

pub joined-none : (a : Option Wrong) → joined a None ≡ a
joined-none None = refl
joined-none (Some a) = refl

-- ---- a list that is looked at from its front

module _ {X : Type 0} (f : ℕ × X → List Wrong) where
  -- what is still to come, where so many were looked at
  abbrev pub to_come : List X → ℕ → Option Wrong
  to_come xs i = earliest (flat_map f (enumerate_from i (drop i xs)))

  pub one-more : (xs : List X) (i : ℕ) (x : X) (found : Option Wrong) → drop i xs ≡ x ∷ drop (suc i) xs →
      joined found (to_come xs i) ≡ joined (joined found (earliest (f (i, x)))) (to_come xs (i + 1))
  one-more xs i x found is =
      let rest = flat_map f (enumerate_from (i + 1) (drop (i + 1) xs)) in
      let here : drop i xs ≡ x ∷ drop (i + 1) xs = rw add-one is in
      ap (λ ys. joined found (earliest (flat_map f (enumerate_from i ys)))) here
      ∙ (ap (joined found) (earliest-parts (f (i, x)) rest) ∙ joined-through found (earliest (f (i, x))) (earliest rest))

  pub all-seen : (xs : List X) (n : ℕ) (found : Option Wrong) → length xs ≤ n → joined found (to_come xs n) ≡ found
  all-seen xs n found end = ap (λ ys. joined found (earliest (flat_map f (enumerate_from n ys)))) (drop_of_length-le xs end) ∙ joined-none found

  -- one more was looked at
  pub seen-one : (items xs : List X) (i : ℕ) (x d : X) (found one new total : Option Wrong) → items ≡ xs → i < length items → x ≡ get_or items i d →
      one ≡ earliest (f (i, x)) → new ≡ joined found one → joined found (to_come xs i) ≡ total → joined new (to_come xs (i + 1)) ≡ total
  seen-one items xs i x d found one new total same within here told is before =
      let cut : drop i xs ≡ x ∷ drop (suc i) xs =
      subst (λ (ys : List X). drop i ys ≡ x ∷ drop (suc i) ys) same (drop-cons items i d within ∙ ap (λ y. y ∷ drop (suc i) items) (sym here)) in
      ap (λ o. joined o (to_come xs (i + 1))) (is ∙ ap (joined found) told) ∙ (sym (one-more xs i x found cut) ∙ before)

-- ---- the same without numbers

module _ {X : Type 0} (f : X → List Wrong) where
  -- what is still to come, where so many were looked at
  abbrev pub to_follow : List X → ℕ → Option Wrong
  to_follow xs i = earliest (flat_map f (drop i xs))

  pub followed-one : (items xs : List X) (i : ℕ) (x d : X) (found one new total : Option Wrong) → items ≡ xs → i < length items → x ≡ get_or items i d →
      one ≡ earliest (f x) → new ≡ joined found one → joined found (to_follow xs i) ≡ total → joined new (to_follow xs (i + 1)) ≡ total
  followed-one items xs i x d found one new total same within here told is before =
      let rest = flat_map f (drop (i + 1) xs) in
      let cut : drop i xs ≡ x ∷ drop (suc i) xs =
      subst (λ (ys : List X). drop i ys ≡ x ∷ drop (suc i) ys) same (drop-cons items i d within ∙ ap (λ y. y ∷ drop (suc i) items) (sym here)) in
      let cut_here : drop i xs ≡ x ∷ drop (i + 1) xs = rw add-one cut in
      let step : joined found (to_follow xs i) ≡ joined (joined found (earliest (f x))) (to_follow xs (i + 1)) =
      ap (λ ys. joined found (earliest (flat_map f ys))) cut_here
      ∙ (ap (joined found) (earliest-parts (f x) rest) ∙ joined-through found (earliest (f x)) (earliest rest)) in
      ap (λ o. joined o (to_follow xs (i + 1))) (is ∙ ap (joined found) told) ∙ (sym step ∙ before)

  pub all-followed : (xs : List X) (n : ℕ) (found : Option Wrong) → length xs ≤ n → joined found (to_follow xs n) ≡ found
  all-followed xs n found end = ap (λ ys. joined found (earliest (flat_map f ys))) (drop_of_length-le xs end) ∙ joined-none found
