-- A step keeps each formula that it does not touch.
use Rattle.std.proofs.Common.{◌≡◌, ℕ, zero, suc, ◌<◌, ◌==◌, ℤ, pos, Bool, true, false, List, not, ◌&&◌, ◌||◌, Option, Some, None, refl, ap, sym, ◌∙◌, subst, cond, eq-eqb, length, arith, ◌⊎◌, inl, inr}
use Rattle.std.proofs.lemmas.Bool.{cases_eq, eqb-true, eqb-false}
use mathlib.Core.Path.{ap₂, fun_ext}
use Rattle.std.specs.Prelude.{slice_get, ◌+ℤ◌, ◌-ℤ◌, ◌*ℤ◌, int_lt, int_le}
use Rattle.std.specs.Ordering.{int_eq}
use Rattle.dl_term.specs.declared.syntax.Lab.{Lab}
use Rattle.dl_term.specs.declared.syntax.Part.{Part}
use Rattle.dl_term.specs.declared.syntax.Part.TheVariants.{Id, From, To, Live, Arg}
use Rattle.dl_term.specs.declared.syntax.Term.{Term, Num, Word, Var, Field', Row', Len, Msg, Add', Sub', Mul', If', more_of-Term as one, end_of-Term as end}
use Rattle.dl_term.specs.declared.syntax.Formula.{Formula, True, False, Eq, Lt, Le, Not', And', Or', Implies', All', Exists', Each', Any', more_of-Formula as one_formula, end_of-Formula as end_formula}
use Rattle.dl_term.specs.State.{State, statelet, soup_at, message_at, tag_of, part_of, part_at, cell, field_at}
use Rattle.dl_term.specs.Names.{Names, Meant, Stored, Given, with_number, with_message, label_of}
use Rattle.dl_model.specs.Sorts.{has}
use Rattle.dl_model.specs.Words.{me_word}
use Rattle.dl_inv.specs.Touched.{Touch, field_touched, part_touched, term_touched, bound_live, is_over, formula_touched}
use Rattle.dl_sound.specs.Touched.{touch_at, Known}
use Rattle.dl_model.specs.Scopes.{is_me}
use Rattle.dl_model.specs.Spoken.{bound_names}
use Rattle.dl_term.specs.Meaning.{value, holds, part_in, every_below, some_below, every_message, some_message}
use Rattle.dl_sound.proofs.Named.{number-other}
use Rattle.dl_model.proofs.Small.{eqb-other, or-left, or-right, lacks-front, lacks-back}

-- What such a step of the mover does to the state.
pub record Effect (at : ℕ) (t : Touch) (mover : ℕ) (s s' : State) : Type 0 where
  pub nodes : s.nodes ≡ s'.nodes
  pub others : (label : ℕ) → (label ≡ at → ⊥) → statelet s label ≡ statelet s' label
  pub fields : (field : ℕ) (node index : ℤ) → has t.fields field ≡ false → field_at s at field node index ≡ field_at s' at field node index
  pub cells : (field : ℕ) (node index : ℤ) → (node ≡ pos mover → ⊥) → field_at s at field node index ≡ field_at s' at field node index
  pub tags : (id : ℕ) → id < length (soup_at s at) → tag_of (message_at s at id) ≡ tag_of (message_at s' at id)
  pub stays : (id : ℕ) (part : Part) → id < length (soup_at s at) → (part ≡ Live → ⊥) → part_at s at id part ≡ part_at s' at id part
  pub lives : (id : ℕ) → id < length (soup_at s at) → (t.grows ≡ true) ⊎ (tag_of (message_at s at id) ≡ t.tag → ⊥) → part_at s at id Live ≡ part_at s' at id Live
  pub size : (length (soup_at s' at) ≡ length (soup_at s at)) ⊎
      ((t.grows ≡ true) × (length (soup_at s' at) ≡ suc (length (soup_at s at))) × (tag_of (message_at s' at (length (soup_at s at))) ≡ t.tag))

-- ---- tests

every-same : (n : ℕ) (f g : ℕ → Bool) → ((id : ℕ) → id < n → f id ≡ g id) → every_below n f ≡ every_below n g
every-same zero f g h = refl
every-same (suc n) f g h = ap₂ ◌&&◌ (every-same n f g (λ id b. h id (omega arith))) (h n (omega arith))

some-same : (n : ℕ) (f g : ℕ → Bool) → ((id : ℕ) → id < n → f id ≡ g id) → some_below n f ≡ some_below n g
some-same zero f g h = refl
some-same (suc n) f g h = ap₂ ◌||◌ (some-same n f g (λ id b. h id (omega arith))) (h n (omega arith))

and-true : (a b : Bool) → b ≡ true → a ≡ (a && b)
and-true true b h = sym h
and-true false b h = refl

or-false : (a b : Bool) → b ≡ false → a ≡ (a || b)
or-false true b h = refl
or-false false b h = sym h

pub every-grown : (n m : ℕ) (f g : ℕ → Bool) → ((id : ℕ) → id < n → f id ≡ g id) → (m ≡ n) ⊎ ((m ≡ suc n) × (g n ≡ true)) → every_below n f ≡ every_below m g
every-grown n m f g h (inl e) = every-same n f g h ∙ ap (λ k. every_below k g) (sym e)
every-grown n m f g h (inr e) = every-same n f g h ∙ and-true (every_below n g) (g n) e.1 ∙ ap (λ k. every_below k g) (sym e.0)

pub some-grown : (n m : ℕ) (f g : ℕ → Bool) → ((id : ℕ) → id < n → f id ≡ g id) → (m ≡ n) ⊎ ((m ≡ suc n) × (g n ≡ false)) → some_below n f ≡ some_below m g
some-grown n m f g h (inl e) = some-same n f g h ∙ ap (λ k. some_below k g) (sym e)
some-grown n m f g h (inr e) = some-same n f g h ∙ or-false (some_below n g) (g n) e.1 ∙ ap (λ k. some_below k g) (sym e.0)

pub tagged-every : (a b tag : ℕ) (p q : Bool) → a ≡ b → (a ≡ tag → p ≡ q) → (not (a == tag) || p) ≡ (not (b == tag) || q)
tagged-every a b tag p q e h = go (a == tag) refl ∙ ap (λ k. not (k == tag) || q) e
  where
    go : (c : Bool) → (a == tag) ≡ c → (not (a == tag) || p) ≡ (not (a == tag) || q)
    go true k = ap (λ r. not (a == tag) || r) (h (eqb-true a tag k))
    go false k = rw k refl

pub tagged-some : (a b tag : ℕ) (p q : Bool) → a ≡ b → (a ≡ tag → p ≡ q) → ((a == tag) && p) ≡ ((b == tag) && q)
tagged-some a b tag p q e h = go (a == tag) refl ∙ ap (λ k. (k == tag) && q) e
  where
    go : (c : Bool) → (a == tag) ≡ c → ((a == tag) && p) ≡ ((a == tag) && q)
    go true k = ap (λ r. (a == tag) && r) (h (eqb-true a tag k))
    go false k = rw k refl

is-me-value : (node : Term) (names : Names) (s : State) → is_me node ≡ true → value node names s ≡ names.number me_word
is-me-value (Var x) names s h = ap names.number (eqb-true x me_word h)
is-me-value _ names s h = cc

not-both : (a b : Bool) → not (a && b) ≡ false → (a ≡ true) × (b ≡ true)
not-both true true h = (refl, refl)
not-both true false h = cc
not-both false b h = cc

module _ (own at tag_touched : ℕ) (fields_touched : List ℕ) (grown spared : Bool) (mover : ℕ) (s s' : State) (eff : Effect at (touch_at own at tag_touched fields_touched grown spared) mover s s') where
  abbrev t : Touch
  t = touch_at own at tag_touched fields_touched grown spared

  label-number : (names : Names) → names.own ≡ own → (lab : Lab) → label_of names.own lab ≡ label_of own lab
  label-number names o lab = ap (λ n. label_of n lab) o

  field-same_at : (label field : ℕ) (node index : ℤ) (a h sp me : Bool) → (label == at) ≡ a → has t.fields field ≡ h → ((a && h) && not (sp && me)) ≡ false →
      (sp ≡ true → me ≡ true → node ≡ pos mover → ⊥) → field_at s label field node index ≡ field_at s' label field node index
  field-same_at label field node index false h sp me e k q n = ap (λ st. cell st.fields field node index) (eff.others label (eqb-false label at e))
  field-same_at label field node index true false sp me e k q n =
      subst (λ l. field_at s l field node index ≡ field_at s' l field node index) (sym (eqb-true label at e)) (eff.fields field node index k)
  field-same_at label field node index true true sp me e k q n =
      let both = not-both sp me q in
      subst (λ l. field_at s l field node index ≡ field_at s' l field node index) (sym (eqb-true label at e)) (eff.cells field node index (n both.0 both.1))

  field-same : (names : Names) (lab : Lab) (field : ℕ) (term : Term) (index : ℤ) → names.own ≡ own → (t.spares_me ≡ true → names.number me_word ≡ pos mover → ⊥) → field_touched t lab field term ≡ false →
      field_at s (label_of names.own lab) field (value term names s) index ≡ field_at s' (label_of names.own lab) field (value term names s) index
  field-same names lab field term index o m h =
      subst (λ l. field_at s l field (value term names s) index ≡ field_at s' l field (value term names s) index) (sym (label-number names o lab))
      (field-same_at (label_of own lab) field (value term names s) index (label_of own lab == at) (has t.fields field) t.spares_me (is_me term) refl refl h
      (λ sp me e. m sp (sym (is-me-value term names s me) ∙ e)))

  part-other : (part : Part) (live : Bool) → part_touched part live ≡ false → (part ≡ Live → ⊥) ⊎ ((part ≡ Live) × (live ≡ false))
  part-other Live live h = inr (refl, h)
  part-other Id live h = inl (λ e. cc)
  part-other From live h = inl (λ e. cc)
  part-other To live h = inl (λ e. cc)
  part-other (Arg k) live h = inl (λ e. cc)

  message-same : (m : Option Meant) (part : Part) (live : Bool) → part_touched part live ≡ false → ((label id : ℕ) → m ≡ Some (Stored label id) → id < length (soup_at s label)) →
      ((label id : ℕ) → m ≡ Some (Stored label id) → live ≡ false → (label ≡ at → ⊥) ⊎ ((t.grows ≡ true) ⊎ (tag_of (message_at s label id) ≡ t.tag → ⊥))) →
      part_in s m part ≡ part_in s' m part
  message-same None part live h k l = refl
  message-same (Some (Given parts)) part live h k l = refl
  message-same (Some (Stored label id)) part live h k l = elim (cases_eq label at) [
    | inr n ↦ ap (λ st. part_of id (slice_get st.soup id) part) (eff.others label n)
    | inl e ↦ subst (λ x. part_at s x id part ≡ part_at s' x id part) (sym e) (elim (part-other part live h) [
      | inl n ↦ eff.stays id part (subst (λ x. id < length (soup_at s x)) e (k label id refl)) n
      | inr p ↦ subst (λ q. part_at s at id q ≡ part_at s' at id q) (sym p.0) (elim (l label id refl p.1) [
        | inl n ↦ absurd (n e)
        | inr g ↦ eff.lives id (subst (λ x. id < length (soup_at s x)) e (k label id refl))
            (subst (λ x. (t.grows ≡ true) ⊎ (tag_of (message_at s x id) ≡ t.tag → ⊥)) e g)
      ])
    ])
  ]

  len-same : (label : ℕ) (g a : Bool) → t.grows ≡ g → (label == at) ≡ a → (g && a) ≡ false → length (soup_at s label) ≡ length (soup_at s' label)
  len-same label g false e k h = ap (λ st. length st.soup) (eff.others label (eqb-false label at k))
  len-same label true true e k h = cc
  len-same label false true e k h = subst (λ l. length (soup_at s l) ≡ length (soup_at s' l)) (sym (eqb-true label at k)) (elim eff.size [
    | inl q ↦ sym q
    | inr q ↦ absurd (cc (e, q.0))
  ])

  pub value-untouched : (term : Term) (live : ℕ → Bool) (names : Names) → term_touched t live term ≡ false → Known own at t mover live names s → value term names s ≡ value term names s'
  value-untouched (Num v) live names h k = refl
  value-untouched (Word x v) live names h k = refl
  value-untouched (Var x) live names h k = refl
  value-untouched (Field' lab field _ (one node end)) live names h k =
      field-same names lab field node (pos 0) k.own_label k.me (or-left (field_touched t lab field node) _ h)
      ∙ ap (λ v. field_at s' (label_of names.own lab) field v (pos 0)) (value-untouched node live names (or-right (field_touched t lab field node) _ h) k)
  value-untouched (Row' lab field _ (one node end) _ (one index end)) live names h k =
      let rest = or-right (field_touched t lab field node) _ h in
      field-same names lab field node (value index names s) k.own_label k.me (or-left (field_touched t lab field node) _ h)
      ∙ ap₂ (λ v i. field_at s' (label_of names.own lab) field v i) (value-untouched node live names (or-left (term_touched t live node) _ rest) k)
      (value-untouched index live names (or-right (term_touched t live node) _ rest) k)
  value-untouched (Len lab) live names h k =
      ap pos (subst (λ l. length (soup_at s l) ≡ length (soup_at s' l)) (sym (label-number names k.own_label lab)) (len-same (label_of own lab) t.grows (label_of own lab == at) refl refl h))
  value-untouched (Msg msg part) live names h k = message-same (names.message msg) part (live msg) h (k.known msg) (k.live_only msg)
  value-untouched (Add' _ (one a end) _ (one b end)) live names h k =
      ap₂ ◌+ℤ◌ (value-untouched a live names (or-left (term_touched t live a) _ h) k) (value-untouched b live names (or-right (term_touched t live a) _ h) k)
  value-untouched (Sub' _ (one a end) _ (one b end)) live names h k =
      ap₂ ◌-ℤ◌ (value-untouched a live names (or-left (term_touched t live a) _ h) k) (value-untouched b live names (or-right (term_touched t live a) _ h) k)
  value-untouched (Mul' _ (one a end) _ (one b end)) live names h k =
      ap₂ ◌*ℤ◌ (value-untouched a live names (or-left (term_touched t live a) _ h) k) (value-untouched b live names (or-right (term_touched t live a) _ h) k)
  value-untouched (If' _ (one a end) _ (one b end) _ (one x end) _ (one y end)) live names h k =
      let l = or-left (term_touched t live a || term_touched t live b) _ h in
      let r = or-right (term_touched t live a || term_touched t live b) _ h in
      ap₂ (λ p q. cond (int_eq p q) (value x names s) (value y names s)) (value-untouched a live names (or-left (term_touched t live a) _ l) k) (value-untouched b live names (or-right (term_touched t live a) _ l) k)
      ∙ ap₂ (λ p q. cond (int_eq (value a names s') (value b names s')) p q) (value-untouched x live names (or-left (term_touched t live x) _ r) k) (value-untouched y live names (or-right (term_touched t live x) _ r) k)

  -- ---- names under a quantifier

  known-number : (live : ℕ → Bool) (names : Names) (x : ℕ) (v : ℤ) → (me_word == x) ≡ false → Known own at t mover live names s → Known own at t mover live (with_number names x v) s
  known-number live names x v n k = record {
    own_label = k.own_label;
    me = λ sp e. k.me sp (sym (number-other names me_word x v (eqb-false me_word x n)) ∙ e);
    known = k.known;
    live_only = k.live_only;
  }

  same-message : (a b c e : ℕ) → Some (Stored a b) ≡ Some (Stored c e) → (a ≡ c) × (b ≡ e)
  same-message a b c e h = (cc, cc)

  message-other : (names : Names) (y m l i : ℕ) → (y ≡ m → ⊥) → (with_message names m (Stored l i)).message y ≡ names.message y
  message-other names y m l i n = ap (λ b. cond b (Some (Stored l i)) (names.message y)) (eqb-other y m n)

  message-there : (names : Names) (y m l i : ℕ) → y ≡ m → (with_message names m (Stored l i)).message y ≡ Some (Stored l i)
  message-there names y m l i e = ap (λ b. cond b (Some (Stored l i)) (names.message y)) (eq-eqb y m e)

  known-message : (live : ℕ → Bool) (names : Names) (x l i : ℕ) (b : Bool) → i < length (soup_at s l) →
      (b ≡ false → (l ≡ at → ⊥) ⊎ ((t.grows ≡ true) ⊎ (tag_of (message_at s l i) ≡ t.tag → ⊥))) → Known own at t mover live names s →
      Known own at t mover (bound_live live x b) (with_message names x (Stored l i)) s
  known-message live names x l i b w f k = record {
    own_label = k.own_label;
    me = k.me;
    known = λ y label id e. elim (cases_eq y x) [
      | inl q ↦ let p = is_it y q label id e in subst (λ a. id < length (soup_at s a)) p.0 (subst (λ a. a < length (soup_at s l)) p.1 w)
      | inr q ↦ k.known y label id (sym (message-other names y x l i q) ∙ e)
    ];
    live_only = λ y label id e u. elim (cases_eq y x) [
      | inl q ↦ let p = is_it y q label id e in
          subst (λ a. (a ≡ at → ⊥) ⊎ ((t.grows ≡ true) ⊎ (tag_of (message_at s a id) ≡ t.tag → ⊥))) p.0
          (subst (λ a. (l ≡ at → ⊥) ⊎ ((t.grows ≡ true) ⊎ (tag_of (message_at s l a) ≡ t.tag → ⊥))) p.1 (f (sym (ap (λ c. cond c b (live y)) (eq-eqb y x q)) ∙ u)))
      | inr q ↦ k.live_only y label id (sym (message-other names y x l i q) ∙ e) (sym (ap (λ c. cond c b (live y)) (eqb-other y x q)) ∙ u)
    ];
  }
    where
      is_it : (y : ℕ) → y ≡ x → (label id : ℕ) → (with_message names x (Stored l i)).message y ≡ Some (Stored label id) → (l ≡ label) × (i ≡ id)
      is_it y q label id e = same-message l i label id (sym (message-there names y x l i q) ∙ e)

  -- ---- messages

  grows-or-other : (l tag : ℕ) (g a b : Bool) → t.grows ≡ g → (l == at) ≡ a → (tag == t.tag) ≡ b → (not g && (a && b)) ≡ false → (m : ℕ) → m ≡ tag →
      (l ≡ at → ⊥) ⊎ ((t.grows ≡ true) ⊎ (m ≡ t.tag → ⊥))
  grows-or-other l tag true a b eg ea eb h m q = inr (inl eg)
  grows-or-other l tag false false b eg ea eb h m q = inl (eqb-false l at ea)
  grows-or-other l tag false true false eg ea eb h m q = inr (inr (λ e. eqb-false tag t.tag eb (sym q ∙ e)))
  grows-or-other l tag false true true eg ea eb h m q = cc

  -- the new message has another tag
  size_at : (l tag : ℕ) (g a b : Bool) → t.grows ≡ g → (l == at) ≡ a → (tag == t.tag) ≡ b → (g && (a && b)) ≡ false →
      (length (soup_at s' l) ≡ length (soup_at s l)) ⊎ ((length (soup_at s' l) ≡ suc (length (soup_at s l))) × (tag_of (message_at s' l (length (soup_at s l))) ≡ tag → ⊥))
  size_at l tag g false b eg ea eb h = inl (ap (λ st. length st.soup) (sym (eff.others l (eqb-false l at ea))))
  size_at l tag true true true eg ea eb h = cc
  size_at l tag false true b eg ea eb h =
      subst (λ x. (length (soup_at s' x) ≡ length (soup_at s x)) ⊎ ((length (soup_at s' x) ≡ suc (length (soup_at s x))) × (tag_of (message_at s' x (length (soup_at s x))) ≡ tag → ⊥))) (sym (eqb-true l at ea))
      (elim eff.size [ inl q ↦ inl q | inr q ↦ absurd (cc (eg, q.0)) ])
  size_at l tag true true false eg ea eb h =
      subst (λ x. (length (soup_at s' x) ≡ length (soup_at s x)) ⊎ ((length (soup_at s' x) ≡ suc (length (soup_at s x))) × (tag_of (message_at s' x (length (soup_at s x))) ≡ tag → ⊥))) (sym (eqb-true l at ea))
      (elim eff.size [ inl q ↦ inl q | inr q ↦ inr (q.1, λ e. eqb-false tag t.tag eb (sym e ∙ q.2)) ])

  tags_at : (l id : ℕ) → id < length (soup_at s l) → tag_of (message_at s l id) ≡ tag_of (message_at s' l id)
  tags_at l id w = elim (cases_eq l at) [
    | inl e ↦ subst (λ x. tag_of (message_at s x id) ≡ tag_of (message_at s' x id)) (sym e) (eff.tags id (subst (λ x. id < length (soup_at s x)) e w))
    | inr n ↦ ap (λ st. tag_of (slice_get st.soup id)) (eff.others l n)
  ]

  last-every : (m tag : ℕ) (p : Bool) → (m ≡ tag → ⊥) → (not (m == tag) || p) ≡ true
  last-every m tag p n = ap (λ b. not b || p) (eqb-other m tag n)

  last-some : (m tag : ℕ) (p : Bool) → (m ≡ tag → ⊥) → ((m == tag) && p) ≡ false
  last-some m tag p n = ap (λ b. b && p) (eqb-other m tag n)

  every-messages : (l tag : ℕ) (f g : ℕ → Bool) → (t.grows && ((l == at) && (tag == t.tag))) ≡ false →
      ((id : ℕ) → id < length (soup_at s l) → tag_of (message_at s l id) ≡ tag → f id ≡ g id) → every_message s l tag f ≡ every_message s' l tag g
  every-messages l tag f g h k = every-grown (length (soup_at s l)) (length (soup_at s' l)) _ _
      (λ id w. tagged-every (tag_of (message_at s l id)) (tag_of (message_at s' l id)) tag (f id) (g id) (tags_at l id w) (k id w))
      (elim (size_at l tag t.grows (l == at) (tag == t.tag) refl refl refl h) [
        | inl q ↦ inl q
        | inr q ↦ inr (q.0, last-every (tag_of (message_at s' l (length (soup_at s l)))) tag (g (length (soup_at s l))) q.1)
      ])

  some-messages : (l tag : ℕ) (f g : ℕ → Bool) → (t.grows && ((l == at) && (tag == t.tag))) ≡ false →
      ((id : ℕ) → id < length (soup_at s l) → tag_of (message_at s l id) ≡ tag → f id ≡ g id) → some_message s l tag f ≡ some_message s' l tag g
  some-messages l tag f g h k = some-grown (length (soup_at s l)) (length (soup_at s' l)) _ _
      (λ id w. tagged-some (tag_of (message_at s l id)) (tag_of (message_at s' l id)) tag (f id) (g id) (tags_at l id w) (k id w))
      (elim (size_at l tag t.grows (l == at) (tag == t.tag) refl refl refl h) [
        | inl q ↦ inl q
        | inr q ↦ inr (q.0, last-some (tag_of (message_at s' l (length (soup_at s l)))) tag (g (length (soup_at s l))) q.1)
      ])

  -- ---- formulas

  live_at : (names : Names) (lab : Lab) (tag id : ℕ) → names.own ≡ own → (not t.grows && is_over t lab tag) ≡ false → tag_of (message_at s (label_of names.own lab) id) ≡ tag →
      (label_of names.own lab ≡ at → ⊥) ⊎ ((t.grows ≡ true) ⊎ (tag_of (message_at s (label_of names.own lab) id) ≡ t.tag → ⊥))
  live_at names lab tag id o h q =
      grows-or-other (label_of names.own lab) tag t.grows (label_of own lab == at) (tag == t.tag) refl (ap (λ l. l == at) (label-number names o lab)) refl h (tag_of (message_at s (label_of names.own lab) id)) q

  over : (names : Names) (lab : Lab) (tag : ℕ) → names.own ≡ own → (t.grows && is_over t lab tag) ≡ false → (t.grows && ((label_of names.own lab == at) && (tag == t.tag))) ≡ false
  over names lab tag o h = subst (λ l. (t.grows && ((l == at) && (tag == t.tag))) ≡ false) (sym (label-number names o lab)) h

  pub holds-untouched : (f : Formula) (live : ℕ → Bool) (names : Names) → formula_touched t live f ≡ false → has (bound_names f) me_word ≡ false → Known own at t mover live names s → holds f names s ≡ holds f names s'
  holds-untouched True live names h m k = refl
  holds-untouched False live names h m k = refl
  holds-untouched (Eq a b) live names h m k = ap₂ int_eq (value-untouched a live names (or-left (term_touched t live a) _ h) k) (value-untouched b live names (or-right (term_touched t live a) _ h) k)
  holds-untouched (Lt a b) live names h m k = ap₂ int_lt (value-untouched a live names (or-left (term_touched t live a) _ h) k) (value-untouched b live names (or-right (term_touched t live a) _ h) k)
  holds-untouched (Le a b) live names h m k = ap₂ int_le (value-untouched a live names (or-left (term_touched t live a) _ h) k) (value-untouched b live names (or-right (term_touched t live a) _ h) k)
  holds-untouched (Not' _ (one_formula f end_formula)) live names h m k = ap not (holds-untouched f live names h m k)
  holds-untouched (And' _ (one_formula f end_formula) _ (one_formula g end_formula)) live names h m k =
      ap₂ ◌&&◌ (holds-untouched f live names (or-left (formula_touched t live f) _ h) (lacks-front (bound_names f) (bound_names g) me_word m) k) (holds-untouched g live names (or-right (formula_touched t live f) _ h) (lacks-back (bound_names f) (bound_names g) me_word m) k)
  holds-untouched (Or' _ (one_formula f end_formula) _ (one_formula g end_formula)) live names h m k =
      ap₂ ◌||◌ (holds-untouched f live names (or-left (formula_touched t live f) _ h) (lacks-front (bound_names f) (bound_names g) me_word m) k) (holds-untouched g live names (or-right (formula_touched t live f) _ h) (lacks-back (bound_names f) (bound_names g) me_word m) k)
  holds-untouched (Implies' _ (one_formula f end_formula) _ (one_formula g end_formula)) live names h m k =
      ap₂ (λ p q. not p || q) (holds-untouched f live names (or-left (formula_touched t live f) _ h) (lacks-front (bound_names f) (bound_names g) me_word m) k) (holds-untouched g live names (or-right (formula_touched t live f) _ h) (lacks-back (bound_names f) (bound_names g) me_word m) k)
  holds-untouched (All' x _ (one_formula body end_formula)) live names h m k =
      ap₂ every_below eff.nodes (fun_ext (λ node. holds-untouched body live (with_number names x (pos node)) h (or-right (me_word == x) _ m) (known-number live names x (pos node) (or-left (me_word == x) _ m) k)))
  holds-untouched (Exists' x _ (one_formula body end_formula)) live names h m k =
      ap₂ some_below eff.nodes (fun_ext (λ node. holds-untouched body live (with_number names x (pos node)) h (or-right (me_word == x) _ m) (known-number live names x (pos node) (or-left (me_word == x) _ m) k)))
  holds-untouched (Each' x lab tag _ (one_formula body end_formula)) live names h m k =
      every-messages (label_of names.own lab) tag _ _ (over names lab tag k.own_label (or-left (t.grows && is_over t lab tag) _ h))
      (λ id w q. holds-untouched body (bound_live live x (not t.grows && is_over t lab tag)) (with_message names x (Stored (label_of names.own lab) id)) (or-right (t.grows && is_over t lab tag) _ h) (or-right (me_word == x) _ m)
      (known-message live names x (label_of names.own lab) id (not t.grows && is_over t lab tag) w (λ e. live_at names lab tag id k.own_label e q) k))
  holds-untouched (Any' x lab tag _ (one_formula body end_formula)) live names h m k =
      some-messages (label_of names.own lab) tag _ _ (over names lab tag k.own_label (or-left (t.grows && is_over t lab tag) _ h))
      (λ id w q. holds-untouched body (bound_live live x (not t.grows && is_over t lab tag)) (with_message names x (Stored (label_of names.own lab) id)) (or-right (t.grows && is_over t lab tag) _ h) (or-right (me_word == x) _ m)
      (known-message live names x (label_of names.own lab) id (not t.grows && is_over t lab tag) w (λ e. live_at names lab tag id k.own_label e q) k))
