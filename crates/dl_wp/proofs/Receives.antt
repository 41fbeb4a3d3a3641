-- A formula before a receive holds just where the formula holds after it.
use Rattle.std.proofs.Common.{◌≡◌, ◌<◌, ℕ, zero, suc, ℤ, pos, Bool, true, false, not, ◌&&◌, ◌||◌, ◌==◌, if◌then◌else◌, List, [], ◌∷◌, length, Option, Some, None, slice_get, refl, ◌∙◌, sym, ap, subst, eq-eqb, eqb-true, arith, ◌⊎◌, inl, inr}
use Rattle.std.proofs.lemmas.Bool.{cases_eq}
use Rattle.std.specs.Prelude.{is_some}
use Rattle.std.specs.Ordering.{int_eq}
use Rattle.dl_term.specs.declared.syntax.Lab.{Lab}
use Rattle.dl_term.specs.declared.syntax.Part.{Part}
use Rattle.dl_term.specs.declared.syntax.Part.TheVariants.{Id, From, To, Live, Arg}
use Rattle.dl_term.specs.declared.syntax.Term.{Term, Msg}
use Rattle.dl_term.specs.declared.syntax.Formula.{Formula, Each, Any}
use Rattle.dl_term.specs.Syntax.{opened}
use Rattle.dl_term.specs.State.{Message, Statelet, State, statelet, soup_at, message_at, tag_of, part_of}
use Rattle.dl_term.specs.Names.{Meant, Stored, Given, Names, with_number, with_message, label_of}
use Rattle.dl_term.specs.Meaning.{value, holds, part_in, every_below, some_below, every_message, some_message}
use Rattle.dl_term.specs.Same.{same_label}
use Rattle.dl_term.proofs.Quantifiers.{every_below-same, some_below-same}
use Rattle.dl_model.specs.declared.protocol.Update.{Update}
use Rattle.dl_model.specs.declared.protocol.Protocol.{Protocol}
use Rattle.dl_model.specs.Steps.{change, consumed}
use Rattle.dl_model.proofs.Small.{eqb-other}
use Rattle.dl_subst.specs.Change.{and_name}
use Rattle.dl_subst.proofs.Changed.{or-false-left, or-false-right}
use Rattle.dl_subst.proofs.Between.{Unbound-number, Unbound-message}
use Rattle.dl_wp.specs.Steps.{Move, Sends, Receives, Step}
use Rattle.dl_wp.specs.Before.{part_before, live_before, is_over, each_before, any_before, before}
use Rattle.dl_wp.specs.Captures.{Around, nothing_around, under_variable, under_message, part_captures, captures}
use Rattle.dl_wp.specs.Conditions.{part_fits, FormulaFits}
use Rattle.dl_wp.proofs.Cells.{int-true, int-false, change-other}
use Rattle.dl_wp.proofs.Values.{Reads, Effect, Written, Between, holds-before}

-- ---- the messages of a soup of which one is consumed

pub length-consumed : (soup : List Message) (n : ℕ) → length (change consumed soup n) ≡ length soup
length-consumed [] n = refl
length-consumed (m ∷ ms) zero = refl
length-consumed (m ∷ ms) (suc n) = ap suc (length-consumed ms n)

tag-consumed : (soup : List Message) (n i : ℕ) → tag_of (slice_get (change consumed soup n) i) ≡ tag_of (slice_get soup i)
tag-consumed [] n i = refl
tag-consumed (m ∷ ms) zero zero = refl
tag-consumed (m ∷ ms) zero (suc i) = refl
tag-consumed (m ∷ ms) (suc n) zero = refl
tag-consumed (m ∷ ms) (suc n) (suc i) = tag-consumed ms n i

id-there : (soup : List Message) (n i : ℕ) → i < length soup → part_of n (slice_get soup i) Id ≡ pos n
id-there [] n i h = absurd (omega arith)
id-there (m ∷ ms) n zero h = refl
id-there (m ∷ ms) n (suc i) h = id-there ms n i (omega arith)

live-there : (soup : List Message) (n i : ℕ) → part_of n (slice_get (change consumed soup i) i) Live ≡ pos 0
live-there [] n i = refl
live-there (m ∷ ms) n zero = refl
live-there (m ∷ ms) n (suc i) = live-there ms n i

-- the other parts of a message stay
abbrev is_live : Part → Bool
is_live Live = true
is_live Id = false
is_live From = false
is_live To = false
is_live (Arg k) = false

impossible : {X : Type 0} → true ≡ false → X
impossible e = absurd (cc)

stays-one : (m : Message) (n : ℕ) (part : Part) → is_live part ≡ false → part_of n (Some (consumed m)) part ≡ part_of n (Some m) part
stays-one m n Live h = impossible h
stays-one m n Id h = refl
stays-one m n From h = refl
stays-one m n To h = refl
stays-one m n (Arg k) h = refl

part-consumed : (soup : List Message) (n k i : ℕ) (part : Part) → is_live part ≡ false → part_of n (slice_get (change consumed soup k) i) part ≡ part_of n (slice_get soup i) part
part-consumed [] n k i part h = refl
part-consumed (m ∷ ms) n zero zero part h = stays-one m n part h
part-consumed (m ∷ ms) n zero (suc i) part h = refl
part-consumed (m ∷ ms) n (suc k) zero part h = refl
part-consumed (m ∷ ms) n (suc k) (suc i) part h = part-consumed ms n k i part h

eqb-turn : (x y : ℕ) → (x == y) ≡ (y == x)
eqb-turn x y = grind arith

module _ (lab : Lab) (tag : ℕ) (by : Term) (named : ℕ → Term) (updates : List Update) (msg : ℕ) where
  abbrev receiving : Step
  receiving = record { label = lab; tag = tag; node = by; named = named; updates = updates; move = Receives msg }

  module _ (old new : State) (label node id : ℕ) (base inner : Names) (spoken : Lab → Option Protocol) (reads : Reads receiving old label node base inner) (effect : Effect receiving old new label node inner)
      (written : Written receiving spoken base.own) (soup : soup_at new label ≡ change consumed (soup_at old label) id) (there : id < length (soup_at old label)) (is_tag : tag_of (message_at old label id) ≡ tag)
      (is_msg : base.message msg ≡ Some (Stored label id)) where
    -- ---- what a receive leaves of messages

    other-soup : (l : ℕ) → (l ≡ label → ⊥) → soup_at new l ≡ soup_at old l
    other-soup l n = ap (λ (s : Statelet). s.soup) (effect.other l (eqb-other l label n))

    part-stays : (l i : ℕ) (part : Part) → is_live part ≡ false → part_of i (message_at old l i) part ≡ part_of i (message_at new l i) part
    part-stays l i part h = elim (cases_eq l label) [
      | inl e ↦ subst (λ k. part_of i (message_at old k i) part ≡ part_of i (message_at new k i) part) (sym e)
          (sym (part-consumed (soup_at old label) i id i part h) ∙ ap (λ s. part_of i (slice_get s i) part) (sym soup))
      | inr n ↦ ap (λ s. part_of i (slice_get s i) part) (sym (other-soup l n))
    ]

    meant-stays : (m : Option Meant) (part : Part) → is_live part ≡ false → part_in old m part ≡ part_in new m part
    meant-stays None part h = refl
    meant-stays (Some (Given parts)) part h = refl
    meant-stays (Some (Stored l i)) part h = part-stays l i part h

    live-other : (l i : ℕ) → ((l ≡ label → ⊥) ⊎ (i ≡ id → ⊥)) → part_of i (message_at old l i) Live ≡ part_of i (message_at new l i) Live
    live-other l i (inl n) = ap (λ s. part_of i (slice_get s i) Live) (sym (other-soup l n))
    live-other l i (inr n) = elim (cases_eq l label) [
      | inl e ↦ subst (λ k. part_of i (message_at old k i) Live ≡ part_of i (message_at new k i) Live) (sym e)
          (ap (λ o. part_of i o Live) (sym (change-other consumed (soup_at old label) id i n)) ∙ ap (λ s. part_of i (slice_get s i) Live) (sym soup))
      | inr m ↦ ap (λ s. part_of i (slice_get s i) Live) (sym (other-soup l m))
    ]

    live-mine : (i : ℕ) → i < length (soup_at old label) → (if int_eq (part_of i (message_at old label i) Id) (part_of id (message_at old label id) Id) then pos 0 else part_of i (message_at old label i) Live) ≡ part_of i (message_at new label i) Live
    live-mine i lt =
        (λ j. if int_eq (id-there (soup_at old label) i i lt j) (id-there (soup_at old label) id id there j) then pos 0 else part_of i (message_at old label i) Live)
        ∙ elim (cases_eq i id) [
          | inl e ↦ ap (λ b. if b then pos 0 else part_of i (message_at old label i) Live) (int-true (pos i) (pos id) (ap pos e))
              ∙ sym (ap (λ s. part_of i (slice_get s i) Live) soup ∙ ap (λ k. part_of i (slice_get (change consumed (soup_at old label) k) i) Live) (sym e) ∙ live-there (soup_at old label) i i)
          | inr n ↦ ap (λ b. if b then pos 0 else part_of i (message_at old label i) Live) (int-false (pos i) (pos id) (λ q. n (same-number i id q))) ∙ live-other label i (inr n)
        ]
      where
        same-number : (a b : ℕ) → pos a ≡ pos b → a ≡ b
        same-number a b q = cc

    -- ---- names

    -- the part that stands for it before, by what the names give
    abbrev read_part : Bool → Option Meant → Option Meant → Part → ℤ
    read_part over m k Live = if over then (if int_eq (part_in old m Id) (part_in old k Id) then pos 0 else part_in old m Live) else part_in old m Live
    read_part over m k Id = part_in old m Id
    read_part over m k From = part_in old m From
    read_part over m k To = part_in old m To
    read_part over m k (Arg n) = part_in old m (Arg n)

    live-reads : (over : Bool) (m : ℕ) (names : Names) → value (live_before (Receives msg) over m) names old ≡ read_part over (names.message m) (names.message msg) Live
    unfolding opened
    live-reads true m names = refl
    live-reads false m names = refl

    part-reads : (over : Bool) (m : ℕ) (part : Part) (names : Names) → value (part_before (Receives msg) over m part) names old ≡ read_part over (names.message m) (names.message msg) part
    part-reads over m Live names = live-reads over m names
    part-reads over m Id names = refl
    part-reads over m From names = refl
    part-reads over m To names = refl
    part-reads over m (Arg n) names = refl

    numbered : (around : Around) (b a : Names) (x : ℕ) (v : ℤ) → Between receiving old new base around b a → Between receiving old new base (under_variable around x) (with_number b x v) (with_number a x v)
    numbered around b a x v h = record {
      unbound = Unbound-number around.variable around.message b base h.unbound x v;
      own = h.own;
      numbers = λ y. ap (λ n. if y == x then v else n) (h.numbers y);
      parts = λ m part fits clear. part-reads (around.over m) m part (with_number b x v) ∙ sym (part-reads (around.over m) m part b) ∙ h.parts m part fits (same part m clear);
    }
      where
        same : (part : Part) (m : ℕ) → part_captures (Receives msg) (under_variable around x) m part ≡ false → part_captures (Receives msg) around m part ≡ false
        same Live m c = c
        same Id m c = refl
        same From m c = refl
        same To m c = refl
        same (Arg n) m c = refl

    -- the message that is received, where no quantifier around binds its name
    msg-name : (b : Names) (bound test : Bool) (m : Meant) → (test || bound) ≡ false → (bound ≡ false → b.message msg ≡ base.message msg) → (if test then Some m else b.message msg) ≡ Some (Stored label id)
    msg-name b bound true m h k = cc
    msg-name b bound false m h k = k h ∙ is_msg

    -- the mark of the message that a quantifier binds
    mark : (over : Bool) (l i : ℕ) (k : Option Meant) → (over ≡ true → l ≡ label) → (over ≡ false → (l ≡ label → ⊥) ⊎ (i ≡ id → ⊥)) → i < length (soup_at old l) → (over ≡ true → k ≡ Some (Stored label id))
        → read_part over (Some (Stored l i)) k Live ≡ part_in new (Some (Stored l i)) Live
    mark true l i k at other lt is =
        ap (λ o. if int_eq (part_in old (Some (Stored l i)) Id) (part_in old o Id) then pos 0 else part_in old (Some (Stored l i)) Live) (is refl)
        ∙ subst (λ n. (if int_eq (part_of i (message_at old n i) Id) (part_of id (message_at old label id) Id) then pos 0 else part_of i (message_at old n i) Live) ≡ part_of i (message_at new n i) Live) (sym (at refl))
        (live-mine i (subst (λ n. i < length (soup_at old n)) (at refl) lt))
    mark false l i k at other lt is = live-other l i (other refl)

    -- one part of a message below a quantifier, by whether it is the one that is bound
    part-below : (test : Bool) (around : Around) (b a : Names) (x k : ℕ) (is : Bool) (l i : ℕ) (part : Part) → (k == x) ≡ test → Between receiving old new base around b a
        → (is ≡ true → l ≡ label) → (is ≡ false → (l ≡ label → ⊥) ⊎ (i ≡ id → ⊥)) → i < length (soup_at old l)
        → part_fits (test || around.message k) part ≡ true
        → ((if test then is else around.over k) && ((msg == x) || around.message msg)) ≡ false ⊎ (is_live part ≡ false)
        → read_part (if test then is else around.over k) (if test then Some (Stored l i) else b.message k) (if msg == x then Some (Stored l i) else b.message msg) part ≡ part_in new (if test then Some (Stored l i) else a.message k) part
    part-below true around b a x k is l i Live e h at other lt fits (inl clear) =
        mark is l i (if msg == x then Some (Stored l i) else b.message msg) at other lt (λ over. msg-name b (around.message msg) (msg == x) (Stored l i) (sym (ap (λ t. t && ((msg == x) || around.message msg)) over) ∙ clear) (h.unbound.messages msg))
    part-below true around b a x k is l i Live e h at other lt fits (inr clear) = impossible clear
    part-below true around b a x k is l i Id e h at other lt fits clear = part-stays l i Id refl
    part-below true around b a x k is l i From e h at other lt fits clear = part-stays l i From refl
    part-below true around b a x k is l i To e h at other lt fits clear = part-stays l i To refl
    part-below true around b a x k is l i (Arg n) e h at other lt fits clear = part-stays l i (Arg n) refl
    part-below false around b a x k is l i Live e h at other lt fits (inl clear) =
        name (around.over k) (msg == x) refl refl clear
        ∙ sym (part-reads (around.over k) k Live b) ∙ h.parts k Live fits (weaker (around.over k) (msg == x) (around.message msg) clear)
      where
        weaker : (o t m : Bool) → (o && (t || m)) ≡ false → (o && m) ≡ false
        weaker true t m c = or-false-right t m c
        weaker false t m c = refl

        name : (o t : Bool) → around.over k ≡ o → (msg == x) ≡ t → (o && (t || around.message msg)) ≡ false
            → read_part o (b.message k) (if t then Some (Stored l i) else b.message msg) Live ≡ read_part o (b.message k) (b.message msg) Live
        name true true p q c = cc
        name true false p q c = refl
        name false t p q c = refl
    part-below false around b a x k is l i Live e h at other lt fits (inr clear) = impossible clear
    part-below false around b a x k is l i Id e h at other lt fits clear = h.parts k Id fits refl
    part-below false around b a x k is l i From e h at other lt fits clear = h.parts k From fits refl
    part-below false around b a x k is l i To e h at other lt fits clear = h.parts k To fits refl
    part-below false around b a x k is l i (Arg n) e h at other lt fits clear = h.parts k (Arg n) fits refl

    stored : (around : Around) (b a : Names) (x : ℕ) (is : Bool) (l i : ℕ) → Between receiving old new base around b a → (is ≡ true → l ≡ label) → (is ≡ false → (l ≡ label → ⊥) ⊎ (i ≡ id → ⊥)) → i < length (soup_at old l)
        → Between receiving old new base (under_message around x is) (with_message b x (Stored l i)) (with_message a x (Stored l i))
    stored around b a x is l i h at other lt = record {
      unbound = Unbound-message around.variable around.message b base h.unbound x (Stored l i);
      own = h.own;
      numbers = h.numbers;
      parts = λ k part fits clear. part-reads (if k == x then is else around.over k) k part (with_message b x (Stored l i))
          ∙ part-below (k == x) around b a x k is l i part refl h at other lt fits (marked k part clear);
    }
      where
        marked : (k : ℕ) (part : Part) → part_captures (Receives msg) (under_message around x is) k part ≡ false → ((if k == x then is else around.over k) && ((msg == x) || around.message msg)) ≡ false ⊎ (is_live part ≡ false)
        marked k Live c = inl c
        marked k Id c = inr refl
        marked k From c = inr refl
        marked k To c = inr refl
        marked k (Arg n) c = inr refl

    -- ---- quantifiers over messages

    len-stays : (l : ℕ) → length (soup_at new l) ≡ length (soup_at old l)
    len-stays l = elim (cases_eq l label) [
      | inl e ↦ subst (λ k. length (soup_at new k) ≡ length (soup_at old k)) (sym e) (ap length soup ∙ length-consumed (soup_at old label) id)
      | inr n ↦ ap length (other-soup l n)
    ]

    tag-stays : (l i : ℕ) → tag_of (message_at new l i) ≡ tag_of (message_at old l i)
    tag-stays l i = elim (cases_eq l label) [
      | inl e ↦ subst (λ k. tag_of (message_at new k i) ≡ tag_of (message_at old k i)) (sym e) (ap (λ s. tag_of (slice_get s i)) soup ∙ tag-consumed (soup_at old label) id i)
      | inr n ↦ ap (λ s. tag_of (slice_get s i)) (other-soup l n)
    ]

    implied-same : (test p q : Bool) → (test ≡ true → p ≡ q) → (not test || p) ≡ (not test || q)
    implied-same true p q h = h refl
    implied-same false p q h = refl

    joined-same : (test p q : Bool) → (test ≡ true → p ≡ q) → (test && p) ≡ (test && q)
    joined-same true p q h = h refl
    joined-same false p q h = refl

    each-is : (l t : ℕ) (p q : ℕ → Bool) → ((i : ℕ) → i < length (soup_at old l) → (tag_of (message_at old l i) == t) ≡ true → p i ≡ q i) → every_message old l t p ≡ every_message new l t q
    each-is l t p q each =
        every_below-same (length (soup_at old l)) _ _ (λ i lt. implied-same (tag_of (message_at old l i) == t) (p i) (q i) (each i lt) ∙ ap (λ k. not (k == t) || q i) (sym (tag-stays l i)))
        ∙ ap (λ n. every_below n (λ i. not (tag_of (message_at new l i) == t) || q i)) (sym (len-stays l))

    some-is : (l t : ℕ) (p q : ℕ → Bool) → ((i : ℕ) → i < length (soup_at old l) → (tag_of (message_at old l i) == t) ≡ true → p i ≡ q i) → some_message old l t p ≡ some_message new l t q
    some-is l t p q each =
        some_below-same (length (soup_at old l)) _ _ (λ i lt. joined-same (tag_of (message_at old l i) == t) (p i) (q i) (each i lt) ∙ ap (λ k. (k == t) && q i) (sym (tag-stays l i)))
        ∙ ap (λ n. some_below n (λ i. (tag_of (message_at new l i) == t) && q i)) (sym (len-stays l))

    at-label : (l : Lab) (own : ℕ) → own ≡ base.own → is_some (spoken l) ≡ true → (label_of own l == label) ≡ same_label l lab
    at-label l own o known = ap (λ n. label_of n l == label) o ∙ ap (λ n. label_of base.own l == n) (sym reads.at_label) ∙ sym (written.labels l known)

    -- whether the message that is bound may be the one that is received
    over-label : (same tagged : Bool) (l : ℕ) → (l == label) ≡ same → (same && tagged) ≡ true → l ≡ label
    over-label true tagged l e both = eqb-true l label e
    over-label false tagged l e both = cc

    not-received : (same tagged : Bool) (l i t : ℕ) → (l == label) ≡ same → (t == tag) ≡ tagged → (tag_of (message_at old l i) == t) ≡ true → (same && tagged) ≡ false → (l ≡ label → ⊥) ⊎ (i ≡ id → ⊥)
    not-received false tagged l i t e f g both = inl (λ q. let one : (l == label) ≡ true = eq-eqb l label q in cc)
    not-received true true l i t e f g both = cc
    not-received true false l i t e f g both = inr (λ q.
        let one : t ≡ tag = sym (eqb-true _ _ g) ∙ ap (λ n. tag_of (message_at old n i)) (eqb-true l label e) ∙ ap (λ n. tag_of (message_at old label n)) q ∙ is_tag in
        let two : (t == tag) ≡ true = eq-eqb t tag one in cc)

    each-lifts : (around : Around) (b a : Names) (m : ℕ) (l : Lab) (t : ℕ) (f : Formula) → Between receiving old new base around b a → is_some (spoken l) ≡ true
        → captures receiving (under_message around m (is_over receiving l t)) f ≡ false
        → ((b' a' : Names) → Between receiving old new base (under_message around m (is_over receiving l t)) b' a' → holds (before receiving (under_message around m (is_over receiving l t)).over f) b' old ≡ holds f a' new)
        → holds (each_before (Receives msg) (is_over receiving l t) m l t (before receiving (under_message around m (is_over receiving l t)).over f)) b old ≡ holds (Each m l t f) a new
    unfolding opened
    each-lifts around b a m l t f h known clear body =
        let at = at-label l b.own h.unbound.own known in
        each-is (label_of b.own l) t _ (λ i. holds f (with_message a m (Stored (label_of b.own l) i)) new)
        (λ i lt tagged. body _ _ (stored around b a m (is_over receiving l t) (label_of b.own l) i h
        (over-label (same_label l lab) (t == tag) (label_of b.own l) at)
        (not-received (same_label l lab) (t == tag) (label_of b.own l) i t at refl tagged) lt))
        ∙ ap (λ own. every_message new (label_of own l) t (λ i. holds f (with_message a m (Stored (label_of own l) i)) new)) (h.unbound.own ∙ sym h.own)

    any-lifts : (around : Around) (b a : Names) (m : ℕ) (l : Lab) (t : ℕ) (f : Formula) → Between receiving old new base around b a → is_some (spoken l) ≡ true
        → captures receiving (under_message around m (is_over receiving l t)) f ≡ false
        → ((b' a' : Names) → Between receiving old new base (under_message around m (is_over receiving l t)) b' a' → holds (before receiving (under_message around m (is_over receiving l t)).over f) b' old ≡ holds f a' new)
        → holds (any_before (Receives msg) (is_over receiving l t) m l t (before receiving (under_message around m (is_over receiving l t)).over f)) b old ≡ holds (Any m l t f) a new
    unfolding opened
    any-lifts around b a m l t f h known clear body =
        let at = at-label l b.own h.unbound.own known in
        some-is (label_of b.own l) t _ (λ i. holds f (with_message a m (Stored (label_of b.own l) i)) new)
        (λ i lt tagged. body _ _ (stored around b a m (is_over receiving l t) (label_of b.own l) i h
        (over-label (same_label l lab) (t == tag) (label_of b.own l) at)
        (not-received (same_label l lab) (t == tag) (label_of b.own l) i t at refl tagged) lt))
        ∙ ap (λ own. some_message new (label_of own l) t (λ i. holds f (with_message a m (Stored (label_of own l) i)) new)) (h.unbound.own ∙ sym h.own)

    -- without quantifiers around no mark is read
    pub base-between : Between receiving old new base nothing_around base base
    base-between = record {
      unbound = record { own = refl; numbers = λ z e. refl; messages = λ k e. refl };
      own = refl;
      numbers = λ x. refl;
      parts = λ m part fits clear. at m part fits;
    }
      where
        at : (m : ℕ) (part : Part) → part_fits false part ≡ true → value (part_before (Receives msg) false m part) base old ≡ part_in new (base.message m) part
        at m Live fits = cc
        at m Id fits = meant-stays (base.message m) Id refl
        at m From fits = meant-stays (base.message m) From refl
        at m To fits = meant-stays (base.message m) To refl
        at m (Arg n) fits = meant-stays (base.message m) (Arg n) refl

    pub receive-holds : (f : Formula) (around : Around) (b a : Names) → FormulaFits spoken around.message f → captures receiving around f ≡ false → Between receiving old new base around b a → holds (before receiving around.over f) b old ≡ holds f a new
    receive-holds f around b a fits clear h = holds-before receiving old label node base inner reads new spoken effect written numbered each-lifts any-lifts f around b a fits clear h
