-- A formula before a send holds just where the formula holds after it.
use Rattle.std.proofs.Common.{◌≡◌, ◌<◌, ◌+◌, ℕ, zero, suc, ℤ, pos, ◌+ℤ◌, Bool, true, false, not, ◌&&◌, ◌||◌, ◌==◌, if◌then◌else◌, List, [], ◌∷◌, ◌++◌, length, Option, Some, None, slice_get, refl, ◌∙◌, sym, ap, subst, eq-eqb, eqb-true, arith, length-append}
use Rattle.std.specs.Prelude.{is_some}
use Rattle.dl_term.specs.declared.syntax.Lab.{Lab}
use Rattle.dl_term.specs.declared.syntax.Part.{Part}
use Rattle.dl_term.specs.declared.syntax.Part.TheVariants.{Id, From, To, Live, Arg}
use Rattle.dl_term.specs.declared.syntax.Term.{Term, Msg}
use Rattle.dl_term.specs.declared.syntax.Formula.{Formula, Each, Any, And, Or}
use Rattle.dl_term.specs.Syntax.{opened}
use Rattle.dl_term.specs.State.{Message, Statelet, State, statelet, soup_at, message_at, tag_of, part_of}
use Rattle.dl_term.specs.Names.{Meant, Stored, Given, Names, with_number, with_message, label_of}
use Rattle.dl_term.specs.Meaning.{value, holds, part_in, every_below, some_below, every_message, some_message}
use Rattle.dl_term.specs.Same.{same_label}
use Rattle.dl_term.proofs.Quantifiers.{every_below-more, some_below-more, every_below-same, some_below-same}
use Rattle.dl_model.specs.declared.protocol.Update.{Update}
use Rattle.dl_model.specs.declared.protocol.Protocol.{Protocol}
use Rattle.dl_subst.specs.declared.message.NewMessage.{NewMessage}
use Rattle.dl_subst.specs.Change.{mentions, and_name, captures_under}
use Rattle.dl_subst.specs.Substitution.{new_part, for_message, message_substituted}
use Rattle.dl_subst.proofs.Changed.{or-false-left, or-false-right, holds-changed}
use Rattle.dl_subst.proofs.Between.{Unbound, value-unbound, Unbound-number, Unbound-message, AtMessage, keeps-message}
use Rattle.dl_wp.specs.Steps.{Move, Sends, Receives, Step}
use Rattle.dl_wp.specs.Before.{part_before, is_over, each_before, any_before, before}
use Rattle.dl_wp.specs.Captures.{Around, under_variable, under_message, part_captures, captures}
use Rattle.dl_wp.specs.Conditions.{part_fits, FormulaFits}
use Rattle.dl_wp.proofs.Quiet.{less-names, Within, within-own, formula-quiet}
use Rattle.dl_wp.proofs.Values.{Reads, Effect, Written, Between, holds-before}

-- ---- the messages of a soup with one more at its end

pub last-message : (soup : List Message) (m : Message) → slice_get (soup ++ m ∷ []) (length soup) ≡ Some m
last-message [] m = refl
last-message (x ∷ xs) m = last-message xs m

pub early-message : (soup : List Message) (m : Message) (id : ℕ) → id < length soup → slice_get (soup ++ m ∷ []) id ≡ slice_get soup id
early-message [] m id h = absurd (omega arith)
early-message (x ∷ xs) m zero h = refl
early-message (x ∷ xs) m (suc id) h = early-message xs m id (omega arith)

every-grown : (soup : List Message) (m : Message) (tag : ℕ) (test : ℕ → Bool) → every_below (length (soup ++ m ∷ [])) (λ id. not (tag_of (slice_get (soup ++ m ∷ []) id) == tag) || test id) ≡ (every_below (length soup) (λ id. not (tag_of (slice_get soup id) == tag) || test id) && (not (m.tag == tag) || test (length soup)))
every-grown soup m tag test =
    let grown : ℕ → Bool = λ id. not (tag_of (slice_get (soup ++ m ∷ []) id) == tag) || test id in
    ap (λ n. every_below n grown) (length-append soup (m ∷ []))
    ∙ every_below-more (length soup) grown
    ∙ (λ i. every_below-same (length soup) grown (λ id. not (tag_of (slice_get soup id) == tag) || test id) (λ k lt. ap (λ o. not (tag_of o == tag) || test k) (early-message soup m k lt)) i
    && (not (tag_of (last-message soup m i) == tag) || test (length soup)))

some-grown : (soup : List Message) (m : Message) (tag : ℕ) (test : ℕ → Bool) → some_below (length (soup ++ m ∷ [])) (λ id. (tag_of (slice_get (soup ++ m ∷ []) id) == tag) && test id) ≡ (some_below (length soup) (λ id. (tag_of (slice_get soup id) == tag) && test id) || ((m.tag == tag) && test (length soup)))
some-grown soup m tag test =
    let grown : ℕ → Bool = λ id. (tag_of (slice_get (soup ++ m ∷ []) id) == tag) && test id in
    ap (λ n. some_below n grown) (length-append soup (m ∷ []))
    ∙ some_below-more (length soup) grown
    ∙ (λ i. some_below-same (length soup) grown (λ id. (tag_of (slice_get soup id) == tag) && test id) (λ k lt. ap (λ o. (tag_of o == tag) && test k) (early-message soup m k lt)) i
    || ((tag_of (last-message soup m i) == tag) && test (length soup)))

and-true : (b : Bool) → (b && true) ≡ b
and-true true = refl
and-true false = refl

or-false : (b : Bool) → (b || false) ≡ b
or-false true = refl
or-false false = refl

joined : (test e n : Bool) → (if test then e && n else e) ≡ (e && (not test || n))
joined true e n = refl
joined false e n = sym (and-true e)

parted : (test e n : Bool) → (if test then e || n else e) ≡ (e || (test && n))
parted true e n = refl
parted false e n = sym (or-false e)

and-less : (o p q : Bool) → (p ≡ false → q ≡ false) → (o && p) ≡ false → (o && q) ≡ false
and-less true p q h e = h e
and-less false p q h e = refl

eqb-turn : (x y : ℕ) → (x == y) ≡ (y == x)
eqb-turn x y = grind arith

module _ (lab : Lab) (tag : ℕ) (by : Term) (named : ℕ → Term) (updates : List Update) (nm : NewMessage) where
  abbrev sending : Step
  sending = record { label = lab; tag = tag; node = by; named = named; updates = updates; move = Sends nm }

  module _ (old new : State) (label node : ℕ) (base inner : Names) (spoken : Lab → Option Protocol) (message : Message) (reads : Reads sending old label node base inner) (effect : Effect sending old new label node inner)
      (written : Written sending spoken base.own) (soup : soup_at new label ≡ soup_at old label ++ message ∷ []) (is_tag : tag ≡ message.tag)
      (parts : (part : Part) → value (new_part nm part) base old ≡ part_of (length (soup_at old label)) (Some message) part) where
    abbrev last : ℕ
    last = length (soup_at old label)

    -- a send leaves the parts of messages as they are
    stays : (over : Bool) (m : ℕ) (part : Part) (names : Names) → value (part_before (Sends nm) over m part) names old ≡ part_in old (names.message m) part
    stays over m Live names = refl
    stays over m Id names = refl
    stays over m From names = refl
    stays over m To names = refl
    stays over m (Arg k) names = refl

    numbered : (around : Around) (b a : Names) (x : ℕ) (v : ℤ) → Between sending old new base around b a → Between sending old new base (under_variable around x) (with_number b x v) (with_number a x v)
    numbered around b a x v h = record {
      unbound = Unbound-number around.variable around.message b base h.unbound x v;
      own = h.own;
      numbers = λ y. ap (λ n. if y == x then v else n) (h.numbers y);
      parts = λ m part fits clear. stays (around.over m) m part (with_number b x v) ∙ sym (stays (around.over m) m part b)
          ∙ h.parts m part fits (and-less (around.over m) _ _ (less-names (and_name x around.variable) (around.beside m) around.variable (around.beside m) (λ y e. or-false-right _ _ e) (λ y e. e) (new_part nm part)) clear);
    }

    -- one part of a message below a quantifier over messages, by whether it is the one that is bound
    part-below : (test : Bool) (around : Around) (b a : Names) (x k : ℕ) (is : Bool) (mb ma : Meant) (part : Part) → (k == x) ≡ test → Between sending old new base around b a
        → ((is && mentions around.variable around.message (new_part nm part)) ≡ false → part_in old (Some mb) part ≡ part_in new (Some ma) part)
        → part_fits (test || around.message k) part ≡ true
        → ((if test then is else around.over k) && mentions around.variable (if test then around.message else and_name x (around.beside k)) (new_part nm part)) ≡ false
        → part_in old (if test then Some mb else b.message k) part ≡ part_in new (if test then Some ma else a.message k) part
    part-below true around b a x k is mb ma part e h mine fits clear = mine clear
    part-below false around b a x k is mb ma part e h mine fits clear =
        sym (stays (around.over k) k part b)
        ∙ h.parts k part fits (and-less (around.over k) _ _ (less-names around.variable (and_name x (around.beside k)) around.variable (around.beside k) (λ y c. c) (λ y c. or-false-right _ _ c) (new_part nm part)) clear)

    messaged : (around : Around) (b a : Names) (x : ℕ) (is : Bool) (mb ma : Meant) → Between sending old new base around b a
        → ((part : Part) → (is && mentions around.variable around.message (new_part nm part)) ≡ false → part_in old (Some mb) part ≡ part_in new (Some ma) part)
        → Between sending old new base (under_message around x is) (with_message b x mb) (with_message a x ma)
    messaged around b a x is mb ma h mine = record {
      unbound = Unbound-message around.variable around.message b base h.unbound x mb;
      own = h.own;
      numbers = h.numbers;
      parts = λ k part fits clear. stays (if k == x then is else around.over k) k part (with_message b x mb)
          ∙ part-below (k == x) around b a x k is mb ma part refl h (mine part) fits clear;
    }

    -- a message that was there before is there after
    same-old : (test : Bool) (l id : ℕ) → (l == label) ≡ test → id < length (soup_at old l) → message_at old l id ≡ message_at new l id
    same-old true l id e lt =
        let same = eqb-true l label e in
        let below : id < last = subst (λ n. id < length (soup_at old n)) same lt in
        ap (λ n. message_at old n id) same ∙ sym (early-message (soup_at old label) message id below)
        ∙ ap (λ soup. slice_get soup id) (sym soup) ∙ ap (λ n. message_at new n id) (sym same)
    same-old false l id e lt = ap (λ (s : Statelet). slice_get s.soup id) (sym (effect.other l e))

    stored : (around : Around) (b a : Names) (x : ℕ) (is : Bool) (l id : ℕ) → id < length (soup_at old l) → Between sending old new base around b a
        → Between sending old new base (under_message around x is) (with_message b x (Stored l id)) (with_message a x (Stored l id))
    stored around b a x is l id lt h = messaged around b a x is (Stored l id) (Stored l id) h (λ part clear. ap (λ o. part_of id o part) (same-old (l == label) l id refl lt))

    -- the new message
    abbrev given : Names → Part → ℤ
    given b part = value (new_part nm part) b old

    the-new : (part : Part) → part_in new (Some (Stored label last)) part ≡ part_of last (Some message) part
    the-new part = ap (λ o. part_of last o part) (ap (λ soup. slice_get soup last) soup ∙ last-message (soup_at old label) message)

    sent : (around : Around) (b a : Names) (x : ℕ) → Between sending old new base around b a
        → Between sending old new base (under_message around x true) (with_message b x (Given (given b))) (with_message a x (Stored label last))
    sent around b a x h = messaged around b a x true (Given (given b)) (Stored label last) h
        (λ part clear. value-unbound (new_part nm part) around.variable around.message b base old h.unbound clear ∙ parts part ∙ sym (the-new part))

    -- what is put in for the new message is what the formula says of it
    put-holds : (around : Around) (b : Names) (x : ℕ) (g : Formula) → captures_under (for_message x nm) around.variable around.message g ≡ false
        → holds (message_substituted g x nm) b old ≡ holds g (with_message b x (Given (given b))) old
    put-holds around b x g clear =
        holds-changed (for_message x nm) old (AtMessage x (given b) b) (keeps-message x nm b old) g around.variable around.message b (with_message b x (Given (given b))) (record {
          unbound = record { own = refl; numbers = λ z e. refl; messages = λ k e. refl };
          own = refl;
          numbers = λ z. refl;
          messages = λ k. refl;
        }) clear

    -- ---- quantifiers over messages

    each-is : (l t : ℕ) (p q : ℕ → Bool) → ((id : ℕ) → id < length (soup_at old l) → p id ≡ q id) → every_message old l t p ≡ every_message old l t q
    each-is l t p q each =
        every_below-same (length (soup_at old l)) _ _ (λ id lt. ap (λ u. not (tag_of (message_at old l id) == t) || u) (each id lt))

    some-is : (l t : ℕ) (p q : ℕ → Bool) → ((id : ℕ) → id < length (soup_at old l) → p id ≡ q id) → some_message old l t p ≡ some_message old l t q
    some-is l t p q each =
        some_below-same (length (soup_at old l)) _ _ (λ id lt. ap (λ u. (tag_of (message_at old l id) == t) && u) (each id lt))

    with-last : (test e f n k : Bool) → e ≡ f → (test ≡ true → n ≡ k) → (if test then e && n else e) ≡ (if test then f && k else f)
    with-last true e f n k p h = λ i. p i && h refl i
    with-last false e f n k p h = p

    or-last : (test e f n k : Bool) → e ≡ f → (test ≡ true → n ≡ k) → (if test then e || n else e) ≡ (if test then f || k else f)
    or-last true e f n k p h = λ i. p i || h refl i
    or-last false e f n k p h = p

    each-here : (test : Bool) (t : ℕ) (p q : ℕ → Bool) (n : Bool) → (message.tag == t) ≡ test → ((id : ℕ) → id < last → p id ≡ q id) → (test ≡ true → n ≡ q last) → (if test then every_message old label t p && n else every_message old label t p) ≡ every_message new label t q
    each-here test t p q n e each end =
        with-last test (every_message old label t p) (every_message old label t q) n (q last) (each-is label t p q each) end
        ∙ joined test (every_message old label t q) (q last)
        ∙ ap (λ u. every_message old label t q && (not u || q last)) (sym e)
        ∙ sym (every-grown (soup_at old label) message t q)
        ∙ ap (λ soup. every_below (length soup) (λ id. not (tag_of (slice_get soup id) == t) || q id)) (sym soup)

    some-here : (test : Bool) (t : ℕ) (p q : ℕ → Bool) (n : Bool) → (message.tag == t) ≡ test → ((id : ℕ) → id < last → p id ≡ q id) → (test ≡ true → n ≡ q last) → (if test then some_message old label t p || n else some_message old label t p) ≡ some_message new label t q
    some-here test t p q n e each end =
        or-last test (some_message old label t p) (some_message old label t q) n (q last) (some-is label t p q each) end
        ∙ parted test (some_message old label t q) (q last)
        ∙ ap (λ u. some_message old label t q || (u && q last)) (sym e)
        ∙ sym (some-grown (soup_at old label) message t q)
        ∙ ap (λ soup. some_below (length soup) (λ id. (tag_of (slice_get soup id) == t) && q id)) (sym soup)

    each-case : (same test : Bool) (l t : ℕ) (p q : ℕ → Bool) (n : Bool) → (l == label) ≡ same → (message.tag == t) ≡ test → ((id : ℕ) → id < length (soup_at old l) → p id ≡ q id) → ((same && test) ≡ true → n ≡ q last) → (if same && test then every_message old l t p && n else every_message old l t p) ≡ every_message new l t q
    each-case false test l t p q n other e each end =
        each-is l t p q each
        ∙ ap (λ (s : Statelet). every_below (length s.soup) (λ id. not (tag_of (slice_get s.soup id) == t) || q id)) (sym (effect.other l other))
    each-case true test l t p q n same e each end =
        let is = eqb-true l label same in
        ap (λ k. if test then every_message old k t p && n else every_message old k t p) is
        ∙ each-here test t p q n e (λ id lt. each id (subst (λ k. id < length (soup_at old k)) (sym is) lt)) end
        ∙ ap (λ k. every_message new k t q) (sym is)

    some-case : (same test : Bool) (l t : ℕ) (p q : ℕ → Bool) (n : Bool) → (l == label) ≡ same → (message.tag == t) ≡ test → ((id : ℕ) → id < length (soup_at old l) → p id ≡ q id) → ((same && test) ≡ true → n ≡ q last) → (if same && test then some_message old l t p || n else some_message old l t p) ≡ some_message new l t q
    some-case false test l t p q n other e each end =
        some-is l t p q each
        ∙ ap (λ (s : Statelet). some_below (length s.soup) (λ id. (tag_of (slice_get s.soup id) == t) && q id)) (sym (effect.other l other))
    some-case true test l t p q n same e each end =
        let is = eqb-true l label same in
        ap (λ k. if test then some_message old k t p || n else some_message old k t p) is
        ∙ some-here test t p q n e (λ id lt. each id (subst (λ k. id < length (soup_at old k)) (sym is) lt)) end
        ∙ ap (λ k. some_message new k t q) (sym is)

    each-split : (over : Bool) (m : ℕ) (l : Lab) (t : ℕ) (g : Formula) (b : Names) → holds (each_before (Sends nm) over m l t g) b old
        ≡ (if over then every_message old (label_of b.own l) t (λ id. holds g (with_message b m (Stored (label_of b.own l) id)) old) && holds (message_substituted g m nm) b old
        else every_message old (label_of b.own l) t (λ id. holds g (with_message b m (Stored (label_of b.own l) id)) old))
    unfolding opened
    each-split true m l t g b = refl
    each-split false m l t g b = refl

    any-split : (over : Bool) (m : ℕ) (l : Lab) (t : ℕ) (g : Formula) (b : Names) → holds (any_before (Sends nm) over m l t g) b old
        ≡ (if over then some_message old (label_of b.own l) t (λ id. holds g (with_message b m (Stored (label_of b.own l) id)) old) || holds (message_substituted g m nm) b old
        else some_message old (label_of b.own l) t (λ id. holds g (with_message b m (Stored (label_of b.own l) id)) old))
    unfolding opened
    any-split true m l t g b = refl
    any-split false m l t g b = refl

    -- whether the quantifier is over the label and the tag of the step
    at-label : (l : Lab) (own : ℕ) → own ≡ base.own → is_some (spoken l) ≡ true → (label_of own l == label) ≡ same_label l lab
    at-label l own o there = ap (λ n. label_of n l == label) o ∙ ap (λ n. label_of base.own l == n) (sym reads.at_label) ∙ sym (written.labels l there)

    of-tag : (t : ℕ) → (message.tag == t) ≡ (t == tag)
    of-tag t = ap (λ n. n == t) (sym is_tag) ∙ eqb-turn tag t

    -- the new message, in a formula that is told of below its quantifier
    sent-holds : (over : Bool) (around : Around) (b a : Names) (m : ℕ) (l : Lab) (f g : Formula) → over ≡ true → label_of b.own l ≡ label → captures_under (for_message m nm) around.variable around.message g ≡ false
        → Between sending old new base around b a → ((b' a' : Names) → Between sending old new base (under_message around m over) b' a' → holds g b' old ≡ holds f a' new)
        → holds (message_substituted g m nm) b old ≡ holds f (with_message a m (Stored (label_of b.own l) last)) new
    sent-holds true around b a m l f g e at clear h body =
        put-holds around b m g clear
        ∙ body (with_message b m (Given (given b))) (with_message a m (Stored label last)) (sent around b a m h)
        ∙ ap (λ n. holds f (with_message a m (Stored n last)) new) (sym at)
    sent-holds false around b a m l f g e at clear h body = cc

    both-true : (a b : Bool) → (a && b) ≡ true → a ≡ true
    both-true true b e = refl
    both-true false b e = cc

    own-over : (over : Bool) (around : Around) (m : ℕ) → over ≡ true → Within sending nm refl (under_message around m over) m around.variable around.message
    own-over true around m e = within-own sending nm refl around m
    own-over false around m e = cc

    each-lifts : (around : Around) (b a : Names) (m : ℕ) (l : Lab) (t : ℕ) (f : Formula) → Between sending old new base around b a → is_some (spoken l) ≡ true
        → captures sending (under_message around m (is_over sending l t)) f ≡ false
        → ((b' a' : Names) → Between sending old new base (under_message around m (is_over sending l t)) b' a' → holds (before sending (under_message around m (is_over sending l t)).over f) b' old ≡ holds f a' new)
        → holds (each_before (Sends nm) (is_over sending l t) m l t (before sending (under_message around m (is_over sending l t)).over f)) b old ≡ holds (Each m l t f) a new
    unfolding opened
    each-lifts around b a m l t f h there clear body =
        let over = is_over sending l t in
        let under = under_message around m over in
        let g = before sending under.over f in
        let at = at-label l b.own h.unbound.own there in
        each-split over m l t g b
        ∙ each-case (same_label l lab) (t == tag) (label_of b.own l) t _ (λ id. holds f (with_message a m (Stored (label_of b.own l) id)) new) _ at (of-tag t)
        (λ id lt. body _ _ (stored around b a m over (label_of b.own l) id lt h))
        (λ both. sent-holds over around b a m l f g both (eqb-true _ _ (at ∙ both-true _ _ both)) (formula-quiet sending nm refl f under m around.variable around.message (own-over over around m both) clear) h body)
        ∙ ap (λ own. every_message new (label_of own l) t (λ id. holds f (with_message a m (Stored (label_of own l) id)) new)) (h.unbound.own ∙ sym h.own)

    any-lifts : (around : Around) (b a : Names) (m : ℕ) (l : Lab) (t : ℕ) (f : Formula) → Between sending old new base around b a → is_some (spoken l) ≡ true
        → captures sending (under_message around m (is_over sending l t)) f ≡ false
        → ((b' a' : Names) → Between sending old new base (under_message around m (is_over sending l t)) b' a' → holds (before sending (under_message around m (is_over sending l t)).over f) b' old ≡ holds f a' new)
        → holds (any_before (Sends nm) (is_over sending l t) m l t (before sending (under_message around m (is_over sending l t)).over f)) b old ≡ holds (Any m l t f) a new
    unfolding opened
    any-lifts around b a m l t f h there clear body =
        let over = is_over sending l t in
        let under = under_message around m over in
        let g = before sending under.over f in
        let at = at-label l b.own h.unbound.own there in
        any-split over m l t g b
        ∙ some-case (same_label l lab) (t == tag) (label_of b.own l) t _ (λ id. holds f (with_message a m (Stored (label_of b.own l) id)) new) _ at (of-tag t)
        (λ id lt. body _ _ (stored around b a m over (label_of b.own l) id lt h))
        (λ both. sent-holds over around b a m l f g both (eqb-true _ _ (at ∙ both-true _ _ both)) (formula-quiet sending nm refl f under m around.variable around.message (own-over over around m both) clear) h body)
        ∙ ap (λ own. some_message new (label_of own l) t (λ id. holds f (with_message a m (Stored (label_of own l) id)) new)) (h.unbound.own ∙ sym h.own)

    pub send-holds : (f : Formula) (around : Around) (b a : Names) → FormulaFits spoken around.message f → captures sending around f ≡ false → Between sending old new base around b a → holds (before sending around.over f) b old ≡ holds f a new
    send-holds f around b a fits clear h = holds-before sending old label node base inner reads new spoken effect written numbered each-lifts any-lifts f around b a fits clear h
