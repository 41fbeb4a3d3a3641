-- Where nothing of a step is captured, the parts of the sent message capture nothing in the formula before the step.
use Rattle.std.proofs.Common.{◌≡◌, ℕ, ℤ, Bool, true, false, not, ◌&&◌, ◌||◌, ◌==◌, if◌then◌else◌, Option, Some, None, unwrap_or, refl, ◌∙◌, ap, sym, subst, eq-eqb, eqb-true}
use Rattle.dl_term.specs.declared.syntax.Lab.{Lab}
use Rattle.dl_term.specs.declared.syntax.Part.{Part}
use Rattle.dl_term.specs.declared.syntax.Part.TheVariants.{Id, From, To, Live, Arg}
use Rattle.dl_term.specs.declared.syntax.Term.{Term, Num, Word, Var, Field, Row, Field', Row', Len, Msg, Add', Sub', Mul', If, If', more_of-Term as one, end_of-Term as end}
use Rattle.dl_term.specs.declared.syntax.Formula.{Formula, True, False, Eq, Lt, Le, Not', And', Or', Implies', All', Exists', Each', Any', more_of-Formula as one_formula, end_of-Formula as end_formula}
use Rattle.dl_term.specs.Syntax.{opened}
use Rattle.dl_term.specs.Same.{same_term, same_label}
use Rattle.dl_model.specs.declared.protocol.Update.{Update}
use Rattle.dl_subst.specs.declared.message.NewMessage.{NewMessage}
use Rattle.dl_subst.specs.Change.{inside, changed_term, changed, mentions, at_place, captures_inside, term_captures as places_capture, and_name, captures_under}
use Rattle.dl_subst.specs.Substitution.{new_part, for_message, message_substituted}
use Rattle.dl_subst.proofs.Changed.{or-false-left, or-false-right}
use Rattle.dl_wp.specs.Choices.{constant, differ, pick}
use Rattle.dl_wp.specs.Steps.{Move, Sends, Receives, Step, seen, seen_index}
use Rattle.dl_wp.specs.Before.{update_at, field_before, row_before, read_before, row_read_before, len_before, live_before, part_before, term_before, is_over, bound_over, each_before, any_before, before}
use Rattle.dl_wp.specs.Captures.{Around, under_variable, under_message, is_bound, field_captures, row_captures, part_captures, term_captures, captures}

pub neither : (a b : Bool) → a ≡ false → b ≡ false → (a || b) ≡ false
neither true b p q = p
neither false b p q = q

-- fewer names are bound
pub less-names : (v m v' m' : ℕ → Bool) → ((x : ℕ) → v x ≡ false → v' x ≡ false) → ((x : ℕ) → m x ≡ false → m' x ≡ false) → (t : Term) → mentions v m t ≡ false → mentions v' m' t ≡ false
less-names v m v' m' p q (Num n) h = refl
less-names v m v' m' p q (Word x n) h = refl
less-names v m v' m' p q (Var x) h = p x h
less-names v m v' m' p q (Field' label field _ (one node end)) h = less-names v m v' m' p q node h
less-names v m v' m' p q (Row' label field _ (one node end) _ (one index end)) h =
    neither _ _ (less-names v m v' m' p q node (or-false-left _ _ h)) (less-names v m v' m' p q index (or-false-right _ _ h))
less-names v m v' m' p q (Len label) h = refl
less-names v m v' m' p q (Msg n part) h = q n h
less-names v m v' m' p q (Add' _ (one a end) _ (one b end)) h = neither _ _ (less-names v m v' m' p q a (or-false-left _ _ h)) (less-names v m v' m' p q b (or-false-right _ _ h))
less-names v m v' m' p q (Sub' _ (one a end) _ (one b end)) h = neither _ _ (less-names v m v' m' p q a (or-false-left _ _ h)) (less-names v m v' m' p q b (or-false-right _ _ h))
less-names v m v' m' p q (Mul' _ (one a end) _ (one b end)) h = neither _ _ (less-names v m v' m' p q a (or-false-left _ _ h)) (less-names v m v' m' p q b (or-false-right _ _ h))
less-names v m v' m' p q (If' _ (one a end) _ (one b end) _ (one x end) _ (one y end)) h =
    let tested = or-false-left _ _ h in
    let chosen = or-false-right _ _ h in
    neither _ _
    (neither _ _ (less-names v m v' m' p q a (or-false-left _ _ tested)) (less-names v m v' m' p q b (or-false-right _ _ tested)))
    (neither _ _ (less-names v m v' m' p q x (or-false-left _ _ chosen)) (less-names v m v' m' p q y (or-false-right _ _ chosen)))

module _ (new : NewMessage) where
  -- what stands in a message's place
  placed : (test : Bool) (part : Part) (v m : ℕ → Bool) → (test ≡ true → mentions v m (new_part new part) ≡ false) → at_place v m (if test then Some (new_part new part) else None) false ≡ false
  placed true part v m h = h refl
  placed false part v m h = refl

  -- a term without the message has no place of its parts
  no-place : (k n : ℕ) (message : ℕ → Bool) → message k ≡ true → message n ≡ false → (n == k) ≡ true → ⊥
  no-place k n message there clear same = let one : message k ≡ false = ap message (sym (eqb-true n k same)) ∙ clear in cc

  without : (k : ℕ) (variable message v m : ℕ → Bool) → message k ≡ true → (t : Term) → mentions variable message t ≡ false → places_capture (for_message k new) v m t ≡ false
  without k variable message v m there (Num n) h = refl
  without k variable message v m there (Word x n) h = refl
  without k variable message v m there (Var x) h = refl
  without k variable message v m there (Field' label field _ (one node end)) h = without k variable message v m there node h
  without k variable message v m there (Row' label field _ (one node end) _ (one index end)) h =
      neither _ _ (without k variable message v m there node (or-false-left _ _ h)) (without k variable message v m there index (or-false-right _ _ h))
  without k variable message v m there (Len label) h = refl
  without k variable message v m there (Msg n part) h = placed (n == k) part v m (λ same. absurd (no-place k n message there h same))
  without k variable message v m there (Add' _ (one a end) _ (one b end)) h = neither _ _ (without k variable message v m there a (or-false-left _ _ h)) (without k variable message v m there b (or-false-right _ _ h))
  without k variable message v m there (Sub' _ (one a end) _ (one b end)) h = neither _ _ (without k variable message v m there a (or-false-left _ _ h)) (without k variable message v m there b (or-false-right _ _ h))
  without k variable message v m there (Mul' _ (one a end) _ (one b end)) h = neither _ _ (without k variable message v m there a (or-false-left _ _ h)) (without k variable message v m there b (or-false-right _ _ h))
  without k variable message v m there (If' _ (one a end) _ (one b end) _ (one x end) _ (one y end)) h =
      let tested = or-false-left _ _ h in
      let chosen = or-false-right _ _ h in
      neither _ _
      (neither _ _ (without k variable message v m there a (or-false-left _ _ tested)) (without k variable message v m there b (or-false-right _ _ tested)))
      (neither _ _ (without k variable message v m there x (or-false-left _ _ chosen)) (without k variable message v m there y (or-false-right _ _ chosen)))

  -- ---- the parts of one message, put for another one or the same

  module _ (k n : ℕ) where
    -- k's parts are asked for where k is not the message that they are put for
    abbrev Asked : Bool → Type 0
    Asked b = (n == k) ≡ false → b ≡ false

    asked-left : (a b : Bool) → Asked (a || b) → Asked a
    asked-left a b h e = or-false-left a b (h e)

    asked-right : (a b : Bool) → Asked (a || b) → Asked b
    asked-right a b h e = or-false-right a b (h e)

    other-name : (j : ℕ) → (j == n) ≡ false → (j == k) ≡ true → (n == k) ≡ false
    other-name j away same = go (n == k) refl
      where
        go : (b : Bool) → (n == k) ≡ b → (n == k) ≡ false
        go true e = let one : (j == n) ≡ true = eq-eqb j n (eqb-true j k same ∙ sym (eqb-true n k e)) in cc
        go false e = e

    put-one : (test : Bool) (j : ℕ) (part : Part) (v' m' v m : ℕ → Bool) → m' k ≡ true → (j == n) ≡ test
        → at_place v' m' (if test then Some (new_part new part) else None) false ≡ false
        → Asked (places_capture (for_message k new) v m (Msg j part))
        → places_capture (for_message k new) v m (unwrap_or (if test then Some (new_part new part) else None) (Msg j part)) ≡ false
    put-one true j part v' m' v m there e clear asked = without k v' m' v m there (new_part new part) clear
    put-one false j part v' m' v m there e clear asked = placed (j == k) part v m (λ same. at-message (j == k) refl same (asked (other-name j e same)))
      where
        at-message : (test : Bool) → (j == k) ≡ test → (j == k) ≡ true → at_place v m (if test then Some (new_part new part) else None) false ≡ false → mentions v m (new_part new part) ≡ false
        at-message true e same h = h
        at-message false e same h = cc

    put-term : (v' m' v m : ℕ → Bool) → m' k ≡ true → (t : Term) → places_capture (for_message n new) v' m' t ≡ false → Asked (places_capture (for_message k new) v m t)
        → places_capture (for_message k new) v m (changed_term (for_message n new) t) ≡ false
    unfolding opened
    put-term v' m' v m there (Num x) clear asked = refl
    put-term v' m' v m there (Word x y) clear asked = refl
    put-term v' m' v m there (Var x) clear asked = refl
    put-term v' m' v m there (Field' label field _ (one node end)) clear asked = put-term v' m' v m there node clear asked
    put-term v' m' v m there (Row' label field _ (one node end) _ (one index end)) clear asked =
        neither _ _ (put-term v' m' v m there node (or-false-left _ _ clear) (asked-left _ _ asked)) (put-term v' m' v m there index (or-false-right _ _ clear) (asked-right _ _ asked))
    put-term v' m' v m there (Len label) clear asked = refl
    put-term v' m' v m there (Msg j part) clear asked = put-one (j == n) j part v' m' v m there refl clear asked
    put-term v' m' v m there (Add' _ (one a end) _ (one b end)) clear asked =
        neither _ _ (put-term v' m' v m there a (or-false-left _ _ clear) (asked-left _ _ asked)) (put-term v' m' v m there b (or-false-right _ _ clear) (asked-right _ _ asked))
    put-term v' m' v m there (Sub' _ (one a end) _ (one b end)) clear asked =
        neither _ _ (put-term v' m' v m there a (or-false-left _ _ clear) (asked-left _ _ asked)) (put-term v' m' v m there b (or-false-right _ _ clear) (asked-right _ _ asked))
    put-term v' m' v m there (Mul' _ (one a end) _ (one b end)) clear asked =
        neither _ _ (put-term v' m' v m there a (or-false-left _ _ clear) (asked-left _ _ asked)) (put-term v' m' v m there b (or-false-right _ _ clear) (asked-right _ _ asked))
    put-term v' m' v m there (If' _ (one a end) _ (one b end) _ (one x end) _ (one y end)) clear asked =
        let tested = or-false-left _ _ clear in
        let chosen = or-false-right _ _ clear in
        let tests = asked-left _ _ asked in
        let choices = asked-right _ _ asked in
        neither _ _
        (neither _ _ (put-term v' m' v m there a (or-false-left _ _ tested) (asked-left _ _ tests)) (put-term v' m' v m there b (or-false-right _ _ tested) (asked-right _ _ tests)))
        (neither _ _ (put-term v' m' v m there x (or-false-left _ _ chosen) (asked-left _ _ choices)) (put-term v' m' v m there y (or-false-right _ _ chosen) (asked-right _ _ choices)))

    both-names : (j x : ℕ) (m : ℕ → Bool) → m x ≡ true → and_name j m x ≡ true
    both-names j x m h = go (x == j)
      where
        go : (b : Bool) → (b || m x) ≡ true
        go true = refl
        go false = h

    -- the body of a quantifier over messages, which stops the change of its own name
    put-body : (at_n at_k : Bool) (j : ℕ) (v m : ℕ → Bool) (f g : Formula) (clear asked : Bool) → (j == n) ≡ at_n → (j == k) ≡ at_k
        → (not at_n && clear) ≡ false → Asked (not at_k && asked) → captures_under (for_message k new) v (and_name j m) f ≡ asked
        → (clear ≡ false → Asked asked → captures_under (for_message k new) v (and_name j m) g ≡ false)
        → (not at_k && captures_under (for_message k new) v (and_name j m) (if at_n then f else g)) ≡ false
    put-body at_n true j v m f g clear asked p q h a e put = refl
    put-body true false j v m f g clear asked p q h a e put = e ∙ a (apart refl)
      where
        apart : true ≡ true → (n == k) ≡ false
        apart z = go (n == k) refl
          where
            go : (b : Bool) → (n == k) ≡ b → (n == k) ≡ false
            go true w = let one : (j == k) ≡ true = eq-eqb j k (eqb-true j n p ∙ eqb-true n k w) in cc
            go false w = w
    put-body false false j v m f g clear asked p q h a e put = put h a

    pub put-formula : (f : Formula) (v' m' v m : ℕ → Bool) → m' k ≡ true → captures_under (for_message n new) v' m' f ≡ false → Asked (captures_under (for_message k new) v m f)
        → captures_under (for_message k new) v m (changed (for_message n new) f) ≡ false
    unfolding opened
    put-formula True v' m' v m there clear asked = refl
    put-formula False v' m' v m there clear asked = refl
    put-formula (Eq a b) v' m' v m there clear asked =
        neither _ _ (put-term v' m' v m there a (or-false-left _ _ clear) (asked-left _ _ asked)) (put-term v' m' v m there b (or-false-right _ _ clear) (asked-right _ _ asked))
    put-formula (Lt a b) v' m' v m there clear asked =
        neither _ _ (put-term v' m' v m there a (or-false-left _ _ clear) (asked-left _ _ asked)) (put-term v' m' v m there b (or-false-right _ _ clear) (asked-right _ _ asked))
    put-formula (Le a b) v' m' v m there clear asked =
        neither _ _ (put-term v' m' v m there a (or-false-left _ _ clear) (asked-left _ _ asked)) (put-term v' m' v m there b (or-false-right _ _ clear) (asked-right _ _ asked))
    put-formula (Not' _ (one_formula f end_formula)) v' m' v m there clear asked = put-formula f v' m' v m there clear asked
    put-formula (And' _ (one_formula f end_formula) _ (one_formula g end_formula)) v' m' v m there clear asked =
        neither _ _ (put-formula f v' m' v m there (or-false-left _ _ clear) (asked-left _ _ asked)) (put-formula g v' m' v m there (or-false-right _ _ clear) (asked-right _ _ asked))
    put-formula (Or' _ (one_formula f end_formula) _ (one_formula g end_formula)) v' m' v m there clear asked =
        neither _ _ (put-formula f v' m' v m there (or-false-left _ _ clear) (asked-left _ _ asked)) (put-formula g v' m' v m there (or-false-right _ _ clear) (asked-right _ _ asked))
    put-formula (Implies' _ (one_formula f end_formula) _ (one_formula g end_formula)) v' m' v m there clear asked =
        neither _ _ (put-formula f v' m' v m there (or-false-left _ _ clear) (asked-left _ _ asked)) (put-formula g v' m' v m there (or-false-right _ _ clear) (asked-right _ _ asked))
    put-formula (All' x _ (one_formula f end_formula)) v' m' v m there clear asked = put-formula f (and_name x v') m' (and_name x v) m there clear asked
    put-formula (Exists' x _ (one_formula f end_formula)) v' m' v m there clear asked = put-formula f (and_name x v') m' (and_name x v) m there clear asked
    put-formula (Each' j label tag _ (one_formula f end_formula)) v' m' v m there clear asked =
        put-body (j == n) (j == k) j v m f (changed (for_message n new) f) _ _ refl refl clear asked refl
        (λ quiet asks. put-formula f v' (and_name j m') v (and_name j m) (both-names j k m' there) quiet asks)
    put-formula (Any' j label tag _ (one_formula f end_formula)) v' m' v m there clear asked =
        put-body (j == n) (j == k) j v m f (changed (for_message n new) f) _ _ refl refl clear asked refl
        (λ quiet asks. put-formula f v' (and_name j m') v (and_name j m) (both-names j k m' there) quiet asks)

-- ---- the formula before a send

module _ (step : Step) (new : NewMessage) (sends : step.move ≡ Sends new) where
  abbrev cap : ℕ → (ℕ → Bool) → (ℕ → Bool) → Term → Bool
  cap k v m t = places_capture (for_message k new) v m t

  pick-cases : (k : ℕ) (v m : ℕ → Bool) (same apart : Bool) (a b x y : Term) → cap k v m a ≡ false → cap k v m b ≡ false → cap k v m x ≡ false → cap k v m y ≡ false
      → cap k v m (if same then x else if apart then y else If a b x y) ≡ false
  unfolding opened
  pick-cases k v m true apart a b x y p q r s = r
  pick-cases k v m false true a b x y p q r s = s
  pick-cases k v m false false a b x y p q r s = neither _ _ (neither _ _ p q) (neither _ _ r s)

  pick-quiet : (k : ℕ) (v m : ℕ → Bool) (a b x y : Term) → cap k v m a ≡ false → cap k v m b ≡ false → cap k v m x ≡ false → cap k v m y ≡ false → cap k v m (pick a b x y) ≡ false
  pick-quiet k v m a b x y p q r s = pick-cases k v m (same_term a b) (differ (constant a) (constant b)) a b x y p q r s

  -- k is bound over the tag that is sent, and these names are bound around and within that quantifier
  pub record Within (around : Around) (k : ℕ) (v m : ℕ → Bool) : Type 0 where
    pub over : around.over k ≡ true
    pub here : around.message k ≡ true
    pub variables : (x : ℕ) → around.variable x ≡ false → v x ≡ false
    pub messages : (x : ℕ) → around.beside k x ≡ false → m x ≡ false

  field-quiet : (u : Option Update) (around : Around) (k : ℕ) (v m : ℕ → Bool) (node old : Term) → around.message k ≡ true → field_captures step around u ≡ false
      → cap k v m node ≡ false → cap k v m old ≡ false → cap k v m (field_before step u node old) ≡ false
  field-quiet None around k v m node old here h p q = q
  field-quiet (Some u) around k v m node old here h p q =
      pick-quiet k v m node step.node (seen step u.value) old p
      (without new k around.variable around.message v m here step.node (or-false-left _ _ h))
      (without new k around.variable around.message v m here (seen step u.value) (or-false-right _ _ h)) q

  row-quiet : (u : Option Update) (around : Around) (k : ℕ) (v m : ℕ → Bool) (node index old : Term) → around.message k ≡ true → row_captures step around u ≡ false
      → cap k v m node ≡ false → cap k v m index ≡ false → cap k v m old ≡ false → cap k v m (row_before step u node index old) ≡ false
  row-quiet None around k v m node index old here h p r q = q
  row-quiet (Some u) around k v m node index old here h p r q =
      let inner = or-false-right _ _ h in
      pick-quiet k v m node step.node (pick index (seen_index step u.index) (seen step u.value) old) old p
      (without new k around.variable around.message v m here step.node (or-false-left _ _ h))
      (pick-quiet k v m index (seen_index step u.index) (seen step u.value) old r
      (without new k around.variable around.message v m here (seen_index step u.index) (or-false-left _ _ inner))
      (without new k around.variable around.message v m here (seen step u.value) (or-false-right _ _ inner)) q) q

  len-quiet : (move : Move) (here : Bool) (label : Lab) (k : ℕ) (v m : ℕ → Bool) → cap k v m (len_before move here label) ≡ false
  unfolding opened
  len-quiet (Sends w) true label k v m = refl
  len-quiet (Sends w) false label k v m = refl
  len-quiet (Receives w) here label k v m = refl

  -- a send leaves the parts of messages as they are
  part-stays : (over : Bool) (n : ℕ) (part : Part) → part_before (Sends new) over n part ≡ Msg n part
  part-stays over n Live = refl
  part-stays over n Id = refl
  part-stays over n From = refl
  part-stays over n To = refl
  part-stays over n (Arg j) = refl

  part-quiet : (around : Around) (n : ℕ) (part : Part) (k : ℕ) (v m : ℕ → Bool) → Within around k v m → part_captures (Sends new) around n part ≡ false → cap k v m (Msg n part) ≡ false
  part-quiet around n part k v m w h =
      placed new (n == k) part v m (λ same.
      less-names around.variable (around.beside k) v m w.variables w.messages (new_part new part)
      (mentioned (around.over k) w.over (subst (λ j. (around.over j && mentions around.variable (around.beside j) (new_part new part)) ≡ false) (eqb-true n k same) h)))
    where
      mentioned : (over : Bool) → over ≡ true → (over && mentions around.variable (around.beside k) (new_part new part)) ≡ false → mentions around.variable (around.beside k) (new_part new part) ≡ false
      mentioned true e h = h
      mentioned false e h = cc

  term-quiet : (around : Around) (k : ℕ) (v m : ℕ → Bool) → Within around k v m → (t : Term) → term_captures step around t ≡ false → cap k v m (term_before step around.over t) ≡ false
  unfolding opened
  term-quiet around k v m w (Num n) h = refl
  term-quiet around k v m w (Word x n) h = refl
  term-quiet around k v m w (Var x) h = refl
  term-quiet around k v m w (Field' label field _ (one node end)) h =
      let p = term-quiet around k v m w node (or-false-right _ _ h) in
      field-quiet (update_at step label field) around k v m (term_before step around.over node) (Field label field (term_before step around.over node)) w.here (or-false-left _ _ h) p p
  term-quiet around k v m w (Row' label field _ (one node end) _ (one index end)) h =
      let both = or-false-right _ _ h in
      let p = term-quiet around k v m w node (or-false-left _ _ both) in
      let r = term-quiet around k v m w index (or-false-right _ _ both) in
      row-quiet (update_at step label field) around k v m (term_before step around.over node) (term_before step around.over index)
      (Row label field (term_before step around.over node) (term_before step around.over index)) w.here (or-false-left _ _ h) p r (neither _ _ p r)
  term-quiet around k v m w (Len label) h = len-quiet step.move (same_label label step.label) label k v m
  term-quiet around k v m w (Msg n part) h =
      ap (λ move. cap k v m (part_before move (around.over n) n part)) sends
      ∙ ap (cap k v m) (part-stays (around.over n) n part)
      ∙ part-quiet around n part k v m w (ap (λ move. part_captures move around n part) (sym sends) ∙ h)
  term-quiet around k v m w (Add' _ (one a end) _ (one b end)) h = neither _ _ (term-quiet around k v m w a (or-false-left _ _ h)) (term-quiet around k v m w b (or-false-right _ _ h))
  term-quiet around k v m w (Sub' _ (one a end) _ (one b end)) h = neither _ _ (term-quiet around k v m w a (or-false-left _ _ h)) (term-quiet around k v m w b (or-false-right _ _ h))
  term-quiet around k v m w (Mul' _ (one a end) _ (one b end)) h = neither _ _ (term-quiet around k v m w a (or-false-left _ _ h)) (term-quiet around k v m w b (or-false-right _ _ h))
  term-quiet around k v m w (If' _ (one a end) _ (one b end) _ (one x end) _ (one y end)) h =
      let tested = or-false-left _ _ h in
      let chosen = or-false-right _ _ h in
      neither _ _
      (neither _ _ (term-quiet around k v m w a (or-false-left _ _ tested)) (term-quiet around k v m w b (or-false-right _ _ tested)))
      (neither _ _ (term-quiet around k v m w x (or-false-left _ _ chosen)) (term-quiet around k v m w y (or-false-right _ _ chosen)))

  -- ---- below quantifiers

  with-name : (test : Bool) (a b : Bool) → (a ≡ false → b ≡ false) → (test || a) ≡ false → (test || b) ≡ false
  with-name true a b h e = e
  with-name false a b h e = h e

  within-variable : (around : Around) (k : ℕ) (v m : ℕ → Bool) (x : ℕ) → Within around k v m → Within (under_variable around x) k (and_name x v) m
  within-variable around k v m x w = record {
    over = w.over;
    here = w.here;
    variables = λ y. with-name (y == x) (around.variable y) (v y) (w.variables y);
    messages = w.messages;
  }

  either-bound : (test b : Bool) → b ≡ true → (test || b) ≡ true
  either-bound true b h = refl
  either-bound false b h = h

  -- under a quantifier that binds another name
  within-other : (around : Around) (k n : ℕ) (is : Bool) (v m m' : ℕ → Bool) → (k == n) ≡ false → ((x : ℕ) → (and_name n (around.beside k) x) ≡ false → m' x ≡ false) → Within around k v m → Within (under_message around n is) k v m'
  within-other around k n is v m m' away names w = record {
    over = ap (λ test. if test then is else around.over k) away ∙ w.over;
    here = either-bound (k == n) (around.message k) w.here;
    variables = w.variables;
    messages = λ x h. names x (ap (λ test. (if test then around.message else and_name n (around.beside k)) x) (sym away) ∙ h);
  }

  -- under a quantifier over the tag that is sent
  pub within-own : (around : Around) (n : ℕ) → Within (under_message around n true) n around.variable around.message
  within-own around n = record {
    over = ap (λ test. if test then true else around.over n) itself;
    here = ap (λ test. test || around.message n) itself;
    variables = λ x h. h;
    messages = λ x h. ap (λ test. (if test then around.message else and_name n (around.beside n)) x) (sym itself) ∙ h;
  }
    where
      itself : (n == n) ≡ true
      itself = eq-eqb n n refl

  eqb-turned : (n k : ℕ) (b : Bool) → (n == k) ≡ b → (k == n) ≡ b
  eqb-turned n k true e = eq-eqb k n (sym (eqb-true n k e))
  eqb-turned n k false e = go (k == n) refl
    where
      go : (b : Bool) → (k == n) ≡ b → (k == n) ≡ false
      go true w = let one : (n == k) ≡ true = eq-eqb n k (sym (eqb-true k n w)) in cc
      go false w = w

  last-only : (test a b : Bool) → (test || a) ≡ false → (a ≡ false → b ≡ false) → b ≡ false
  last-only true a b h k = cc
  last-only false a b h k = k h

  -- A quantifier over messages, for which the body has been told of under it: of k's parts with its name (`inner`) and without
  -- it (`outer`), where k is another name, and of the parts of its own message (`own`), where it is over the tag that is sent.
  each-quiet : (move : Move) (over at_k : Bool) (around : Around) (k n : ℕ) (label : Lab) (tag : ℕ) (v m : ℕ → Bool) (f : Formula) → move ≡ Sends new → around.message k ≡ true → (n == k) ≡ at_k
      → (at_k ≡ false → captures_under (for_message k new) v (and_name n m) f ≡ false)
      → (at_k ≡ false → captures_under (for_message k new) v m f ≡ false)
      → (over ≡ true → captures_under (for_message n new) around.variable around.message f ≡ false)
      → captures_under (for_message k new) v m (each_before move over n label tag f) ≡ false
  unfolding opened
  each-quiet (Receives j) over at_k around k n label tag v m f e here p inner outer own = cc
  each-quiet (Sends w) false true around k n label tag v m f e here p inner outer own = ap (λ b. not b && captures_under (for_message k new) v (and_name n m) f) p
  each-quiet (Sends w) false false around k n label tag v m f e here p inner outer own = ap (λ b. not b && captures_under (for_message k new) v (and_name n m) f) p ∙ inner refl
  each-quiet (Sends w) true at_k around k n label tag v m f e here p inner outer own =
      neither _ _
      (kept at_k p inner)
      (subst (λ (u : NewMessage). captures_under (for_message k new) v m (changed (for_message n u) f) ≡ false) (sent e)
      (put-formula new k n f around.variable around.message v m here (own refl) (λ away. outer (sym p ∙ away))))
    where
      kept : (b : Bool) → (n == k) ≡ b → (b ≡ false → captures_under (for_message k new) v (and_name n m) f ≡ false) → (not (n == k) && captures_under (for_message k new) v (and_name n m) f) ≡ false
      kept true p inner = ap (λ b. not b && captures_under (for_message k new) v (and_name n m) f) p
      kept false p inner = ap (λ b. not b && captures_under (for_message k new) v (and_name n m) f) p ∙ inner refl

      sent : Sends w ≡ Sends new → new ≡ w
      sent e = cc

  any-quiet : (move : Move) (over at_k : Bool) (around : Around) (k n : ℕ) (label : Lab) (tag : ℕ) (v m : ℕ → Bool) (f : Formula) → move ≡ Sends new → around.message k ≡ true → (n == k) ≡ at_k
      → (at_k ≡ false → captures_under (for_message k new) v (and_name n m) f ≡ false)
      → (at_k ≡ false → captures_under (for_message k new) v m f ≡ false)
      → (over ≡ true → captures_under (for_message n new) around.variable around.message f ≡ false)
      → captures_under (for_message k new) v m (any_before move over n label tag f) ≡ false
  unfolding opened
  any-quiet (Receives j) over at_k around k n label tag v m f e here p inner outer own = cc
  any-quiet (Sends w) false true around k n label tag v m f e here p inner outer own = ap (λ b. not b && captures_under (for_message k new) v (and_name n m) f) p
  any-quiet (Sends w) false false around k n label tag v m f e here p inner outer own = ap (λ b. not b && captures_under (for_message k new) v (and_name n m) f) p ∙ inner refl
  any-quiet (Sends w) true at_k around k n label tag v m f e here p inner outer own =
      neither _ _
      (kept at_k p inner)
      (subst (λ (u : NewMessage). captures_under (for_message k new) v m (changed (for_message n u) f) ≡ false) (sent e)
      (put-formula new k n f around.variable around.message v m here (own refl) (λ away. outer (sym p ∙ away))))
    where
      kept : (b : Bool) → (n == k) ≡ b → (b ≡ false → captures_under (for_message k new) v (and_name n m) f ≡ false) → (not (n == k) && captures_under (for_message k new) v (and_name n m) f) ≡ false
      kept true p inner = ap (λ b. not b && captures_under (for_message k new) v (and_name n m) f) p
      kept false p inner = ap (λ b. not b && captures_under (for_message k new) v (and_name n m) f) p ∙ inner refl

      sent : Sends w ≡ Sends new → new ≡ w
      sent e = cc

  own-over : (is : Bool) (around : Around) (n : ℕ) → is ≡ true → Within (under_message around n is) n around.variable around.message
  own-over true around n e = within-own around n
  own-over false around n e = cc

  pub formula-quiet : (f : Formula) (around : Around) (k : ℕ) (v m : ℕ → Bool) → Within around k v m → captures step around f ≡ false → captures_under (for_message k new) v m (before step around.over f) ≡ false
  unfolding opened
  formula-quiet True around k v m w h = refl
  formula-quiet False around k v m w h = refl
  formula-quiet (Eq a b) around k v m w h = neither _ _ (term-quiet around k v m w a (or-false-left _ _ h)) (term-quiet around k v m w b (or-false-right _ _ h))
  formula-quiet (Lt a b) around k v m w h = neither _ _ (term-quiet around k v m w a (or-false-left _ _ h)) (term-quiet around k v m w b (or-false-right _ _ h))
  formula-quiet (Le a b) around k v m w h = neither _ _ (term-quiet around k v m w a (or-false-left _ _ h)) (term-quiet around k v m w b (or-false-right _ _ h))
  formula-quiet (Not' _ (one_formula f end_formula)) around k v m w h = formula-quiet f around k v m w h
  formula-quiet (And' _ (one_formula f end_formula) _ (one_formula g end_formula)) around k v m w h = neither _ _ (formula-quiet f around k v m w (or-false-left _ _ h)) (formula-quiet g around k v m w (or-false-right _ _ h))
  formula-quiet (Or' _ (one_formula f end_formula) _ (one_formula g end_formula)) around k v m w h = neither _ _ (formula-quiet f around k v m w (or-false-left _ _ h)) (formula-quiet g around k v m w (or-false-right _ _ h))
  formula-quiet (Implies' _ (one_formula f end_formula) _ (one_formula g end_formula)) around k v m w h = neither _ _ (formula-quiet f around k v m w (or-false-left _ _ h)) (formula-quiet g around k v m w (or-false-right _ _ h))
  formula-quiet (All' x _ (one_formula f end_formula)) around k v m w h = formula-quiet f (under_variable around x) k (and_name x v) m (within-variable around k v m x w) h
  formula-quiet (Exists' x _ (one_formula f end_formula)) around k v m w h = formula-quiet f (under_variable around x) k (and_name x v) m (within-variable around k v m x w) h
  formula-quiet (Each' n label tag _ (one_formula f end_formula)) around k v m w h =
      let under = under_message around n (is_over step label tag) in
      each-quiet step.move (is_over step label tag) (n == k) around k n label tag v m (before step under.over f) sends w.here refl
      (λ away. formula-quiet f under k v (and_name n m) (within-other around k n (is_over step label tag) v m (and_name n m) (eqb-turned n k false away) (λ x. with-name (x == n) (around.beside k x) (m x) (w.messages x)) w) h)
      (λ away. formula-quiet f under k v m (within-other around k n (is_over step label tag) v m m (eqb-turned n k false away) (λ x e. last-only (x == n) (around.beside k x) (m x) e (w.messages x)) w) h)
      (λ over. formula-quiet f under n around.variable around.message (own-over (is_over step label tag) around n over) h)
  formula-quiet (Any' n label tag _ (one_formula f end_formula)) around k v m w h =
      let under = under_message around n (is_over step label tag) in
      any-quiet step.move (is_over step label tag) (n == k) around k n label tag v m (before step under.over f) sends w.here refl
      (λ away. formula-quiet f under k v (and_name n m) (within-other around k n (is_over step label tag) v m (and_name n m) (eqb-turned n k false away) (λ x. with-name (x == n) (around.beside k x) (m x) (w.messages x)) w) h)
      (λ away. formula-quiet f under k v m (within-other around k n (is_over step label tag) v m m (eqb-turned n k false away) (λ x e. last-only (x == n) (around.beside k x) (m x) e (w.messages x)) w) h)
      (λ over. formula-quiet f under n around.variable around.message (own-over (is_over step label tag) around n over) h)
