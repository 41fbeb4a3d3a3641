-- Lines: what is written is read again, and only that.
use Rattle.std.proofs.Common.{◌≡◌, ℕ, suc, ◌+◌, ◌≤◌, ◌<◌, ◌^◌, ℤ, Bool, true, false, ◌&&◌, ◌==◌, ◌++◌, List, [], ◌∷◌, Option, Some, None, bytes_eq, codes, refl, sym, ap, ◌∙◌, subst, arith, decimal, append-nil, ◌⊎◌, inl, inr}
use Rattle.std.specs.Prelude.{if◌then◌else◌}
use Rattle.std.proofs.lemmas.Bool.Decides.{nat_tests}
use Rattle.std.proofs.lemmas.Option.{some_pair_parts, same_Some}
use Rattle.std.specs.Fmt.{signed_decimal}
use Rattle.std.specs.List.{list_all, AllByRecursion as Each}
use Rattle.std.specs.Option.{option_map}
use Rattle.dl_model.specs.declared.history.Call.{Call}
use Rattle.dl_model.specs.declared.history.Reply.{Reply}
use Rattle.dl_model.specs.declared.history.Entry.{Entry}
use Rattle.dl_model.specs.declared.history.Order.{Order}
use Rattle.dl_model.specs.declared.history.Order.TheVariants.{Oldest, Newest, Seed}
use Rattle.dl_model.specs.declared.history.End.{End}
use Rattle.dl_model.specs.declared.history.End.TheVariants.{Ended, Stopped, Spent, Waiting}
use Rattle.dl_model.specs.declared.file.Decls.{Decls}
use Rattle.dl_model.specs.Sorts.{is_i64}
use Rattle.dl_report.specs.Layout.{Text, Ending, node_word, call_words, reply_words, entry_words, end_words, ending_words, order_word, head_words}
use Rattle.dl_report.specs.Fitting.{CallFits, ReplyFits, EntryFits, EndFits, EndingFits, OrderFits}
use Rattle.dl_report.specs.Ready.{IsReady}
use Rattle.dl_report.specs.Reading.{cut, behind, with_rest, word_from, is_next, rest_of, at_end, natural_in, small_in, integer_in, node_in, call_from, reply_from, entry_behind, entry_by, entry_in, state_from, ending_behind, ending_by, ending_in, seed_of, order_in, head_behind, head_by, head_in}
use Rattle.dl_report.proofs.Pieces.{decide, is_above, and_both, IsPlain, plain-append, cut_is}
use Rattle.dl_report.proofs.Numbers.{natural_read, natural_written, small_read, small_written, integer_read, integer_written, decimal_plain, signed_plain}
use Rattle.dl_report.proofs.NameWords.{text_is, node_read, node_written, node_plain}
use Rattle.dl_report.proofs.Chain.{behind_found, word_found, if_found, next_found, end_found, mapped_found, choice}
use Rattle.dl_report.proofs.Calls.{call_read, call_written, call_plain, reply_read, reply_written, reply_plain}

each-append : (xs ys : List Text) → Each IsPlain xs → Each IsPlain ys → Each IsPlain (xs ++ ys)
each-append [] ys ps qs = qs
each-append (x ∷ xs) ys ps qs = (ps.0, each-append xs ys ps.1 qs)

-- one word, read
step : {X Y : Type 0} (read : Text → Option X) (word : Text) (rest : List Text) (next : X → List Text → Option Y) (x : X) → read word ≡ Some x →
    behind (with_rest (read word) rest) next ≡ next x rest
step read word rest next x e = ap (λ found. behind (with_rest found rest) next) e

abbrev first_word : List Text → Text
first_word [] = []
first_word (word ∷ words) = word

module _ (names : List Text) (decls : Decls) (ready : IsReady names decls) where
  -- ---- entries

  behind_read : (entry : Entry) (next : List Text) → ReplyFits decls entry.call entry.reply → next ≡ codes "->" ∷ reply_words names entry.reply →
      entry_behind names decls entry.node entry.ticks entry.call next ≡ Some entry
  behind_read entry next fits is =
      ap (entry_behind names decls entry.node entry.ticks entry.call) is
      ∙ (ap (λ ws. behind (reply_from names decls entry.call ws) (λ reply last. at_end (record { node = entry.node; ticks = entry.ticks; call = entry.call; reply = reply }) last)) (sym (append-nil (reply_words names entry.reply)))
      ∙ ap (λ found. behind found (λ (reply : Reply) (last : List Text). at_end (record { node = entry.node; ticks = entry.ticks; call = entry.call; reply = reply }) last))
      (reply_read names decls ready entry.call entry.reply [] fits))

  pub entry_read : (number : ℕ) (entry : Entry) → number < 2 ^ 64 → EntryFits decls entry → entry_in names decls number (entry_words names decls number entry) ≡ Some entry
  entry_read number entry lt fits =
      let tail = codes "->" ∷ reply_words names entry.reply in
      let calls = call_words names decls entry.call ++ tail in
      let same : (number == number) ≡ true = grind (arith, nat_tests) in
      step natural_in (decimal number) (node_word names entry.node ∷ decimal entry.ticks ∷ calls) (λ n rest. if n == number then entry_by names decls rest else None) number (natural_read number lt)
      ∙ (ap (λ b. if b then entry_by names decls (node_word names entry.node ∷ decimal entry.ticks ∷ calls) else None) same
      ∙ (step (node_in names decls) (node_word names entry.node) (decimal entry.ticks ∷ calls)
      (λ node rest. behind (word_from small_in rest) (λ ticks more. behind (call_from names decls more) (λ made last. entry_behind names decls node ticks made last)))
      entry.node (node_read names decls ready.known entry.node fits.node)
      ∙ (step small_in (decimal entry.ticks) calls (λ ticks more. behind (call_from names decls more) (λ made last. entry_behind names decls entry.node ticks made last)) entry.ticks (small_read entry.ticks fits.ticks)
      ∙ (ap (λ found. behind found (λ (made : Call) (last : List Text). entry_behind names decls entry.node entry.ticks made last)) (call_read names decls ready entry.call tail fits.call_fits)
      ∙ behind_read entry tail fits.reply_fits refl))))

  pub entry_plain : (number : ℕ) (entry : Entry) → number < 2 ^ 64 → EntryFits decls entry → Each IsPlain (entry_words names decls number entry)
  entry_plain number entry lt fits = (
    decimal_plain number lt,
    (
      node_plain names decls ready.known entry.node fits.node,
      (
        decimal_plain entry.ticks (omega (arith, fits.ticks)),
        each-append (call_words names decls entry.call) (codes "->" ∷ reply_words names entry.reply) (call_plain names decls ready entry.call fits.call_fits)
            (refl, reply_plain names decls ready entry.call entry.reply fits.reply_fits),
      ),
    ),
  )

  pub entry_written : (number : ℕ) (words : List Text) (entry : Entry) → entry_in names decls number words ≡ Some entry → (words ≡ entry_words names decls number entry) × EntryFits decls entry
  entry_written number words entry e =
      let first = behind_found (word_from natural_in words) (λ n rest. if n == number then entry_by names decls rest else None) entry e in
      let num = word_found natural_in words first.0 first.1 first.2 in
      let right = if_found (first.0 == number) (entry_by names decls first.1) entry first.3 in
      let is : first.0 ≡ number = grind (arith, nat_tests, right.0) in
      let node = behind_found (word_from (node_in names decls) first.1)
      (λ node rest. behind (word_from small_in rest) (λ ticks more. behind (call_from names decls more) (λ made last. entry_behind names decls node ticks made last))) entry right.1 in
      let node_is = word_found (node_in names decls) first.1 node.0 node.1 node.2 in
      let ticks = behind_found (word_from small_in node.1) (λ ticks more. behind (call_from names decls more) (λ made last. entry_behind names decls node.0 ticks made last)) entry node.3 in
      let ticks_are = word_found small_in node.1 ticks.0 ticks.1 ticks.2 in
      let made = behind_found (call_from names decls ticks.1) (λ made last. entry_behind names decls node.0 ticks.0 made last) entry ticks.3 in
      let arrow = if_found (is_next (codes "->") made.1)
      (behind (reply_from names decls made.0 (rest_of made.1)) (λ reply last. at_end (record { node = node.0; ticks = ticks.0; call = made.0; reply = reply }) last)) entry made.3 in
      let reply = behind_found (reply_from names decls made.0 (rest_of made.1)) (λ reply last. at_end (record { node = node.0; ticks = ticks.0; call = made.0; reply = reply }) last) entry arrow.1 in
      let done = end_found (record { node = node.0; ticks = ticks.0; call = made.0; reply = reply.0 }) entry reply.1 reply.3 in
      let number_text = natural_written num.0 first.0 num.2 in
      let node_text = node_written names decls node_is.0 node.0 node_is.2 in
      let ticks_text = small_written ticks_are.0 ticks.0 ticks_are.2 in
      let call_text = call_written names decls ready ticks.1 made.0 made.1 made.2 in
      let reply_text = reply_written names decls ready made.0 (rest_of made.1) reply.0 reply.1 reply.2 in
      let last : rest_of made.1 ≡ reply_words names reply.0 = reply_text.0 ∙ (ap (λ l. reply_words names reply.0 ++ l) done.0 ∙ append-nil (reply_words names reply.0)) in
      let tail : made.1 ≡ codes "->" ∷ reply_words names reply.0 = next_found (codes "->") made.1 arrow.0 ∙ ap (λ l. codes "->" ∷ l) last in
      subst (λ (en : Entry). (words ≡ entry_words names decls number en) × EntryFits decls en) done.1 (
        num.1 ∙ (ap (λ w. w ∷ first.1) (sym number_text.0 ∙ ap decimal is)
            ∙ ap (λ l. decimal number ∷ l) (node_is.1 ∙ (ap (λ w. w ∷ node.1) (sym node_text.0)
            ∙ ap (λ l. node_word names node.0 ∷ l) (ticks_are.1 ∙ (ap (λ w. w ∷ ticks.1) (sym ticks_text.0)
            ∙ ap (λ l. decimal ticks.0 ∷ l) (call_text.0 ∙ ap (λ l. call_words names decls made.0 ++ l) tail)))))),
        record { node = node_text.1; ticks = ticks_text.1; call_fits = call_text.1; reply_fits = reply_text.1 },
      )

  -- ---- ends

  state_read : (end : End) (rest : List Text) → EndFits end → state_from (end_words end ++ rest) ≡ Some (end, rest)
  state_read (Ended v) rest fits = step integer_in (signed_decimal v) rest (λ v last. Some (Ended v, last)) v (integer_read v fits)
  state_read Stopped rest fits = refl
  state_read Spent rest fits = refl
  state_read Waiting rest fits = refl

  pub ending_read : (ending : Ending) → EndingFits decls ending → ending_in names decls (ending_words names ending) ≡ Some ending
  ending_read ending fits =
      let tail = codes "units" ∷ decimal ending.2 ∷ [] in
      step (node_in names decls) (node_word names ending.0) (end_words ending.1 ++ tail) (λ node rest. behind (state_from rest) (λ end last. ending_behind node end last)) ending.0 (node_read names decls ready.known ending.0 fits.node)
      ∙ (ap (λ found. behind found (λ (end : End) (last : List Text). ending_behind ending.0 end last)) (state_read ending.1 tail fits.end)
      ∙ step small_in (decimal ending.2) [] (λ units last. at_end (ending.0, ending.1, units) last) ending.2 (small_read ending.2 fits.units))

  end_plain : (end : End) → EndFits end → Each IsPlain (end_words end)
  end_plain (Ended v) fits = (refl, (signed_plain v fits, tt))
  end_plain Stopped fits = (refl, tt)
  end_plain Spent fits = (refl, tt)
  end_plain Waiting fits = (refl, tt)

  pub ending_plain : (ending : Ending) → EndingFits decls ending → Each IsPlain (ending_words names ending)
  ending_plain ending fits = (
    refl,
    (
      node_plain names decls ready.known ending.0 fits.node,
      each-append (end_words ending.1) (codes "units" ∷ decimal ending.2 ∷ []) (end_plain ending.1 fits.end) (refl, (decimal_plain ending.2 (omega (arith, fits.units)), tt)),
    ),
  )

  abbrev IsState : List Text → End → List Text → Type 0
  IsState words end rest = (words ≡ end_words end ++ rest) × EndFits end

  -- one of the states without a number
  bare : (word : Text) (words : List Text) (state end : End) (rest : List Text) (text : Text) → end_words state ≡ text ∷ [] → EndFits state → bytes_eq word text ≡ true →
      ◌≡◌ {A = End × List Text} (state, words) (end, rest) → IsState (word ∷ words) end rest
  bare word words state end rest text one fits is same =
      subst (λ (s : End). IsState (word ∷ words) s rest) (ap (λ (p : End × List Text). p.0) same)
      (ap (λ w. w ∷ words) (text_is word text is) ∙ (ap (λ l. text ∷ l) (ap (λ (p : End × List Text). p.1) same) ∙ ap (λ l. l ++ rest) (sym one)), fits)

  abbrev after_spent : Text → List Text → Option (End × List Text)
  after_spent word words = if bytes_eq word (codes "waiting") then Some (Waiting, words) else None

  abbrev after_stopped : Text → List Text → Option (End × List Text)
  after_stopped word words = if bytes_eq word (codes "spent") then Some (Spent, words) else after_spent word words

  abbrev after_ended : Text → List Text → Option (End × List Text)
  after_ended word words = if bytes_eq word (codes "stopped") then Some (Stopped, words) else after_stopped word words

  bare_written : (word : Text) (words : List Text) (end : End) (rest : List Text) → after_ended word words ≡ Some (end, rest) → IsState (word ∷ words) end rest
  bare_written word words end rest e = elim (choice (bytes_eq word (codes "stopped")) (Stopped, words) (end, rest) (after_stopped word words) e) [
    | inl is ↦ bare word words Stopped end rest (codes "stopped") refl tt is.0 is.1
    | inr not_so ↦ elim (choice (bytes_eq word (codes "spent")) (Spent, words) (end, rest) (after_spent word words) not_so.1) [
      | inl is ↦ bare word words Spent end rest (codes "spent") refl tt is.0 is.1
      | inr not_so ↦
          (let last = if_found (bytes_eq word (codes "waiting")) (Some (Waiting, words)) (end, rest) not_so.1 in
          bare word words Waiting end rest (codes "waiting") refl tt last.0 (same_Some (Waiting, words) (end, rest) last.1))
    ]
  ]

  ended_or : (word : Text) (words : List Text) (end : End) (rest : List Text) (ended : Bool) → bytes_eq word (codes "ended") ≡ ended →
      (if ended then behind (word_from integer_in words) (λ v last. Some (Ended v, last)) else after_ended word words) ≡ Some (end, rest) → IsState (word ∷ words) end rest
  ended_or word words end rest false is e = bare_written word words end rest e
  ended_or word words end rest true is e =
      let v = behind_found (word_from integer_in words) (λ v last. Some (Ended v, last)) (end, rest) e in
      let number = word_found integer_in words v.0 v.1 v.2 in
      let whole = same_Some (Ended v.0, v.1) (end, rest) v.3 in
      let text = integer_written number.0 v.0 number.2 in
      subst (λ (s : End). IsState (word ∷ words) s rest) (ap (λ (p : End × List Text). p.0) whole) (
        ap (λ w. w ∷ words) (text_is word (codes "ended") is)
            ∙ ap (λ l. codes "ended" ∷ l) (number.1 ∙ (ap (λ w. w ∷ v.1) (sym text.0) ∙ ap (λ l. signed_decimal v.0 ∷ l) (ap (λ (p : End × List Text). p.1) whole))),
        text.1,
      )

  state_written : (words : List Text) (end : End) (rest : List Text) → state_from words ≡ Some (end, rest) → IsState words end rest
  state_written [] end rest e = cc
  state_written (word ∷ words) end rest e = ended_or word words end rest (bytes_eq word (codes "ended")) refl e

  pub ending_written : (words : List Text) (ending : Ending) → ending_in names decls words ≡ Some ending → (words ≡ ending_words names ending) × EndingFits decls ending
  ending_written words ending e =
      let first = if_found (is_next (codes "end") words) (ending_by names decls (rest_of words)) ending e in
      let node = behind_found (word_from (node_in names decls) (rest_of words)) (λ node rest. behind (state_from rest) (λ end last. ending_behind node end last)) ending first.1 in
      let node_is = word_found (node_in names decls) (rest_of words) node.0 node.1 node.2 in
      let state = behind_found (state_from node.1) (λ end last. ending_behind node.0 end last) ending node.3 in
      let label = if_found (is_next (codes "units") state.1) (behind (word_from small_in (rest_of state.1)) (λ units last. at_end (node.0, state.0, units) last)) ending state.3 in
      let units = behind_found (word_from small_in (rest_of state.1)) (λ units last. at_end (node.0, state.0, units) last) ending label.1 in
      let units_are = word_found small_in (rest_of state.1) units.0 units.1 units.2 in
      let done = end_found (node.0, state.0, units.0) ending units.1 units.3 in
      let node_text = node_written names decls node_is.0 node.0 node_is.2 in
      let state_text = state_written node.1 state.0 state.1 state.2 in
      let units_text = small_written units_are.0 units.0 units_are.2 in
      let last : rest_of state.1 ≡ decimal units.0 ∷ [] = units_are.1 ∙ (ap (λ w. w ∷ units.1) (sym units_text.0) ∙ ap (λ l. decimal units.0 ∷ l) done.0) in
      let tail : state.1 ≡ codes "units" ∷ decimal units.0 ∷ [] = next_found (codes "units") state.1 label.0 ∙ ap (λ l. codes "units" ∷ l) last in
      subst (λ (en : Ending). (words ≡ ending_words names en) × EndingFits decls en) done.1 (
        next_found (codes "end") words first.0
            ∙ ap (λ l. codes "end" ∷ l) (node_is.1 ∙ (ap (λ w. w ∷ node.1) (sym node_text.0) ∙ ap (λ l. node_word names node.0 ∷ l) (state_text.0 ∙ ap (λ l. end_words state.0 ++ l) tail))),
        record { node = node_text.1; end = state_text.1; units = units_text.1 },
      )

  -- an end is no entry
  pub apart : (number : ℕ) (entry : Entry) (ending : Ending) → number < 2 ^ 64 → entry_words names decls number entry ≡ ending_words names ending → ⊥
  apart number entry ending lt e =
      let same : decimal number ≡ codes "end" = ap first_word e in
      let read : natural_in (codes "end") ≡ Some number = subst (λ w. natural_in w ≡ Some number) same (natural_read number lt) in
      cc

-- ---- first lines

abbrev pub HeadFits : ℕ → Order → Type 0
HeadFits budget order = (budget < 2 ^ 32) × OrderFits order

order_read : (order : Order) → OrderFits order → order_in (order_word order) ≡ Some order
order_read Oldest fits = refl
order_read Newest fits = refl
order_read (Seed seed) fits = ap (option_map (λ (s : ℕ). Seed s)) (natural_read seed fits)

pub head_read : (budget : ℕ) (order : Order) → budget < 2 ^ 32 → OrderFits order → head_in (head_words budget order) ≡ Some (budget, order)
head_read budget order lt fits =
    step small_in (decimal budget) (codes "order" ∷ order_word order ∷ []) (λ budget last. head_behind budget last) budget (small_read budget lt)
    ∙ step order_in (order_word order) [] (λ order last. at_end (budget, order) last) order (order_read order fits)

order_plain : (order : Order) → OrderFits order → IsPlain (order_word order)
order_plain Oldest fits = refl
order_plain Newest fits = refl
order_plain (Seed seed) fits = plain-append (codes "seed:") (decimal seed) refl (decimal_plain seed fits)

pub head_plain : (budget : ℕ) (order : Order) → budget < 2 ^ 32 → OrderFits order → Each IsPlain (head_words budget order)
head_plain budget order lt fits = (refl, (refl, (decimal_plain budget (omega arith), (refl, (order_plain order fits, tt)))))

seed_written : (word : Text) (found : Option (Text × Text)) (order : Order) → cut 58 word ≡ found → seed_of found ≡ Some order → (order_word order ≡ word) × OrderFits order
seed_written word None order c e = cc
seed_written word (Some parts) order c e =
    let front = if_found (bytes_eq parts.0 (codes "seed")) (option_map (λ (s : ℕ). Seed s) (natural_in parts.1)) order e in
    let seed = mapped_found (λ (s : ℕ). Seed s) (natural_in parts.1) order front.1 in
    let text = natural_written parts.1 seed.0 seed.1 in
    let whole : word ≡ codes "seed:" ++ decimal seed.0 =
    cut_is 58 word parts.0 parts.1 c ∙ (ap (λ f. f ++ (58 ∷ parts.1)) (text_is parts.0 (codes "seed") front.0) ∙ ap (λ b. codes "seed:" ++ b) (sym text.0)) in
    subst (λ (o : Order). (order_word o ≡ word) × OrderFits o) seed.2 (sym whole, text.1)

abbrev after_newest : Text → Option Order
after_newest word = seed_of (cut 58 word)

abbrev after_oldest : Text → Option Order
after_oldest word = if bytes_eq word (codes "newest") then Some Newest else after_newest word

order_written : (word : Text) (order : Order) → order_in word ≡ Some order → (order_word order ≡ word) × OrderFits order
order_written word order e = elim (choice (bytes_eq word (codes "oldest")) Oldest order (after_oldest word) e) [
  | inl is ↦ subst (λ (o : Order). (order_word o ≡ word) × OrderFits o) is.1 (sym (text_is word (codes "oldest") is.0), tt)
  | inr not_so ↦ elim (choice (bytes_eq word (codes "newest")) Newest order (after_newest word) not_so.1) [
    | inl is ↦ subst (λ (o : Order). (order_word o ≡ word) × OrderFits o) is.1 (sym (text_is word (codes "newest") is.0), tt)
    | inr not_so ↦ seed_written word (cut 58 word) order refl not_so.1
  ]
]

pub head_written : (words : List Text) (budget : ℕ) (order : Order) → head_in words ≡ Some (budget, order) → (words ≡ head_words budget order) × HeadFits budget order
head_written words budget order e =
    let run = if_found (is_next (codes "run") words) (head_by (rest_of words)) (budget, order) e in
    let label = if_found (is_next (codes "budget") (rest_of words)) (behind (word_from small_in (rest_of (rest_of words))) (λ budget last. head_behind budget last)) (budget, order) run.1 in
    let units = behind_found (word_from small_in (rest_of (rest_of words))) (λ budget last. head_behind budget last) (budget, order) label.1 in
    let units_are = word_found small_in (rest_of (rest_of words)) units.0 units.1 units.2 in
    let next = if_found (is_next (codes "order") units.1) (behind (word_from order_in (rest_of units.1)) (λ order last. at_end (units.0, order) last)) (budget, order) units.3 in
    let way = behind_found (word_from order_in (rest_of units.1)) (λ order last. at_end (units.0, order) last) (budget, order) next.1 in
    let way_is = word_found order_in (rest_of units.1) way.0 way.1 way.2 in
    let done = end_found (units.0, way.0) (budget, order) way.1 way.3 in
    let units_text = small_written units_are.0 units.0 units_are.2 in
    let way_text = order_written way_is.0 way.0 way_is.2 in
    let last : rest_of units.1 ≡ order_word way.0 ∷ [] = way_is.1 ∙ (ap (λ w. w ∷ way.1) (sym way_text.0) ∙ ap (λ l. order_word way.0 ∷ l) done.0) in
    let tail : units.1 ≡ codes "order" ∷ order_word way.0 ∷ [] = next_found (codes "order") units.1 next.0 ∙ ap (λ l. codes "order" ∷ l) last in
    let whole : words ≡ head_words units.0 way.0 =
    next_found (codes "run") words run.0 ∙ ap (λ l. codes "run" ∷ l)
    (next_found (codes "budget") (rest_of words) label.0 ∙ ap (λ l. codes "budget" ∷ l) (units_are.1 ∙ (ap (λ w. w ∷ units.1) (sym units_text.0) ∙ ap (λ l. decimal units.0 ∷ l) tail))) in
    subst (λ (p : ℕ × Order). (words ≡ head_words p.0 p.1) × HeadFits p.0 p.1) done.1 (whole, (units_text.1, way_text.1))
