-- Steps of the reader's and the writer's loops.
use Rattle.std.proofs.Common.{◌≡◌, ℕ, zero, suc, ◌+◌, ◌-◌, ◌≤◌, ◌<◌, ℤ, pos, Bool, true, false, ◌++◌, List, [], ◌∷◌, map, length, take, drop, set, get_or, replicate, Option, Some, None, bytes_eq, refl, sym, ap, ◌∙◌, subst, arith, append-nil, append_assoc, length-append, length-take, take-append-drop}
use Rattle.std.proofs.lemmas.List.{drop_more, drop-set-lt, take_more_set}
use Rattle.std.proofs.lemmas.Option.{some_pair_parts}
use Rattle.std.specs.List.{concat, AllByRecursion as Each}
use Rattle.std.specs.Fmt.{signed_decimal}
use Rattle.dl_model.specs.declared.history.Args.{Args}
use Rattle.dl_model.specs.declared.history.Entry.{Entry}
use Rattle.dl_model.specs.declared.file.Decls.{Decls}
use Rattle.dl_model.specs.Machine.{packed}
use Rattle.dl_report.specs.Layout.{Text, Ending, node_word, line_of, entry_words, ending_words, entry_lines, end_lines}
use Rattle.dl_report.specs.Fitting.{EntryFits, EndingFits}
use Rattle.dl_report.specs.Spaced.{spaced}
use Rattle.dl_report.specs.Reading.{behind, word_from, with_rest, integer_in, integers_from, args_from, node_from}

-- ---- the search of a node

pub node_hit : (names : List Text) (word : Text) (nodes node : ℕ) → node < nodes → bytes_eq (node_word names node) word ≡ true → node_from names word node (nodes - node) ≡ Some node
node_hit names word nodes node lt is =
    let more : nodes - node ≡ suc (nodes - suc node) = omega arith in
    rw (more, is) refl

pub node_miss : (names : List Text) (word : Text) (nodes node : ℕ) → node < nodes → bytes_eq (node_word names node) word ≡ false →
    node_from names word node (nodes - node) ≡ node_from names word (node + 1) (nodes - (node + 1))
node_miss names word nodes node lt not_so =
    let more : nodes - node ≡ suc (nodes - (node + 1)) = omega arith in
    let next : suc node ≡ node + 1 = omega arith in
    rw (more, not_so) (ap (λ n. node_from names word n (nodes - (node + 1))) next)

pub node_none : (names : List Text) (word : Text) (nodes node : ℕ) → nodes ≤ node → node_from names word node (nodes - node) ≡ None
node_none names word nodes node past =
    let none : nodes - node ≡ 0 = omega arith in
    rw none refl

-- ---- lists of lines

pub entries_more : (names : List Text) (decls : Decls) (number : ℕ) (entries : List Entry) (entry : Entry) →
    concat (entry_lines names decls number (entries ++ entry ∷ [])) ≡ concat (entry_lines names decls number entries) ++ line_of (entry_words names decls (number + length entries) entry)
entries_more names decls number [] entry =
    let same : number ≡ number + 0 = omega arith in
    append-nil (line_of (entry_words names decls number entry)) ∙ ap (λ n. line_of (entry_words names decls n entry)) same
entries_more names decls number (first ∷ entries) entry =
    let same : suc number + length entries ≡ number + suc (length entries) = omega arith in
    ap (λ l. line_of (entry_words names decls number first) ++ l) (entries_more names decls (suc number) entries entry ∙ ap (λ n. concat (entry_lines names decls (suc number) entries) ++ line_of (entry_words names decls n entry)) same)
    ∙ sym (append_assoc (line_of (entry_words names decls number first)) (concat (entry_lines names decls (suc number) entries)) (line_of (entry_words names decls (number + suc (length entries)) entry)))

pub ends_more : (names : List Text) (ends : List Ending) (ending : Ending) → concat (end_lines names (ends ++ ending ∷ [])) ≡ concat (end_lines names ends) ++ line_of (ending_words names ending)
ends_more names [] ending = append-nil (line_of (ending_words names ending))
ends_more names (first ∷ ends) ending =
    ap (λ l. line_of (ending_words names first) ++ l) (ends_more names ends ending)
    ∙ sym (append_assoc (line_of (ending_words names first)) (concat (end_lines names ends)) (line_of (ending_words names ending)))

pub each_more : {X : Type 0} (P : X → Type 0) (xs : List X) (x : X) → Each P xs → P x → Each P (xs ++ x ∷ [])
each_more P [] x ps p = (p, tt)
each_more P (y ∷ xs) x ps p = (ps.0, each_more P xs x ps.1 p)

-- one more entry is taken
pub taken_entry : (names : List Text) (decls : Decls) (entries : List Entry) (entry : Entry) (text rest more : Text) (number : ℕ) → number ≡ length entries + 1 →
    text ≡ concat (entry_lines names decls 1 entries) ++ rest → rest ≡ line_of (entry_words names decls number entry) ++ more → text ≡ concat (entry_lines names decls 1 (entries ++ entry ∷ [])) ++ more
taken_entry names decls entries entry text rest more number is e f =
    let same : number ≡ 1 + length entries = omega arith in
    e ∙ (ap (λ r. concat (entry_lines names decls 1 entries) ++ r) (f ∙ ap (λ n. line_of (entry_words names decls n entry) ++ more) same)
    ∙ (sym (append_assoc (concat (entry_lines names decls 1 entries)) (line_of (entry_words names decls (1 + length entries) entry)) more) ∙ ap (λ l. l ++ more) (sym (entries_more names decls 1 entries entry))))

pub taken_ending : (names : List Text) (ends : List Ending) (ending : Ending) (text rest more : Text) →
    text ≡ concat (end_lines names ends) ++ rest → rest ≡ line_of (ending_words names ending) ++ more → text ≡ concat (end_lines names (ends ++ ending ∷ [])) ++ more
taken_ending names ends ending text rest more e f =
    e ∙ (ap (λ r. concat (end_lines names ends) ++ r) f
    ∙ (sym (append_assoc (concat (end_lines names ends)) (line_of (ending_words names ending)) more) ∙ ap (λ l. l ++ more) (sym (ends_more names ends ending))))

-- ---- arguments

-- numbers that were read before others
abbrev pub onto : List ℤ → Option (List ℤ × List Text) → Option (List ℤ × List Text)
onto vs (Some found) = Some (vs ++ found.0, found.1)
onto vs None = None

pub onto_none : (found : Option (List ℤ × List Text)) → onto [] found ≡ found
onto_none (Some found) = refl
onto_none None = refl

onto_next : (vs : List ℤ) (v : ℤ) (found : Option (List ℤ × List Text)) → onto vs (behind found (λ ws last. Some (v ∷ ws, last))) ≡ onto (vs ++ v ∷ []) found
onto_next vs v (Some found) = ap (λ l. Some (l, found.1)) (sym (append_assoc vs (v ∷ []) found.0))
onto_next vs v None = refl

-- one more number is read
pub onto_more : (vs : List ℤ) (v : ℤ) (words rest : List Text) (count at : ℕ) → at < count → word_from integer_in words ≡ Some (v, rest) →
    onto vs (integers_from (count - at) words) ≡ onto (vs ++ v ∷ []) (integers_from (count - (at + 1)) rest)
onto_more vs v words rest count at lt e =
    let more : count - at ≡ suc (count - (at + 1)) = omega arith in
    ap (λ n. onto vs (integers_from n words)) more
    ∙ (ap (λ found. onto vs (behind found (λ (w : ℤ) (rest : List Text). behind (integers_from (count - (at + 1)) rest) (λ ws last. Some (w ∷ ws, last))))) e
    ∙ onto_next vs v (integers_from (count - (at + 1)) rest))

-- none is read
pub onto_failed : (vs : List ℤ) (words : List Text) (count at : ℕ) → at < count → word_from integer_in words ≡ None → onto vs (integers_from (count - at) words) ≡ None
onto_failed vs words count at lt e =
    let more : count - at ≡ suc (count - (at + 1)) = omega arith in
    ap (λ n. onto vs (integers_from n words)) more
    ∙ ap (λ found. onto vs (behind found (λ (w : ℤ) (rest : List Text). behind (integers_from (count - (at + 1)) rest) (λ ws last. Some (w ∷ ws, last))))) e

pub onto_all : (vs : List ℤ) (words : List Text) (count at : ℕ) → count ≤ at → onto vs (integers_from (count - at) words) ≡ Some (vs, words)
onto_all vs words count at past =
    let none : count - at ≡ 0 = omega arith in
    ap (λ n. onto vs (integers_from n words)) none ∙ ap (λ l. Some (l, words)) (append-nil vs)

-- all numbers in their places, and 0 behind them
pub all_args : (values : List ℤ) (count : ℕ) → count ≤ 8 → length values ≡ 8 → drop count values ≡ replicate (8 - count) (pos 0) →
    ◌≡◌ {A = Args} (packed (take count values)) (record { count = count; values = values })
all_args values count few many rest =
    let size : length (take count values) ≡ count = omega (arith, length-take count values) in
    λ i. record { count = size i; values = ((λ j. take count values ++ replicate (8 - size j) (pos 0)) ∙ (ap (λ l. take count values ++ l) (sym rest) ∙ take-append-drop count values)) i }

-- the places behind the numbers that were read stay 0
pub args_rest : (values : List ℤ) (v : ℤ) (at : ℕ) → at < 8 → length values ≡ 8 → drop at values ≡ replicate (8 - at) (pos 0) → drop (at + 1) (set values at v) ≡ replicate (8 - (at + 1)) (pos 0)
args_rest values v at lt many e =
    let more : 8 - at ≡ suc (8 - (at + 1)) = omega arith in
    let both : get_or values at (pos 0) ∷ drop (at + 1) values ≡ pos 0 ∷ replicate (8 - (at + 1)) (pos 0) =
    sym (drop_more values at (pos 0) (omega arith)) ∙ (e ∙ ap (λ n. replicate n (pos 0)) more) in
    let tails : drop (at + 1) values ≡ replicate (8 - (at + 1)) (pos 0) = cc in
    drop-set-lt (at + 1) values at v (omega arith) ∙ tails

pub args_more : (values : List ℤ) (v : ℤ) (words rest old : List Text) (count at : ℕ) → at < count → count ≤ 8 → length values ≡ 8 → Some (v, rest) ≡ word_from integer_in words →
    onto (take at values) (integers_from (count - at) words) ≡ integers_from count old → onto (take (at + 1) (set values at v)) (integers_from (count - (at + 1)) rest) ≡ integers_from count old
args_more values v words rest old count at lt few many e h =
    ap (λ vs. onto vs (integers_from (count - (at + 1)) rest)) (take_more_set values at v (omega arith))
    ∙ (sym (onto_more (take at values) v words rest count at lt (sym e)) ∙ h)

pub args_failed : (values : List ℤ) (words old : List Text) (count at : ℕ) → at < count → None ≡ word_from integer_in words →
    onto (take at values) (integers_from (count - at) words) ≡ integers_from count old → None ≡ args_from count old
args_failed values words old count at lt e h =
    ap (λ found. behind found (λ (vs : List ℤ) (rest : List Text). Some (packed vs, rest))) (sym (onto_failed (take at values) words count at lt (sym e)) ∙ h)

pub args_done : (values : List ℤ) (words old : List Text) (count at : ℕ) → at ≡ count → count ≤ 8 → length values ≡ 8 → drop at values ≡ replicate (8 - at) (pos 0) →
    onto (take at values) (integers_from (count - at) words) ≡ integers_from count old → ◌≡◌ {A = Option (Args × List Text)} (Some (record { count = count; values = values }, words)) (args_from count old)
args_done values words old count at is few many rest h =
    let past : count ≤ at = omega arith in
    let whole : Some (take at values, words) ≡ integers_from count old = sym (onto_all (take at values) words count at past) ∙ h in
    let left : drop count values ≡ replicate (8 - count) (pos 0) = subst (λ n. drop n values ≡ replicate (8 - n) (pos 0)) is rest in
    ap (λ (a : Args). Some (a, words)) (sym (all_args values count few many left))
    ∙ ap (λ found. behind found (λ (vs : List ℤ) (rest : List Text). Some (packed vs, rest))) (subst (λ n. Some (take n values, words) ≡ integers_from count old) is whole)
