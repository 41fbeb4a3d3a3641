-- Whole texts: their lines, one report at most, and the first wrong line.
use Rattle.std.proofs.Common.{◌≡◌, ℕ, zero, suc, ◌+◌, ◌-◌, ◌≤◌, ◌<◌, ◌^◌, Bool, true, false, not, ◌&&◌, ◌==◌, ◌++◌, List, [], ◌∷◌, map, length, take, drop, take-append-drop, Option, Some, None, Result, Ok, Err, IfOk, IfErr, refl, sym, ap, ◌∙◌, subst, arith, append-nil, append_assoc, length-append, ◌⊎◌, inl, inr}
use Rattle.std.specs.Prelude.{if◌then◌else◌}
use Rattle.std.proofs.lemmas.Bool.Decides.{nat_tests}
use Rattle.std.proofs.lemmas.Option.{some_pair_parts, same_Some}
use Rattle.std.proofs.lemmas.List.Splits.{join_with_byte-slice_split}
use Rattle.std.specs.List.{list_all, concat, join_with_byte, AllByRecursion as Each}
use Rattle.dl_model.specs.declared.history.Entry.{Entry}
use Rattle.dl_model.specs.declared.history.Order.{Order}
use Rattle.dl_model.specs.declared.history.Order.TheVariants.{Oldest}
use Rattle.dl_model.specs.declared.file.Decls.{Decls}
use Rattle.dl_report.specs.declared.types.Report.{Report}
use Rattle.dl_report.specs.declared.types.ReportFault.{ReportFault}
use Rattle.dl_report.specs.declared.types.ReportFault.TheVariants.{Line, Memory}
use Rattle.dl_report.specs.Layout.{Text, Ending, line_of, entry_words, ending_words, head_words, entry_lines, end_lines, report_lines, report_of}
use Rattle.dl_report.specs.Fitting.{EntryFits, EndingFits, OrderFits, Fits}
use Rattle.dl_report.specs.Ready.{IsReady}
use Rattle.dl_report.specs.Split.{words_of}
use Rattle.dl_report.specs.Reading.{cut, entry_in, ending_in, head_in}
use Rattle.dl_report.specs.Taken.{HasNoEntry, HasNoEnding, HasNoHead, TakesEntry, TakesEnding, TakesHead, TakesEntries, TakesEndings, Stops, IsStop}
use Rattle.dl_report.specs.Wrong.{IsReport, with_first, lines_of, BeginsReport, IsFirstWrong, IsFault, IsWant, IsReadAs}
use Rattle.dl_report.proofs.Pieces.{decide, negated, and_parts, IsPlain, HasNone, cut_is, line_cut, words_joined, joined_none}
use Rattle.dl_report.proofs.Lines.{entry_read, entry_plain, entry_written, ending_read, ending_plain, ending_written, apart, head_read, head_plain, head_written}

none_some : {X : Type 0} (x : X) → None ≡ Some x → ⊥
none_some x e = cc

-- ---- one line

-- a word and others, with neither blank nor LF
abbrev pub AreWords : List Text → Type 0
AreWords [] = ⊥
AreWords (word ∷ words) = IsPlain word × Each IsPlain words

cut_line : (words : List Text) (rest : Text) → AreWords words → cut 10 (line_of words ++ rest) ≡ Some (join_with_byte 32 words, rest)
cut_line [] rest are = absurd are
cut_line (word ∷ words) rest are = line_cut word words rest are.0 are.1

words_again : (words : List Text) → AreWords words → words_of (join_with_byte 32 words) ≡ words
words_again [] are = absurd are
words_again (word ∷ words) are = words_joined word words are.0 are.1

-- the same line has the same words
same_words : (ws vs : List Text) → AreWords ws → AreWords vs → line_of ws ≡ line_of vs → ws ≡ vs
same_words ws vs p q e =
    let cuts : Some (join_with_byte 32 ws, []) ≡ Some (join_with_byte 32 vs, []) = sym (cut_line ws [] p) ∙ (ap (λ l. cut 10 (l ++ [])) e ∙ cut_line vs [] q) in
    let joined = (some_pair_parts (join_with_byte 32 ws) (join_with_byte 32 vs) [] [] cuts).0 in
    sym (words_again ws p) ∙ (ap words_of joined ∙ words_again vs q)

-- the line that was cut from the front of a text, by its words
back_in_line : (words : List Text) (text line rest : Text) → cut 10 text ≡ Some (line, rest) → words_of line ≡ words → text ≡ line_of words ++ rest
back_in_line words text line rest split e =
    let joined : line ≡ join_with_byte 32 words = sym (join_with_byte-slice_split 32 line) ∙ ap (join_with_byte 32) e in
    cut_is 10 text line rest split ∙ (ap (λ l. l ++ (10 ∷ rest)) joined ∙ sym (append_assoc (join_with_byte 32 words) (10 ∷ []) rest))

-- the words of the line that was cut, where a line of these words begins the text
taken_words : (words : List Text) (text line rest more : Text) → AreWords words → cut 10 text ≡ Some (line, rest) → text ≡ line_of words ++ more → words_of line ≡ words
taken_words words text line rest more are split e =
    let cuts : Some (line, rest) ≡ Some (join_with_byte 32 words, more) = sym split ∙ (ap (cut 10) e ∙ cut_line words more are) in
    ap words_of (some_pair_parts line (join_with_byte 32 words) rest more cuts).0 ∙ words_again words are

-- a text without LF begins with no line
uncut : (words : List Text) (text more : Text) → AreWords words → cut 10 text ≡ None → text ≡ line_of words ++ more → ⊥
uncut words text more are none e =
    none_some {X = Text × Text} (join_with_byte 32 words, more) (sym none ∙ (ap (cut 10) e ∙ cut_line words more are))

pub lines_cut : (line rest : Text) → HasNone 10 line → lines_of (line ++ (10 ∷ rest)) ≡ (line ++ (10 ∷ [])) ∷ lines_of rest
lines_cut [] rest none = refl
lines_cut (b ∷ bs) rest none =
    let parts = and_parts (not (b == 10)) (list_all (λ b. not (b == 10)) bs) none in
    let not_so : (b == 10) ≡ false = negated (b == 10) parts.0 in
    rw (not_so, lines_cut bs rest parts.1) refl

-- a line with its LF at the end alone
abbrev IsLine : Text → Type 0
IsLine line = (body : Text) × (line ≡ body ++ (10 ∷ [])) × HasNone 10 body

words_line : (words : List Text) → AreWords words → IsLine (line_of words)
words_line [] are = absurd are
words_line (word ∷ words) are = (join_with_byte 32 (word ∷ words), refl, joined_none word words are.0 are.1)

lines_first : (line rest : Text) → IsLine line → lines_of (line ++ rest) ≡ line ∷ lines_of rest
lines_first line rest is =
    ap (λ l. lines_of (l ++ rest)) is.1 ∙ (ap lines_of (append_assoc is.0 (10 ∷ []) rest) ∙ (lines_cut is.0 rest is.2 ∙ ap (λ l. l ∷ lines_of rest) (sym is.1)))

lines_all : (lines : List Text) (rest : Text) → Each IsLine lines → lines_of (concat lines ++ rest) ≡ lines ++ lines_of rest
lines_all [] rest all = refl
lines_all (line ∷ lines) rest all =
    ap lines_of (append_assoc line (concat lines) rest) ∙ (lines_first line (concat lines ++ rest) all.0 ∙ ap (λ l. line ∷ l) (lines_all lines rest all.1))

with_first_joined : (byte : ℕ) (lines : List Text) → concat (with_first byte lines) ≡ byte ∷ concat lines
with_first_joined byte [] = refl
with_first_joined byte (line ∷ lines) = refl

-- the lines of a text make the text
lines_joined : (text : Text) → concat (lines_of text) ≡ text
lines_joined [] = refl
lines_joined (b ∷ bs) = elim (decide (b == 10)) [
  | inl is ↦
      (let same : 10 ≡ b = grind (arith, nat_tests) in
      rw is (ap (λ l. 10 ∷ l) (lines_joined bs) ∙ ap (λ n. n ∷ bs) same))
  | inr not_so ↦ rw not_so (with_first_joined b (lines_of bs) ∙ ap (λ l. b ∷ l) (lines_joined bs))
]

pub concat_append : (xs ys : List Text) → concat (xs ++ ys) ≡ concat xs ++ concat ys
concat_append [] ys = refl
concat_append (x ∷ xs) ys = ap (λ l. x ++ l) (concat_append xs ys) ∙ sym (append_assoc x (concat xs) (concat ys))

first_of : (b : ℕ) (lines : List Text) → (line : Text) × (rest : List Text) × (with_first b lines ≡ line ∷ rest)
first_of b [] = (b ∷ [], [], refl)
first_of b (line ∷ lines) = (b ∷ line, lines, refl)

some_line : (text : Text) → (text ≡ [] → ⊥) → (line : Text) × (lines : List Text) × (lines_of text ≡ line ∷ lines)
some_line [] some = absurd (some refl)
some_line (b ∷ bs) some = elim (decide (b == 10)) [
  | inl is ↦ (10 ∷ [], lines_of bs, rw is refl)
  | inr not_so ↦ (let more = first_of b (lines_of bs) in (more.0, more.1, rw not_so more.2))
]

-- ---- what is taken from the front of a text

pub head_taken : (text line rest : Text) (budget : ℕ) (order : Order) → cut 10 text ≡ Some (line, rest) → head_in (words_of line) ≡ Some (budget, order) → TakesHead text budget order rest
head_taken text line rest budget order split e =
    let written = head_written (words_of line) budget order e in
    record { budget_fits = written.1.0; order_fits = written.1.1; taken = back_in_line (head_words budget order) text line rest split written.0 }

pub no_head_line : (text line rest : Text) → cut 10 text ≡ Some (line, rest) → head_in (words_of line) ≡ None → HasNoHead text
no_head_line text line rest split none budget order more lt fits e =
    let words = taken_words (head_words budget order) text line rest more (head_plain budget order lt fits) split e in
    none_some {X = ℕ × Order} (budget, order) (sym none ∙ (ap head_in words ∙ head_read budget order lt fits))

pub no_head_cut : (text : Text) → cut 10 text ≡ None → HasNoHead text
no_head_cut text none budget order more lt fits e = uncut (head_words budget order) text more (head_plain budget order lt fits) none e

module _ (names : List Text) (decls : Decls) (ready : IsReady names decls) where
  pub entry_taken : (number : ℕ) (text line rest : Text) (entry : Entry) → cut 10 text ≡ Some (line, rest) → entry_in names decls number (words_of line) ≡ Some entry →
      TakesEntry names decls number text entry rest
  entry_taken number text line rest entry split e =
      let written = entry_written names decls ready number (words_of line) entry e in
      record { fits = written.1; taken = back_in_line (entry_words names decls number entry) text line rest split written.0 }

  pub no_entry_line : (number : ℕ) (text line rest : Text) → number < 2 ^ 64 → cut 10 text ≡ Some (line, rest) → entry_in names decls number (words_of line) ≡ None → HasNoEntry names decls number text
  no_entry_line number text line rest lt split none entry more fits e =
      let words = taken_words (entry_words names decls number entry) text line rest more (entry_plain names decls ready number entry lt fits) split e in
      none_some entry (sym none ∙ (ap (entry_in names decls number) words ∙ entry_read names decls ready number entry lt fits))

  pub no_entry_cut : (number : ℕ) (text : Text) → number < 2 ^ 64 → cut 10 text ≡ None → HasNoEntry names decls number text
  no_entry_cut number text lt none entry more fits e = uncut (entry_words names decls number entry) text more (entry_plain names decls ready number entry lt fits) none e

  pub ending_taken : (text line rest : Text) (ending : Ending) → cut 10 text ≡ Some (line, rest) → ending_in names decls (words_of line) ≡ Some ending → TakesEnding names decls text ending rest
  ending_taken text line rest ending split e =
      let written = ending_written names decls ready (words_of line) ending e in
      record { fits = written.1; taken = back_in_line (ending_words names ending) text line rest split written.0 }

  pub no_ending_line : (text line rest : Text) → cut 10 text ≡ Some (line, rest) → ending_in names decls (words_of line) ≡ None → HasNoEnding names decls text
  no_ending_line text line rest split none ending more fits e =
      let words = taken_words (ending_words names ending) text line rest more (ending_plain names decls ready ending fits) split e in
      none_some ending (sym none ∙ (ap (ending_in names decls) words ∙ ending_read names decls ready ending fits))

  pub no_ending_cut : (text : Text) → cut 10 text ≡ None → HasNoEnding names decls text
  no_ending_cut text none ending more fits e = uncut (ending_words names ending) text more (ending_plain names decls ready ending fits) none e

  -- ---- the lines of a report

  entries_lines : (number : ℕ) (entries : List Entry) → number + length entries < 2 ^ 64 → Each (EntryFits decls) entries → Each IsLine (entry_lines names decls number entries)
  entries_lines number [] lt fits = tt
  entries_lines number (entry ∷ entries) lt fits =
      (words_line (entry_words names decls number entry) (entry_plain names decls ready number entry (omega arith) fits.0), entries_lines (suc number) entries (omega arith) fits.1)

  ends_lines : (ends : List Ending) → Each (EndingFits decls) ends → Each IsLine (end_lines names ends)
  ends_lines [] fits = tt
  ends_lines (ending ∷ ends) fits = (words_line (ending_words names ending) (ending_plain names decls ready ending fits.0), ends_lines ends fits.1)

  both_lines : (xs ys : List Text) → Each IsLine xs → Each IsLine ys → Each IsLine (xs ++ ys)
  both_lines [] ys ps qs = qs
  both_lines (x ∷ xs) ys ps qs = (ps.0, both_lines xs ys ps.1 qs)

  lines_report : (budget : ℕ) (order : Order) (entries : List Entry) (ends : List Ending) (rest : Text) → 1 + length entries < 2 ^ 64 → Fits decls budget order entries ends →
      lines_of (report_of names decls budget order entries ends ++ rest) ≡ report_lines names decls budget order entries ends ++ lines_of rest
  lines_report budget order entries ends rest lt fits =
      lines_all (report_lines names decls budget order entries ends) rest (
        words_line (head_words budget order) (head_plain budget order fits.budget_fits fits.order_fits),
        both_lines (entry_lines names decls 1 entries) (end_lines names ends) (entries_lines 1 entries lt fits.entries_fit) (ends_lines ends fits.ends_fit),
      )

  -- ---- one report

  first_same : (x y : Text) (xs ys : List Text) → x ∷ xs ≡ y ∷ ys → (x ≡ y) × (xs ≡ ys)
  first_same x y xs ys e = (cc, cc)

  same_entry : (number : ℕ) (e f : Entry) → number < 2 ^ 64 → EntryFits decls e → EntryFits decls f → line_of (entry_words names decls number e) ≡ line_of (entry_words names decls number f) → e ≡ f
  same_entry number e f lt fe ff same =
      let words = same_words (entry_words names decls number e) (entry_words names decls number f) (entry_plain names decls ready number e lt fe) (entry_plain names decls ready number f lt ff) same in
      same_Some e f (sym (entry_read names decls ready number e lt fe) ∙ (ap (entry_in names decls number) words ∙ entry_read names decls ready number f lt ff))

  same_ending : (e f : Ending) → EndingFits decls e → EndingFits decls f → line_of (ending_words names e) ≡ line_of (ending_words names f) → e ≡ f
  same_ending e f fe ff same =
      let words = same_words (ending_words names e) (ending_words names f) (ending_plain names decls ready e fe) (ending_plain names decls ready f ff) same in
      same_Some e f (sym (ending_read names decls ready e fe) ∙ (ap (ending_in names decls) words ∙ ending_read names decls ready f ff))

  lines_apart : (number : ℕ) (entry : Entry) (ending : Ending) → number < 2 ^ 64 → EntryFits decls entry → EndingFits decls ending →
      line_of (entry_words names decls number entry) ≡ line_of (ending_words names ending) → ⊥
  lines_apart number entry ending lt fe ff same =
      apart names decls ready number entry ending lt
      (same_words (entry_words names decls number entry) (ending_words names ending) (entry_plain names decls ready number entry lt fe) (ending_plain names decls ready ending ff) same)

  same_ends : (ds es : List Ending) → Each (EndingFits decls) ds → Each (EndingFits decls) es → end_lines names ds ≡ end_lines names es → ds ≡ es
  same_ends [] [] fd fe e = refl
  same_ends [] (y ∷ es) fd fe e = cc
  same_ends (x ∷ ds) [] fd fe e = cc
  same_ends (x ∷ ds) (y ∷ es) fd fe e =
      let parts = first_same (line_of (ending_words names x)) (line_of (ending_words names y)) (end_lines names ds) (end_lines names es) e in
      let here = same_ending x y fd.0 fe.0 parts.0 in
      let more = same_ends ds es fd.1 fe.1 parts.1 in
      cc

  same_parts : (number : ℕ) (es fs : List Entry) (us bs : List Ending) → number + length fs < 2 ^ 64 → Each (EntryFits decls) es → Each (EntryFits decls) fs → Each (EndingFits decls) us → Each (EndingFits decls) bs →
      entry_lines names decls number es ++ end_lines names us ≡ entry_lines names decls number fs ++ end_lines names bs → (es ≡ fs) × (us ≡ bs)
  same_parts number [] [] us bs lt fe ff fa fb e = (refl, same_ends us bs fa fb e)
  same_parts number (x ∷ es) [] us [] lt fe ff fa fb e = cc
  same_parts number (x ∷ es) [] us (b ∷ bs) lt fe ff fa fb e =
      let parts = first_same (line_of (entry_words names decls number x)) (line_of (ending_words names b)) (entry_lines names decls (suc number) es ++ end_lines names us) (end_lines names bs) e in
      absurd (lines_apart number x b (omega arith) fe.0 fb.0 parts.0)
  same_parts number [] (y ∷ fs) [] bs lt fe ff fa fb e = cc
  same_parts number [] (y ∷ fs) (a ∷ us) bs lt fe ff fa fb e =
      let parts = first_same (line_of (ending_words names a)) (line_of (entry_words names decls number y)) (end_lines names us) (entry_lines names decls (suc number) fs ++ end_lines names bs) e in
      absurd (lines_apart number y a (omega arith) ff.0 fa.0 (sym parts.0))
  same_parts number (x ∷ es) (y ∷ fs) us bs lt fe ff fa fb e =
      let parts = first_same (line_of (entry_words names decls number x)) (line_of (entry_words names decls number y))
      (entry_lines names decls (suc number) es ++ end_lines names us) (entry_lines names decls (suc number) fs ++ end_lines names bs) e in
      let here = same_entry number x y (omega arith) fe.0 ff.0 parts.0 in
      let more = same_parts (suc number) es fs us bs (omega arith) fe.1 ff.1 fa fb parts.1 in
      (cc (here, more.0), more.1)

  same_head : (b c : ℕ) (o p : Order) → b < 2 ^ 32 → c < 2 ^ 32 → OrderFits o → OrderFits p → line_of (head_words b o) ≡ line_of (head_words c p) → (b ≡ c) × (o ≡ p)
  same_head b c o p lb lc fo fp same =
      let words = same_words (head_words b o) (head_words c p) (head_plain b o lb fo) (head_plain c p lc fp) same in
      some_pair_parts b c o p (sym (head_read b o lb fo) ∙ (ap head_in words ∙ head_read c p lc fp))

  -- ---- the first wrong line

  -- Where an entry or an end was to be read and a line is neither, no report has that line there.
  wrong_ends : (ds es : List Ending) (line : Text) (more : List Text) → Each (EndingFits decls) ds → ((ending : Ending) → EndingFits decls ending → line ≡ line_of (ending_words names ending) → ⊥) →
      end_lines names ds ≡ end_lines names es ++ (line ∷ more) → ⊥
  wrong_ends [] [] line more fd not_so e = cc
  wrong_ends [] (y ∷ es) line more fd not_so e = cc
  wrong_ends (x ∷ ds) [] line more fd not_so e = not_so x fd.0 (sym (first_same (line_of (ending_words names x)) line (end_lines names ds) more e).0)
  wrong_ends (x ∷ ds) (y ∷ es) line more fd not_so e =
      wrong_ends ds es line more fd.1 not_so (first_same (line_of (ending_words names x)) (line_of (ending_words names y)) (end_lines names ds) (end_lines names es ++ (line ∷ more)) e).1

  wrong_line : (number next : ℕ) (es fs : List Entry) (us bs : List Ending) (line : Text) (more : List Text) → next ≡ number + length fs → next < 2 ^ 64 →
      Each (EntryFits decls) es → Each (EntryFits decls) fs → Each (EndingFits decls) us → Each (EndingFits decls) bs →
      ((entry : Entry) (rest : List Text) → EntryFits decls entry → end_lines names bs ++ (line ∷ more) ≡ line_of (entry_words names decls next entry) ∷ rest → ⊥) →
      ((ending : Ending) → EndingFits decls ending → line ≡ line_of (ending_words names ending) → ⊥) →
      entry_lines names decls number es ++ end_lines names us ≡ entry_lines names decls number fs ++ (end_lines names bs ++ (line ∷ more)) → ⊥
  wrong_line number next [] [] us bs line more is lt fe ff fa fb no_entry no_end e = wrong_ends us bs line more fa no_end e
  wrong_line number next (x ∷ es) [] us bs line more is lt fe ff fa fb no_entry no_end e =
      let here : number ≡ next = omega arith in
      no_entry x (entry_lines names decls (suc number) es ++ end_lines names us) fe.0
      (subst (λ n. end_lines names bs ++ (line ∷ more) ≡ line_of (entry_words names decls n x) ∷ (entry_lines names decls (suc number) es ++ end_lines names us)) here (sym e))
  wrong_line number next [] (y ∷ fs) [] bs line more is lt fe ff fa fb no_entry no_end e = cc
  wrong_line number next [] (y ∷ fs) (a ∷ us) bs line more is lt fe ff fa fb no_entry no_end e =
      let parts = first_same (line_of (ending_words names a)) (line_of (entry_words names decls number y)) (end_lines names us) (entry_lines names decls (suc number) fs ++ (end_lines names bs ++ (line ∷ more))) e in
      lines_apart number y a (omega arith) ff.0 fa.0 (sym parts.0)
  wrong_line number next (x ∷ es) (y ∷ fs) us bs line more is lt fe ff fa fb no_entry no_end e =
      let parts = first_same (line_of (entry_words names decls number x)) (line_of (entry_words names decls number y))
      (entry_lines names decls (suc number) es ++ end_lines names us) (entry_lines names decls (suc number) fs ++ (end_lines names bs ++ (line ∷ more))) e in
      wrong_line (suc number) next es fs us bs line more (omega arith) lt fe.1 ff.1 fa fb no_entry no_end parts.1

  -- ---- lengths

  line_bytes : (words : List Text) (rest : Text) → length (line_of words ++ rest) ≡ length (join_with_byte 32 words) + 1 + length rest
  line_bytes words rest = omega (arith, length-append (line_of words) rest, length-append (join_with_byte 32 words) (10 ∷ []))

  pub entries_bytes : (number : ℕ) (entries : List Entry) → length entries ≤ length (concat (entry_lines names decls number entries))
  entries_bytes number [] = omega arith
  entries_bytes number (entry ∷ entries) =
      omega (arith, line_bytes (entry_words names decls number entry) (concat (entry_lines names decls (suc number) entries)), entries_bytes (suc number) entries)

  pub ends_bytes : (ends : List Ending) → length ends ≤ length (concat (end_lines names ends))
  ends_bytes [] = omega arith
  ends_bytes (ending ∷ ends) = omega (arith, line_bytes (ending_words names ending) (concat (end_lines names ends)), ends_bytes ends)

  report_bytes : (budget : ℕ) (order : Order) (entries : List Entry) (ends : List Ending) → (length entries + length ends) + 1 ≤ length (report_of names decls budget order entries ends)
  report_bytes budget order entries ends =
      let both = concat_append (entry_lines names decls 1 entries) (end_lines names ends) in
      omega (
        arith,
        line_bytes (head_words budget order) (concat (entry_lines names decls 1 entries ++ end_lines names ends)),
        ap length both,
        length-append (concat (entry_lines names decls 1 entries)) (concat (end_lines names ends)),
        entries_bytes 1 entries,
        ends_bytes ends,
      )

  entries_long : (number : ℕ) (entries : List Entry) → length (entry_lines names decls number entries) ≡ length entries
  entries_long number [] = refl
  entries_long number (entry ∷ entries) = ap suc (entries_long (suc number) entries)

  ends_long : (ends : List Ending) → length (end_lines names ends) ≡ length ends
  ends_long [] = refl
  ends_long (ending ∷ ends) = ap suc (ends_long ends)

  lines_long : (budget : ℕ) (order : Order) (entries : List Entry) (ends : List Ending) → length (report_lines names decls budget order entries ends) ≡ (length entries + length ends) + 1
  lines_long budget order entries ends = omega (arith, entries_long 1 entries, ends_long ends, length-append (entry_lines names decls 1 entries) (end_lines names ends))

  -- ---- what the reader took

  -- the first line, entries and ends, and what is left
  all_taken : (text behind last rest : Text) (budget : ℕ) (order : Order) (entries : List Entry) (ends : List Ending) →
      text ≡ line_of (head_words budget order) ++ behind → behind ≡ concat (entry_lines names decls 1 entries) ++ last → last ≡ concat (end_lines names ends) ++ rest →
      text ≡ report_of names decls budget order entries ends ++ rest
  all_taken text behind last rest budget order entries ends h e d =
      let head = line_of (head_words budget order) in
      let es = concat (entry_lines names decls 1 entries) in
      let ds = concat (end_lines names ends) in
      h ∙ (ap (λ t. head ++ t) (e ∙ (ap (λ t. es ++ t) d ∙ sym (append_assoc es ds rest)))
      ∙ (sym (append_assoc head (es ++ ds) rest) ∙ ap (λ t. (head ++ t) ++ rest) (sym (concat_append (entry_lines names decls 1 entries) (end_lines names ends)))))

  all_fit : (text behind last rest : Text) (budget : ℕ) (order : Order) (entries : List Entry) (ends : List Ending) →
      TakesHead text budget order behind → TakesEntries names decls behind entries last → TakesEndings names decls last ends rest → Fits decls budget order entries ends
  all_fit text behind last rest budget order entries ends h e d =
      record { budget_fits = h.budget_fits; order_fits = h.order_fits; entries_fit = e.fits; ends_fit = d.fits }

  pub report_taken : (text behind last rest : Text) (budget : ℕ) (order : Order) (entries : List Entry) (ends : List Ending) →
      TakesHead text budget order behind → TakesEntries names decls behind entries last → TakesEndings names decls last ends rest → length rest ≡ 0 →
      IsReport names decls text (record { budget = budget; order = order; entries = entries; ends = ends })
  report_taken text behind last [] budget order entries ends h e d none = record {
    fits = all_fit text behind last [] budget order entries ends h e d;
    written = all_taken text behind last [] budget order entries ends h.taken e.taken d.taken ∙ append-nil (report_of names decls budget order entries ends);
  }
  report_taken text behind last (b ∷ bs) budget order entries ends h e d none = absurd (omega arith)

  pub stop_taken : (text behind last rest : Text) (budget : ℕ) (order : Order) (entries : List Entry) (ends : List Ending) (line : ℕ) →
      TakesHead text budget order behind → TakesEntries names decls behind entries last → TakesEndings names decls last ends rest → (length rest ≡ 0 → ⊥) →
      line ≡ (length entries + length ends) + 2 → IsStop names decls text (Line line)
  stop_taken text behind last rest budget order entries ends line h e d some number = inr (record {
    budget = budget;
    order = order;
    entries = entries;
    ends = ends;
    rest = rest;
    fits = all_fit text behind last rest budget order entries ends h e d;
    taken = all_taken text behind last rest budget order entries ends h.taken e.taken d.taken;
    some = λ is. some (ap length is);
    no_entry = subst (λ t. HasNoEntry names decls (suc (length entries)) t) d.taken e.last;
    no_ending = d.last;
    number = number;
  })

  pub behind_short : (text behind : Text) (budget : ℕ) (order : Order) → TakesHead text budget order behind → length behind ≤ length text
  behind_short text behind budget order h = omega (arith, ap length h.taken, line_bytes (head_words budget order) behind)

  -- so a line's number fits
  pub lines_short : (text behind last rest : Text) (budget : ℕ) (order : Order) (entries : List Entry) (ends : List Ending) →
      TakesHead text budget order behind → TakesEntries names decls behind entries last → TakesEndings names decls last ends rest → length text + 1 < 2 ^ 32 →
      (length rest ≡ 0 → ⊥) → (length entries + length ends) + 2 < 2 ^ 32
  lines_short text behind last [] budget order entries ends h e d short some = absurd (some refl)
  lines_short text behind last (b ∷ bs) budget order entries ends h e d short some =
      let whole : length text ≡ length (report_of names decls budget order entries ends ++ (b ∷ bs)) =
      ap length (all_taken text behind last (b ∷ bs) budget order entries ends h.taken e.taken d.taken) in
      omega (arith, length-append (report_of names decls budget order entries ends) (b ∷ bs), report_bytes budget order entries ends)

  -- ---- the answers of the reader

  -- the least report
  abbrev least : Report
  least = record { budget = 0; order = Oldest; entries = []; ends = [] }

  least_fits : Fits decls 0 Oldest [] []
  least_fits = record { budget_fits = omega arith; order_fits = tt; entries_fit = tt; ends_fit = tt }

  begins_none : BeginsReport names decls []
  begins_none = record { report = least; fits = least_fits; more = report_lines names decls 0 Oldest [] []; begins = refl }

  text_is_some : (text : Text) (report : Report) → IsReport names decls text report → text ≡ [] → ⊥
  text_is_some text report is none =
      let e : length text ≡ length (report_of names decls report.budget report.order report.entries report.ends) = ap length is.written in
      let z : length text ≡ 0 = ap length none in
      omega (arith, report_bytes report.budget report.order report.entries report.ends)

  wrong_head : (text : Text) → HasNoHead text → IsFirstWrong names decls text 1
  wrong_head [] not_so = record { before = begins_none; wrong = inr (refl, λ report is. text_is_some [] report is refl) }
  wrong_head (b ∷ bs) not_so =
      let text = b ∷ bs in
      let line = some_line text (λ e. cc) in
      record {
        before = begins_none;
        wrong = inl (
          omega (arith, ap length line.2),
          λ (begins : BeginsReport names decls (take 1 (lines_of text))).
              let report = begins.report in
              let one : take 1 (lines_of text) ≡ line.0 ∷ [] = ap (take 1) line.2 in
              let e : report_lines names decls report.budget report.order report.entries report.ends ≡ line.0 ∷ begins.more = begins.begins ∙ ap (λ l. l ++ begins.more) one in
              let head = first_same (line_of (head_words report.budget report.order)) line.0 (entry_lines names decls 1 report.entries ++ end_lines names report.ends) begins.more e in
              let whole : text ≡ line.0 ++ concat line.1 = sym (lines_joined text) ∙ ap concat line.2 in
              not_so report.budget report.order (concat line.1) begins.fits.budget_fits begins.fits.order_fits (whole ∙ ap (λ l. l ++ concat line.1) (sym head.0)),
        );
      }

  take_exact : (n : ℕ) (xs ys : List Text) → n ≡ length xs → take n (xs ++ ys) ≡ xs
  take_exact zero [] ys e = refl
  take_exact zero (x ∷ xs) ys e = absurd (omega arith)
  take_exact (suc n) [] ys e = absurd (omega arith)
  take_exact (suc n) (x ∷ xs) ys e = ap (λ l. x ∷ l) (take_exact n xs ys (omega arith))

  take_one : (n : ℕ) (xs : List Text) (y : Text) (ys : List Text) → n ≡ suc (length xs) → take n (xs ++ (y ∷ ys)) ≡ xs ++ (y ∷ [])
  take_one zero xs y ys e = absurd (omega arith)
  take_one (suc zero) [] y ys e = refl
  take_one (suc (suc n)) [] y ys e = absurd (omega arith)
  take_one (suc n) (x ∷ xs) y ys e = ap (λ l. x ∷ l) (take_one n xs y ys (omega arith))

  -- the text behind the first line of ends and a line
  abbrev behind_first : (ends : List Ending) (line : Text) (lines more : List Text) → Text
  behind_first [] line lines more = concat lines
  behind_first (ending ∷ ends) line lines more = concat (end_lines names ends) ++ (line ++ concat lines)

  first_in_text : (ends : List Ending) (line : Text) (lines after : List Text) (first : Text) (more : List Text) → end_lines names ends ++ (line ∷ after) ≡ first ∷ more →
      concat (end_lines names ends) ++ (line ++ concat lines) ≡ first ++ behind_first ends line lines more
  first_in_text [] line lines after first more e = ap (λ l. l ++ concat lines) (first_same line first after more e).0
  first_in_text (ending ∷ ends) line lines after first more e =
      append_assoc (line_of (ending_words names ending)) (concat (end_lines names ends)) (line ++ concat lines)
      ∙ ap (λ l. l ++ (concat (end_lines names ends) ++ (line ++ concat lines))) (first_same (line_of (ending_words names ending)) first (end_lines names ends ++ (line ∷ after)) more e).0

  wrong_stop : (text : Text) (number : ℕ) → length text + 1 < 2 ^ 32 → Stops names decls text number → IsFirstWrong names decls text number
  wrong_stop text number short stop =
      let front = report_lines names decls stop.budget stop.order stop.entries stop.ends in
      let bytes : length text ≡ length (report_of names decls stop.budget stop.order stop.entries stop.ends) + length stop.rest =
      ap length stop.taken ∙ length-append (report_of names decls stop.budget stop.order stop.entries stop.ends) stop.rest in
      let small : (length stop.entries + length stop.ends) + 1 < 2 ^ 32 = omega (arith, report_bytes stop.budget stop.order stop.entries stop.ends) in
      let line = some_line stop.rest stop.some in
      let lines : lines_of text ≡ front ++ (line.0 ∷ line.1) =
      ap lines_of stop.taken ∙ (lines_report stop.budget stop.order stop.entries stop.ends stop.rest (omega arith) stop.fits ∙ ap (λ l. front ++ l) line.2) in
      let long = lines_long stop.budget stop.order stop.entries stop.ends in
      let here = stop.number in
      let before : take (number - 1) (lines_of text) ≡ front = ap (take (number - 1)) lines ∙ take_exact (number - 1) front (line.0 ∷ line.1) (omega arith) in
      let upto : take number (lines_of text) ≡ front ++ (line.0 ∷ []) = ap (take number) lines ∙ take_one number front line.0 line.1 (omega arith) in
      let rest : stop.rest ≡ line.0 ++ concat line.1 = sym (lines_joined stop.rest) ∙ ap concat line.2 in
      record {
        before = record {
          report = record { budget = stop.budget; order = stop.order; entries = stop.entries; ends = stop.ends };
          fits = stop.fits;
          more = [];
          begins = sym before ∙ sym (append-nil (take (number - 1) (lines_of text)));
        };
        wrong = inl (
          omega (arith, ap length lines, length-append front (line.0 ∷ line.1)),
          λ (begins : BeginsReport names decls (take number (lines_of text))).
              let report = begins.report in
              let e : report_lines names decls report.budget report.order report.entries report.ends ≡ front ++ (line.0 ∷ begins.more) =
              begins.begins ∙ (ap (λ l. l ++ begins.more) upto ∙ append_assoc front (line.0 ∷ []) begins.more) in
              let tails = first_same (line_of (head_words report.budget report.order)) (line_of (head_words stop.budget stop.order)) (entry_lines names decls 1 report.entries ++ end_lines names report.ends)
              ((entry_lines names decls 1 stop.entries ++ end_lines names stop.ends) ++ (line.0 ∷ begins.more)) e in
              wrong_line 1 (suc (length stop.entries)) report.entries stop.entries report.ends stop.ends line.0 begins.more (omega arith) (omega arith)
              begins.fits.entries_fit stop.fits.entries_fit begins.fits.ends_fit stop.fits.ends_fit
              (λ entry more fits same. stop.no_entry entry (behind_first stop.ends line.0 line.1 more) fits
              (ap (λ r. concat (end_lines names stop.ends) ++ r) rest ∙ first_in_text stop.ends line.0 line.1 begins.more (line_of (entry_words names decls (suc (length stop.entries)) entry)) more same))
              (λ ending fits same. stop.no_ending ending (concat line.1) fits (rest ∙ ap (λ l. l ++ concat line.1) same))
              (tails.1 ∙ append_assoc (entry_lines names decls 1 stop.entries) (end_lines names stop.ends) (line.0 ∷ begins.more)),
        );
      }

  pub wrong_fault : (text : Text) (fault : ReportFault) → length text + 1 < 2 ^ 32 → IsStop names decls text fault → IsFault names decls text fault
  wrong_fault text (Line number) short (inl head) = subst (λ n. IsFirstWrong names decls text n) (sym head.0) (wrong_head text head.1)
  wrong_fault text (Line number) short (inr stop) = wrong_stop text number short stop
  wrong_fault text Memory short is = tt

  lines_are : (text : Text) (report : Report) → length text + 1 < 2 ^ 32 → IsReport names decls text report → lines_of text ≡ report_lines names decls report.budget report.order report.entries report.ends
  lines_are text report short is =
      let whole = report_of names decls report.budget report.order report.entries report.ends in
      let front = report_lines names decls report.budget report.order report.entries report.ends in
      let bytes : length text ≡ length whole = ap length is.written in
      let small : 1 + length report.entries < 2 ^ 64 = omega (arith, report_bytes report.budget report.order report.entries report.ends) in
      ap lines_of (is.written ∙ sym (append-nil whole)) ∙ (lines_report report.budget report.order report.entries report.ends [] small is.fits ∙ append-nil front)

  pub one_report : (text : Text) (a b : Report) → length text + 1 < 2 ^ 32 → IsReport names decls text a → IsReport names decls text b → a ≡ b
  one_report text a b short is also =
      let bytes : length text ≡ length (report_of names decls b.budget b.order b.entries b.ends) = ap length also.written in
      let small : 1 + length b.entries < 2 ^ 64 = omega (arith, report_bytes b.budget b.order b.entries b.ends) in
      let same = sym (lines_are text a short is) ∙ lines_are text b short also in
      let parts = first_same (line_of (head_words a.budget a.order)) (line_of (head_words b.budget b.order)) (entry_lines names decls 1 a.entries ++ end_lines names a.ends)
      (entry_lines names decls 1 b.entries ++ end_lines names b.ends) same in
      let head = same_head a.budget b.budget a.order b.order is.fits.budget_fits also.fits.budget_fits is.fits.order_fits also.fits.order_fits parts.0 in
      let body = same_parts 1 a.entries b.entries a.ends b.ends small is.fits.entries_fit also.fits.entries_fit is.fits.ends_fit also.fits.ends_fit parts.1 in
      λ i. record { budget = head.0 i; order = head.1 i; entries = body.0 i; ends = body.1 i }

  no_fault : (text : Text) (report : Report) (fault : ReportFault) → length text + 1 < 2 ^ 32 → IsReport names decls text report → IsFault names decls text fault → IsWant fault
  no_fault text report Memory short is err = tt
  no_fault text report (Line number) short is err = elim err.wrong [
    | inr missing ↦ missing.1 report is
    | inl bad ↦ bad.1 (record {
      report = report;
      fits = is.fits;
      more = drop number (lines_of text);
      begins = sym (lines_are text report short is) ∙ sym (take-append-drop number (lines_of text));
    })
  ]

  pub only_report : (text : Text) (report : Report) (answer : Result Report ReportFault) → length text + 1 < 2 ^ 32 → IsReport names decls text report →
      IfOk answer (λ read. IsReport names decls text read) → IfErr answer (λ fault. IsFault names decls text fault) → IsReadAs report answer
  only_report text report (Ok read) short is ok err = one_report text read report short ok is
  only_report text report (Err fault) short is ok err = no_fault text report fault short is err

  pub fault_in : (text : Text) (answer : Result Report ReportFault) → length text + 1 < 2 ^ 32 → IfErr answer (λ fault. IsStop names decls text fault) → IfErr answer (λ fault. IsFault names decls text fault)
  fault_in text (Ok read) short is = is
  fault_in text (Err fault) short is = wrong_fault text fault short is
