-- What the writer appends: words, each with a blank before it, and lines of them.
use Rattle.std.proofs.Common.{◌≡◌, ℕ, suc, ◌<◌, ◌≤◌, ℤ, pos, negsuc, true, false, ◌++◌, List, [], ◌∷◌, map, nat_lt, Result, Ok, Err, refl, sym, ap, ◌∙◌, arith, append-nil, append_assoc, decimal}
use Rattle.std.specs.Prelude.{OnOk, is_ok, if◌then◌else◌}
use Rattle.std.proofs.lemmas.Bool.Decides.{nat_tests}
use Rattle.std.specs.List.{concat}
use Rattle.std.specs.Fmt.{signed_decimal}
use Rattle.dl_model.specs.declared.history.Entry.{Entry}
use Rattle.dl_model.specs.declared.file.Decls.{Decls}
use Rattle.dl_report.specs.Layout.{Text, Ending, line_of, node_word, addressee_word, entry_words, ending_words, entry_lines, end_lines}
use Rattle.dl_report.specs.Small.{IsNoNode}
use Rattle.dl_report.specs.Spaced.{spaced}
use Rattle.dl_report.proofs.Pieces.{joined_spaced}

spaced-append : (xs ys : List Text) → spaced (xs ++ ys) ≡ spaced xs ++ spaced ys
spaced-append [] ys = refl
spaced-append (x ∷ xs) ys = ap (λ t. 32 ∷ (x ++ t)) (spaced-append xs ys) ∙ ap (λ t. 32 ∷ t) (sym (append_assoc x (spaced xs) (spaced ys)))

-- ---- words behind words

pub after : (new mid old : Text) (xs ys : List Text) → mid ≡ old ++ spaced xs → new ≡ mid ++ spaced ys → new ≡ old ++ spaced (xs ++ ys)
after new mid old xs ys p q = q ∙ (ap (λ t. t ++ spaced ys) p ∙ (append_assoc old (spaced xs) (spaced ys) ∙ ap (λ t. old ++ t) (sym (spaced-append xs ys))))

longer : (new mid old w v : Text) → mid ≡ old ++ spaced (w ∷ []) → new ≡ mid ++ v → new ≡ old ++ spaced ((w ++ v) ∷ [])
longer new mid old w v p q =
    q ∙ (ap (λ t. t ++ v) p ∙ (append_assoc old (32 ∷ (w ++ [])) v ∙ ap (λ t. old ++ (32 ∷ t)) (ap (λ u. u ++ v) (append-nil w) ∙ sym (append-nil (w ++ v)))))

one_word : (new mid old w : Text) → mid ≡ old ++ (32 ∷ []) → new ≡ mid ++ w → new ≡ old ++ spaced (w ∷ [])
one_word new mid old w p q = q ∙ (ap (λ t. t ++ w) p ∙ (append_assoc old (32 ∷ []) w ∙ ap (λ t. old ++ (32 ∷ t)) (sym (append-nil w))))

with_dot : (new mid last old label name : Text) → mid ≡ old ++ spaced (label ∷ []) → last ≡ mid ++ (46 ∷ []) → new ≡ last ++ name → new ≡ old ++ spaced ((label ++ (46 ∷ name)) ∷ [])
with_dot new mid last old label name p q r =
    longer new last old (label ++ (46 ∷ [])) name (longer last mid old label (46 ∷ []) p q) r
    ∙ ap (λ w. old ++ spaced (w ∷ [])) (append_assoc label (46 ∷ []) name)

one_line : (new mid last old w : Text) (ws : List Text) → mid ≡ old ++ w → last ≡ mid ++ spaced ws → new ≡ last ++ (10 ∷ []) → new ≡ old ++ line_of (w ∷ ws)
one_line new mid last old w ws p q r =
    r ∙ (ap (λ t. t ++ (10 ∷ [])) (q ∙ (ap (λ t. t ++ spaced ws) p ∙ append_assoc old w (spaced ws)))
    ∙ (append_assoc old (w ++ spaced ws) (10 ∷ []) ∙ ap (λ t. old ++ (t ++ (10 ∷ []))) (sym (joined_spaced w ws))))

-- ---- the same of a call that may lack memory

pub on_push : {T E : Type 0} (r : Result T E) (new old piece : Text) → new ≡ (if is_ok r then old ++ piece else old) → OnOk r (new ≡ old ++ piece)
on_push (Ok x) new old piece h = h
on_push (Err e) new old piece h = tt

-- the piece under another name
pub on_equal : {T E : Type 0} (r : Result T E) (new old a b : Text) → a ≡ b → OnOk r (new ≡ old ++ a) → OnOk r (new ≡ old ++ b)
on_equal (Ok x) new old a b e h = h ∙ ap (λ t. old ++ t) e
on_equal (Err x) new old a b e h = tt

pub on_front : {T E : Type 0} (r : Result T E) (new mid old front back : Text) → mid ≡ old ++ front → OnOk r (new ≡ mid ++ back) → OnOk r (new ≡ old ++ (front ++ back))
on_front (Ok x) new mid old front back p h = h ∙ (ap (λ t. t ++ back) p ∙ append_assoc old front back)
on_front (Err x) new mid old front back p h = tt

pub on_same : {T E : Type 0} (r : Result T E) (new old : Text) (xs ys : List Text) → xs ≡ ys → OnOk r (new ≡ old ++ spaced xs) → OnOk r (new ≡ old ++ spaced ys)
on_same (Ok x) new old xs ys e h = h ∙ ap (λ ws. old ++ spaced ws) e
on_same (Err x) new old xs ys e h = tt

pub on_after : {T E : Type 0} (r : Result T E) (new mid old : Text) (xs ys : List Text) → mid ≡ old ++ spaced xs → OnOk r (new ≡ mid ++ spaced ys) → OnOk r (new ≡ old ++ spaced (xs ++ ys))
on_after (Ok x) new mid old xs ys p h = after new mid old xs ys p h
on_after (Err x) new mid old xs ys p h = tt

pub on_longer : {T E : Type 0} (r : Result T E) (new mid old w v : Text) → mid ≡ old ++ spaced (w ∷ []) → OnOk r (new ≡ mid ++ v) → OnOk r (new ≡ old ++ spaced ((w ++ v) ∷ []))
on_longer (Ok x) new mid old w v p h = longer new mid old w v p h
on_longer (Err x) new mid old w v p h = tt

pub on_word : {T E : Type 0} (r : Result T E) (new mid old w : Text) → mid ≡ old ++ (32 ∷ []) → OnOk r (new ≡ mid ++ w) → OnOk r (new ≡ old ++ spaced (w ∷ []))
on_word (Ok x) new mid old w p h = one_word new mid old w p h
on_word (Err x) new mid old w p h = tt

pub on_dot : {T E : Type 0} (r : Result T E) (new mid last old label name : Text) → mid ≡ old ++ spaced (label ∷ []) → last ≡ mid ++ (46 ∷ []) → OnOk r (new ≡ last ++ name) →
    OnOk r (new ≡ old ++ spaced ((label ++ (46 ∷ name)) ∷ []))
on_dot (Ok x) new mid last old label name p q h = with_dot new mid last old label name p q h
on_dot (Err x) new mid last old label name p q h = tt

pub on_line : {T E : Type 0} (r : Result T E) (new mid last old w : Text) (ws : List Text) → mid ≡ old ++ w → last ≡ mid ++ spaced ws → OnOk r (new ≡ last ++ (10 ∷ [])) → OnOk r (new ≡ old ++ line_of (w ∷ ws))
on_line (Ok x) new mid last old w ws p q h = one_line new mid last old w ws p q h
on_line (Err x) new mid last old w ws p q h = tt

-- ---- addressees

not_below : (nodes n : ℕ) → nodes ≤ n → nat_lt n nodes ≡ false
not_below nodes n le = grind (arith, nat_tests)

pub addressee_node : (names : List Text) (decls : Decls) (z : ℤ) (n : ℕ) → z ≡ pos n → n < decls.inst.nodes → node_word names n ≡ addressee_word names decls z
addressee_node names decls z n e lt =
    let so : nat_lt n decls.inst.nodes ≡ true = grind (arith, nat_tests) in
    sym (ap (addressee_word names decls) e ∙ ap (λ b. if b then node_word names n else decimal n) so)

pub addressee_number : (names : List Text) (decls : Decls) (z : ℤ) → IsNoNode decls.inst.nodes z → signed_decimal z ≡ addressee_word names decls z
addressee_number names decls (pos n) not_so = sym (ap (λ b. if b then node_word names n else decimal n) (not_below decls.inst.nodes n not_so))
addressee_number names decls (negsuc n) not_so = refl

-- ---- loops

pub byte_on : (before old new : Text) (b : ℕ) (rest more : Text) → rest ≡ b ∷ more → new ≡ old ++ (b ∷ []) → old ++ rest ≡ before → new ++ more ≡ before
byte_on before old new b rest more e q h = ap (λ t. t ++ more) q ∙ (append_assoc old (b ∷ []) more ∙ (ap (λ r. old ++ r) (sym e) ∙ h))

pub integer_on : (before old new : Text) (v : ℤ) (rest more : List ℤ) → rest ≡ v ∷ more → new ≡ old ++ spaced (signed_decimal v ∷ []) →
    old ++ spaced (map signed_decimal rest) ≡ before → new ++ spaced (map signed_decimal more) ≡ before
integer_on before old new v rest more e q h =
    ap (λ t. t ++ spaced (map signed_decimal more)) q
    ∙ (append_assoc old (spaced (signed_decimal v ∷ [])) (spaced (map signed_decimal more))
    ∙ (ap (λ t. old ++ t) (sym (spaced-append (signed_decimal v ∷ []) (map signed_decimal more)))
    ∙ (ap (λ vs. old ++ spaced (map signed_decimal vs)) (sym e) ∙ h)))

pub entry_on : (names : List Text) (decls : Decls) (before old new : Text) (number next : ℕ) (entry : Entry) (rest more : List Entry) → rest ≡ entry ∷ more → next ≡ suc number →
    new ≡ old ++ line_of (entry_words names decls number entry) → old ++ concat (entry_lines names decls number rest) ≡ before → new ++ concat (entry_lines names decls next more) ≡ before
entry_on names decls before old new number next entry rest more e n q h =
    ap (λ k. new ++ concat (entry_lines names decls k more)) n
    ∙ (ap (λ t. t ++ concat (entry_lines names decls (suc number) more)) q
    ∙ (append_assoc old (line_of (entry_words names decls number entry)) (concat (entry_lines names decls (suc number) more))
    ∙ (ap (λ es. old ++ concat (entry_lines names decls number es)) (sym e) ∙ h)))

pub ending_on : (names : List Text) (before old new : Text) (ending : Ending) (rest more : List Ending) → rest ≡ ending ∷ more →
    new ≡ old ++ line_of (ending_words names ending) → old ++ concat (end_lines names rest) ≡ before → new ++ concat (end_lines names more) ≡ before
ending_on names before old new ending rest more e q h =
    ap (λ t. t ++ concat (end_lines names more)) q
    ∙ (append_assoc old (line_of (ending_words names ending)) (concat (end_lines names more))
    ∙ (ap (λ es. old ++ concat (end_lines names es)) (sym e) ∙ h))

-- ---- the whole report

pub three_parts : (b0 b1 b2 b3 head entries ends : Text) → b0 ≡ [] → b1 ≡ b0 ++ head → b2 ≡ b1 ++ entries → b3 ≡ b2 ++ ends → b3 ≡ head ++ (entries ++ ends)
three_parts b0 b1 b2 b3 head entries ends o p q r =
    r ∙ (ap (λ t. t ++ ends) (q ∙ ap (λ t. t ++ entries) (p ∙ ap (λ t. t ++ head) o)) ∙ append_assoc head entries ends)
