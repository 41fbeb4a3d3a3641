-- What holds where a procedure is called and where its call returns, by the valid obligations of the call.
use Rattle.std.proofs.Common.{◌≡◌, ℕ, ◌<◌, ◌≤◌, ℤ, pos, Bool, true, false, ◌==◌, if◌then◌else◌, Some, None, List, [], ◌∷◌, ◌++◌, length, slice_get, unwrap_or, refl, ap, sym, ◌∙◌, eq-eqb, arith, inl, inr}
use Rattle.std.proofs.lemmas.Bool.{eqb-true}
use Rattle.std.specs.List.{AllByRecursion as Each, AllZip}
use Rattle.dl_term.specs.declared.syntax.Sort.{Sort}
use Rattle.dl_term.specs.declared.syntax.Term.{Term, Var}
use Rattle.dl_term.specs.declared.syntax.Formula.{Formula}
use Rattle.dl_term.specs.State.{State}
use Rattle.dl_term.specs.Names.{Names, with_number}
use Rattle.dl_term.specs.Meaning.{value, holds}
use Rattle.dl_term.specs.Measures.{has_variable, has_message}
use Rattle.dl_model.specs.declared.protocol.FieldDecl.{FieldDecl}
use Rattle.dl_model.specs.declared.program.Proc.{Proc}
use Rattle.dl_model.specs.declared.file.Decls.{Decls}
use Rattle.dl_model.specs.Block.{Block}
use Rattle.dl_model.specs.Sorts.{in_sort, all_in_sorts, is_i64, has}
use Rattle.dl_model.specs.Lookup.{Parameter, arg_names, arg_sorts, proc_at, no_proc}
use Rattle.dl_model.specs.Words.{me_word, result_word, me_names, with_numbers, no_state, first_name}
use Rattle.dl_model.specs.Machine.{value_of, values_of, entry_names}
use Rattle.dl_model.specs.Safe.{post_names}
use Rattle.dl_model.specs.Spoken.{bound_names}
use Rattle.dl_model.specs.Scopes.{TermIsKnown, IsExpression}
use Rattle.dl_model.specs.Formed.{proc_variables, BlockIsFormed, ProcIsFormed, FieldIsFormed, IsFormed}
use Rattle.dl_model.specs.Sequents.{IsValid, Fits}
use Rattle.dl_model.proofs.Small.{and-both, or-both, or-true-left, or-true-right, either-true, eqb-other, each-front, each-back, each-map}
use Rattle.dl_sequent.specs.Grounds.{IsGrounded}
use Rattle.dl_wp.proofs.Model.{zip-covers, length-map}
use Rattle.dl_inv.specs.Steps.{called}
use Rattle.dl_inv.specs.Joined.{all_of}
use Rattle.dl_inv.proofs.Lists.{true-false, not-true, each-append}
use Rattle.dl_sound.specs.Obligations.{Test, ready, StandsAt, Wherever}
use Rattle.dl_sound.proofs.Members.{get-within, within-get}
use Rattle.dl_sound.proofs.Hypotheses.{IsTrue}
use Rattle.dl_triples.specs.Words.{post_word, frame_word}
use Rattle.dl_triples.specs.Points.{pre_of}
use Rattle.dl_triples.specs.Obligations.{int_sort, put, all_in_sort, known_in, facts_in, enter_sequent, leave_sequent, vars_of}
use Rattle.dl_programs.proofs.Known.{file_scope, file-same, binds-none, value-like}
use Rattle.dl_programs.proofs.Put.{AllSpared, number_put, later-number, put-numbers, put-same, substituted-same}
use Rattle.dl_programs.proofs.Pure.{bare, term-pure, term-speechless}
use Rattle.dl_programs.proofs.FileBound.{own-free, pre-free, post-free}
use Rattle.dl_programs.proofs.Ready.{IsNote, bound-apart, local-there, apart-of, expression-spares, known-pre}
use Rattle.dl_programs.proofs.Standing.{plain, Follows, plain-follows, valid-where, fits-where, vars-fit, world-facts, all-held, in-sort-held}
use Rattle.dl_programs.proofs.Places.{next-ready}
use Rattle.dl_inv.specs.Obligations.{with_sort}
use Rattle.dl_model.specs.States.{IsWellSorted}
use Rattle.dl_model.specs.declared.sequent.Sequent.{Sequent}

-- ---- procedures that are there

pub proc-there : (procs : List Proc) (c : ℕ) → c < length procs → slice_get procs c ≡ Some (proc_at procs c)
proc-there procs c h = let w = within-get procs c h in w.1 ∙ ap Some (sym (ap (λ o. unwrap_or o no_proc) w.1))

pub is-grounded : (d : Decls) → IsFormed d → IsGrounded d.inst
is-grounded d formed = record {
  zeros = λ p protocol e. each-map (FieldIsFormed d.inst.nodes) (λ (field : FieldDecl). in_sort field.sort (pos 0) ≡ true) protocol.fields (formed.inst.protocols p protocol e).fields (λ f h. h.sort.holds_zero);
}

-- ---- expressions

-- an expression has one value for all names with these numbers, in each state
pub expression-same : (t : Term) (variables : List ℕ) (n names : Names) (state : State) → TermIsKnown (bare variables) t → ((x : ℕ) → has variables x ≡ true → n.number x ≡ names.number x) → value t n state ≡ value_of t names
expression-same t variables n names state h same =
    value-like t (bare variables) n names state h (record { labels = λ l e. cc; numbers = same; messages = λ k e. cc }) ∙ term-pure t variables names state no_state h

pub values-zip : (ts : List Term) (variables : List ℕ) (n names : Names) (state : State) → Each (IsExpression variables) ts → ((x : ℕ) → has variables x ≡ true → n.number x ≡ names.number x) → AllZip (λ t v. value t n state ≡ v) ts (values_of ts names)
values-zip [] variables n names state h same = tt
values-zip (t ∷ ts) variables n names state h same = (expression-same t variables n names state h.0.0 same, values-zip ts variables n names state h.1 same)

with-numbers-at : (base other : Names) (xs : List ℕ) (values : List ℤ) (x : ℕ) → base.number x ≡ other.number x → (with_numbers base xs values).number x ≡ (with_numbers other xs values).number x
with-numbers-at base other [] values x e = e
with-numbers-at base other (y ∷ ys) [] x e = e
with-numbers-at base other (y ∷ ys) (v ∷ vs) x e = with-numbers-at (with_number base y v) (with_number other y v) ys vs x (ap (λ n. if x == y then v else n) e)

-- one more name, before or after the others
number-first : (base : Names) (r : ℕ) (v : ℤ) (xs : List ℕ) (values : List ℤ) (x : ℕ) → has xs r ≡ false → (with_numbers (with_number base r v) xs values).number x ≡ (with_number (with_numbers base xs values) r v).number x
number-first base r v xs values x lacks = at (x == r) refl
  where
    at : (b : Bool) → (x == r) ≡ b → (with_numbers (with_number base r v) xs values).number x ≡ (if x == r then v else (with_numbers base xs values).number x)
    at true e =
        later-number (with_number base r v) xs values x (ap (has xs) (eqb-true x r e) ∙ lacks)
        ∙ ap (λ b. if b then v else base.number x) e ∙ sym (ap (λ b. if b then v else (with_numbers base xs values).number x) e)
    at false e =
        with-numbers-at (with_number base r v) base xs values x (ap (λ b. if b then v else base.number x) e)
        ∙ sym (ap (λ b. if b then v else (with_numbers base xs values).number x) e)

module _ (d : Decls) (formed : IsFormed d) (number : ℕ) (there : slice_get d.procs number ≡ Some (proc_at d.procs number)) where
  abbrev proc : Proc
  proc = proc_at d.procs number

  abbrev variables : List ℕ
  variables = proc_variables proc

  -- a formula that binds no parameter or local and not `me` binds no variable
  pub foreign-apart : (f : Formula) (y : ℕ) → has (bound_names f) me_word ≡ false → ((x : ℕ) → has (arg_names proc.params ++ proc.locals) x ≡ true → has (bound_names f) x ≡ false) → has (bound_names f) y ≡ true → has variables y ≡ false
  foreign-apart f y no_me no_own bound = not-true (has variables y) (λ mine. elim (either-true (y == me_word) (has (arg_names proc.params ++ proc.locals) y) mine) [
    | inl e ↦ true-false (has (bound_names f) y) bound (ap (has (bound_names f)) (eqb-true y me_word e) ∙ no_me)
    | inr e ↦ true-false (has (bound_names f) y) bound (no_own y e)
  ])

  -- arguments speak of no name that such a formula binds
  args-lack : (args : List Term) (y : ℕ) → Each (IsExpression variables) args → has variables y ≡ false → Each (λ t. has_variable t y ≡ false) args
  args-lack [] y h lacks = tt
  args-lack (t ∷ ts) y h lacks =
      ((expression-spares variables me_word t y h.0.0 lacks (apart-of variables me_word y (or-true-left (me_word == me_word) (has (arg_names proc.params ++ proc.locals) me_word) refl) lacks)).variable, args-lack ts y h.1 lacks)

  args-speechless : (args : List Term) (y : ℕ) → Each (IsExpression variables) args → Each (λ t. has_message t y ≡ false) args
  args-speechless [] y h = tt
  args-speechless (t ∷ ts) y h = (term-speechless t variables y h.0.0, args-speechless ts y h.1)

  args-sorted : (n names : Names) (state : State) (s : Sequent) → s.own ≡ None → IsWellSorted d.inst state → Fits s 0 state n
      → ((x : ℕ) → has variables x ≡ true → n.number x ≡ names.number x) → (args : List Term) (sorts : List Sort) → length args ≡ length sorts → Each (IsExpression variables) args → Each (IsTrue n state) (all_in_sort d.inst s args sorts)
      → all_in_sorts sorts (values_of args names) ≡ true
  args-sorted n names state s owner sorted fits same [] [] e h k = refl
  args-sorted n names state s owner sorted fits same [] (sort ∷ sorts) e h k = absurd (omega (e, arith))
  args-sorted n names state s owner sorted fits same (t ∷ ts) [] e h k = absurd (omega (e, arith))
  args-sorted n names state s owner sorted fits same (t ∷ ts) (sort ∷ sorts) e h k =
      and-both (in_sort sort (value_of t names)) (all_in_sorts sorts (values_of ts names))
      (ap (in_sort sort) (sym (expression-same t variables n names state h.0.0 same)) ∙ in-sort-held n state d.inst s (is-grounded d formed) owner sorted fits t sort k.0)
      (args-sorted n names state s owner sorted fits same ts sorts (omega (e, arith)) h.1 k.1)

  module _ (c : ℕ) (earlier : c < number) (args : List Term) (count : length args ≡ length (proc_at d.procs c).params) (expressions : Each (IsExpression (proc_variables (proc_at d.procs number))) args) where
    abbrev callee : Proc
    callee = proc_at d.procs c

    abbrev params : List ℕ
    params = arg_names callee.params

    callee-there : slice_get d.procs c ≡ Some callee
    callee-there = let w = get-within d.procs number proc there in proc-there d.procs c (omega (w, earlier, arith))

    callee-formed : ProcIsFormed d c callee
    callee-formed = formed.procs c callee callee-there

    params-count : length params ≡ length args
    params-count = length-map (λ (p : Parameter). p.0) callee.params ∙ sym count

    values-count : (names : Names) → length (values_of args names) ≡ length args
    values-count names = length-map (λ t. value_of t names) args

    -- ---- the call

    pre-apart : (y : ℕ) → has (bound_names callee.pre) y ≡ true → AllSpared params args y
    pre-apart y bound =
        let lacks = foreign-apart callee.pre y
        (binds-none callee.pre (file_scope d.inst (me_word ∷ params)) me_word callee-formed.pre.0 (or-true-left (me_word == me_word) (has params me_word) refl))
        (λ x mine. pre-free d formed x (own-free d formed number proc x there mine) c callee callee-there) bound in
        record {
          other = not-true (has params y) (λ mine. true-false (has (bound_names callee.pre) y) bound (binds-none callee.pre (file_scope d.inst (me_word ∷ params)) y callee-formed.pre.0 (or-true-right (y == me_word) (has params y) mine)));
          variable = args-lack args y expressions lacks;
          message = args-speechless args y expressions;
        }

    entry-number : (node : ℕ) (n names : Names) (state : State) → n.number me_word ≡ pos node → ((x : ℕ) → has variables x ≡ true → n.number x ≡ names.number x) → (z : ℕ) → has (me_word ∷ params) z ≡ true
        → number_put n state params args z ≡ (entry_names callee (pos node) (values_of args names)).number z
    entry-number node n names state me same z mine =
        put-numbers n state params args (values_of args names) (me_names 0 (pos node)) z
        (zip-covers n state params args (values_of args names) (values-zip args variables n names state expressions same))
        (let e = params-count in let f = values-count names in omega (e, f, arith))
        (λ lack. elim (either-true (z == me_word) (has params z) mine) [
          | inl e ↦ ap n.number (eqb-true z me_word e) ∙ me ∙ sym (ap (λ b. if b then pos node else pos 0) e)
          | inr e ↦ absurd (true-false (has params z) e lack)
        ])

    module _ (note frame : Formula) (noted : IsNote d number proc note) (framed : IsNote d number proc frame) where
      goals-hold : IsValid d.inst (enter_sequent d proc note frame callee args) → (node : ℕ) (names : Names) (state : State) → StandsAt d number node names state note
          → Each (IsTrue (plain names) state) (all_in_sort d.inst (known_in d proc) args (arg_sorts callee.params) ++ (put callee.pre params args ∷ frame ∷ []))
      goals-hold valid node names state stands =
          all-held (plain names) state (all_in_sort d.inst (known_in d proc) args (arg_sorts callee.params) ++ (put callee.pre params args ∷ frame ∷ []))
          (valid-where d formed number node names state note stands (plain names) (plain-follows d formed number names)
          (file-same d.inst variables note (plain names) names state noted (λ x mine. refl) ∙ stands.true_there) []
          (all_of (all_in_sort d.inst (known_in d proc) args (arg_sorts callee.params) ++ (put callee.pre params args ∷ frame ∷ []))) valid tt)

      pub call-sorted : IsValid d.inst (enter_sequent d proc note frame callee args) → Wherever d number note (λ node names state. all_in_sorts (arg_sorts callee.params) (values_of args names) ≡ true)
      call-sorted valid node names state stands =
          args-sorted (plain names) names state (known_in d proc) refl stands.sorted
          (fits-where d formed number node names state note stands (plain names) (plain-follows d formed number names) (file-same d.inst variables note (plain names) names state noted (λ x mine. refl) ∙ stands.true_there))
          (λ x mine. refl) args (arg_sorts callee.params) (count ∙ sym (length-map (λ (p : Parameter). p.1) callee.params)) expressions
          (each-front (IsTrue (plain names) state) (all_in_sort d.inst (known_in d proc) args (arg_sorts callee.params)) (put callee.pre params args ∷ frame ∷ []) (goals-hold valid node names state stands))

      pub call-entered : IsValid d.inst (enter_sequent d proc note frame callee args) → Wherever d number note (λ node names state. holds callee.pre (entry_names callee (pos node) (values_of args names)) state ≡ true)
      call-entered valid node names state stands =
          sym (put-same d.inst (me_word ∷ params) callee.pre callee-formed.pre.0 state params args (plain names) (entry_names callee (pos node) (values_of args names)) pre-apart
          (entry-number node (plain names) names state stands.named.me (λ x mine. refl)))
          ∙ (each-back (IsTrue (plain names) state) (all_in_sort d.inst (known_in d proc) args (arg_sorts callee.params)) (put callee.pre params args ∷ frame ∷ []) (goals-hold valid node names state stands)).0

      pub call-framed : IsValid d.inst (enter_sequent d proc note frame callee args) → Wherever d number note (λ node names state. holds frame names state ≡ true)
      call-framed valid node names state stands =
          sym (file-same d.inst variables frame (plain names) names state framed (λ x mine. refl))
          ∙ (each-back (IsTrue (plain names) state) (all_in_sort d.inst (known_in d proc) args (arg_sorts callee.params)) (put callee.pre params args ∷ frame ∷ []) (goals-hold valid node names state stands)).1.0

    -- ---- the return

    module _ (frame : Formula) (framed : IsNote d number proc frame) (into : ℕ) (target : has (proc_at d.procs number).locals into ≡ true) (rest : Block) (after : Formula) (test : Test) (formed_rest : BlockIsFormed d number proc rest) (known_after : IsNote d number proc after)
        (ends : (n : Names) (state : State) → holds after n state ≡ true → test n state ≡ true) (z : ℕ) (new : has variables z ≡ false) (unbound_post : has (bound_names callee.post) z ≡ false) (unbound_next : has (bound_names (pre_of rest after)) z ≡ false) where
      abbrev next : Formula
      next = pre_of rest after

      -- the name of what was returned is none of the variables
      other-name : (x : ℕ) → has variables x ≡ true → (x == z) ≡ false
      other-name x mine = eqb-other x z (λ e. true-false (has variables x) mine (ap (has variables) e ∙ new))

      post-apart : (y : ℕ) → has (bound_names callee.post) y ≡ true → AllSpared (result_word ∷ params) (Var z ∷ args) y
      post-apart y bound =
          let lacks = foreign-apart callee.post y
          (binds-none callee.post (file_scope d.inst (result_word ∷ me_word ∷ params)) me_word callee-formed.post.0 (or-true-right (me_word == result_word) (has (me_word ∷ params) me_word) (or-true-left (me_word == me_word) (has params me_word) refl)))
          (λ x mine. post-free d formed x (own-free d formed number proc x there mine) c callee callee-there) bound in
          record {
            other = not-true (has (result_word ∷ params) y) (λ mine. true-false (has (bound_names callee.post) y) bound (binds-none callee.post (file_scope d.inst (result_word ∷ me_word ∷ params)) y callee-formed.post.0 (wider y mine)));
            variable = (eqb-other z y (λ e. true-false (has (bound_names callee.post) y) bound (ap (has (bound_names callee.post)) (sym e) ∙ unbound_post)), args-lack args y expressions lacks);
            message = (refl, args-speechless args y expressions);
          }
        where
          wider : (y : ℕ) → has (result_word ∷ params) y ≡ true → has (result_word ∷ me_word ∷ params) y ≡ true
          wider y mine = elim (either-true (y == result_word) (has params y) mine) [
            | inl e ↦ or-true-left (y == result_word) (has (me_word ∷ params) y) e
            | inr e ↦ or-true-right (y == result_word) (has (me_word ∷ params) y) (or-true-right (y == me_word) (has params y) e)
          ]

      -- `result` is no parameter
      result-apart : has params result_word ≡ false
      result-apart = at callee.params (each-front _ params callee.locals callee-formed.names.allowed)
        where
          at : (ps : List Parameter) → Each (λ x. first_name ≤ x) (arg_names ps) → has (arg_names ps) result_word ≡ false
          at [] h = refl
          at (p ∷ ps) h = or-both (result_word == p.0) (has (arg_names ps) result_word) (eqb-other result_word p.0 (λ e. let l = h.0 in omega arith)) (at ps h.1)

      returned-is : (names : Names) (v : ℤ) → (with_number (plain names) z v).number z ≡ v
      returned-is names v = ap (λ b. if b then v else names.number z) (eq-eqb z z refl)

      then-same : (names : Names) (v : ℤ) (x : ℕ) → has variables x ≡ true → (with_number (plain names) z v).number x ≡ names.number x
      then-same names v x mine = ap (λ b. if b then v else names.number x) (other-name x mine)

      post-number : (node : ℕ) (names : Names) (v : ℤ) (state : State) → names.number me_word ≡ pos node → (x : ℕ) → has (result_word ∷ me_word ∷ params) x ≡ true
          → number_put (with_number (plain names) z v) state (result_word ∷ params) (Var z ∷ args) x ≡ (post_names d c node (values_of args names) v).number x
      post-number node names v state me x mine =
          put-numbers (with_number (plain names) z v) state (result_word ∷ params) (Var z ∷ args) (v ∷ values_of args names) (me_names 0 (pos node)) x
          (returned-is names v, zip-covers (with_number (plain names) z v) state params args (values_of args names) (values-zip args variables (with_number (plain names) z v) names state expressions (then-same names v)))
          (let e = params-count in let f = values-count names in omega (e, f, arith))
          (λ lack. elim (either-true (x == result_word) (has (me_word ∷ params) x) mine) [
            | inl e ↦ absurd (true-false (has (result_word ∷ params) x) (or-true-left (x == result_word) (has params x) e) lack)
            | inr r ↦ elim (either-true (x == me_word) (has params x) r) [
              | inl e ↦ then-same names v x (or-true-left (x == me_word) (has (arg_names proc.params ++ proc.locals) x) e) ∙ ap names.number (eqb-true x me_word e) ∙ me ∙ sym (ap (λ b. if b then pos node else pos 0) e)
              | inr e ↦ absurd (true-false (has (result_word ∷ params) x) (or-true-right (x == result_word) (has params x) e) lack)
            ]
          ])
          ∙ number-first (me_names 0 (pos node)) result_word v params (values_of args names) x result-apart

      pub call-left : IsValid d.inst (leave_sequent d proc frame into callee args z next)
          → Wherever d number frame (λ node names state. (v : ℤ) → is_i64 v ≡ true → holds callee.post (post_names d c node (values_of args names) v) state ≡ true → ready rest test (with_number names into v) state ≡ true)
      call-left valid node names state stands v range post =
          let n = with_number (plain names) z v in
          let follows : Follows d formed number n names = record { own = refl; same = then-same names v } in
          let frame_there = file-same d.inst variables frame n names state framed (then-same names v) ∙ stands.true_there in
          next-ready d formed number there rest after test formed_rest known_after ends (with_number names into v) state
          (sym (substituted-same d.inst variables next (known-pre d number proc rest after formed_rest known_after) state into (Var z) n (with_number names into v)
          (λ y bound. let lacks = bound-apart d number proc next y (known-pre d number proc rest after formed_rest known_after) bound in record {
            other = apart-of variables into y (local-there d number proc into target) lacks;
            variable = eqb-other z y (λ e. true-false (has (bound_names next) y) bound (ap (has (bound_names next)) (sym e) ∙ unbound_next));
            message = refl;
          })
          (λ x mine. ap (λ w. if x == into then w else n.number x) (returned-is names v) ∙ ap (λ w. if x == into then v else w) (then-same names v x mine)))
          ∙ valid 0 state n stands.sorted
          (record {
            own_label = refl;
            variables = each-append (λ p. in_sort p.1 (n.number p.0) ≡ true) (vars_of d proc) (with_sort int_sort z ∷ [])
                (vars-fit d formed number node names n stands.named follows) (ap is_i64 (returned-is names v) ∙ range, tt);
            messages = tt;
          })
          (each-append (λ h. holds h.formula n state ≡ true) (facts_in d proc) (called post_word (put callee.post (result_word ∷ params) (Var z ∷ args)) ∷ called frame_word frame ∷ [])
          (world-facts d formed number node names state frame stands n follows frame_there) (
            put-same d.inst (result_word ∷ me_word ∷ params) callee.post callee-formed.post.0 state (result_word ∷ params) (Var z ∷ args) n (post_names d c node (values_of args names) v) post-apart
                (post-number node names v state stands.named.me) ∙ post,
            (frame_there, tt),
          )))
