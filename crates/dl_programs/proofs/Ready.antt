-- Where the formula that a block asks for holds, ticks that do not stop lead to a point whose annotation holds, or to the end.
use Rattle.std.proofs.Common.{◌≡◌, ℕ, Bool, true, false, not, ◌&&◌, ◌||◌, ◌==◌, if◌then◌else◌, Some, List, [], ◌∷◌, ◌++◌, slice_get, ap, sym, ◌∙◌, inl, inr}
use Rattle.dl_term.specs.declared.syntax.Term.{Term}
use Rattle.dl_term.specs.declared.syntax.Formula.{Formula}
use Rattle.dl_term.specs.Syntax.{opened}
use Rattle.dl_term.specs.State.{State}
use Rattle.dl_term.specs.Names.{Names, with_number}
use Rattle.dl_term.specs.Meaning.{holds}
use Rattle.dl_term.specs.Measures.{has_variable}
use Rattle.dl_model.specs.declared.program.Proc.{Proc}
use Rattle.dl_model.specs.declared.file.Decls.{Decls}
use Rattle.dl_model.specs.Block.{Block, Done, Sends, Awaits, Polls, Reads, Sets, Ifs, Whiles, Calls}
use Rattle.dl_model.specs.Sorts.{is_i64, has}
use Rattle.dl_model.specs.Lookup.{arg_names, proc_at}
use Rattle.dl_model.specs.Words.{me_word, result_word, no_state}
use Rattle.dl_model.specs.Machine.{value_of, passes}
use Rattle.dl_model.specs.Spoken.{bound_names}
use Rattle.dl_model.specs.Scopes.{file_label, TermIsKnown, FormulaIsKnown}
use Rattle.dl_model.specs.Formed.{proc_variables, BlockIsFormed, IsFormed, ProcIsFormed}
use Rattle.dl_model.proofs.Small.{and-left, or-true-left, or-true-right, either-true, eqb-other}
use Rattle.dl_inv.proofs.Lists.{has-back, true-false, not-true, has-front}
use Rattle.dl_sound.specs.Obligations.{Test, ready, at_end}
use Rattle.dl_sound.proofs.Bridge.{term-free}
use Rattle.dl_triples.specs.Points.{pre_of, post_of}
use Rattle.dl_programs.proofs.Known.{file_scope, binds-none}
use Rattle.dl_programs.proofs.Put.{Spared, substituted-same}
use Rattle.dl_programs.proofs.Pure.{bare, term-pure, term-speechless, test-pure, test-wide, known-substituted}
use Rattle.dl_programs.proofs.FileBound.{own-free, post-free}
use Rattle.dl_subst.specs.Substitution.{substituted}

-- a name that the list has is not one that it lacks
pub apart-of : (xs : List ℕ) (x y : ℕ) → has xs x ≡ true → has xs y ≡ false → (y == x) ≡ false
apart-of xs x y h k = eqb-other y x (λ e. true-false (has xs y) (ap (has xs) e ∙ h) k)

-- a name that is no variable of the expression may be bound
pub expression-spares : (own : List ℕ) (x : ℕ) (new : Term) (y : ℕ) → TermIsKnown (bare own) new → has own y ≡ false → (y == x) ≡ false → Spared x new y
expression-spares own x new y h lacks other = record {
  other = other;
  variable = not-true (has_variable new y) (λ there. true-false (has own y) (term-free (bare own) y new h there) lacks);
  message = term-speechless new own y h;
}

-- what a choice asks for, by the outcome of its test
sides : (chosen left right : Bool) → ((not chosen || left) && (not (not chosen) || right)) ≡ true → (chosen ≡ true → left ≡ true) × (chosen ≡ false → right ≡ true)
sides true left right h = ((λ e. and-left left (not (not true) || right) h), (λ e. cc))
sides false left right h = ((λ e. cc), (λ e. h))

module _ (d : Decls) (number : ℕ) (proc : Proc) where
  abbrev pub variables : List ℕ
  variables = proc_variables proc

  abbrev pub IsNote : Formula → Type 0
  IsNote f = FormulaIsKnown (file_scope d.inst variables) f

  -- what a formula binds is no variable of the procedure
  pub bound-apart : (f : Formula) (y : ℕ) → IsNote f → has (bound_names f) y ≡ true → has variables y ≡ false
  bound-apart f y known there = not-true (has variables y) (λ mine. true-false (has (bound_names f) y) there (binds-none f (file_scope d.inst variables) y known mine))

  pub local-there : (x : ℕ) → has proc.locals x ≡ true → has variables x ≡ true
  local-there x h = or-true-right (x == me_word) (has (arg_names proc.params ++ proc.locals) x) (has-back (arg_names proc.params) proc.locals x h)

  pub note-spares : (f : Formula) (x : ℕ) (new : Term) → IsNote f → has variables x ≡ true → TermIsKnown (bare variables) new → (y : ℕ) → has (bound_names f) y ≡ true → Spared x new y
  note-spares f x new known mine expression y there =
      let lacks = bound-apart f y known there in expression-spares variables x new y expression lacks (apart-of variables x y mine lacks)

  pub known-set : (f : Formula) (x : ℕ) (new : Term) → IsNote f → has variables x ≡ true → TermIsKnown (bare variables) new → IsNote (substituted f x new)
  known-set f x new known mine expression =
      known-substituted (file_label d.inst) x new variables expression f variables variables [] known
      (record { stay = λ z there other. there; come = λ z there. there })
      (λ y there. let lacks = bound-apart f y known there in (lacks, apart-of variables x y mine lacks))

  -- what a block asks for is over the variables of the procedure
  pub known-pre : (block : Block) (after : Formula) → BlockIsFormed d number proc block → IsNote after → IsNote (pre_of block after)
  unfolding opened
  known-pre Done after h k = k
  known-pre (Sends note label tag to args rest) after h k = h.0.0
  known-pre (Awaits note label tag sender args rest) after h k = h.0.0
  known-pre (Polls note got label tag sender args rest) after h k = h.0.0
  known-pre (Reads note into label field index rest) after h k = h.0.0
  known-pre (Sets target new rest) after h k = known-set (pre_of rest after) target new (known-pre rest after h.2 k) (local-there target h.0.0.0) h.1.0
  known-pre (Ifs test left right rest) after h k =
      let wide = test-wide test variables (file_scope d.inst variables) h.0.0.0 h.0.1 (λ x there. there) in
      let more = known-pre rest after h.3 k in
      ((wide, known-pre left (pre_of rest after) h.1 more), (wide, known-pre right (pre_of rest after) h.2 more))
  known-pre (Whiles test note body rest) after h k = h.1.0
  known-pre (Calls note frame into callee args rest) after h k = h.0.0

  -- what is assigned
  pub set-same : (f : Formula) (x : ℕ) (new : Term) (names : Names) (state : State) → IsNote f → has variables x ≡ true → TermIsKnown (bare variables) new
      → holds (substituted f x new) names state ≡ holds f (with_number names x (value_of new names)) state
  set-same f x new names state known mine expression =
      substituted-same d.inst variables f known state x new names (with_number names x (value_of new names)) (note-spares f x new known mine expression)
      (λ z there. ap (λ v. if z == x then v else names.number z) (term-pure new variables names state no_state expression))

  pub pre-ready : (block : Block) (after : Formula) (test : Test) (names : Names) (state : State) → BlockIsFormed d number proc block → IsNote after → ((n : Names) → holds after n state ≡ true → test n state ≡ true)
      → holds (pre_of block after) names state ≡ true → ready block test names state ≡ true
  unfolding opened
  pre-ready Done after test names state h k p q = p names q
  pre-ready (Sends note label tag to args rest) after test names state h k p q = q
  pre-ready (Awaits note label tag sender args rest) after test names state h k p q = q
  pre-ready (Polls note got label tag sender args rest) after test names state h k p q = q
  pre-ready (Reads note into label field index rest) after test names state h k p q = q
  pre-ready (Sets target new rest) after test names state h k p q =
      or-true-right (not (is_i64 (value_of new names))) (ready rest test (with_number names target (value_of new names)) state)
      (pre-ready rest after test (with_number names target (value_of new names)) state h.2 k p
      (sym (set-same (pre_of rest after) target new names state (known-pre rest after h.2 k) (local-there target h.0.0.0) h.1.0) ∙ q))
  pre-ready (Ifs chosen left right rest) after test names state h k p q =
      let both = sides (holds chosen names state) (holds (pre_of left (pre_of rest after)) names state) (holds (pre_of right (pre_of rest after)) names state) q in
      let same = test-pure chosen variables names state no_state h.0.0.0 h.0.1 in
      let more = λ (n : Names). λ (e : holds (pre_of rest after) n state ≡ true). pre-ready rest after test n state h.3 k p e in
      let known = known-pre rest after h.3 k in
      at (passes chosen names) same
      (λ e. pre-ready left (pre_of rest after) (ready rest test) names state h.1 known more (both.0 e))
      (λ e. pre-ready right (pre_of rest after) (ready rest test) names state h.2 known more (both.1 e))
    where
      at : (b : Bool) → holds chosen names state ≡ b → (holds chosen names state ≡ true → ready left (ready rest test) names state ≡ true) → (holds chosen names state ≡ false → ready right (ready rest test) names state ≡ true)
          → (if b then ready left (ready rest test) names state else ready right (ready rest test) names state) ≡ true
      at true e yes_it no_it = yes_it e
      at false e yes_it no_it = no_it e
  pre-ready (Whiles chosen note body rest) after test names state h k p q = q
  pre-ready (Calls note frame into callee args rest) after test names state h k p q = q

-- ---- the end of a procedure

module _ (d : Decls) (formed : IsFormed d) (number : ℕ) (there : slice_get d.procs number ≡ Some (proc_at d.procs number)) where
  abbrev proc : Proc
  proc = proc_at d.procs number

  abbrev is_formed : ProcIsFormed d number proc
  is_formed = formed.procs number proc there

  abbrev post_variables : List ℕ
  post_variables = result_word ∷ me_word ∷ arg_names proc.params

  -- the postcondition binds no variable of the procedure, and not `result`
  post-apart : (y : ℕ) → has (bound_names proc.post) y ≡ true → (has (proc_variables proc) y ≡ false) × ((y == result_word) ≡ false)
  post-apart y bound = (
    not-true (has (proc_variables proc) y) (λ mine. elim (either-true (y == me_word) (has (arg_names proc.params ++ proc.locals) y) mine) [
      | inl e ↦ true-false (has (bound_names proc.post) y) bound (binds-none proc.post (file_scope d.inst post_variables) y is_formed.post.0 (or-true-right (y == result_word) (has (me_word ∷ arg_names proc.params) y) (or-true-left (y == me_word) (has (arg_names proc.params) y) e)))
      | inr e ↦ true-false (has (bound_names proc.post) y) bound (post-free d formed y (own-free d formed number proc y there e) number proc there)
    ]),
    not-true (y == result_word) (λ e. true-false (has (bound_names proc.post) y) bound (binds-none proc.post (file_scope d.inst post_variables) y is_formed.post.0 (or-true-left (y == result_word) (has (me_word ∷ arg_names proc.params) y) e))),
  )

  pub known-post : FormulaIsKnown (file_scope d.inst (proc_variables proc)) (post_of proc)
  known-post = known-substituted (file_label d.inst) result_word proc.result (proc_variables proc) is_formed.result.0 proc.post post_variables (proc_variables proc) [] is_formed.post.0
      (record { stay = stays; come = λ z mine. mine }) post-apart
    where
      front : (z : ℕ) → has (me_word ∷ arg_names proc.params) z ≡ true → has (proc_variables proc) z ≡ true
      front z h = elim (either-true (z == me_word) (has (arg_names proc.params) z) h) [
        | inl e ↦ or-true-left (z == me_word) (has (arg_names proc.params ++ proc.locals) z) e
        | inr e ↦ or-true-right (z == me_word) (has (arg_names proc.params ++ proc.locals) z) (has-front (arg_names proc.params) proc.locals z e)
      ]

      stays : (z : ℕ) → has post_variables z ≡ true → (z == result_word) ≡ false → has (proc_variables proc) z ≡ true
      stays z h other = elim (either-true (z == result_word) (has (me_word ∷ arg_names proc.params) z) h) [
        | inl e ↦ absurd (true-false (z == result_word) e other)
        | inr e ↦ front z e
      ]

  pub end-ready : (names : Names) (state : State) → holds (post_of proc) names state ≡ true → at_end d number names state ≡ true
  end-ready names state h =
      or-true-right (not (is_i64 (value_of proc.result names))) (holds proc.post (with_number names result_word (value_of proc.result names)) state)
      (sym (substituted-same d.inst post_variables proc.post is_formed.post.0 state result_word proc.result names (with_number names result_word (value_of proc.result names))
      (λ y bound. let p = post-apart y bound in expression-spares (proc_variables proc) result_word proc.result y is_formed.result.0 p.0 p.1)
      (λ z mine. ap (λ v. if z == result_word then v else names.number z) (term-pure proc.result (proc_variables proc) names state no_state is_formed.result.0))) ∙ h)
