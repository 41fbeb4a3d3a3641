-- What holds where a procedure starts, misses a message, reads, tests, and calls, by its valid obligations.
use Rattle.std.proofs.Common.{◌≡◌, ℕ, ◌<◌, ◌≤◌, ℤ, pos, Bool, true, false, not, ◌==◌, if◌then◌else◌, Option, Some, None, List, [], ◌∷◌, ◌++◌, slice_get, refl, ap, sym, ◌∙◌, eq-eqb, arith}
use mathlib.Core.Path.{ap₂}
use Rattle.std.specs.List.{AllByRecursion as Each}
use Rattle.dl_term.specs.declared.syntax.Term.{Term, Num}
use Rattle.dl_term.specs.declared.syntax.Formula.{Formula, Not}
use Rattle.dl_term.specs.Syntax.{opened}
use Rattle.dl_term.specs.State.{State, field_at}
use Rattle.dl_term.specs.Names.{Names, with_number}
use Rattle.dl_term.specs.Meaning.{value, holds}
use Rattle.dl_term.specs.Measures.{has_variable, has_message}
use Rattle.dl_model.specs.declared.program.Proc.{Proc}
use Rattle.dl_model.specs.declared.file.Decls.{Decls}
use Rattle.dl_model.specs.Block.{Block, block_of}
use Rattle.dl_model.specs.Sorts.{has}
use Rattle.dl_model.specs.Lookup.{arg_names, proc_at}
use Rattle.dl_model.specs.Words.{me_word, first_name, me_names, no_state}
use Rattle.dl_model.specs.Machine.{index_value, passes, entry_names}
use Rattle.dl_model.specs.Runs.{index_or_0}
use Rattle.dl_model.specs.Scopes.{IsTest, IsIndex, IsExpression}
use Rattle.dl_model.specs.Formed.{AreDistinct, proc_variables, BlockIsFormed, ProcIsFormed, IsFormed}
use Rattle.dl_model.specs.Sequents.{IsValid}
use Rattle.dl_model.proofs.Small.{or-both, or-true-left, eqb-other, lacks-back, each-back}
use Rattle.dl_inv.specs.Steps.{called}
use Rattle.dl_inv.proofs.Lists.{true-false, not-true}
use Rattle.dl_sound.specs.Obligations.{Test, ready, at_end, StandsAt, Wherever}
use Rattle.dl_triples.specs.Words.{test_word}
use Rattle.dl_triples.specs.Points.{pre_of, post_of}
use Rattle.dl_triples.specs.Obligations.{put, start_sequent, assigned_sequent, term_read, tested_sequent}
use Rattle.dl_programs.proofs.Known.{file-same, holds-like, value-like}
use Rattle.dl_programs.proofs.Put.{later-number, put-same, substituted-same}
use Rattle.dl_programs.proofs.Pure.{bare, term-pure, term-speechless, test-pure}
use Rattle.dl_programs.proofs.Ready.{IsNote, bound-apart, local-there, apart-of, expression-spares, set-same, known-pre, known-post, end-ready, pre-ready}
use Rattle.dl_programs.proofs.Standing.{plain, plain-follows, valid-where}
use Rattle.dl_subst.specs.Substitution.{substituted, term_for}

-- ---- names of a procedure

small-absent : (xs : List ℕ) (n : ℕ) → n < first_name → Each (λ x. first_name ≤ x) xs → has xs n ≡ false
small-absent [] n b h = refl
small-absent (x ∷ xs) n b h = or-both (n == x) (has xs n) (eqb-other n x (λ e. let l = h.0 in omega arith)) (small-absent xs n b h.1)

pub back-not-front : (xs ys : List ℕ) (n : ℕ) → AreDistinct (xs ++ ys) → has ys n ≡ true → has xs n ≡ false
back-not-front [] ys n h e = refl
back-not-front (x ∷ xs) ys n h e =
    or-both (n == x) (has xs n) (eqb-other n x (λ same. true-false (has ys n) e (ap (has ys) same ∙ lacks-back xs ys x h.0))) (back-not-front xs ys n h.1 e)

module _ (d : Decls) (formed : IsFormed d) (number : ℕ) (there : slice_get d.procs number ≡ Some (proc_at d.procs number)) where
  abbrev proc : Proc
  proc = proc_at d.procs number

  abbrev is_formed : ProcIsFormed d number proc
  is_formed = formed.procs number proc there

  -- a local is no parameter, and not `me`
  local-apart : (x : ℕ) → has proc.locals x ≡ true → (has (arg_names proc.params) x ≡ false) × ((x == me_word) ≡ false)
  local-apart x h = (
    back-not-front (arg_names proc.params) proc.locals x is_formed.names.distinct h,
    eqb-other x me_word (λ e. true-false (has proc.locals x) h (ap (has proc.locals) e ∙ small-absent proc.locals me_word (omega arith) (each-back _ (arg_names proc.params) proc.locals is_formed.names.allowed))),
  )

  -- ---- the start

  nothing-put : (xs : List ℕ) (z : ℕ) → term_for (Num (pos 0)) xs [] z ≡ Num (pos 0)
  nothing-put [] z = refl
  nothing-put (x ∷ xs) z = refl

  entry-local : (node : ℕ) (args : List ℤ) (z : ℕ) → has proc.locals z ≡ true → (entry_names proc (pos node) args).number z ≡ pos 0
  entry-local node args z h =
      later-number (me_names 0 (pos node)) (arg_names proc.params) args z (local-apart z h).0 ∙ ap (λ b. if b then pos node else pos 0) (local-apart z h).1

  pub started : IsValid d.inst (start_sequent d proc) → (node : ℕ) (args : List ℤ) (state : State) → StandsAt d number node (entry_names proc (pos node) args) state proc.pre
      → ready (block_of proc.body) (at_end d number) (entry_names proc (pos node) args) state ≡ true
  started valid node args state stands =
      let names = entry_names proc (pos node) args in
      let asked = pre_of (block_of proc.body) (post_of proc) in
      let known = known-pre d number proc (block_of proc.body) (post_of proc) is_formed.body (known-post d formed number there) in
      pre-ready d number proc (block_of proc.body) (post_of proc) (at_end d number) names state is_formed.body (known-post d formed number there)
      (λ n e. end-ready d formed number there n state e)
      (sym (put-same d.inst (proc_variables proc) asked known state proc.locals [] (plain names) names
      (λ y bound. record { other = not-true (has proc.locals y) (λ mine. true-false (has (proc_variables proc) y) (local-there d number proc y mine) (bound-apart d number proc asked y known bound)); variable = tt; message = tt })
      (λ z mine. at z (has proc.locals z) refl))
      ∙ valid-where d formed number node names state proc.pre stands (plain names) (plain-follows d formed number names)
      (sym (file-same d.inst (me_word ∷ arg_names proc.params) proc.pre names (plain names) state is_formed.pre.0 (λ x mine. refl)) ∙ stands.true_there) [] (put asked proc.locals []) valid tt)
    where
      at : (z : ℕ) (b : Bool) → has proc.locals z ≡ b → (if b then value (term_for (Num (pos 0)) proc.locals [] z) (plain (entry_names proc (pos node) args)) state else (entry_names proc (pos node) args).number z) ≡ (entry_names proc (pos node) args).number z
      at z true e = ap (λ t. value t (plain (entry_names proc (pos node) args)) state) (nothing-put proc.locals z) ∙ sym (entry-local node args z e)
      at z false e = refl

  -- ---- at a point: what follows it is ready

  module _ (rest : Block) (after : Formula) (test : Test) (formed_rest : BlockIsFormed d number proc rest) (known_after : IsNote d number proc after) (ends : (n : Names) (state : State) → holds after n state ≡ true → test n state ≡ true) where
    abbrev next : Formula
    next = pre_of rest after

    known-next : IsNote d number proc next
    known-next = known-pre d number proc rest after formed_rest known_after

    pub next-ready : (names : Names) (state : State) → holds next names state ≡ true → ready rest test names state ≡ true
    next-ready names state h = pre-ready d number proc rest after test names state formed_rest known_after (λ n e. ends n state e) h

    -- the names of the obligation, or those of the program
    next-same : (n names : Names) (state : State) → ((x : ℕ) → has (proc_variables proc) x ≡ true → n.number x ≡ names.number x) → holds next n state ≡ holds next names state
    next-same n names state same = file-same d.inst (proc_variables proc) next n names state known-next same

    module _ (note : Formula) (noted : IsNote d number proc note) where
      note-plain : (names : Names) (state : State) → holds note names state ≡ true → holds note (plain names) state ≡ true
      note-plain names state h = file-same d.inst (proc_variables proc) note (plain names) names state noted (λ x mine. refl) ∙ h

      pub missed : (got : ℕ) → has proc.locals got ≡ true → IsValid d.inst (assigned_sequent d proc note got (Num (pos 0)) next)
          → Wherever d number note (λ node names state. ready rest test (with_number names got (pos 0)) state ≡ true)
      missed got mine valid node names state stands =
          next-ready (with_number names got (pos 0)) state
          (sym (next-same (with_number (plain names) got (pos 0)) (with_number names got (pos 0)) state (λ x there. refl))
          ∙ sym (set-same d number proc next got (Num (pos 0)) (plain names) state known-next (local-there d number proc got mine) refl)
          ∙ valid-where d formed number node names state note stands (plain names) (plain-follows d formed number names) (note-plain names state stands.true_there) [] (substituted next got (Num (pos 0))) valid tt)

      -- what is read speaks of `me` and the index alone
      read-variable : (label field : ℕ) (index : Option Term) (y : ℕ) → IsIndex (IsExpression (proc_variables proc)) index → has (proc_variables proc) y ≡ false → has_variable (term_read label field index) y ≡ false
      unfolding opened
      read-variable label field None y h lacks = me-other y lacks
        where
          me-other : (y : ℕ) → has (proc_variables proc) y ≡ false → (me_word == y) ≡ false
          me-other y lacks = eqb-other me_word y (λ e. true-false (has (proc_variables proc) y) (or-true-left (y == me_word) (has (arg_names proc.params ++ proc.locals) y) (eq-eqb y me_word (sym e))) lacks)
      read-variable label field (Some index) y h lacks =
          or-both (me_word == y) (has_variable index y)
          (eqb-other me_word y (λ e. true-false (has (proc_variables proc) y) (or-true-left (y == me_word) (has (arg_names proc.params ++ proc.locals) y) (eq-eqb y me_word (sym e))) lacks))
          (expression-spares (proc_variables proc) me_word index y h.0 lacks (apart-of (proc_variables proc) me_word y (or-true-left (me_word == me_word) (has (arg_names proc.params ++ proc.locals) me_word) refl) lacks)).variable

      read-message : (label field : ℕ) (index : Option Term) (y : ℕ) → IsIndex (IsExpression (proc_variables proc)) index → has_message (term_read label field index) y ≡ false
      unfolding opened
      read-message label field None y h = refl
      read-message label field (Some index) y h = term-speechless index (proc_variables proc) y h.0

      read-value : (label field node : ℕ) (index : Option Term) (names n : Names) (state : State) → IsIndex (IsExpression (proc_variables proc)) index → n.number me_word ≡ pos node → n.own ≡ 0 → ((x : ℕ) → n.number x ≡ names.number x)
          → value (term_read label field index) n state ≡ field_at state label field (pos node) (index_or_0 (index_value index names))
      unfolding opened
      read-value label field node None names n state h me own same = ap (λ v. field_at state label field v (pos 0)) me
      read-value label field node (Some index) names n state h me own same =
          ap₂ (λ v w. field_at state label field v w) me
          (value-like index (bare (proc_variables proc)) n names state h.0 (record { labels = λ l e. cc; numbers = λ x mine. same x; messages = λ k e. cc })
          ∙ term-pure index (proc_variables proc) names state no_state h.0)

      pub was-read : (into label field : ℕ) (index : Option Term) → has proc.locals into ≡ true → IsIndex (IsExpression (proc_variables proc)) index → IsValid d.inst (assigned_sequent d proc note into (term_read label field index) next)
          → Wherever d number note (λ node names state. ready rest test (with_number names into (field_at state label field (pos node) (index_or_0 (index_value index names)))) state ≡ true)
      was-read into label field index mine is_index valid node names state stands =
          let v = field_at state label field (pos node) (index_or_0 (index_value index names)) in
          next-ready (with_number names into v) state
          (sym (substituted-same d.inst (proc_variables proc) next known-next state into (term_read label field index) (plain names) (with_number names into v)
          (λ y bound. let lacks = bound-apart d number proc next y known-next bound in record {
            other = apart-of (proc_variables proc) into y (local-there d number proc into mine) lacks;
            variable = read-variable label field index y is_index lacks;
            message = read-message label field index y is_index;
          })
          (λ z there. ap (λ w. if z == into then w else names.number z) (read-value label field node index names (plain names) state is_index stands.named.me refl (λ x. refl))))
          ∙ valid-where d formed number node names state note stands (plain names) (plain-follows d formed number names) (note-plain names state stands.true_there) [] (substituted next into (term_read label field index)) valid tt)

  -- ---- a loop

  module _ (chosen note : Formula) (tested : IsTest (proc_variables proc) chosen) (noted : IsNote d number proc note) where
    noted-plain : (names : Names) (state : State) → holds note names state ≡ true → holds note (plain names) state ≡ true
    noted-plain names state h = file-same d.inst (proc_variables proc) note (plain names) names state noted (λ x mine. refl) ∙ h

    -- a test reads numbers alone
    test-plain : (names : Names) (state : State) → holds chosen (plain names) state ≡ passes chosen names
    test-plain names state =
        holds-like chosen (bare (proc_variables proc)) (plain names) names state tested.0.0 (record { labels = λ l e. cc; numbers = λ x mine. refl; messages = λ k e. cc })
        ∙ test-pure chosen (proc_variables proc) names state no_state tested.0.0 tested.1

    test-denied : (names : Names) (state : State) → passes chosen names ≡ false → holds (Not chosen) (plain names) state ≡ true
    unfolding opened
    test-denied names state failed = ap not (test-plain names state ∙ failed)

    pub turns : (body : Block) → BlockIsFormed d number proc body → IsValid d.inst (tested_sequent d proc note chosen (pre_of body note))
        → Wherever d number note (λ node names state. passes chosen names ≡ true → ready body (λ n s. holds note n s) names state ≡ true)
    turns body formed_body valid node names state stands passed =
        next-ready body note (λ n s. holds note n s) formed_body noted (λ n s e. e) names state
        (sym (next-same body note (λ n s. holds note n s) formed_body noted (λ n s e. e) (plain names) names state (λ x mine. refl))
        ∙ valid-where d formed number node names state note stands (plain names) (plain-follows d formed number names) (noted-plain names state stands.true_there) (called test_word chosen ∷ []) (pre_of body note) valid
        (test-plain names state ∙ passed, tt))

    pub exits : (rest : Block) (after : Formula) (test : Test) → BlockIsFormed d number proc rest → IsNote d number proc after → ((n : Names) (state : State) → holds after n state ≡ true → test n state ≡ true)
        → IsValid d.inst (tested_sequent d proc note (Not chosen) (pre_of rest after)) → Wherever d number note (λ node names state. passes chosen names ≡ false → ready rest test names state ≡ true)
    exits rest after test formed_rest known_after ends valid node names state stands failed =
        next-ready rest after test formed_rest known_after ends names state
        (sym (next-same rest after test formed_rest known_after ends (plain names) names state (λ x mine. refl))
        ∙ valid-where d formed number node names state note stands (plain names) (plain-follows d formed number names) (noted-plain names state stands.true_there) (called test_word (Not chosen) ∷ []) (pre_of rest after) valid
        (test-denied names state failed, tt))
