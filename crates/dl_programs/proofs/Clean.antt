-- Each obligation of programs is a clean sequent, with distinct names that are none of its variables and that no quantifier of the file binds.
use Rattle.std.proofs.Common.{◌≡◌, ℕ, zero, suc, pos, ◌<◌, ◌==◌, Bool, true, false, if◌then◌else◌, Option, Some, None, unwrap_or, List, [], ◌∷◌, ◌++◌, map, length, slice_get, append_assoc, append-nil, refl, ap, sym, ◌∙◌, subst, eq-eqb, arith, inl, inr, ◌⊎◌}
use Rattle.std.proofs.lemmas.Bool.{eqb-true, false≢true}
use Rattle.std.specs.Prelude.{nat_le}
use Rattle.std.specs.List.{AllByRecursion as Each, flat_map}
use Rattle.dl_term.specs.declared.syntax.Lab.TheVariants.{Own, At}
use Rattle.dl_term.specs.declared.syntax.Term.{Term, Num, Var, Field, Row}
use Rattle.dl_term.specs.declared.syntax.Formula.{Formula, Not}
use Rattle.dl_term.specs.Syntax.{opened}
use Rattle.dl_model.specs.declared.program.Proc.{Proc}
use Rattle.dl_model.specs.declared.sequent.Hypothesis.{Hypothesis}
use Rattle.dl_model.specs.declared.sequent.Sequent.{Sequent}
use Rattle.dl_model.specs.declared.file.World.{World}
use Rattle.dl_model.specs.declared.file.Program.{Program}
use Rattle.dl_model.specs.declared.file.Deploy.{Deploy}
use Rattle.dl_model.specs.declared.file.Decls.{Decls}
use Rattle.dl_model.specs.Block.{Block, Done, Sends, Awaits, Polls, Reads, Sets, Ifs, Whiles, Calls, block_of}
use Rattle.dl_model.specs.Sorts.{has}
use Rattle.dl_model.specs.Words.{me_word, result_word, first_name}
use Rattle.dl_model.specs.Spoken.{bound_names}
use Rattle.dl_model.specs.Lookup.{Parameter, arg_names, arg_sorts, proc_at, world_at, deploy_of, program_in, program_of}
use Rattle.dl_model.specs.Scopes.{Scope, file_label, TermIsKnown, FormulaIsKnown, IsExpression}
use Rattle.dl_model.specs.Formed.{AreDistinct, BlockIsFormed, IsFormed, ProcIsFormed, ProgramIsFormed, DeployIsFormed, WorldIsFormed, file_bound, proc_variables}
use Rattle.dl_model.proofs.Small.{and-both, or-left, or-right, or-both, or-true-left, or-true-right, either-true, eqb-other, some-same, lacks-front, lacks-back}
use Rattle.dl_sequent.specs.Bounds.{node_sort}
use Rattle.dl_sequent.specs.Clean.{is_told_apart, IsClean}
use Rattle.dl_sequent.specs.declared.duty.Duty.{Duty}
use Rattle.dl_sequent.specs.declared.duty.Duty.TheVariants as duty
use Rattle.dl_subst.specs.Substitution.{for_variables, substituted}
use Rattle.dl_wp.specs.Before.{before_sent}
use Rattle.dl_inv.specs.Joined.{all_of}
use Rattle.dl_inv.specs.Words.{guard_word}
use Rattle.dl_inv.specs.Steps.{called, send_by, receive_by, tag_of, send_hypotheses, receive_hypotheses}
use Rattle.dl_inv.specs.Obligations.{with_sort, send_known, receive_known, hooks_fact}
use Rattle.dl_inv.specs.Duties.{positions}
use Rattle.dl_inv.proofs.Lists.{each-at, each-append, each-flat, each-get, each-found, has-front, has-back, lacks-all, true-false, not-true}
use Rattle.dl_inv.proofs.Told.{told-known}
use Rattle.dl_inv.proofs.StepTold.{IsWithin}
use Rattle.dl_inv.proofs.FirstTold.{first-told}
use Rattle.dl_inv.proofs.FactNames.{distinct-join, world-facts-distinct, world-facts-large}
use Rattle.dl_inv.proofs.Clean.{all-told, names-of-sorts, map-length, each-position}
use Rattle.dl_inv.proofs.Bound.{bound-changed}
use Rattle.dl_sound.proofs.Members.{get-within as below-length, within-get}
use Rattle.dl_triples.specs.Words.{pre_word, test_word, post_word, frame_word}
use Rattle.dl_triples.specs.Points.{Point, pre_of, post_of, points_of, no_point, points_in, point_at, note_of, frame_of, rest_of, next_of}
use Rattle.dl_triples.specs.Duties.{duties_of_proc, duties_of_deployment, duties_of}
use Rattle.dl_triples.specs.Obligations.{int_sort, vars_of, facts_in, known_in, holds_where, put, all_in_sort, sending, allowed, allowed_in, taking, known_with, terms_of_message, got_sequent, term_read, assigned_sequent, leave_sequent, beside, is_other, kept_by_send, kept_by_receive, kept_sequent, deploy_sequent, guard_at, sent_at, got_at, missed_at, read_at, body_at, exit_at, enter_at, leave_at, sequent_of}
use Rattle.dl_triples.specs.Taken.{var_names, names_of_step, names_taken, own_names}
use Rattle.dl_programs.proofs.Known.{file_scope}
use Rattle.dl_programs.proofs.Pure.{bare, test-wide}
use Rattle.dl_programs.proofs.FileBound.{own-free}
use Rattle.dl_programs.proofs.Ready.{IsNote, known-pre, known-post, local-there}
use Rattle.dl_programs.proofs.Calls.{proc-there}
use Rattle.dl_programs.proofs.Points.{vars-names}
use Rattle.dl_programs.proofs.Deployed.{closed-put, constants-known, node-fits}
use Rattle.dl_programs.proofs.EachDuty.{OfProc, of-proc}
use Rattle.dl_programs.proofs.KnownPut.{message-put}
use Rattle.dl_programs.proofs.ProgramNames.{point-free, pre-free, post-free, asked-free, body-free, body-formed, post-of-free, asked_inside}
use Rattle.dl_programs.proofs.Telling.{clean-of, names-with-words, told-substituted, told-put, bound-clear, file-told, facts-told}
use Rattle.dl_programs.proofs.CleanLemmas.{knows-of, num-within, IsTold, IsToldFact, IsFree, sorts-told, send-guard-told, send-fits-told, hooks-told, allowed-told, sent-told, receive-told, received-told, above-lack, map-append, one-name}

-- clean with all names that it takes
abbrev pub IsCleanOf : Decls → Duty → Type 0
IsCleanOf d a = (names : List ℕ) → length names ≡ names_taken d a → AreDistinct names → Each (λ name. has (own_names d a) name ≡ false) names → Each (λ name. has (file_bound d) name ≡ false) names → IsClean (sequent_of d a names)

module _ (d : Decls) (formed : IsFormed d) (p : ℕ) (there : slice_get d.procs p ≡ Some (proc_at d.procs p)) where
  abbrev proc : Proc
  proc = proc_at d.procs p

  abbrev variables : List ℕ
  variables = proc_variables proc

  abbrev base : List ℕ
  base = variables ++ []

  abbrev note_scope : Scope
  note_scope = file_scope d.inst variables

  abbrev world : World
  world = world_at d proc.world

  is_formed : ProcIsFormed d p proc
  is_formed = formed.procs p proc there

  variables-distinct : AreDistinct variables
  variables-distinct = (above-lack (arg_names proc.params ++ proc.locals) is_formed.names.allowed me_word (omega arith), is_formed.names.distinct)

  me-mine : has variables me_word ≡ true
  me-mine = or-true-left (me_word == me_word) (has (arg_names proc.params ++ proc.locals) me_word) refl

  -- `me` and the parameters
  front-mine : (x : ℕ) → has (me_word ∷ arg_names proc.params) x ≡ true → has variables x ≡ true
  front-mine x h = elim (either-true (x == me_word) (has (arg_names proc.params) x) h) [
    | inl e ↦ or-true-left (x == me_word) (has (arg_names proc.params ++ proc.locals) x) e
    | inr e ↦ or-true-right (x == me_word) (has (arg_names proc.params ++ proc.locals) x) (has-front (arg_names proc.params) proc.locals x e)
  ]

  world-formed : WorldIsFormed d world
  world-formed =
      let w = within-get d.worlds proc.world is_formed.world in
      subst (WorldIsFormed d) (sym (ap (λ o. unwrap_or o (record { sym = 0; labels = []; hooks = [] })) w.1)) (each-found (WorldIsFormed d) d.worlds proc.world w.0 formed.worlds w.1)

  -- facts of the world, and then hypotheses whose names are words
  words-distinct : (ys : List Hypothesis) → AreDistinct (map (λ (h : Hypothesis). h.name) ys) → Each (λ (h : Hypothesis). h.name < first_name) ys → AreDistinct (map (λ (h : Hypothesis). h.name) (facts_in d proc ++ ys))
  words-distinct ys distinct words =
      names-with-words (facts_in d proc) ys (world-facts-distinct d formed world world-formed (length d.invariants)) (world-facts-large d formed world world-formed (length d.invariants)) distinct words

  -- ---- names besides the variables

  record Extra (es ks : List ℕ) : Type 0 where
    distinct : AreDistinct (es ++ ks)
    new : (n : ℕ) → has (es ++ ks) n ≡ true → has variables n ≡ false
    clear : (y : ℕ) → has (file_bound d) y ≡ true → nat_le first_name y ≡ true → has (es ++ ks) y ≡ false

  nothing : Extra [] []
  nothing = record { distinct = tt; new = λ n m. absurd (false≢true m); clear = λ y f l. refl }

  not-word : (y word : ℕ) → nat_le first_name y ≡ true → nat_le first_name word ≡ false → (y == word) ≡ false
  not-word y word large small = eqb-other y word (λ e. true-false (nat_le first_name y) large (ap (nat_le first_name) e ∙ small))

  variables-clear : (y : ℕ) → has (file_bound d) y ≡ true → nat_le first_name y ≡ true → has variables y ≡ false
  variables-clear y bound large =
      or-both (y == me_word) (has (arg_names proc.params ++ proc.locals) y) (not-word y me_word large refl)
      (not-true (has (arg_names proc.params ++ proc.locals) y) (λ m. true-false (has (file_bound d) y) bound (own-free d formed p proc y there m)))

  module _ (es ks : List ℕ) (extra : Extra es ks) where
    abbrev vs : List ℕ
    vs = variables ++ es

    mine : (x : ℕ) → has variables x ≡ true → has vs x ≡ true
    mine x h = has-front variables es x h

    base-mine : (x : ℕ) → has base x ≡ true → has vs x ≡ true
    base-mine x h = mine x (ap (λ xs. has xs x) (sym (append-nil variables)) ∙ h)

    clear : (y : ℕ) → has (file_bound d) y ≡ true → nat_le first_name y ≡ true → (has vs y ≡ false) × (has ks y ≡ false)
    clear y bound large = (
      lacks-all variables es y (variables-clear y bound large) (lacks-front es ks y (extra.clear y bound large)),
      lacks-back es ks y (extra.clear y bound large),
    )

    whole-distinct : AreDistinct (vs ++ ks)
    whole-distinct = subst AreDistinct (sym (append_assoc variables es ks)) (distinct-join variables (es ++ ks) variables-distinct extra.distinct (λ n m. not-true (has (es ++ ks) n) (λ e. true-false (has variables n) m (extra.new n e))))

    no-message : (k : ℕ) → has [] k ≡ true → has ks k ≡ true
    no-message k m = absurd (false≢true m)

    note-told : (f : Formula) → IsNote d p proc f → IsFree d formed vs ks clear f → IsTold d formed vs ks clear f
    note-told f known free = file-told d vs ks clear f note_scope known free mine no-message

    expression-within : (t : Term) → TermIsKnown (bare variables) t → IsWithin vs ks t
    expression-within t known vars messages pv pm = knows-of t (bare variables) vars messages known (λ x m. pv x (mine x m)) (λ k m. absurd (false≢true m))

    expressions-within : (ts : List Term) → Each (IsExpression variables) ts → Each (IsWithin vs ks) ts
    expressions-within [] h = tt
    expressions-within (t ∷ ts) h = (expression-within t h.0.0, expressions-within ts h.1)

    me-within : IsWithin vs ks (Var me_word)
    me-within vars messages pv pm = pv me_word (mine me_word me-mine)

    facts-in-told : Each (IsToldFact d formed vs ks clear) (facts_in d proc)
    facts-in-told = facts-told d vs ks clear formed (length d.invariants) world

    -- a sequent of the facts of the world and further hypotheses
    build : (s : Sequent) (ys : List Hypothesis) → s.facts ≡ facts_in d proc ++ ys → map (λ v. v.0) s.vars ≡ vs → map (λ m. m.0) s.messages ≡ ks →
        AreDistinct (map (λ (h : Hypothesis). h.name) ys) → Each (λ (h : Hypothesis). h.name < first_name) ys → Each (IsToldFact d formed vs ks clear) ys → IsTold d formed vs ks clear s.goal → IsClean s
    build s ys e v k distinct words told goal =
        clean-of s vs ks v k whole-distinct (subst (λ (fs : List Hypothesis). AreDistinct (map (λ (h : Hypothesis). h.name) fs)) (sym e) (words-distinct ys distinct words))
        (subst (Each (IsToldFact d formed vs ks clear)) (sym e) (each-append (IsToldFact d formed vs ks clear) (facts_in d proc) ys facts-in-told told)) goal

    -- a term for a local
    substituted-told : (f : Formula) (x : ℕ) (new : Term) → IsNote d p proc f → IsFree d formed vs ks clear f → has proc.locals x ≡ true → IsWithin vs ks new → is_told_apart base [] f ≡ true → IsTold d formed vs ks clear (substituted f x new)
    substituted-told f x new known free here within told =
        told-substituted base vs ks f x new (ap (λ xs. has xs x) (append-nil variables) ∙ local-there d p proc x here) base-mine within (bound-clear d vs ks clear f note_scope known free) told

    -- terms for the names of a procedure that is called
    called-told : (f : Formula) (given names : List ℕ) (terms : List Term) → FormulaIsKnown (file_scope d.inst given) f → IsFree d formed vs ks clear f → ((y : ℕ) → has given y ≡ true → has names y ≡ false → has vs y ≡ true) → Each (IsWithin vs ks) terms →
        IsTold d formed vs ks clear (put f names terms)
    called-told f given names terms known free stay within =
        told-put given vs ks f names terms stay within (bound-clear d vs ks clear f (file_scope d.inst given) known free)
        (told-known f (file_scope d.inst given) given [] known (record { variables = λ x m. m; messages_in = λ k m. m; apart = λ y a b m. (a, b) }))

  -- ---- the variables alone

  base-told : (f : Formula) → IsNote d p proc f → IsFree d formed base [] (clear [] [] nothing) f → is_told_apart base [] f ≡ true
  base-told f known free = note-told [] [] nothing f known free

  base-vars : map (λ (v : Parameter). v.0) (vars_of d proc) ≡ base
  base-vars = vars-names d proc ∙ sym (append-nil variables)

  where-clean : (f : Formula) (more : List Hypothesis) (goal : Formula) → is_told_apart base [] f ≡ true → AreDistinct (map (λ (h : Hypothesis). h.name) (called pre_word f ∷ more)) → Each (λ (h : Hypothesis). h.name < first_name) more →
      Each (λ (h : Hypothesis). is_told_apart base [] h.formula ≡ true) more → is_told_apart base [] goal ≡ true → IsClean (holds_where d proc f more goal)
  where-clean f more goal f_told distinct words told goal_told =
      build [] [] nothing (holds_where d proc f more goal) (called pre_word f ∷ more) (append_assoc (facts_in d proc) (called pre_word f ∷ []) more) base-vars refl distinct (omega arith, words) (f_told, told) goal_told

  -- ---- points

  pub record PointIsGood (point : Point) : Type 0 where
    pub formed_block : BlockIsFormed d p proc point.block
    pub after : IsNote d p proc point.after

  points-good : (block : Block) (after : Formula) → BlockIsFormed d p proc block → IsNote d p proc after → Each PointIsGood (points_of block after)
  points-good Done after h k = tt
  points-good (Sends note label tag to args rest) after h k = (record { formed_block = h; after = k }, points-good rest after h.5 k)
  points-good (Awaits note label tag sender args rest) after h k = (record { formed_block = h; after = k }, points-good rest after h.4 k)
  points-good (Polls note got label tag sender args rest) after h k = (record { formed_block = h; after = k }, points-good rest after h.4 k)
  points-good (Reads note into label field index rest) after h k = (record { formed_block = h; after = k }, points-good rest after h.4 k)
  points-good (Sets target value rest) after h k = points-good rest after h.2 k
  points-good (Ifs test left right rest) after h k =
      let more = known-pre d p proc rest after h.3 k in
      each-append PointIsGood (points_of left (pre_of rest after)) (points_of right (pre_of rest after) ++ points_of rest after) (points-good left (pre_of rest after) h.1 more)
      (each-append PointIsGood (points_of right (pre_of rest after)) (points_of rest after) (points-good right (pre_of rest after) h.2 more) (points-good rest after h.3 k))
  points-good (Whiles test note body rest) after h k = (
    record { formed_block = h; after = k },
    each-append PointIsGood (points_of body note) (points_of rest after) (points-good body note h.2 h.1.0) (points-good rest after h.3 k),
  )
  points-good (Calls note frame into callee args rest) after h k = (record { formed_block = h; after = k }, points-good rest after h.6 k)

  pub point-good : (k : ℕ) → PointIsGood (point_at proc k)
  point-good zero = record { formed_block = tt; after = tt }
  point-good (suc k) = each-get PointIsGood (points_in proc) k no_point (record { formed_block = tt; after = tt }) (points-good (block_of proc.body) (post_of proc) is_formed.body (known-post d formed p there))

  pub next-known : (block : Block) (after : Formula) → BlockIsFormed d p proc block → IsNote d p proc after → IsNote d p proc (pre_of (rest_of block) after)
  next-known (Sends note label tag to args rest) after h k = known-pre d p proc rest after h.5 k
  next-known (Awaits note label tag sender args rest) after h k = known-pre d p proc rest after h.4 k
  next-known (Polls note got label tag sender args rest) after h k = known-pre d p proc rest after h.4 k
  next-known (Reads note into label field index rest) after h k = known-pre d p proc rest after h.4 k
  next-known (Whiles test note body rest) after h k = known-pre d p proc rest after h.3 k
  next-known (Calls note frame into callee args rest) after h k = known-pre d p proc rest after h.6 k
  next-known Done after h k = k
  next-known (Sets target value rest) after h k = k
  next-known (Ifs test left right rest) after h k = k

  abbrev IsBaseFree : Formula → Type 0
  IsBaseFree f = (y : ℕ) → has (file_bound d) y ≡ false → has (bound_names f) y ≡ false

  -- ---- at the beginning

  start-clean : IsClean (sequent_of d (duty.Start p) [])
  start-clean =
      let asked = pre_of (block_of proc.body) (post_of proc) in
      let known = known-pre d p proc (block_of proc.body) (post_of proc) is_formed.body (known-post d formed p there) in
      let free = λ (y : ℕ). λ (f : has (file_bound d) y ≡ false). asked-free d formed y f p (block_of proc.body) (post_of proc) (body-formed d formed y f p) (body-free d formed y f p) (post-of-free d formed y f p) in
      let inside = clear [] [] nothing in
      where-clean proc.pre [] (put asked proc.locals [])
      (file-told d base [] inside proc.pre (file_scope d.inst (me_word ∷ arg_names proc.params)) is_formed.pre.0 (λ y f. pre-free d formed y f p) (λ x m. mine [] [] nothing x (front-mine x m)) (λ k m. m))
      (refl, tt) tt tt
      (told-put base base [] asked proc.locals [] (λ y m lacks. m) tt (bound-clear d base [] inside asked note_scope known free) (base-told asked known free))

  -- ---- sends

  guard-clean : (block : Block) → BlockIsFormed d p proc block → IsBaseFree (note_of block) → IsClean (guard_at d proc block)
  guard-clean (Sends note label tag to args rest) h free =
      where-clean note [] (allowed_in d proc label tag (sending label tag to args)) (base-told note h.0.0 free) (refl, tt) tt tt
      (allowed-told d formed base [] (clear [] [] nothing) label tag (Var me_word) to args (me-within [] [] nothing) (expression-within [] [] nothing to h.3.0) (expressions-within [] [] nothing args h.4) world (known_in d proc))
  guard-clean Done h free = refl
  guard-clean (Awaits note label tag sender args rest) h free = refl
  guard-clean (Polls note got label tag sender args rest) h free = refl
  guard-clean (Reads note into label field index rest) h free = refl
  guard-clean (Sets target value rest) h free = refl
  guard-clean (Ifs test left right rest) h free = refl
  guard-clean (Whiles test note body rest) h free = refl
  guard-clean (Calls note frame into callee args rest) h free = refl

  sent-clean : (block : Block) (next : Formula) → BlockIsFormed d p proc block → IsBaseFree (note_of block) → IsNote d p proc next → IsBaseFree next → IsClean (sent_at d proc block next)
  sent-clean (Sends note label tag to args rest) next h free known next_free =
      let inside = clear [] [] nothing in
      let t = expression-within [] [] nothing to h.3.0 in
      let those = expressions-within [] [] nothing args h.4 in
      where-clean note (called guard_word (allowed_in d proc label tag (sending label tag to args)) ∷ []) (before_sent d.inst None (sending label tag to args) next) (base-told note h.0.0 free) (refl, (refl, tt)) (omega arith, tt)
      (allowed-told d formed base [] inside label tag (Var me_word) to args (me-within [] [] nothing) t those world (known_in d proc), tt)
      (sent-told d formed base [] inside label tag (Var me_word) to args (me-within [] [] nothing) t those next note_scope known next_free (mine [] [] nothing) (λ k m. m))
  sent-clean Done next h free known next_free = refl
  sent-clean (Awaits note label tag sender args rest) next h free known next_free = refl
  sent-clean (Polls note got label tag sender args rest) next h free known next_free = refl
  sent-clean (Reads note into label field index rest) next h free known next_free = refl
  sent-clean (Sets target value rest) next h free known next_free = refl
  sent-clean (Ifs test left right rest) next h free known next_free = refl
  sent-clean (Whiles test note body rest) next h free known next_free = refl
  sent-clean (Calls note frame into callee args rest) next h free known next_free = refl

  -- ---- a number for a local

  assigned-clean : (note : Formula) (into : ℕ) (t : Term) (next : Formula) → IsNote d p proc note → IsBaseFree note → has proc.locals into ≡ true → IsWithin base [] t → IsNote d p proc next → IsBaseFree next → IsClean (assigned_sequent d proc note into t next)
  assigned-clean note into t next known free here within next_known next_free =
      where-clean note [] (substituted next into t) (base-told note known free) (refl, tt) tt tt
      (substituted-told [] [] nothing next into t next_known next_free here within (base-told next next_known next_free))

  missed-clean : (block : Block) (next : Formula) → BlockIsFormed d p proc block → IsBaseFree (note_of block) → IsNote d p proc next → IsBaseFree next → IsClean (missed_at d proc block next)
  missed-clean (Polls note got label tag sender args rest) next h free known next_free = assigned-clean note got (Num (pos 0)) next h.0.0 free h.3.0.0 (num-within base [] 0) known next_free
  missed-clean Done next h free known next_free = refl
  missed-clean (Sends note label tag to args rest) next h free known next_free = refl
  missed-clean (Awaits note label tag sender args rest) next h free known next_free = refl
  missed-clean (Reads note into label field index rest) next h free known next_free = refl
  missed-clean (Sets target value rest) next h free known next_free = refl
  missed-clean (Ifs test left right rest) next h free known next_free = refl
  missed-clean (Whiles test note body rest) next h free known next_free = refl
  missed-clean (Calls note frame into callee args rest) next h free known next_free = refl

  -- an own field, or an own row at an expression
  field-within : (label field : ℕ) → IsWithin base [] (Field (At label) field (Var me_word))
  unfolding opened
  field-within label field vars messages pv pm = me-within [] [] nothing vars messages pv pm

  row-within : (label field : ℕ) (index : Term) → IsWithin base [] index → IsWithin base [] (Row (At label) field (Var me_word) index)
  unfolding opened
  row-within label field index within vars messages pv pm = and-both _ _ (me-within [] [] nothing vars messages pv pm) (within vars messages pv pm)

  read-clean : (block : Block) (next : Formula) → BlockIsFormed d p proc block → IsBaseFree (note_of block) → IsNote d p proc next → IsBaseFree next → IsClean (read_at d proc block next)
  read-clean (Reads note into label field (Some index) rest) next h free known next_free =
      assigned-clean note into (term_read label field (Some index)) next h.0.0 free h.3.0.0 (row-within label field index (expression-within [] [] nothing index h.2.0)) known next_free
  read-clean (Reads note into label field None rest) next h free known next_free = assigned-clean note into (term_read label field None) next h.0.0 free h.3.0.0 (field-within label field) known next_free
  read-clean Done next h free known next_free = refl
  read-clean (Sends note label tag to args rest) next h free known next_free = refl
  read-clean (Awaits note label tag sender args rest) next h free known next_free = refl
  read-clean (Polls note got label tag sender args rest) next h free known next_free = refl
  read-clean (Sets target value rest) next h free known next_free = refl
  read-clean (Ifs test left right rest) next h free known next_free = refl
  read-clean (Whiles test note body rest) next h free known next_free = refl
  read-clean (Calls note frame into callee args rest) next h free known next_free = refl

  -- ---- loops

  test-known : (test : Formula) → FormulaIsKnown (bare variables) test → bound_names test ≡ [] → IsNote d p proc test
  test-known test known none = test-wide test variables note_scope known none (λ x m. m)

  test-free : (test : Formula) → bound_names test ≡ [] → IsBaseFree test
  test-free test none y f = ap (λ bound. has bound y) none

  not-told : (f : Formula) → is_told_apart base [] f ≡ true → is_told_apart base [] (Not f) ≡ true
  unfolding opened
  not-told f h = h

  inside-clean : (block : Block) → BlockIsFormed d p proc block → IsBaseFree (note_of block) → IsBaseFree (asked_inside block) → IsClean (body_at d proc block)
  inside-clean (Whiles test note body rest) h free asked_free =
      where-clean note (called test_word test ∷ []) (pre_of body note) (base-told note h.1.0 free) (refl, (refl, tt)) (omega arith, tt)
      (base-told test (test-known test h.0.0.0 h.0.1) (test-free test h.0.1), tt) (base-told (pre_of body note) (known-pre d p proc body note h.2 h.1.0) asked_free)
  inside-clean Done h free asked_free = refl
  inside-clean (Sends note label tag to args rest) h free asked_free = refl
  inside-clean (Awaits note label tag sender args rest) h free asked_free = refl
  inside-clean (Polls note got label tag sender args rest) h free asked_free = refl
  inside-clean (Reads note into label field index rest) h free asked_free = refl
  inside-clean (Sets target value rest) h free asked_free = refl
  inside-clean (Ifs test left right rest) h free asked_free = refl
  inside-clean (Calls note frame into callee args rest) h free asked_free = refl

  exit-clean : (block : Block) (next : Formula) → BlockIsFormed d p proc block → IsBaseFree (note_of block) → IsNote d p proc next → IsBaseFree next → IsClean (exit_at d proc block next)
  exit-clean (Whiles test note body rest) next h free known next_free =
      where-clean note (called test_word (Not test) ∷ []) next (base-told note h.1.0 free) (refl, (refl, tt)) (omega arith, tt)
      (not-told test (base-told test (test-known test h.0.0.0 h.0.1) (test-free test h.0.1)), tt) (base-told next known next_free)
  exit-clean Done next h free known next_free = refl
  exit-clean (Sends note label tag to args rest) next h free known next_free = refl
  exit-clean (Awaits note label tag sender args rest) next h free known next_free = refl
  exit-clean (Polls note got label tag sender args rest) next h free known next_free = refl
  exit-clean (Reads note into label field index rest) next h free known next_free = refl
  exit-clean (Sets target value rest) next h free known next_free = refl
  exit-clean (Ifs test left right rest) next h free known next_free = refl
  exit-clean (Calls note frame into callee args rest) next h free known next_free = refl

  -- ---- calls

  callee-formed : (c : ℕ) → c < p → ProcIsFormed d c (proc_at d.procs c)
  callee-formed c less = let below = below-length d.procs p proc there in formed.procs c (proc_at d.procs c) (proc-there d.procs c (omega (less, below, arith)))

  enter-clean : (block : Block) → BlockIsFormed d p proc block → IsBaseFree (note_of block) → IsBaseFree (frame_of block) → IsClean (enter_at d proc block)
  enter-clean (Calls note frame into c args rest) h free frame_free =
      let callee = proc_at d.procs c in
      let inside = clear [] [] nothing in
      let names = arg_names callee.params in
      let those = expressions-within [] [] nothing args h.5 in
      let sorts = all_in_sort d.inst (known_in d proc) args (arg_sorts callee.params) in
      let asked = put callee.pre names args in
      where-clean note [] (all_of (sorts ++ (asked ∷ frame ∷ []))) (base-told note h.0.0 free) (refl, tt) tt tt
      (all-told base [] (sorts ++ (asked ∷ frame ∷ [])) (each-append (IsTold d formed base [] inside) sorts (asked ∷ frame ∷ []) (sorts-told d formed base [] inside (known_in d proc) args (arg_sorts callee.params) those) (
        called-told [] [] nothing callee.pre (me_word ∷ names) names args (callee-formed c h.3).pre.0 (λ y f. pre-free d formed y f c) (λ y m lacks. stays names y m lacks) those,
        (base-told frame h.1.0 frame_free, tt),
      )))
    where
      stays : (names : List ℕ) (y : ℕ) → has (me_word ∷ names) y ≡ true → has names y ≡ false → has base y ≡ true
      stays names y m lacks = elim (either-true (y == me_word) (has names y) m) [
        | inl e ↦ subst (λ z. has base z ≡ true) (sym (eqb-true y me_word e)) (mine [] [] nothing me_word me-mine)
        | inr e ↦ absurd (true-false (has names y) e lacks)
      ]
  enter-clean Done h free frame_free = refl
  enter-clean (Sends note label tag to args rest) h free frame_free = refl
  enter-clean (Awaits note label tag sender args rest) h free frame_free = refl
  enter-clean (Polls note got label tag sender args rest) h free frame_free = refl
  enter-clean (Reads note into label field index rest) h free frame_free = refl
  enter-clean (Sets target value rest) h free frame_free = refl
  enter-clean (Ifs test left right rest) h free frame_free = refl
  enter-clean (Whiles test note body rest) h free frame_free = refl

  -- one name more
  one-more : (z : ℕ) → has variables z ≡ false → has (file_bound d) z ≡ false → Extra (z ∷ []) []
  one-more z new free = record {
    distinct = (refl, tt);
    new = λ n m. one-name (λ x. has variables x ≡ false) z n new m;
    clear = λ y bound large. not-true (has (z ∷ []) y) (λ m. true-false (has (file_bound d) y) bound (one-name (λ x. has (file_bound d) x ≡ false) z y free m));
  }

  leave-clean : (block : Block) (z : ℕ) (next : Formula) → BlockIsFormed d p proc block → IsBaseFree (frame_of block) → IsNote d p proc next → IsBaseFree next → has variables z ≡ false → has (file_bound d) z ≡ false → IsClean (leave_at d proc block z next)
  leave-clean (Calls note frame into c args rest) z next h frame_free known next_free new unbound =
      let callee = proc_at d.procs c in
      let extra = one-more z new unbound in
      let names = result_word ∷ arg_names callee.params in
      let z_within = λ (vars messages : List ℕ). λ (pv : (n : ℕ) → has (variables ++ z ∷ []) n ≡ true → has vars n ≡ true). λ (pm : (n : ℕ) → has [] n ≡ true → has messages n ≡ true). pv z (has-back variables (z ∷ []) z (or-true-left (z == z) false (eq-eqb z z refl))) in
      build (z ∷ []) [] extra (leave_sequent d proc frame into callee args z next)
      (called post_word (put callee.post names (Var z ∷ args)) ∷ called frame_word frame ∷ []) refl
      (map-append (vars_of d proc) (with_sort int_sort z ∷ []) ∙ ap (λ xs. xs ++ z ∷ []) (vars-names d proc)) refl
      (refl, (refl, tt)) (omega arith, (omega arith, tt)) (
        called-told (z ∷ []) [] extra callee.post (result_word ∷ me_word ∷ arg_names callee.params) names (Var z ∷ args) (callee-formed c h.3).post.0 (λ y f. post-free d formed y f c)
            (λ y m lacks. stays (arg_names callee.params) y m lacks) (z_within, expressions-within (z ∷ []) [] extra args h.5),
        (note-told (z ∷ []) [] extra frame h.1.0 frame_free, tt),
      )
      (substituted-told (z ∷ []) [] extra next into (Var z) known next_free h.2.0.0 z_within (base-told next known next_free))
    where
      stays : (names : List ℕ) (y : ℕ) → has (result_word ∷ me_word ∷ names) y ≡ true → has (result_word ∷ names) y ≡ false → has (variables ++ z ∷ []) y ≡ true
      stays names y m lacks = elim (either-true (y == result_word) (has (me_word ∷ names) y) m) [
        | inl e ↦ absurd (true-false (y == result_word) e (or-left (y == result_word) (has names y) lacks))
        | inr e ↦ elim (either-true (y == me_word) (has names y) e) [
          | inl f ↦ has-front variables (z ∷ []) y (subst (λ x. has variables x ≡ true) (sym (eqb-true y me_word f)) me-mine)
          | inr f ↦ absurd (true-false (has names y) f (or-right (y == result_word) (has names y) lacks))
        ]
      ]
  leave-clean Done z next h frame_free known next_free new unbound = refl
  leave-clean (Sends note label tag to args rest) z next h frame_free known next_free new unbound = refl
  leave-clean (Awaits note label tag sender args rest) z next h frame_free known next_free new unbound = refl
  leave-clean (Polls note got label tag sender args rest) z next h frame_free known next_free new unbound = refl
  leave-clean (Reads note into label field index rest) z next h frame_free known next_free new unbound = refl
  leave-clean (Sets target value rest) z next h frame_free known next_free new unbound = refl
  leave-clean (Ifs test left right rest) z next h frame_free known next_free new unbound = refl
  leave-clean (Whiles test note body rest) z next h frame_free known next_free new unbound = refl

  -- ---- receives

  -- a message
  one-message : (j : ℕ) → has variables j ≡ false → has (file_bound d) j ≡ false → Extra [] (j ∷ [])
  one-message j new free = record {
    distinct = (refl, tt);
    new = λ n m. one-name (λ x. has variables x ≡ false) j n new m;
    clear = λ y bound large. not-true (has (j ∷ []) y) (λ m. true-false (has (file_bound d) y) bound (one-name (λ x. has (file_bound d) x ≡ false) j y free m));
  }

  taken-clean : (note : Formula) (label tag j : ℕ) (targets : List ℕ) (terms : List Term) (next : Formula) → IsNote d p proc note → IsBaseFree note → IsNote d p proc next → IsBaseFree next → has variables j ≡ false → has (file_bound d) j ≡ false →
      ((vars messages : List ℕ) → has messages j ≡ true → Each (TermIsKnown (record { protocol = file_label d.inst; variables = vars; messages = messages })) terms) → IsClean (got_sequent d proc note label tag j targets terms next)
  taken-clean note label tag j targets terms next known free next_known next_free new unbound come =
      let extra = one-message j new unbound in
      let given = known_with d proc label tag j in
      let receiving = taking label tag j in
      let inside = clear [] (j ∷ []) extra in
      let me = me-within [] (j ∷ []) extra in
      let here = or-true-left (j == j) false (eq-eqb j j refl) in
      build [] (j ∷ []) extra (got_sequent d proc note label tag j targets terms next)
      (called pre_word note ∷ receive_hypotheses d.inst given receiving) (append_assoc (facts_in d proc) (called pre_word note ∷ []) (receive_hypotheses d.inst given receiving)) base-vars refl
      (refl, (refl, (refl, (refl, tt)))) (omega arith, (omega arith, (omega arith, (omega arith, tt))))
      (note-told [] (j ∷ []) extra note known free, receive-told d formed base (j ∷ []) inside label tag (Var me_word) j me here given refl)
      (received-told d formed base (j ∷ []) inside label tag (Var me_word) j me here (put next targets terms) (record { protocol = file_label d.inst; variables = variables; messages = j ∷ [] })
      (message-put d.inst variables targets terms j come next next_known (next_free j unbound))
      (λ y m. bound-clear d base (j ∷ []) inside next note_scope next_known next_free y (ap (λ bound. has bound y) (sym (bound-changed (for_variables targets terms Own) next)) ∙ m))
      (mine [] (j ∷ []) extra) (λ k m. m))

  message-known : (j : ℕ) (vars messages : List ℕ) → has messages j ≡ true → Each (TermIsKnown (record { protocol = file_label d.inst; variables = vars; messages = messages })) (terms_of_message j)
  message-known j vars messages h = ((h, refl), ((h, refl), ((h, refl), ((h, refl), ((h, refl), ((h, refl), ((h, refl), ((h, refl), ((h, refl), tt)))))))))

  got-clean : (block : Block) (j : ℕ) (next : Formula) → BlockIsFormed d p proc block → IsBaseFree (note_of block) → IsNote d p proc next → IsBaseFree next → has variables j ≡ false → has (file_bound d) j ≡ false → IsClean (got_at d proc block j next)
  got-clean (Awaits note label tag sender args rest) j next h free known next_free new unbound = taken-clean note label tag j (sender ∷ args) (terms_of_message j) next h.0.0 free known next_free new unbound (message-known j)
  got-clean (Polls note got label tag sender args rest) j next h free known next_free new unbound =
      taken-clean note label tag j (got ∷ sender ∷ args) (Num (pos 1) ∷ terms_of_message j) next h.0.0 free known next_free new unbound (λ vars messages m. (refl, message-known j vars messages m))
  got-clean Done j next h free known next_free new unbound = refl
  got-clean (Sends note label tag to args rest) j next h free known next_free new unbound = refl
  got-clean (Reads note into label field index rest) j next h free known next_free new unbound = refl
  got-clean (Sets target value rest) j next h free known next_free new unbound = refl
  got-clean (Ifs test left right rest) j next h free known next_free new unbound = refl
  got-clean (Whiles test note body rest) j next h free known next_free new unbound = refl
  got-clean (Calls note frame into callee args rest) j next h free known next_free new unbound = refl

  -- ---- steps of other nodes

  other-told : (vs ks : List ℕ) (node : Term) → IsWithin vs ks node → IsWithin vs ks (Var me_word) → is_told_apart vs ks (is_other node).formula ≡ true
  unfolding opened
  other-told vs ks node n me = and-both _ _ (n vs ks (λ x m. m) (λ x m. m)) (me vs ks (λ x m. m) (λ x m. m))

  -- names of a step are none of the variables and of what is said besides, and bound nowhere
  step-extra : (front es : List ℕ) → AreDistinct front → ((n : ℕ) → has front n ≡ true → has variables n ≡ false) → ((n : ℕ) → has front n ≡ true → nat_le first_name n ≡ false) → AreDistinct es → Each (λ n. has (front ++ variables) n ≡ false) es →
      Each (λ n. has (file_bound d) n ≡ false) es → AreDistinct (front ++ es) × ((n : ℕ) → has (front ++ es) n ≡ true → has variables n ≡ false) × ((y : ℕ) → has (file_bound d) y ≡ true → nat_le first_name y ≡ true → has (front ++ es) y ≡ false)
  step-extra front es distinct apart small es_distinct new unbound = (
    distinct-join front es distinct es_distinct (λ n m. not-true (has es n) (λ e. true-false (has (front ++ variables) n) (has-front front variables n m) (each-at (λ x. has (front ++ variables) x ≡ false) es n new e))),
    (λ n m. elim (in-parts front es n m) [ inl e ↦ apart n e | inr e ↦ lacks-back front variables n (each-at (λ x. has (front ++ variables) x ≡ false) es n new e) ]),
    (λ y bound large. lacks-all front es y (not-true (has front y) (λ e. true-false (nat_le first_name y) large (small y e)))
        (not-true (has es y) (λ e. true-false (has (file_bound d) y) bound (each-at (λ x. has (file_bound d) x ≡ false) es y unbound e)))),
  )
    where
      in-parts : (xs ys : List ℕ) (n : ℕ) → has (xs ++ ys) n ≡ true → (has xs n ≡ true) ⊎ (has ys n ≡ true)
      in-parts [] ys n h = inr h
      in-parts (x ∷ xs) ys n h = elim (either-true (n == x) (has (xs ++ ys) n) h) [
        | inl e ↦ inl (or-true-left (n == x) (has xs n) e)
        | inr e ↦ elim (in-parts xs ys n e) [ inl f ↦ inl (or-true-right (n == x) (has xs n) f) | inr f ↦ inr f ]
      ]

  -- names of the obligation as variables
  named-within : (vs ks xs : List ℕ) → ((n : ℕ) → has xs n ≡ true → has vs n ≡ true) → Each (IsWithin vs ks) (map (λ x. Var x) xs)
  named-within _ _ [] h = tt
  named-within vs ks (x ∷ xs) h = ((λ vars messages p q. p x (h x (or-true-left (x == x) (has xs x) (eq-eqb x x refl)))), named-within vs ks xs (λ n m. h n (or-true-right (n == x) (has xs n) m)))

  module _ (vars : List Parameter) (front : List ℕ) (vars_are : map (λ (v : Parameter). v.0) vars ≡ variables ++ front) (f : Formula) (given : List ℕ) (known : FormulaIsKnown (file_scope d.inst given) f) (free : IsBaseFree f)
      (given_in : (x : ℕ) → has given x ≡ true → has (variables ++ front) x ≡ true) where
    -- another node sends
    sent-kept : (label tag s t : ℕ) (xs : List ℕ) → length xs ≡ length (tag_of d.inst None (At label) tag).args → (extra : Extra (front ++ (s ∷ t ∷ xs)) []) → IsClean (kept_by_send d proc vars f label tag (s ∷ t ∷ xs))
    sent-kept label tag s t xs count extra =
        let ns = s ∷ t ∷ xs in
        let es = front ++ ns in
        let whole = variables ++ es in
        let known_vars = (send_known d.inst None (At label) tag ns).vars in
        let known_by = beside vars (send_known d.inst None (At label) tag ns) in
        let step_by = send_by (At label) tag ns in
        let inside = clear es [] extra in
        let mine_of = λ (n : ℕ). λ (m : has ns n ≡ true). has-back variables es n (has-back front ns n m) in
        let s_in = λ (vars messages : List ℕ). λ (pv : (n : ℕ) → has whole n ≡ true → has vars n ≡ true). λ (pm : (n : ℕ) → has [] n ≡ true → has messages n ≡ true). pv s (mine_of s (or-true-left (s == s) (has (t ∷ xs) s) (eq-eqb s s refl))) in
        let t_in = λ (vars messages : List ℕ). λ (pv : (n : ℕ) → has whole n ≡ true → has vars n ≡ true). λ (pm : (n : ℕ) → has [] n ≡ true → has messages n ≡ true). pv t (mine_of t (or-true-right (t == s) (has (t ∷ xs) t) (or-true-left (t == t) (has xs t) (eq-eqb t t refl)))) in
        let xs_in = named-within whole [] xs (λ n m. mine_of n (or-true-right (n == s) (has (t ∷ xs) n) (or-true-right (n == t) (has xs n) m))) in
        let front_in = λ (x : ℕ). λ (m : has (variables ++ front) x ≡ true). ap (λ zs. has zs x) (sym (append_assoc variables front ns)) ∙ has-front (variables ++ front) ns x m in
        let told = file-told d whole [] inside f (file_scope d.inst given) known free (λ x m. front_in x (given_in x m)) (λ k m. m) in
        build es [] extra (kept_by_send d proc vars f label tag ns)
        (called pre_word f ∷ is_other step_by.sender ∷ (send_hypotheses d.inst known_by step_by ++ hooks_fact d world label tag ns))
        (append_assoc (facts_in d proc) (called pre_word f ∷ []) (is_other step_by.sender ∷ (send_hypotheses d.inst known_by step_by ++ hooks_fact d world label tag ns)))
        (map-append vars known_vars ∙ ap (λ zs. zs ++ map (λ (v : Parameter). v.0) known_vars) vars_are ∙ ap (λ zs. (variables ++ front) ++ zs) (sorts-are label tag s t xs count) ∙ append_assoc variables front ns) refl
        (refl, (refl, (refl, (refl, (refl, tt))))) (omega arith, (omega arith, (omega arith, (omega arith, (omega arith, tt))))) (
          told,
          (
            other-told whole [] (Var s) s_in (me-within es [] extra),
            (
              send-guard-told d formed whole [] inside label tag (Var s) (Var t) (map (λ x. Var x) xs) s_in t_in xs_in,
              (send-fits-told d formed whole [] inside label tag (Var s) (Var t) (map (λ x. Var x) xs) s_in t_in xs_in known_by, (hooks-told d formed whole [] inside label tag (Var s) (Var t) (map (λ x. Var x) xs) s_in t_in xs_in world, tt)),
            ),
          ),
        )
        (sent-told d formed whole [] inside label tag (Var s) (Var t) (map (λ x. Var x) xs) s_in t_in xs_in f (file_scope d.inst given) known free (λ x m. front_in x (given_in x m)) (λ k m. m))
      where
        sorts-are : (label tag s t : ℕ) (xs : List ℕ) → length xs ≡ length (tag_of d.inst None (At label) tag).args → map (λ (v : Parameter). v.0) (send_known d.inst None (At label) tag (s ∷ t ∷ xs)).vars ≡ s ∷ t ∷ xs
        sorts-are label tag s t xs count =
            let args = (tag_of d.inst None (At label) tag).args in
            names-of-sorts (s ∷ t ∷ xs) (node_sort d.inst.nodes ∷ node_sort d.inst.nodes ∷ arg_sorts args) (let e = map-length args in omega (count, e, arith))

    -- another node receives
    received-kept : (label tag r k : ℕ) (extra : Extra (front ++ r ∷ []) (k ∷ [])) → IsClean (kept_by_receive d proc vars f label tag (r ∷ k ∷ []))
    received-kept label tag r k extra =
        let es = front ++ r ∷ [] in
        let whole = variables ++ es in
        let known_by = beside vars (receive_known d.inst None (At label) tag (r ∷ k ∷ [])) in
        let receiving = receive_by (At label) tag (r ∷ k ∷ []) in
        let inside = clear es (k ∷ []) extra in
        let r_in = λ (vars messages : List ℕ). λ (pv : (n : ℕ) → has whole n ≡ true → has vars n ≡ true). λ (pm : (n : ℕ) → has (k ∷ []) n ≡ true → has messages n ≡ true). pv r (has-back variables es r (has-back front (r ∷ []) r (or-true-left (r == r) false (eq-eqb r r refl)))) in
        let here = or-true-left (k == k) false (eq-eqb k k refl) in
        let front_in = λ (x : ℕ). λ (m : has (variables ++ front) x ≡ true). ap (λ zs. has zs x) (sym (append_assoc variables front (r ∷ []))) ∙ has-front (variables ++ front) (r ∷ []) x m in
        let scope = file_scope d.inst given in
        let told = file-told d whole (k ∷ []) inside f scope known free (λ x m. front_in x (given_in x m)) (λ n m. absurd (false≢true m)) in
        build es (k ∷ []) extra (kept_by_receive d proc vars f label tag (r ∷ k ∷ []))
        (called pre_word f ∷ is_other receiving.receiver ∷ receive_hypotheses d.inst known_by receiving)
        (append_assoc (facts_in d proc) (called pre_word f ∷ []) (is_other receiving.receiver ∷ receive_hypotheses d.inst known_by receiving))
        (map-append vars (with_sort (node_sort d.inst.nodes) r ∷ []) ∙ ap (λ zs. zs ++ r ∷ []) vars_are ∙ append_assoc variables front (r ∷ [])) refl
        (refl, (refl, (refl, (refl, (refl, tt))))) (omega arith, (omega arith, (omega arith, (omega arith, (omega arith, tt)))))
        (told, (other-told whole (k ∷ []) (Var r) r_in (me-within es (k ∷ []) extra), receive-told d formed whole (k ∷ []) inside label tag (Var r) k r_in here known_by refl))
        (received-told d formed whole (k ∷ []) inside label tag (Var r) k r_in here f scope known (bound-clear d whole (k ∷ []) inside f scope known free) (λ x m. front_in x (given_in x m)) (λ n m. absurd (false≢true m)))

    kept-clean : AreDistinct front → ((n : ℕ) → has front n ≡ true → has variables n ≡ false) → ((n : ℕ) → has front n ≡ true → nat_le first_name n ≡ false) → (label tag : ℕ) (receive : Bool) (names : List ℕ) → length names ≡ names_of_step d label tag receive →
        AreDistinct names → Each (λ n. has (front ++ variables) n ≡ false) names → Each (λ n. has (file_bound d) n ≡ false) names → IsClean (kept_sequent d proc vars f label tag receive names)
    kept-clean distinct apart small label tag false [] count names_distinct new unbound = absurd (omega (count, arith))
    kept-clean distinct apart small label tag false (s ∷ []) count names_distinct new unbound = absurd (omega (count, arith))
    kept-clean distinct apart small label tag false (s ∷ t ∷ xs) count names_distinct new unbound =
        let e = step-extra front (s ∷ t ∷ xs) distinct apart small names_distinct new unbound in
        sent-kept label tag s t xs (omega (count, arith)) (record {
          distinct = subst AreDistinct (sym (append-nil (front ++ (s ∷ t ∷ xs)))) e.0;
          new = λ n m. e.1 n (ap (λ zs. has zs n) (sym (append-nil (front ++ (s ∷ t ∷ xs)))) ∙ m);
          clear = λ y bound large. ap (λ zs. has zs y) (append-nil (front ++ (s ∷ t ∷ xs))) ∙ e.2 y bound large;
        })
    kept-clean distinct apart small label tag true [] count names_distinct new unbound = absurd (omega (count, arith))
    kept-clean distinct apart small label tag true (r ∷ []) count names_distinct new unbound = absurd (omega (count, arith))
    kept-clean distinct apart small label tag true (r ∷ k ∷ x ∷ xs) count names_distinct new unbound = absurd (omega (count, arith))
    kept-clean distinct apart small label tag true (r ∷ k ∷ []) count names_distinct new unbound =
        let e = step-extra front (r ∷ k ∷ []) distinct apart small names_distinct new unbound in
        let turn = append_assoc front (r ∷ []) (k ∷ []) in
        received-kept label tag r k (record {
          distinct = subst AreDistinct (sym turn) e.0;
          new = λ n m. e.1 n (ap (λ zs. has zs n) (sym turn) ∙ m);
          clear = λ y bound large. ap (λ zs. has zs y) turn ∙ e.2 y bound large;
        })

  -- ---- an annotation, a frame, the postcondition

  own-new : (names : List ℕ) → Each (λ name. has (var_names (vars_of d proc)) name ≡ false) names → Each (λ n. has variables n ≡ false) names
  own-new [] h = tt
  own-new (n ∷ names) h = (ap (λ xs. has xs n) (sym (vars-names d proc)) ∙ h.0, own-new names h.1)

  noted-clean : (f : Formula) → IsNote d p proc f → IsBaseFree f → (label tag : ℕ) (receive : Bool) (names : List ℕ) → length names ≡ names_of_step d label tag receive → AreDistinct names → Each (λ name. has (var_names (vars_of d proc)) name ≡ false) names →
      Each (λ n. has (file_bound d) n ≡ false) names → IsClean (kept_sequent d proc (vars_of d proc) f label tag receive names)
  noted-clean f known free label tag receive names count distinct new unbound =
      kept-clean (vars_of d proc) [] base-vars f variables known free (mine [] [] nothing) tt (λ n m. absurd (false≢true m)) (λ n m. absurd (false≢true m)) label tag receive names count distinct (own-new names new) unbound

  posted-new : (names : List ℕ) → Each (λ name. has (result_word ∷ var_names (vars_of d proc)) name ≡ false) names → Each (λ n. has (result_word ∷ variables) n ≡ false) names
  posted-new [] h = tt
  posted-new (n ∷ names) h = (ap (λ xs. has (result_word ∷ xs) n) (sym (vars-names d proc)) ∙ h.0, posted-new names h.1)

  no-result : has variables result_word ≡ false
  no-result = above-lack (arg_names proc.params ++ proc.locals) is_formed.names.allowed result_word (omega arith)

  posted-clean : (label tag : ℕ) (receive : Bool) (names : List ℕ) → length names ≡ names_of_step d label tag receive → AreDistinct names → Each (λ name. has (result_word ∷ var_names (vars_of d proc)) name ≡ false) names →
      Each (λ n. has (file_bound d) n ≡ false) names → IsClean (kept_sequent d proc (vars_of d proc ++ with_sort int_sort result_word ∷ []) proc.post label tag receive names)
  posted-clean label tag receive names count distinct new unbound =
      kept-clean (vars_of d proc ++ with_sort int_sort result_word ∷ []) (result_word ∷ []) (map-append (vars_of d proc) (with_sort int_sort result_word ∷ []) ∙ ap (λ xs. xs ++ result_word ∷ []) (vars-names d proc))
      proc.post (result_word ∷ me_word ∷ arg_names proc.params) is_formed.post.0 (λ y f. post-free d formed y f p) given (refl, tt)
      (λ n m. one-name (λ x. has variables x ≡ false) result_word n no-result m) (λ n m. one-name (λ x. nat_le first_name x ≡ false) result_word n refl m)
      label tag receive names count distinct (posted-new names new) unbound
    where
      given : (x : ℕ) → has (result_word ∷ me_word ∷ arg_names proc.params) x ≡ true → has (variables ++ result_word ∷ []) x ≡ true
      given x m = elim (either-true (x == result_word) (has (me_word ∷ arg_names proc.params) x) m) [
        | inl e ↦ has-back variables (result_word ∷ []) x (or-true-left (x == result_word) false e)
        | inr e ↦ has-front variables (result_word ∷ []) x (front-mine x e)
      ]

  -- ---- all of them

  not-mine : (n : ℕ) → has (var_names (vars_of d proc)) n ≡ false → has variables n ≡ false
  not-mine n h = ap (λ xs. has xs n) (sym (vars-names d proc)) ∙ h

  abbrev block_at : ℕ → Block
  block_at k = (point_at proc k).block

  note-free : (k : ℕ) → IsBaseFree (note_of (block_at k))
  note-free k y f = (point-free d formed y f p k).note

  next-free : (k : ℕ) → IsBaseFree (next_of (point_at proc k))
  next-free k y f = (point-free d formed y f p k).next

  next-is : (k : ℕ) → IsNote d p proc (next_of (point_at proc k))
  next-is k = next-known (block_at k) (point_at proc k).after (point-good k).formed_block (point-good k).after

  frame-known : (block : Block) → BlockIsFormed d p proc block → IsNote d p proc (frame_of block)
  frame-known (Calls note frame into callee args rest) h = h.1.0
  frame-known Done h = tt
  frame-known (Sends note label tag to args rest) h = tt
  frame-known (Awaits note label tag sender args rest) h = tt
  frame-known (Polls note got label tag sender args rest) h = tt
  frame-known (Reads note into label field index rest) h = tt
  frame-known (Sets target value rest) h = tt
  frame-known (Ifs test left right rest) h = tt
  frame-known (Whiles test note body rest) h = tt

  note-known : (block : Block) → BlockIsFormed d p proc block → IsNote d p proc (note_of block)
  note-known (Calls note frame into callee args rest) h = h.0.0
  note-known Done h = tt
  note-known (Sends note label tag to args rest) h = h.0.0
  note-known (Awaits note label tag sender args rest) h = h.0.0
  note-known (Polls note got label tag sender args rest) h = h.0.0
  note-known (Reads note into label field index rest) h = h.0.0
  note-known (Sets target value rest) h = tt
  note-known (Ifs test left right rest) h = tt
  note-known (Whiles test note body rest) h = h.1.0

  got-named : (k : ℕ) → IsCleanOf d (duty.Got p k)
  got-named k [] count distinct new unbound = absurd (omega (count, arith))
  got-named k (j ∷ x ∷ xs) count distinct new unbound = absurd (omega (count, arith))
  got-named k (j ∷ []) count distinct new unbound = got-clean (block_at k) j (next_of (point_at proc k)) (point-good k).formed_block (note-free k) (next-is k) (next-free k) (not-mine j new.0) unbound.0

  leave-named : (k : ℕ) → IsCleanOf d (duty.Leave p k)
  leave-named k [] count distinct new unbound = absurd (omega (count, arith))
  leave-named k (z ∷ x ∷ xs) count distinct new unbound = absurd (omega (count, arith))
  leave-named k (z ∷ []) count distinct new unbound =
      leave-clean (block_at k) z (next_of (point_at proc k)) (point-good k).formed_block (λ y f. (point-free d formed y f p k).frame) (next-is k) (next-free k) (not-mine z new.0) unbound.0

  stable-named : (k label tag : ℕ) (receive : Bool) → IsCleanOf d (duty.Stable p k label tag receive)
  stable-named zero label tag receive names count distinct new unbound = posted-clean label tag receive names count distinct new unbound
  stable-named (suc k) label tag receive names count distinct new unbound =
      noted-clean (note_of (block_at (suc k))) (note-known (block_at (suc k)) (point-good (suc k)).formed_block) (note-free (suc k)) label tag receive names count distinct new unbound

  pub proc-clean : OfProc (IsCleanOf d) p
  proc-clean = record {
    start = λ names count distinct new unbound. start-clean;
    guard = λ k names count distinct new unbound. guard-clean (block_at k) (point-good k).formed_block (note-free k);
    after_send = λ k names count distinct new unbound. sent-clean (block_at k) (next_of (point_at proc k)) (point-good k).formed_block (note-free k) (next-is k) (next-free k);
    got = got-named;
    miss = λ k names count distinct new unbound. missed-clean (block_at k) (next_of (point_at proc k)) (point-good k).formed_block (note-free k) (next-is k) (next-free k);
    after_read = λ k names count distinct new unbound. read-clean (block_at k) (next_of (point_at proc k)) (point-good k).formed_block (note-free k) (next-is k) (next-free k);
    body = λ k names count distinct new unbound. inside-clean (block_at k) (point-good k).formed_block (note-free k) (λ y f. (point-free d formed y f p k).inside);
    exit = λ k names count distinct new unbound. exit-clean (block_at k) (next_of (point_at proc k)) (point-good k).formed_block (note-free k) (next-is k) (next-free k);
    enter = λ k names count distinct new unbound. enter-clean (block_at k) (point-good k).formed_block (note-free k) (λ y f. (point-free d formed y f p k).frame);
    leave = leave-named;
    stable = stable-named;
    frame = λ k label tag receive names count distinct new unbound. noted-clean (frame_of (block_at k)) (frame-known (block_at k) (point-good k).formed_block) (λ y f. (point-free d formed y f p k).frame) label tag receive names count distinct new unbound;
  }

-- ---- the deployment

module _ (d : Decls) (formed : IsFormed d) where
  formed-found : (programs : List Program) (node : ℕ) (program : Program) → Each (ProgramIsFormed d) programs → program_in programs node ≡ Some program → (node ≡ program.node) × ProgramIsFormed d program
  formed-found [] node program h e = cc
  formed-found (q ∷ programs) node program h e = go (node == q.node) refl (formed-found programs node program h.1)
    where
      go : (b : Bool) → (node == q.node) ≡ b → (program_in programs node ≡ Some program → (node ≡ program.node) × ProgramIsFormed d program) → (node ≡ program.node) × ProgramIsFormed d program
      go true t more =
          let same : q ≡ program = some-same q program (sym (ap (λ b. if b then Some q else program_in programs node) t) ∙ e) in
          (eqb-true node q.node t ∙ ap (λ (r : Program). r.node) same, subst (ProgramIsFormed d) same h.0)
      go false t more = more (sym (ap (λ b. if b then Some q else program_in programs node) t) ∙ e)

  deployed-formed : (o : Option Deploy) → DeployIsFormed d o → Each (ProgramIsFormed d) (unwrap_or o (record { world = 0; programs = [] })).programs
  deployed-formed (Some deploy) h = h.1
  deployed-formed None h = tt

  placed-clean : (node : ℕ) (program : Program) → (node ≡ program.node) × ProgramIsFormed d program → IsClean (deploy_sequent d node (Some program))
  placed-clean node program found =
      let proc = proc_at d.procs program.proc in
      let names = me_word ∷ arg_names proc.params in
      let terms = Num (pos node) ∷ map (λ v. Num v) program.constants in
      let given = formed.procs program.proc proc (proc-there d.procs program.proc found.1.proc) in
      let below : node < d.inst.nodes = subst (λ n. n < d.inst.nodes) (sym found.0) found.1.node in
      let closed = closed-put d.inst names terms (node-fits d formed node below, constants-known proc.params program.constants given.params.1 found.1.constants) proc.pre given.pre.0 in
      first-told d.inst None (put proc.pre names terms) (file_scope d.inst []) [] [] closed (record { variables = λ x m. m; messages_in = λ k m. m; apart = λ y a b m. (refl, refl) })

  deploy-clean : (node : ℕ) → IsClean (sequent_of d (duty.Deploy node) [])
  deploy-clean node = go (program_of d node) refl
    where
      go : (o : Option Program) → program_of d node ≡ o → IsClean (deploy_sequent d node o)
      go (Some program) e = placed-clean node program (formed-found (deploy_of d).programs node program (deployed-formed d.deploy formed.deploy) e)
      go None e = refl

  each-deployed : (programs : List Program) → Each (IsCleanOf d) (map (λ (program : Program). duty.Deploy program.node) programs)
  each-deployed [] = tt
  each-deployed (program ∷ programs) = ((λ names count distinct new unbound. deploy-clean program.node), each-deployed programs)

  -- ---- the list

  pub programs-clean : Each (IsCleanOf d) (duties_of d)
  programs-clean =
      each-append (IsCleanOf d) (flat_map (duties_of_proc d) (positions d.procs)) (duties_of_deployment d)
      (each-flat (IsCleanOf d) (duties_of_proc d) (positions d.procs)
      (each-position (λ p. Each (IsCleanOf d) (duties_of_proc d p)) d.procs (λ p below. of-proc (IsCleanOf d) d p (proc-clean d formed p (proc-there d.procs p below)))))
      (each-deployed (deploy_of d).programs)
