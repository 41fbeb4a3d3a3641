-- Names that no quantifier of the file binds are bound in no obligation of programs.
use Rattle.std.proofs.Common.{◌≡◌, ℕ, zero, suc, pos, Bool, true, false, Option, Some, None, List, [], ◌∷◌, ◌++◌, map, length, slice_get, unwrap_or, refl, ap, ◌∙◌}
use Rattle.std.specs.List.{AllByRecursion as Each, flat_map}
use Rattle.dl_term.specs.declared.syntax.Lab.TheVariants.{Own, At}
use Rattle.dl_term.specs.declared.syntax.Sort.{Sort}
use Rattle.dl_term.specs.declared.syntax.Term.{Term, Num, Var}
use Rattle.dl_term.specs.declared.syntax.Formula.{Formula, True, Not}
use Rattle.dl_term.specs.Syntax.{opened}
use Rattle.dl_model.specs.declared.protocol.Protocol.{Protocol}
use Rattle.dl_model.specs.declared.protocol.Hook.{Hook}
use Rattle.dl_model.specs.declared.program.Proc.{Proc}
use Rattle.dl_model.specs.declared.sequent.Hypothesis.{Hypothesis}
use Rattle.dl_model.specs.declared.sequent.Sequent.{Sequent}
use Rattle.dl_model.specs.declared.file.World.{World}
use Rattle.dl_model.specs.declared.file.Invariant.{Invariant}
use Rattle.dl_model.specs.declared.file.Program.{Program}
use Rattle.dl_model.specs.declared.file.Decls.{Decls}
use Rattle.dl_model.specs.Block.{Block, Done, Sends, Awaits, Polls, Reads, Sets, Ifs, Whiles, Calls, block_of}
use Rattle.dl_model.specs.Sorts.{has}
use Rattle.dl_model.specs.Lookup.{Parameter, arg_names, arg_sorts, proc_at, no_proc, program_of, world_at}
use Rattle.dl_model.specs.Words.{me_word, to_word, result_word}
use Rattle.dl_model.specs.Spoken.{bound_names}
use Rattle.dl_model.specs.Formed.{AreDistinct, BlockIsFormed, IsFormed, block_bound, tag_bound, coherence_bound, transition_bound, file_bound}
use Rattle.dl_model.proofs.Small.{lacks-front, lacks-back, each-map}
use Rattle.dl_sequent.specs.Bounds.{bounds_of, lies_in, node_sort, in_sort_formula}
use Rattle.dl_sequent.specs.declared.duty.Duty.{Duty}
use Rattle.dl_sequent.specs.declared.duty.Duty.TheVariants.{Start, Guard, AfterSend, Got, Miss, AfterRead, Body, Exit, Enter, Leave, Stable, Frame, Deploy}
use Rattle.dl_subst.specs.Change.{Change, changed}
use Rattle.dl_subst.specs.Substitution.{for_variable, for_variables, substituted}
use Rattle.dl_wp.specs.declared.steps.SendStep.{SendStep}
use Rattle.dl_wp.specs.Steps.{send_step, receive_step, spoken_of}
use Rattle.dl_wp.specs.Before.{before_sent}
use Rattle.dl_inv.specs.Joined.{all_of}
use Rattle.dl_inv.specs.Words.{guard_word}
use Rattle.dl_inv.specs.Steps.{called, name_at, send_by, receive_by, tag_of, all_hooks, send_hypotheses, receive_hypotheses}
use Rattle.dl_inv.specs.Obligations.{with_sort, send_known, receive_known, hooks_fact}
use Rattle.dl_inv.specs.Taken.{bound_in}
use Rattle.dl_inv.proofs.Lists.{each-append, each-get, lacks-each, lacks-all}
use Rattle.dl_inv.proofs.Bound.{bound-changed, bound-in-step, bound-before, Lacks}
use Rattle.dl_inv.proofs.FileNames.{lacks-flat, Frees, all-frees, between-frees, fits-free, first-frees, tag-free, world-facts-free, step-hooks-free, send-said-free, receive-said-free}
use Rattle.dl_triples.specs.Words.{pre_word, test_word, post_word, frame_word}
use Rattle.dl_triples.specs.Points.{Point, pre_of, post_of, points_of, no_point, points_in, point_at, note_of, frame_of, next_of}
use Rattle.dl_triples.specs.Obligations.{int_sort, vars_of, facts_in, facts_at, known_in, holds_where, put, all_in_sort, sending, send_rule, allowed, allowed_in, taking, known_with, terms_of_message, got_sequent, term_read, assigned_sequent, leave_sequent, beside, is_other, kept_by_send, kept_by_receive, kept_sequent, deploy_sequent, guard_at, sent_at, got_at, missed_at, read_at, body_at, exit_at, enter_at, leave_at, stable_sequent, sequent_of}
use Rattle.dl_triples.specs.Taken.{own_names, names_taken, MayTake}

-- a changed formula binds what the formula does
changed-free : (y : ℕ) (c : Change) (f : Formula) → has (bound_names f) y ≡ false → has (bound_names (changed c f)) y ≡ false
changed-free y c f h = ap (λ bound. has bound y) (bound-changed c f) ∙ h

-- the test of a loop, and what its body asks for
abbrev pub test_of : Block → Formula
test_of (Whiles test note body rest) = test
test_of _ = True

abbrev pub asked_inside : Block → Formula
asked_inside (Whiles test note body rest) = pre_of body note
asked_inside _ = True

module _ (d : Decls) (formed : IsFormed d) (y : ℕ) (free : has (file_bound d) y ≡ false) where
  abbrev IsFree : Formula → Type 0
  IsFree f = Frees y f

  -- ---- procedures

  abbrev proc_bound : Proc → List ℕ
  proc_bound proc = bound_names proc.pre ++ (bound_names proc.post ++ block_bound (block_of proc.body))

  abbrev of_protocols : List ℕ
  of_protocols = flat_map (λ (protocol : Protocol). flat_map tag_bound protocol.tags ++ coherence_bound protocol.coherence) d.inst.protocols

  abbrev of_hooks : List ℕ
  of_hooks = flat_map (λ (hook : Hook). bound_names hook.formula) d.hooks

  abbrev of_invariants : List ℕ
  of_invariants = flat_map (λ (invariant : Invariant). bound_names invariant.formula) d.invariants

  abbrev of_procs : List ℕ
  of_procs = flat_map proc_bound d.procs

  procs-free : Each (λ proc. has (proc_bound proc) y ≡ false) d.procs
  procs-free = lacks-each proc_bound d.procs y (lacks-back of_invariants of_procs y (lacks-back of_hooks (of_invariants ++ of_procs) y (lacks-back of_protocols (of_hooks ++ (of_invariants ++ of_procs)) y free)))

  proc-free : (p : ℕ) → has (proc_bound (proc_at d.procs p)) y ≡ false
  proc-free p = each-get (λ proc. has (proc_bound proc) y ≡ false) d.procs p no_proc refl procs-free

  pub pre-free : (p : ℕ) → IsFree (proc_at d.procs p).pre
  pre-free p =
      let proc = proc_at d.procs p in
      lacks-front (bound_names proc.pre) (bound_names proc.post ++ block_bound (block_of proc.body)) y (proc-free p)

  pub post-free : (p : ℕ) → IsFree (proc_at d.procs p).post
  post-free p =
      let proc = proc_at d.procs p in
      lacks-front (bound_names proc.post) (block_bound (block_of proc.body)) y (lacks-back (bound_names proc.pre) (bound_names proc.post ++ block_bound (block_of proc.body)) y (proc-free p))

  pub body-free : (p : ℕ) → has (block_bound (block_of (proc_at d.procs p).body)) y ≡ false
  body-free p =
      let proc = proc_at d.procs p in
      lacks-back (bound_names proc.post) (block_bound (block_of proc.body)) y (lacks-back (bound_names proc.pre) (bound_names proc.post ++ block_bound (block_of proc.body)) y (proc-free p))

  -- ---- terms in their sorts

  sort-free : (given : Sequent) (t : Term) (sort : Sort) → IsFree (in_sort_formula d.inst given t sort)
  sort-free given t sort = between-frees y (lies_in (bounds_of d.inst given t) sort) sort t

  sorts-free : (given : Sequent) (ts : List Term) (sorts : List Sort) → Each IsFree (all_in_sort d.inst given ts sorts)
  sorts-free given [] sorts = tt
  sorts-free given (t ∷ ts) [] = tt
  sorts-free given (t ∷ ts) (sort ∷ sorts) = (sort-free given t sort, sorts-free given ts sorts)

  -- ---- sends

  allowed-free : (world : World) (given : Sequent) (label tag : ℕ) (step : SendStep) → IsFree (allowed d world given label tag step)
  allowed-free world given label tag step =
      let t = tag_of d.inst None (At label) tag in
      all-frees y (in_sort_formula d.inst given step.to (node_sort d.inst.nodes) ∷ (all_in_sort d.inst given step.args (arg_sorts t.args) ++ (send_rule d given label tag step ++ all_hooks d world label tag step ∷ []))) (
        sort-free given step.to (node_sort d.inst.nodes),
        each-append IsFree (all_in_sort d.inst given step.args (arg_sorts t.args)) (send_rule d given label tag step ++ all_hooks d world label tag step ∷ []) (sorts-free given step.args (arg_sorts t.args)) (
          ap (λ bound. has bound y) (bound-in-step (At label) step.sender to_word step.to (arg_names t.args) step.args t.send.guard) ∙ lacks-front (bound_names t.send.guard) (transition_bound t.receive) y (tag-free y d free None (At label) tag),
          (fits-free y d.inst given (send_step d.inst None step) (spoken_of d.inst None (At label)) t.send.updates, (step-hooks-free y d free world label tag step, tt)),
        ),
      )

  -- ---- sequents

  sequent-free : (s : Sequent) → Each (Lacks y) s.facts → IsFree s.goal → has (bound_in s) y ≡ false
  sequent-free s facts goal = lacks-all (flat_map (λ (h : Hypothesis). bound_names h.formula) s.facts) (bound_names s.goal) y (lacks-flat (λ (h : Hypothesis). bound_names h.formula) s.facts y facts) goal

  module _ (p : ℕ) where
    abbrev proc : Proc
    proc = proc_at d.procs p

    facts-in-free : Each (Lacks y) (facts_in d proc)
    facts-in-free = world-facts-free y d free (length d.invariants) (world_at d proc.world)

    facts-at-free : (f : Formula) → IsFree f → Each (Lacks y) (facts_at d proc f)
    facts-at-free f h = each-append (Lacks y) (facts_in d proc) (called pre_word f ∷ []) facts-in-free (h, tt)

    where-free : (f : Formula) (more : List Hypothesis) (goal : Formula) → IsFree f → Each (Lacks y) more → IsFree goal → has (bound_in (holds_where d proc f more goal)) y ≡ false
    where-free f more goal h k g = sequent-free (holds_where d proc f more goal) (each-append (Lacks y) (facts_at d proc f) more (facts-at-free f h) k) g

    -- ---- what a block asks for

    test-free : (test : Formula) → bound_names test ≡ [] → IsFree test
    test-free test none = ap (λ bound. has bound y) none

    pub asked-free : (block : Block) (after : Formula) → BlockIsFormed d p proc block → has (block_bound block) y ≡ false → IsFree after → IsFree (pre_of block after)
    unfolding opened
    asked-free Done after h b a = a
    asked-free (Sends note label tag to args rest) after h b a = lacks-front (bound_names note) (block_bound rest) y b
    asked-free (Awaits note label tag sender args rest) after h b a = lacks-front (bound_names note) (block_bound rest) y b
    asked-free (Polls note got label tag sender args rest) after h b a = lacks-front (bound_names note) (block_bound rest) y b
    asked-free (Reads note into label field index rest) after h b a = lacks-front (bound_names note) (block_bound rest) y b
    asked-free (Sets target value rest) after h b a = changed-free y (for_variable target value) (pre_of rest after) (asked-free rest after h.2 b a)
    asked-free (Ifs test left right rest) after h b a =
        let on_left = lacks-front (block_bound left) (block_bound right ++ block_bound rest) y b in
        let others = lacks-back (block_bound left) (block_bound right ++ block_bound rest) y b in
        let on_right = lacks-front (block_bound right) (block_bound rest) y others in
        let more = asked-free rest after h.3 (lacks-back (block_bound right) (block_bound rest) y others) a in
        let chosen = test-free test h.0.1 in
        lacks-all (bound_names test ++ bound_names (pre_of left (pre_of rest after))) (bound_names test ++ bound_names (pre_of right (pre_of rest after))) y
        (lacks-all (bound_names test) (bound_names (pre_of left (pre_of rest after))) y chosen (asked-free left (pre_of rest after) h.1 on_left more))
        (lacks-all (bound_names test) (bound_names (pre_of right (pre_of rest after))) y chosen (asked-free right (pre_of rest after) h.2 on_right more))
    asked-free (Whiles test note body rest) after h b a = lacks-front (bound_names note) (block_bound body ++ block_bound rest) y b
    asked-free (Calls note frame into callee args rest) after h b a = lacks-front (bound_names note) (bound_names frame ++ block_bound rest) y b

    -- ---- points

    pub record PointIsFree (point : Point) : Type 0 where
      pub note : IsFree (note_of point.block)
      pub frame : IsFree (frame_of point.block)
      pub next : IsFree (next_of point)
      pub test : IsFree (test_of point.block)
      pub inside : IsFree (asked_inside point.block)

    points-free : (block : Block) (after : Formula) → BlockIsFormed d p proc block → has (block_bound block) y ≡ false → IsFree after → Each PointIsFree (points_of block after)
    points-free Done after h b a = tt
    points-free (Sends note label tag to args rest) after h b a =
        let later = lacks-back (bound_names note) (block_bound rest) y b in
        (record { note = lacks-front (bound_names note) (block_bound rest) y b; frame = refl; next = asked-free rest after h.5 later a; test = refl; inside = refl }, points-free rest after h.5 later a)
    points-free (Awaits note label tag sender args rest) after h b a =
        let later = lacks-back (bound_names note) (block_bound rest) y b in
        (record { note = lacks-front (bound_names note) (block_bound rest) y b; frame = refl; next = asked-free rest after h.4 later a; test = refl; inside = refl }, points-free rest after h.4 later a)
    points-free (Polls note got label tag sender args rest) after h b a =
        let later = lacks-back (bound_names note) (block_bound rest) y b in
        (record { note = lacks-front (bound_names note) (block_bound rest) y b; frame = refl; next = asked-free rest after h.4 later a; test = refl; inside = refl }, points-free rest after h.4 later a)
    points-free (Reads note into label field index rest) after h b a =
        let later = lacks-back (bound_names note) (block_bound rest) y b in
        (record { note = lacks-front (bound_names note) (block_bound rest) y b; frame = refl; next = asked-free rest after h.4 later a; test = refl; inside = refl }, points-free rest after h.4 later a)
    points-free (Sets target value rest) after h b a = points-free rest after h.2 b a
    points-free (Ifs test left right rest) after h b a =
        let on_left = lacks-front (block_bound left) (block_bound right ++ block_bound rest) y b in
        let others = lacks-back (block_bound left) (block_bound right ++ block_bound rest) y b in
        let on_right = lacks-front (block_bound right) (block_bound rest) y others in
        let later = lacks-back (block_bound right) (block_bound rest) y others in
        let more = asked-free rest after h.3 later a in
        each-append PointIsFree (points_of left (pre_of rest after)) (points_of right (pre_of rest after) ++ points_of rest after) (points-free left (pre_of rest after) h.1 on_left more)
        (each-append PointIsFree (points_of right (pre_of rest after)) (points_of rest after) (points-free right (pre_of rest after) h.2 on_right more) (points-free rest after h.3 later a))
    points-free (Whiles test note body rest) after h b a =
        let here = lacks-front (bound_names note) (block_bound body ++ block_bound rest) y b in
        let others = lacks-back (bound_names note) (block_bound body ++ block_bound rest) y b in
        let within = lacks-front (block_bound body) (block_bound rest) y others in
        let later = lacks-back (block_bound body) (block_bound rest) y others in (
          record { note = here; frame = refl; next = asked-free rest after h.3 later a; test = test-free test h.0.1; inside = asked-free body note h.2 within here },
          each-append PointIsFree (points_of body note) (points_of rest after) (points-free body note h.2 within here) (points-free rest after h.3 later a),
        )
    points-free (Calls note frame into callee args rest) after h b a =
        let others = lacks-back (bound_names note) (bound_names frame ++ block_bound rest) y b in
        let later = lacks-back (bound_names frame) (block_bound rest) y others in (
          record { note = lacks-front (bound_names note) (bound_names frame ++ block_bound rest) y b; frame = lacks-front (bound_names frame) (block_bound rest) y others; next = asked-free rest after h.6 later a; test = refl; inside = refl },
          points-free rest after h.6 later a,
        )

    pub body-formed : BlockIsFormed d p proc (block_of proc.body)
    body-formed = go (slice_get d.procs p) refl
      where
        go : (o : Option Proc) → slice_get d.procs p ≡ o → BlockIsFormed d p (unwrap_or o no_proc) (block_of (unwrap_or o no_proc).body)
        go (Some proc) e = (formed.procs p proc e).body
        go None e = tt

    pub post-of-free : IsFree (post_of proc)
    post-of-free = changed-free y (for_variable result_word proc.result) proc.post (post-free p)

    pub point-free : (k : ℕ) → PointIsFree (point_at proc k)
    point-free zero = record { note = refl; frame = refl; next = refl; test = refl; inside = refl }
    point-free (suc k) = each-get PointIsFree (points_in proc) k no_point (record { note = refl; frame = refl; next = refl; test = refl; inside = refl })
        (points-free (block_of proc.body) (post_of proc) body-formed (body-free p) post-of-free)

    -- ---- the obligations of a point

    start-free : has (bound_in (sequent_of d (Start p) [])) y ≡ false
    start-free = where-free proc.pre [] (put (pre_of (block_of proc.body) (post_of proc)) proc.locals []) (pre-free p) tt
        (changed-free y (for_variables proc.locals [] Own) (pre_of (block_of proc.body) (post_of proc)) (asked-free (block_of proc.body) (post_of proc) body-formed (body-free p) post-of-free))

    guard-free : (block : Block) → IsFree (note_of block) → has (bound_in (guard_at d proc block)) y ≡ false
    guard-free (Sends note label tag to args rest) h = where-free note [] (allowed_in d proc label tag (sending label tag to args)) h tt (allowed-free (world_at d proc.world) (known_in d proc) label tag (sending label tag to args))
    guard-free _ h = refl

    sent-free : (block : Block) (next : Formula) → IsFree (note_of block) → IsFree next → has (bound_in (sent_at d proc block next)) y ≡ false
    sent-free (Sends note label tag to args rest) next h n =
        let step = sending label tag to args in
        where-free note (called guard_word (allowed_in d proc label tag step) ∷ []) (before_sent d.inst None step next) h (allowed-free (world_at d proc.world) (known_in d proc) label tag step, tt)
        (bound-before (send_step d.inst None step) (λ m. false) next y ∙ n)
    sent-free _ next h n = refl

    taken-free : (note : Formula) (label tag msg : ℕ) (targets : List ℕ) (terms : List Term) (next : Formula) → IsFree note → IsFree next → has (bound_in (got_sequent d proc note label tag msg targets terms next)) y ≡ false
    taken-free note label tag msg targets terms next h n =
        let given = known_with d proc label tag msg in
        let step = taking label tag msg in
        sequent-free (got_sequent d proc note label tag msg targets terms next) (each-append (Lacks y) (facts_at d proc note) (receive_hypotheses d.inst given step) (facts-at-free note h) (receive-said-free y d free given step))
        (bound-before (receive_step d.inst None step) (λ m. false) (put next targets terms) y ∙ changed-free y (for_variables targets terms Own) next n)

    got-free : (block : Block) (msg : ℕ) (next : Formula) → IsFree (note_of block) → IsFree next → has (bound_in (got_at d proc block msg next)) y ≡ false
    got-free (Awaits note label tag sender args rest) msg next h n = taken-free note label tag msg (sender ∷ args) (terms_of_message msg) next h n
    got-free (Polls note got label tag sender args rest) msg next h n = taken-free note label tag msg (got ∷ sender ∷ args) (Num (pos 1) ∷ terms_of_message msg) next h n
    got-free _ msg next h n = refl

    assigned-free : (note : Formula) (into : ℕ) (t : Term) (next : Formula) → IsFree note → IsFree next → has (bound_in (assigned_sequent d proc note into t next)) y ≡ false
    assigned-free note into t next h n = where-free note [] (substituted next into t) h tt (changed-free y (for_variable into t) next n)

    missed-free : (block : Block) (next : Formula) → IsFree (note_of block) → IsFree next → has (bound_in (missed_at d proc block next)) y ≡ false
    missed-free (Polls note got label tag sender args rest) next h n = assigned-free note got (Num (pos 0)) next h n
    missed-free _ next h n = refl

    read-free : (block : Block) (next : Formula) → IsFree (note_of block) → IsFree next → has (bound_in (read_at d proc block next)) y ≡ false
    read-free (Reads note into label field index rest) next h n = assigned-free note into (term_read label field index) next h n
    read-free _ next h n = refl

    inside-free : (block : Block) → IsFree (note_of block) → IsFree (test_of block) → IsFree (asked_inside block) → has (bound_in (body_at d proc block)) y ≡ false
    inside-free (Whiles test note body rest) h t i = where-free note (called test_word test ∷ []) (pre_of body note) h (t, tt) i
    inside-free _ h t i = refl

    not-free : (f : Formula) → IsFree f → IsFree (Not f)
    unfolding opened
    not-free f h = h

    exit-free : (block : Block) (next : Formula) → IsFree (note_of block) → IsFree (test_of block) → IsFree next → has (bound_in (exit_at d proc block next)) y ≡ false
    exit-free (Whiles test note body rest) next h t n = where-free note (called test_word (Not test) ∷ []) next h (not-free test t, tt) n
    exit-free _ next h t n = refl

    enter-free : (block : Block) → IsFree (note_of block) → IsFree (frame_of block) → has (bound_in (enter_at d proc block)) y ≡ false
    enter-free (Calls note frame into c args rest) h f =
        let callee = proc_at d.procs c in
        let sorts = all_in_sort d.inst (known_in d proc) args (arg_sorts callee.params) in
        let asked = put callee.pre (arg_names callee.params) args in
        where-free note [] (all_of (sorts ++ (asked ∷ frame ∷ []))) h tt
        (all-frees y (sorts ++ (asked ∷ frame ∷ [])) (each-append IsFree sorts (asked ∷ frame ∷ []) (sorts-free (known_in d proc) args (arg_sorts callee.params))
        (changed-free y (for_variables (arg_names callee.params) args Own) callee.pre (pre-free c), (f, tt))))
    enter-free _ h f = refl

    leave-free : (block : Block) (returned : ℕ) (next : Formula) → IsFree (frame_of block) → IsFree next → has (bound_in (leave_at d proc block returned next)) y ≡ false
    leave-free (Calls note frame into c args rest) returned next f n =
        let callee = proc_at d.procs c in
        sequent-free (leave_sequent d proc frame into callee args returned next)
        (each-append (Lacks y) (facts_in d proc) (called post_word (put callee.post (result_word ∷ arg_names callee.params) (Var returned ∷ args)) ∷ called frame_word frame ∷ []) facts-in-free
        (changed-free y (for_variables (result_word ∷ arg_names callee.params) (Var returned ∷ args) Own) callee.post (post-free c), (f, tt)))
        (changed-free y (for_variable into (Var returned)) next n)
    leave-free _ returned next f n = refl

    -- ---- steps of other nodes

    other-free : (t : Term) → IsFree (is_other t).formula
    unfolding opened
    other-free t = refl

    kept-free : (vars : List Parameter) (f : Formula) (label tag : ℕ) (receive : Bool) (names : List ℕ) → IsFree f → has (bound_in (kept_sequent d proc vars f label tag receive names)) y ≡ false
    kept-free vars f label tag false names h =
        let given = beside vars (send_known d.inst None (At label) tag names) in
        let step = send_by (At label) tag names in
        sequent-free (kept_by_send d proc vars f label tag names)
        (each-append (Lacks y) (facts_at d proc f) (is_other step.sender ∷ (send_hypotheses d.inst given step ++ hooks_fact d (world_at d proc.world) label tag names)) (facts-at-free f h) (
          other-free step.sender,
          each-append (Lacks y) (send_hypotheses d.inst given step) (hooks_fact d (world_at d proc.world) label tag names) (send-said-free y d free given step) (step-hooks-free y d free (world_at d proc.world) label tag step, tt),
        ))
        (bound-before (send_step d.inst None step) (λ m. false) f y ∙ h)
    kept-free vars f label tag true names h =
        let given = beside vars (receive_known d.inst None (At label) tag names) in
        let step = receive_by (At label) tag names in
        sequent-free (kept_by_receive d proc vars f label tag names)
        (each-append (Lacks y) (facts_at d proc f) (is_other step.receiver ∷ receive_hypotheses d.inst given step) (facts-at-free f h) (other-free step.receiver, receive-said-free y d free given step))
        (bound-before (receive_step d.inst None step) (λ m. false) f y ∙ h)

    stable-free : (k label tag : ℕ) (receive : Bool) (names : List ℕ) → has (bound_in (stable_sequent d p k label tag receive names)) y ≡ false
    stable-free zero label tag receive names = kept-free (vars_of d proc ++ with_sort int_sort result_word ∷ []) proc.post label tag receive names (post-free p)
    stable-free (suc k) label tag receive names = kept-free (vars_of d proc) (note_of (point_at proc (suc k)).block) label tag receive names (point-free (suc k)).note

  -- ---- all of them

  deployed-free : (node : ℕ) (o : Option Program) → has (bound_in (deploy_sequent d node o)) y ≡ false
  deployed-free node (Some program) =
      let proc = proc_at d.procs program.proc in
      let names = me_word ∷ arg_names proc.params in
      let terms = Num (pos node) ∷ map (λ v. Num v) program.constants in
      first-frees y d.inst None (put proc.pre names terms) (changed-free y (for_variables names terms Own) proc.pre (pre-free program.proc))
  deployed-free node None = refl

  pub program-free : (duty : Duty) (names : List ℕ) → has (bound_in (sequent_of d duty names)) y ≡ false
  program-free (Start p) names = start-free p
  program-free (Guard p k) names = let q = point-free p k in guard-free p (point_at (proc_at d.procs p) k).block q.note
  program-free (AfterSend p k) names = let q = point-free p k in sent-free p (point_at (proc_at d.procs p) k).block (next_of (point_at (proc_at d.procs p) k)) q.note q.next
  program-free (Got p k) names = let q = point-free p k in got-free p (point_at (proc_at d.procs p) k).block (name_at names 0) (next_of (point_at (proc_at d.procs p) k)) q.note q.next
  program-free (Miss p k) names = let q = point-free p k in missed-free p (point_at (proc_at d.procs p) k).block (next_of (point_at (proc_at d.procs p) k)) q.note q.next
  program-free (AfterRead p k) names = let q = point-free p k in read-free p (point_at (proc_at d.procs p) k).block (next_of (point_at (proc_at d.procs p) k)) q.note q.next
  program-free (Body p k) names = let q = point-free p k in inside-free p (point_at (proc_at d.procs p) k).block q.note q.test q.inside
  program-free (Exit p k) names = let q = point-free p k in exit-free p (point_at (proc_at d.procs p) k).block (next_of (point_at (proc_at d.procs p) k)) q.note q.test q.next
  program-free (Enter p k) names = let q = point-free p k in enter-free p (point_at (proc_at d.procs p) k).block q.note q.frame
  program-free (Leave p k) names = let q = point-free p k in leave-free p (point_at (proc_at d.procs p) k).block (name_at names 0) (next_of (point_at (proc_at d.procs p) k)) q.frame q.next
  program-free (Stable p k label tag receive) names = stable-free p k label tag receive names
  program-free (Frame p k label tag receive) names = kept-free p (vars_of d (proc_at d.procs p)) (frame_of (point_at (proc_at d.procs p) k).block) label tag receive names (point-free p k).frame
  program-free (Deploy node) names = deployed-free node (program_of d node)
  program-free _ names = refl

-- As many distinct names as an obligation takes are names that it may take, where none is one of its variables and no quantifier of
-- the file binds one.
pub program-names : (d : Decls) → IsFormed d → (duty : Duty) (names : List ℕ) → length names ≡ names_taken d duty → AreDistinct names → Each (λ name. has (own_names d duty) name ≡ false) names →
    Each (λ name. has (file_bound d) name ≡ false) names → MayTake d duty names
program-names d formed duty names count distinct new free = record {
  count = count;
  distinct = distinct;
  new = new;
  unbound = each-map (λ name. has (file_bound d) name ≡ false) (λ name. has (bound_in (sequent_of d duty names)) name ≡ false) names free (λ name h. program-free d formed name h duty names);
}
