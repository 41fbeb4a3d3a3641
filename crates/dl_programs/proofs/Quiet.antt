-- No name of a step is captured in an obligation of programs, with names that no quantifier of the file binds.
use Rattle.std.proofs.Common.{◌≡◌, ℕ, zero, suc, pos, ◌==◌, Bool, true, false, None, Some, List, [], ◌∷◌, ◌++◌, map, length, slice_get, unwrap_or, refl, ap, sym, ◌∙◌, arith}
use Rattle.std.specs.List.{AllByRecursion as Each, flat_map}
use Rattle.dl_term.specs.declared.syntax.Lab.TheVariants.{Own, At}
use Rattle.dl_term.specs.declared.syntax.Part.{Part}
use Rattle.dl_term.specs.declared.syntax.Part.TheVariants.{Id, From, To, Live, Arg}
use Rattle.dl_term.specs.declared.syntax.Term.{Term, Num, Var}
use Rattle.dl_term.specs.declared.syntax.Formula.{Formula}
use Rattle.dl_model.specs.declared.program.Proc.{Proc}
use Rattle.dl_model.specs.declared.file.Program.{Program}
use Rattle.dl_model.specs.declared.file.Decls.{Decls}
use Rattle.dl_model.specs.Block.{Block, Done, Sends, Awaits, Polls, Reads, Sets, Ifs, Whiles, Calls}
use Rattle.dl_model.specs.Sorts.{has}
use Rattle.dl_model.specs.Words.{me_word, to_word}
use Rattle.dl_model.specs.Spoken.{bound_names}
use Rattle.dl_model.specs.Lookup.{arg_names, proc_at, deploy_of}
use Rattle.dl_model.specs.Formed.{AreDistinct, BlockIsFormed, IsFormed, file_bound, proc_variables}
use Rattle.dl_model.proofs.Small.{or-both, or-true-left, eqb-other}
use Rattle.dl_sequent.specs.declared.duty.Duty.{Duty}
use Rattle.dl_sequent.specs.declared.duty.Duty.TheVariants as duty
use Rattle.dl_subst.specs.Substitution.{for_variables, new_part}
use Rattle.dl_wp.specs.Steps.{spoken_of, tag_in, sent_message, send_step, receive_step}
use Rattle.dl_inv.specs.Duties.{positions}
use Rattle.dl_inv.proofs.Lists.{each-at, each-append, each-flat, true-false, not-true}
use Rattle.dl_inv.proofs.Bound.{bound-changed}
use Rattle.dl_inv.proofs.Clean.{each-position}
use Rattle.dl_inv.proofs.Clear.{IsOver, StepsOver, named-over, step-clear, send-over, receive-over}
use Rattle.dl_triples.specs.Points.{point_at, frame_of, next_of}
use Rattle.dl_triples.specs.Duties.{duties_of_proc, duties_of_deployment, duties_of}
use Rattle.dl_triples.specs.Obligations.{put, sending, taking, terms_of_message}
use Rattle.dl_triples.specs.Taken.{own_names, names_of_step, names_taken}
use Rattle.dl_triples.specs.Built.{step_captures, send_captures, receive_captures, got_captures, stays_at, captured}
use Rattle.dl_programs.proofs.Ready.{IsNote, bound-apart}
use Rattle.dl_programs.proofs.Sends.{expression-over, expressions-over}
use Rattle.dl_programs.proofs.Calls.{proc-there}
use Rattle.dl_programs.proofs.EachDuty.{OfProc, of-proc}
use Rattle.dl_programs.proofs.ProgramNames.{point-free, post-free}
use Rattle.dl_programs.proofs.Clean.{point-good, next-known}

-- with all names that it takes, no name is captured
abbrev pub IsQuiet : Decls → Duty → Type 0
IsQuiet d a = (names : List ℕ) → length names ≡ names_taken d a → AreDistinct names → Each (λ name. has (own_names d a) name ≡ false) names → Each (λ name. has (file_bound d) name ≡ false) names → captured d a names ≡ false

module _ (d : Decls) (formed : IsFormed d) where
  -- ---- steps of other nodes

  -- what the formula binds is none of the names
  none-bound : (f : Formula) → ((y : ℕ) → has (file_bound d) y ≡ false → has (bound_names f) y ≡ false) → (names : List ℕ) → Each (λ name. has (file_bound d) name ≡ false) names → (y : ℕ) → has (bound_names f) y ≡ true → has names y ≡ false
  none-bound f free names unbound y m = not-true (has names y) (λ e. true-false (has (bound_names f) y) m (free y (each-at (λ name. has (file_bound d) name ≡ false) names y unbound e)))

  step-quiet : (f : Formula) → ((y : ℕ) → has (file_bound d) y ≡ false → has (bound_names f) y ≡ false) → (label tag : ℕ) (receive : Bool) (names : List ℕ) → length names ≡ names_of_step d label tag receive → Each (λ name. has (file_bound d) name ≡ false) names →
      step_captures d f label tag receive names ≡ false
  step-quiet f free label tag false [] count unbound = absurd (omega (count, arith))
  step-quiet f free label tag false (s ∷ []) count unbound = absurd (omega (count, arith))
  step-quiet f free label tag false (s ∷ t ∷ xs) count unbound = step-clear (s ∷ t ∷ xs) _ (send-over d.inst None (At label) tag s t xs) f (none-bound f free (s ∷ t ∷ xs) unbound)
  step-quiet f free label tag true [] count unbound = absurd (omega (count, arith))
  step-quiet f free label tag true (r ∷ []) count unbound = absurd (omega (count, arith))
  step-quiet f free label tag true (r ∷ k ∷ xs) count unbound = step-clear (r ∷ k ∷ xs) _ (receive-over d.inst None (At label) tag r k xs) f (none-bound f free (r ∷ k ∷ xs) unbound)

  stays-free : (p k : ℕ) (y : ℕ) → has (file_bound d) y ≡ false → has (bound_names (stays_at (proc_at d.procs p) k)) y ≡ false
  stays-free p zero y f = post-free d formed y f p
  stays-free p (suc k) y f = (point-free d formed y f p (suc k)).note

  module _ (p : ℕ) (there : slice_get d.procs p ≡ Some (proc_at d.procs p)) where
    abbrev proc : Proc
    proc = proc_at d.procs p

    abbrev variables : List ℕ
    variables = proc_variables proc

    -- ---- the own send

    get-over : (terms : List Term) (k : ℕ) → Each (IsOver variables) terms → IsOver variables (unwrap_or (slice_get terms k) (Num (pos 0)))
    get-over [] k h = λ v m p q. refl
    get-over (t ∷ ts) zero h = h.0
    get-over (t ∷ ts) (suc k) h = get-over ts k h.1

    me-over : IsOver variables (Var me_word)
    me-over v m p q = p me_word (or-true-left (me_word == me_word) (has (arg_names proc.params ++ proc.locals) me_word) refl)

    module _ (label tag : ℕ) (to : Term) (args : List Term) (t : IsOver variables to) (those : Each (IsOver variables) args) where
      part-over : (part : Part) → IsOver variables (new_part (sent_message (sending label tag to args)) part)
      part-over Id = λ v m p q. refl
      part-over From = me-over
      part-over To = t
      part-over Live = λ v m p q. refl
      part-over (Arg k) = get-over args k those

      own-over : StepsOver variables (send_step d.inst None (sending label tag to args))
      own-over = record {
        node = me-over;
        named = λ x. named-over variables (Var me_word) to_word to (arg_names (tag_in (spoken_of d.inst None (At label)) tag).args) args x me-over t those;
        move = part-over;
      }

    sent-quiet : (block : Block) (next : Formula) → BlockIsFormed d p proc block → IsNote d p proc next → send_captures d block next ≡ false
    sent-quiet (Sends note label tag to args rest) next h known =
        step-clear variables (send_step d.inst None (sending label tag to args)) (own-over label tag to args (expression-over to variables h.3.0) (expressions-over args variables h.4)) next (λ y m. bound-apart d p proc next y known m)
    sent-quiet Done next h known = refl
    sent-quiet (Awaits note label tag sender args rest) next h known = refl
    sent-quiet (Polls note got label tag sender args rest) next h known = refl
    sent-quiet (Reads note into label field index rest) next h known = refl
    sent-quiet (Sets target value rest) next h known = refl
    sent-quiet (Ifs test left right rest) next h known = refl
    sent-quiet (Whiles test note body rest) next h known = refl
    sent-quiet (Calls note frame into callee args rest) next h known = refl

    -- ---- the own receive

    module _ (j : ℕ) (unbound : has (file_bound d) j ≡ false) (next : Formula) (known : IsNote d p proc next) (free : (y : ℕ) → has (file_bound d) y ≡ false → has (bound_names next) y ≡ false) where
      taken-quiet : (label tag : ℕ) (targets : List ℕ) (terms : List Term) → receive_captures d label tag j targets terms next ≡ false
      taken-quiet label tag targets terms =
          step-clear (me_word ∷ j ∷ []) (receive_step d.inst None (taking label tag j)) (receive-over d.inst None (At label) tag me_word j []) (put next targets terms)
          (λ y m. let bound = ap (λ names. has names y) (sym (bound-changed (for_variables targets terms Own) next)) ∙ m in
          or-both (y == me_word) (has (j ∷ []) y)
          (eqb-other y me_word (λ e. true-false (has variables y) (ap (has variables) e ∙ or-true-left (me_word == me_word) (has (arg_names proc.params ++ proc.locals) me_word) refl) (bound-apart d p proc next y known bound)))
          (or-both (y == j) false (eqb-other y j (λ e. true-false (has (bound_names next) y) bound (ap (has (bound_names next)) e ∙ free j unbound))) refl))

      got-quiet : (block : Block) → got_captures d block j next ≡ false
      got-quiet (Awaits note label tag sender args rest) = taken-quiet label tag (sender ∷ args) (terms_of_message j)
      got-quiet (Polls note got label tag sender args rest) = taken-quiet label tag (got ∷ sender ∷ args) (Num (pos 1) ∷ terms_of_message j)
      got-quiet Done = refl
      got-quiet (Sends note label tag to args rest) = refl
      got-quiet (Reads note into label field index rest) = refl
      got-quiet (Sets target value rest) = refl
      got-quiet (Ifs test left right rest) = refl
      got-quiet (Whiles test note body rest) = refl
      got-quiet (Calls note frame into callee args rest) = refl

    next-is : (k : ℕ) → IsNote d p proc (next_of (point_at proc k))
    next-is k = let good = point-good d formed p there k in next-known d formed p there (point_at proc k).block (point_at proc k).after good.formed_block good.after

    got-named : (k : ℕ) → IsQuiet d (duty.Got p k)
    got-named k [] count distinct new unbound = absurd (omega (count, arith))
    got-named k (j ∷ x ∷ xs) count distinct new unbound = absurd (omega (count, arith))
    got-named k (j ∷ []) count distinct new unbound = got-quiet j unbound.0 (next_of (point_at proc k)) (next-is k) (λ y f. (point-free d formed y f p k).next) (point_at proc k).block

    pub proc-quiet : OfProc (IsQuiet d) p
    proc-quiet = record {
      start = λ names count distinct new unbound. refl;
      guard = λ k names count distinct new unbound. refl;
      after_send = λ k names count distinct new unbound. sent-quiet (point_at proc k).block (next_of (point_at proc k)) (point-good d formed p there k).formed_block (next-is k);
      got = got-named;
      miss = λ k names count distinct new unbound. refl;
      after_read = λ k names count distinct new unbound. refl;
      body = λ k names count distinct new unbound. refl;
      exit = λ k names count distinct new unbound. refl;
      enter = λ k names count distinct new unbound. refl;
      leave = λ k names count distinct new unbound. refl;
      stable = λ k label tag receive names count distinct new unbound. step-quiet (stays_at proc k) (stays-free p k) label tag receive names count unbound;
      frame = λ k label tag receive names count distinct new unbound. step-quiet (frame_of (point_at proc k).block) (λ y f. (point-free d formed y f p k).frame) label tag receive names count unbound;
    }

  -- ---- the list

  each-deployed : (programs : List Program) → Each (IsQuiet d) (map (λ (program : Program). duty.Deploy program.node) programs)
  each-deployed [] = tt
  each-deployed (program ∷ programs) = ((λ names count distinct new unbound. refl), each-deployed programs)

  pub programs-quiet : Each (IsQuiet d) (duties_of d)
  programs-quiet =
      each-append (IsQuiet d) (flat_map (duties_of_proc d) (positions d.procs)) (duties_of_deployment d)
      (each-flat (IsQuiet d) (duties_of_proc d) (positions d.procs)
      (each-position (λ p. Each (IsQuiet d) (duties_of_proc d p)) d.procs (λ p below. of-proc (IsQuiet d) d p (proc-quiet p (proc-there d.procs p below)))))
      (each-deployed (deploy_of d).programs)
