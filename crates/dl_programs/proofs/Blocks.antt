-- The valid obligations of the points of a block say what they mean.
use Rattle.std.proofs.Common.{◌≡◌, ℕ, ◌+◌, ◌≤◌, pos, true, false, Option, Some, None, is_some, List, [], ◌∷◌, ◌++◌, length, slice_get, unwrap_or, refl, ap, sym, subst, ◌∙◌, arith}
use Rattle.std.proofs.lemmas.Bool.{false≢true}
use Rattle.std.specs.List.{AllByRecursion as Each}
use Rattle.dl_term.specs.declared.syntax.Lab.TheVariants.{Own, At}
use Rattle.dl_term.specs.declared.syntax.Part.TheVariants.{From}
use Rattle.dl_term.specs.declared.syntax.Term.{Term, Num, Var, Msg}
use Rattle.dl_term.specs.declared.syntax.Formula.{Formula}
use Rattle.dl_term.specs.State.{State}
use Rattle.dl_term.specs.Names.{Names, no_names}
use Rattle.dl_term.specs.Meaning.{holds}
use Rattle.dl_model.specs.declared.protocol.Tag.{Tag}
use Rattle.dl_model.specs.declared.protocol.Protocol.{Protocol}
use Rattle.dl_model.specs.declared.protocol.Instances.{Instances}
use Rattle.dl_model.specs.declared.sequent.Sequent.{Sequent}
use Rattle.dl_model.specs.declared.program.Proc.{Proc}
use Rattle.dl_model.specs.declared.file.Decls.{Decls}
use Rattle.dl_model.specs.Block.{Block, Done, Sends, Awaits, Polls, Reads, Sets, Ifs, Whiles, Calls}
use Rattle.dl_model.specs.Sorts.{has}
use Rattle.dl_model.specs.Lookup.{arg_names, no_tag, no_protocol, protocol_in, tag_at, receive_of, proc_at}
use Rattle.dl_model.specs.Words.{me_word, from_word, result_word}
use Rattle.dl_model.specs.Scopes.{file_label, protocol_found}
use Rattle.dl_model.specs.Spoken.{bound_names}
use Rattle.dl_model.specs.Formed.{points, proc_variables, BlockIsFormed, IsFormed}
use Rattle.dl_model.specs.Sequents.{IsValid}
use Rattle.dl_model.proofs.Small.{each-front, each-back}
use Rattle.dl_sequent.specs.declared.duty.Duty.TheVariants.{Got, Leave}
use Rattle.dl_subst.specs.Substitution.{for_variable, for_variables}
use Rattle.dl_wp.specs.Steps.{tag_in, args_of_message, receive_step}
use Rattle.dl_wp.proofs.Model.{spoken-is, spoken-some}
use Rattle.dl_inv.specs.Steps.{tag_of, receive_hypotheses, name_at}
use Rattle.dl_inv.specs.Taken.{bound_in}
use Rattle.dl_inv.proofs.Bound.{bound-changed, bound-in-step, bound-before, Lacks, facts-lack, goal-lacks}
use Rattle.dl_sound.specs.Obligations.{Test, ready, BlockObligations}
use Rattle.dl_triples.specs.Points.{Point, pre_of, points_of, point_at, next_of}
use Rattle.dl_triples.specs.Duties.{duties_of_block, stability, frame_stability, duties_of_loop}
use Rattle.dl_triples.specs.Obligations.{put, facts_in, facts_at, known_with, taking, terms_of_message, got_sequent, leave_sequent, guard_at, sent_at, got_at, missed_at, read_at, body_at, exit_at, enter_at, leave_at, vars_of}
use Rattle.dl_triples.specs.Taken.{IsMet, var_names}
use Rattle.dl_programs.proofs.Ready.{IsNote, known-pre, pre-ready}
use Rattle.dl_programs.proofs.Places.{missed, was-read, turns, exits}
use Rattle.dl_programs.proofs.Calls.{call-sorted, call-entered, call-framed, call-left}
use Rattle.dl_programs.proofs.Sends.{send-guarded, was-sent}
use Rattle.dl_programs.proofs.Gets.{awaited, polled}
use Rattle.dl_programs.proofs.Points.{AtPoints, count-points, first-point, rest-points, front-points, back-points, vars-names}
use Rattle.dl_programs.proofs.Stability.{note-stable, frame-stable}

-- a tag that is received is one of a protocol
found-receives : (inst : Instances) (tag : ℕ) (o : Option ℕ) → is_some (unwrap_or (slice_get (protocol_in inst o).tags tag) no_tag).receive ≡ true → is_some (protocol_found inst o) ≡ true
found-receives inst tag None h = absurd (false≢true h)
found-receives inst tag (Some p) h = at (slice_get inst.protocols p) refl
  where
    at : (q : Option Protocol) → slice_get inst.protocols p ≡ q → is_some (slice_get inst.protocols p) ≡ true
    at (Some protocol) e = ap is_some e
    at None e = absurd (false≢true (ap (λ (r : Option Protocol). is_some (unwrap_or (slice_get (unwrap_or r no_protocol).tags tag) no_tag).receive) (sym e) ∙ h))

-- the tag of a step is the tag of the label
tag-of-at : (inst : Instances) (label tag : ℕ) → is_some (file_label inst (At label)) ≡ true → tag_of inst None (At label) tag ≡ tag_at inst label tag
tag-of-at inst label tag h =
    let p = spoken-some (file_label inst (At label)) h in
    let s = spoken-is inst None (no_names 0) (At label) p.0 tt p.1 in
    ap (λ o. tag_in o tag) p.1 ∙ ap (λ (q : Protocol). unwrap_or (slice_get q.tags tag) no_tag) (sym s.at)

module _ (d : Decls) (formed : IsFormed d) (number : ℕ) (there : slice_get d.procs number ≡ Some (proc_at d.procs number)) where
  abbrev proc : Proc
  proc = proc_at d.procs number

  abbrev variables : List ℕ
  variables = proc_variables proc

  -- a name that is new is none of the variables
  new-is : (y : ℕ) → has (var_names (vars_of d proc)) y ≡ false → has variables y ≡ false
  new-is y h = ap (λ xs. has xs y) (sym (vars-names d proc)) ∙ h

  -- ---- what the obligations of a message lack

  got-guard : (note : Formula) (label tag j : ℕ) (targets : List ℕ) (terms : List Term) (next : Formula) → is_some (file_label d.inst (At label)) ≡ true → has (bound_in (got_sequent d proc note label tag j targets terms next)) j ≡ false
      → has (bound_names (receive_of (tag_at d.inst label tag)).guard) j ≡ false
  got-guard note label tag j targets terms next spoken h =
      ap (λ (t : Tag). has (bound_names (receive_of t).guard) j) (sym (tag-of-at d.inst label tag spoken))
      ∙ ap (λ b. has b j) (sym (bound-in-step (At label) (Var me_word) from_word (Msg j From) (arg_names (tag_of d.inst None (At label) tag).args) (args_of_message j) (receive_of (tag_of d.inst None (At label) tag)).guard))
      ∙ (each-back (Lacks j) (facts_at d proc note) (receive_hypotheses d.inst (known_with d proc label tag j) (taking label tag j)) (facts-lack (got_sequent d proc note label tag j targets terms next) j h)).1.0

  got-next : (note : Formula) (label tag j : ℕ) (targets : List ℕ) (terms : List Term) (next : Formula) → has (bound_in (got_sequent d proc note label tag j targets terms next)) j ≡ false → has (bound_names next) j ≡ false
  got-next note label tag j targets terms next h =
      ap (λ b. has b j) (sym (bound-changed (for_variables targets terms Own) next))
      ∙ sym (bound-before (receive_step d.inst None (taking label tag j)) (λ k. false) (put next targets terms) j)
      ∙ goal-lacks (got_sequent d proc note label tag j targets terms next) j h

  left-post : (frame : Formula) (into : ℕ) (callee : Proc) (args : List Term) (z : ℕ) (next : Formula) → has (bound_in (leave_sequent d proc frame into callee args z next)) z ≡ false → has (bound_names callee.post) z ≡ false
  left-post frame into callee args z next h =
      ap (λ b. has b z) (sym (bound-changed (for_variables (result_word ∷ arg_names callee.params) (Var z ∷ args) Own) callee.post))
      ∙ (each-back (Lacks z) (facts_in d proc) _ (facts-lack (leave_sequent d proc frame into callee args z next) z h)).0

  left-next : (frame : Formula) (into : ℕ) (callee : Proc) (args : List Term) (z : ℕ) (next : Formula) → has (bound_in (leave_sequent d proc frame into callee args z next)) z ≡ false → has (bound_names next) z ≡ false
  left-next frame into callee args z next h = ap (λ b. has b z) (sym (bound-changed (for_variable into (Var z)) next)) ∙ goal-lacks (leave_sequent d proc frame into callee args z next) z h

  -- ---- one name

  -- the obligation of a received message is valid for one new name
  record GotMet (sequent : ℕ → Sequent) : Type 0 where
    name : ℕ
    new : has variables name ≡ false
    unbound : has (bound_in (sequent name)) name ≡ false
    valid : IsValid d.inst (sequent name)

  one-name : (sequent : ℕ → Sequent) (names : List ℕ) → length names ≡ 1 → Each (λ y. has (var_names (vars_of d proc)) y ≡ false) names
      → Each (λ y. has (bound_in (sequent (name_at names 0))) y ≡ false) names → IsValid d.inst (sequent (name_at names 0)) → GotMet sequent
  one-name sequent [] count new unbound valid = absurd (omega (count, arith))
  one-name sequent (y ∷ ys) count new unbound valid = record { name = y; new = new-is y new.0; unbound = unbound.0; valid = valid }

  got-met : (k : ℕ) (point : Point) → point_at proc k ≡ point → IsMet d (Got number k) → GotMet (λ y. got_at d proc point.block y (next_of point))
  got-met k point at m =
      subst (λ (p : Point). GotMet (λ y. got_at d proc p.block y (next_of p))) at
      (one-name (λ y. got_at d proc (point_at proc k).block y (next_of (point_at proc k))) m.0 m.1.count m.1.new m.1.unbound m.2)

  leave-met : (k : ℕ) (point : Point) → point_at proc k ≡ point → IsMet d (Leave number k) → GotMet (λ y. leave_at d proc point.block y (next_of point))
  leave-met k point at m =
      subst (λ (p : Point). GotMet (λ y. leave_at d proc p.block y (next_of p))) at
      (one-name (λ y. leave_at d proc (point_at proc k).block y (next_of (point_at proc k))) m.0 m.1.count m.1.new m.1.unbound m.2)

  -- ---- blocks

  abbrev Ends : Formula → Test → Type 0
  Ends after test = (n : Names) (state : State) → holds after n state ≡ true → test n state ≡ true

  more-points : (k m : ℕ) (p : ℕ) (xs : List Point) → length xs ≡ p → m ≡ k + p → m ≡ k + length xs
  more-points k m p xs e q = omega (e, q, arith)

  pub block-means : (block : Block) (k : ℕ) (after : Formula) (test : Test) → BlockIsFormed d number proc block → IsNote d number proc after → Ends after test → 1 ≤ k → AtPoints proc k (points_of block after)
      → Each (IsMet d) (duties_of_block d number k block) → BlockObligations d number block test
  block-means Done k after test h known ends counted at met = tt
  block-means (Sends note label tag to args rest) k after test h known ends counted at met =
      let point : Point = record { block = Sends note label tag to args rest; after = after } in
      let here = first-point proc k point (points_of rest after) at in
      record {
        guard = λ node names state stands. send-guarded d formed number there label tag to args h.1 h.2 h.3 h.4 note h.0.0 node names state stands (subst (λ (p : Point). IsValid d.inst (guard_at d proc p.block)) here met.0.2);
        sent = λ node names state stands. was-sent d formed number there label tag to args h.1 h.2 h.3 h.4 note h.0.0 node names state stands rest after test h.5 known ends (subst (λ (p : Point). IsValid d.inst (sent_at d proc p.block (next_of p))) here met.1.0.2);
        stable = note-stable d formed number k point note counted here refl h.0.0 (each-front (IsMet d) (stability d number k note) (duties_of_block d number (k + 1) rest) met.1.1);
        after_it = block-means rest (k + 1) after test h.5 known ends (omega arith) (rest-points proc k point (points_of rest after) at) (each-back (IsMet d) (stability d number k note) (duties_of_block d number (k + 1) rest) met.1.1);
      }
  block-means (Awaits note label tag sender args rest) k after test h known ends counted at met =
      let point : Point = record { block = Awaits note label tag sender args rest; after = after } in
      let here = first-point proc k point (points_of rest after) at in
      let got = got-met k point here met.0 in
      let spoken = found-receives d.inst tag (slice_get d.inst.of label) h.1 in
      let next = pre_of rest after in
      record {
        taken = λ node names state stands id tagged can. awaited d formed number there label tag spoken note h.0.0 rest after test h.4 known ends got.name got.new
            (got-guard note label tag got.name (sender ∷ args) (terms_of_message got.name) next spoken got.unbound) (got-next note label tag got.name (sender ∷ args) (terms_of_message got.name) next got.unbound)
            node names state stands id tagged can sender args h.2 h.3 got.valid;
        stable = note-stable d formed number k point note counted here refl h.0.0 (each-front (IsMet d) (stability d number k note) (duties_of_block d number (k + 1) rest) met.1);
        after_it = block-means rest (k + 1) after test h.4 known ends (omega arith) (rest-points proc k point (points_of rest after) at) (each-back (IsMet d) (stability d number k note) (duties_of_block d number (k + 1) rest) met.1);
      }
  block-means (Polls note got_it label tag sender args rest) k after test h known ends counted at met =
      let point : Point = record { block = Polls note got_it label tag sender args rest; after = after } in
      let here = first-point proc k point (points_of rest after) at in
      let got = got-met k point here met.0 in
      let spoken = found-receives d.inst tag (slice_get d.inst.of label) h.1 in
      let next = pre_of rest after in
      record {
        taken = λ node names state stands id tagged can. polled d formed number there label tag spoken note h.0.0 rest after test h.4 known ends got.name got.new
            (got-guard note label tag got.name (got_it ∷ sender ∷ args) (Num (pos 1) ∷ terms_of_message got.name) next spoken got.unbound) (got-next note label tag got.name (got_it ∷ sender ∷ args) (Num (pos 1) ∷ terms_of_message got.name) next got.unbound)
            node names state stands id tagged can got_it sender args h.2 h.3 got.valid;
        missed = missed d formed number there rest after test h.4 known ends note h.0.0 got_it h.3.0.0 (subst (λ (p : Point). IsValid d.inst (missed_at d proc p.block (next_of p))) here met.1.0.2);
        stable = note-stable d formed number k point note counted here refl h.0.0 (each-front (IsMet d) (stability d number k note) (duties_of_block d number (k + 1) rest) met.1.1);
        after_it = block-means rest (k + 1) after test h.4 known ends (omega arith) (rest-points proc k point (points_of rest after) at) (each-back (IsMet d) (stability d number k note) (duties_of_block d number (k + 1) rest) met.1.1);
      }
  block-means (Reads note into label field index rest) k after test h known ends counted at met =
      let point : Point = record { block = Reads note into label field index rest; after = after } in
      let here = first-point proc k point (points_of rest after) at in
      record {
        read = was-read d formed number there rest after test h.4 known ends note h.0.0 into label field index h.3.0.0 h.2 (subst (λ (p : Point). IsValid d.inst (read_at d proc p.block (next_of p))) here met.0.2);
        stable = note-stable d formed number k point note counted here refl h.0.0 (each-front (IsMet d) (stability d number k note) (duties_of_block d number (k + 1) rest) met.1);
        after_it = block-means rest (k + 1) after test h.4 known ends (omega arith) (rest-points proc k point (points_of rest after) at) (each-back (IsMet d) (stability d number k note) (duties_of_block d number (k + 1) rest) met.1);
      }
  block-means (Sets target value rest) k after test h known ends counted at met = block-means rest k after test h.2 known ends counted at met
  block-means (Ifs chosen left right rest) k after test h known ends counted at met =
      let more = pre_of rest after in
      let known_more = known-pre d number proc rest after h.3 known in
      let ends_more = λ (n : Names). λ (state : State). λ (e : holds more n state ≡ true). pre-ready d number proc rest after test n state h.3 known (λ m q. ends m state q) e in
      let sides = each-front (IsMet d) (duties_of_block d number k left ++ duties_of_block d number (k + points left) right) (duties_of_block d number (k + (points left + points right)) rest) met in
      let xs = points_of left more in
      let ys = points_of right more in
      let zs = points_of rest after in
      let a = count-points left more in
      let b = count-points right more in
      let behind = back-points proc k (k + points left) xs (ys ++ zs) (more-points k (k + points left) (points left) xs a refl) at in
      record {
        if_true = block-means left k more (ready rest test) h.1 known_more ends_more counted (front-points proc k xs (ys ++ zs) at)
            (each-front (IsMet d) (duties_of_block d number k left) (duties_of_block d number (k + points left) right) sides);
        if_false = block-means right (k + points left) more (ready rest test) h.2 known_more ends_more (omega (counted, arith)) (front-points proc (k + points left) ys zs behind)
            (each-back (IsMet d) (duties_of_block d number k left) (duties_of_block d number (k + points left) right) sides);
        after_it = block-means rest (k + (points left + points right)) after test h.3 known ends (omega (counted, arith))
            (back-points proc (k + points left) (k + (points left + points right)) ys zs (omega (b, arith)) behind)
            (each-back (IsMet d) (duties_of_block d number k left ++ duties_of_block d number (k + points left) right) (duties_of_block d number (k + (points left + points right)) rest) met);
      }
  block-means (Whiles chosen note body rest) k after test h known ends counted at met =
      let point : Point = record { block = Whiles chosen note body rest; after = after } in
      let here = first-point proc k point (points_of body note ++ points_of rest after) at in
      let front = each-front (IsMet d) (duties_of_loop d number k note ++ duties_of_block d number (k + 1) body) (duties_of_block d number (k + (1 + points body)) rest) met in
      let behind = rest-points proc k point (points_of body note ++ points_of rest after) at in
      let a = count-points body note in
      record {
        turn = turns d formed number there chosen note h.0 h.1.0 body h.2 (subst (λ (p : Point). IsValid d.inst (body_at d proc p.block)) here front.0.2);
        exit = exits d formed number there chosen note h.0 h.1.0 rest after test h.3 known ends (subst (λ (p : Point). IsValid d.inst (exit_at d proc p.block (next_of p))) here front.1.0.2);
        stable = note-stable d formed number k point note counted here refl h.1.0 (each-front (IsMet d) (stability d number k note) (duties_of_block d number (k + 1) body) front.1.1);
        inside = block-means body (k + 1) note (λ n state. holds note n state) h.2 h.1.0 (λ n state e. e) (omega arith) (front-points proc (k + 1) (points_of body note) (points_of rest after) behind)
            (each-back (IsMet d) (stability d number k note) (duties_of_block d number (k + 1) body) front.1.1);
        after_it = block-means rest (k + (1 + points body)) after test h.3 known ends (omega arith)
            (back-points proc (k + 1) (k + (1 + points body)) (points_of body note) (points_of rest after) (omega (a, arith)) behind)
            (each-back (IsMet d) (duties_of_loop d number k note ++ duties_of_block d number (k + 1) body) (duties_of_block d number (k + (1 + points body)) rest) met);
      }
  block-means (Calls note frame into callee args rest) k after test h known ends counted at met =
      let point : Point = record { block = Calls note frame into callee args rest; after = after } in
      let here = first-point proc k point (points_of rest after) at in
      let left = leave-met k point here met.1.0 in
      let entered = subst (λ (p : Point). IsValid d.inst (enter_at d proc p.block)) here met.0.2 in
      let next = pre_of rest after in
      let stable_both = each-front (IsMet d) (stability d number k note ++ frame_stability d number k frame) (duties_of_block d number (k + 1) rest) met.1.1 in
      record {
        sorted = call-sorted d formed number there callee h.3 args h.4 h.5 note frame h.0.0 h.1.0 entered;
        entered = call-entered d formed number there callee h.3 args h.4 h.5 note frame h.0.0 h.1.0 entered;
        framed = call-framed d formed number there callee h.3 args h.4 h.5 note frame h.0.0 h.1.0 entered;
        left = call-left d formed number there callee h.3 args h.4 h.5 frame h.1.0 into h.2.0.0 rest after test h.6 known ends left.name left.new
            (left-post frame into (proc_at d.procs callee) args left.name next left.unbound) (left-next frame into (proc_at d.procs callee) args left.name next left.unbound) left.valid;
        stable = note-stable d formed number k point note counted here refl h.0.0 (each-front (IsMet d) (stability d number k note) (frame_stability d number k frame) stable_both);
        keeps = frame-stable d formed number k point frame here refl h.1.0 (each-back (IsMet d) (stability d number k note) (frame_stability d number k frame) stable_both);
        after_it = block-means rest (k + 1) after test h.6 known ends (omega arith) (rest-points proc k point (points_of rest after) at) (each-back (IsMet d) (stability d number k note ++ frame_stability d number k frame) (duties_of_block d number (k + 1) rest) met.1.1);
      }
